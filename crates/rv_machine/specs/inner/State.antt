-- How a state is coded.
use Rattle.std.specs.Prelude.{◌≡◌, ℕ, ◌^◌, ◌<◌, List, slice_index, refl}
use Rattle.std.specs.Ordering.{nat_cmp}
use Rattle.std.specs.FinMap.{FinMap, code}
use Rattle.std.specs.Coded.{Coded, code_by, coded×, coded_ℕ, coded_list}
use Rattle.rv_machine.specs.State.{Contents}

-- contents are stored as their three parts
abbrev pub contents_code : Coded Contents
contents_code =
    code_by (ℕ × (List ℕ × FinMap nat_cmp ℕ)) (coded× coded_ℕ (coded× (coded_list coded_ℕ) (code coded_ℕ coded_ℕ)))
    (λ c. (c.pc, (c.registers, c.memory))) (λ p. record { pc = p.0; registers = p.1.0; memory = p.1.1 }) (λ _. refl)

-- words of registers, of which x0 is 0
pub record AreRegisters (words : List ℕ) : Type 0 where
  pub x0 : slice_index words 0 ≡ 0
  pub small : (r : ℕ) → slice_index words r < 2 ^ 64

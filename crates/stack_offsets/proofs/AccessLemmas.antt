-- Rows that tell exactly the offsets tell which nodes are stack accesses.
use Rattle.std.proofs.Common.{◌≡◌, ℕ, ◌<◌, ◌↔◌, Bool, true, IsTrue, List, length, Option, Some, None, refl, sym, ap, ◌∙◌, subst, is_some}
use Rattle.std.specs.Prelude.{slice_get}
use Rattle.rv_decode.specs.declared.instruction.Instr.{Instr}
use Rattle.rv_decode.specs.declared.instruction.Instr.TheVariants as instr
use Rattle.rv_decode.specs.Decodes.{NamesRegisters}
use Rattle.flow_graph.specs.Graph.{GraphOf}
use Rattle.stack_offsets.specs.declared.row.Row.{Row}
use Rattle.stack_offsets.specs.Offsets.{base_of}
use Rattle.stack_offsets.specs.inner.Rows.{offsets_of, row_of}
use Rattle.stack_offsets.specs.inner.Settling.{AreSettled, IsStackNode, NamesAll}
use Rattle.stack_offsets.proofs.OffsetLemmas.{some_one}

-- the register of a load or a store is one of the 32
base_small : (i : Instr) (base : ℕ) → NamesRegisters i → base_of i ≡ Some base → base < 32
base_small (instr.Load w s rd rs1 imm) base named e = subst (λ (z : ℕ). z < 32) (some_one rs1 base e) named.1
base_small (instr.Store w rs1 rs2 imm) base named e = subst (λ (z : ℕ). z < 32) (some_one rs1 base e) named.0
base_small i base named e = absurd (cc)

some_there : (x : Option ℕ) → is_some x ≡ true → (c : ℕ) × (x ≡ Some c)
some_there None e = absurd (cc)
some_there (Some c) e = (c, refl)

pub told : (g : GraphOf) (rows : List (Option Row)) (n : ℕ) (i : Instr) (base : ℕ) (row : Row) (b : Bool) → AreSettled g rows → slice_get g.instrs n ≡ Some i → base_of i ≡ Some base → row_of rows n ≡ Some row
    → b ≡ is_some (offsets_of row base) → NamesAll g → IsTrue b ↔ IsStackNode g n
told g rows n i base row b s is has_base at b_is names = (
  λ t.
      let c = some_there (offsets_of row base) (sym b_is ∙ t) in
      record { instruction = i; is = is; base = base; has_base = has_base; offset = c.0; has_offset = s.sound n row base c.0 at c.1 },
  λ k.
      let same : k.instruction ≡ i = some_one k.instruction i (sym k.is ∙ is) in
      let same_base : k.base ≡ base = some_one k.base base (sym k.has_base ∙ ap base_of same ∙ has_base) in
      let there : offsets_of row k.base ≡ Some k.offset = s.complete names n row at k.base k.offset (base_small k.instruction k.base (names n k.instruction k.is) k.has_base) k.has_offset in
      b_is ∙ ap (λ z. is_some (offsets_of row z)) (sym same_base) ∙ ap is_some there,
)

pub has_row : (g : GraphOf) (rows : List (Option Row)) (n : ℕ) → AreSettled g rows → n < length g.addrs → row_of rows n ≡ None → ⊥
has_row g rows n s l none = let r = s.row_at n l in none_some r.0 (sym none ∙ r.1)
  where
    none_some : (row : Row) → None ≡ Some row → ⊥
    none_some row e = cc

-- Which version a function's text has, by the further rule that its lines need.
use Rattle.std.specs.Prelude.{◌≡◌, ℕ, ◌<◌, ◌==◌, Bool, not, ◌&&◌, true, Some}
use Rattle.rv_decode.specs.declared.instruction.Instr.{Instr}
use Rattle.instr_axioms.specs.Terms.{has_memory}
use Rattle.group_text.specs.declared.version.Version.{Version as Known}
use Rattle.group_text.specs.declared.version.Version.TheVariants.{Three, Four}
use Rattle.code_parts.specs.declared.callee.Callee.{Callee}
use Rattle.code_parts.specs.Bodies.{Flow}

-- the instruction loads from or stores to memory q, which isn't the first
abbrev pub is_crossed : Instr → ℕ → Bool
is_crossed i q = has_memory i && not (q == 0)

-- where a function is called the text has the rule on where a triple leads, and where an access uses another memory than the first there are
-- two, and the text has the rule that exchanges them
pub record IsVersionFor (f : Flow) (version : Known) : Type 0 where
  pub calls : (n : ℕ) (c : Callee) → n < f.nodes → f.callee n ≡ Some c → version ≡ Three
  pub crossed : (n : ℕ) → n < f.nodes → is_crossed (f.instr n) (f.uses n) ≡ true → (version ≡ Four) × (f.mems ≡ 2)

use Rattle.std.proofs.Common.{ℕ, ◌<◌, ◌≤◌, List, length, sym, subst}
use Rattle.std.specs.List.{All}
use Rattle.code_parts.proofs.Contexts.{registers_few, registers_named}
use Rattle.code_parts.proofs.flow.Flow.regs.Goals as goal

pub returns-clause-few : goal.returns-clause-few
returns-clause-few c = subst (λ (rs : List ℕ). length rs ≤ 31) (sym c.as_slice.ensures) (registers_few _ _ _ _ _ c.self.invariant _ c.self.view_is)

pub returns-clause-registers : goal.returns-clause-registers
returns-clause-registers c = subst (All (λ r. (0 < r) × (r < 32))) (sym c.as_slice.ensures) (registers_named _ _ _ _ _ c.self.invariant _ c.self.view_is)

use Rattle.std.proofs.Common.{◌≡◌, ℕ, ◌+◌, ◌<◌, eqb, length, get_or}
use Rattle.std.specs.List.{position_or_len}
use Rattle.instr_axioms.proofs.variables.Variables.numbered.Given as goal

abbrev pub invariant-loop-r : goal.invariant-loop-r
invariant-loop-r l = record {
  long : length l.words ≡ 32;
  each : (k : ℕ) → k < l.r → get_or l.words k 0 ≡ l.first + position_or_len (λ q. eqb q k) l.regs;
}

use Rattle.std.proofs.Common.{◌≡◌, length, subst}
use Rattle.tailrec_lang.specs.WellFormed.{IsWellFormed}
use Rattle.verdicts.specs.Sound.{Sound}
use Rattle.checker.specs.Bench.{BenchState, state_group, state_history}
use Rattle.checker.proofs.bench.Bench.law_of_bench.Goals as goal

pub returns-clause-well_formed : goal.returns-clause-well_formed
returns-clause-well_formed c = subst (λ (k : BenchState). IsWellFormed (state_group k)) c.self.view_is c.self.invariant.0.well_formed

pub returns-clause-sound : goal.returns-clause-sound
returns-clause-sound c = subst (λ (k : BenchState). Sound (state_group k) (state_history k)) c.self.view_is c.self.invariant.0.sound

pub returns-clause-count : goal.returns-clause-count
returns-clause-count c = subst (λ (k : BenchState). length k.4 ≡ length k.0.defs) c.self.view_is c.self.invariant.0.count

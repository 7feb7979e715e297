use Rattle.std.proofs.Common.{ℕ, subst}
use Rattle.mc_text.specs.Outcome.{Gives}
use Rattle.mc_text.specs.inner.Reading.{number_at}
use Rattle.group_text.proofs.body_rows.read_arm_count.Goals as goal

pub returns-clause-gives : goal.returns-clause-gives
returns-clause-gives c = subst (λ (bound : ℕ). Gives {X = ℕ} {Y = ℕ} (λ n. n) c.number.result c.args.scan.now c.number.new.scan (number_at bound)) c.arm_bound.ensures c.number.ensures.gives

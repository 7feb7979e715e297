use Rattle.std.proofs.Common.{subst}
use Rattle.proof_text.specs.Answers.{OnBad}
use Rattle.proof_v2.specs.AnyReading.{AnyState, StopsGroups}
use Rattle.proof_v2.proofs.any_reader.AnyReader.group.Goals as goal

pub returns-then-is_short-clause-bad : goal.returns-then-is_short-clause-bad
returns-then-is_short-clause-bad c = subst (λ (s : AnyState). OnBad c.short_group.result (λ n. StopsGroups n s)) c.self.view_is c.short_group.ensures.bad

pub returns-else-is_short-clause-bad : goal.returns-else-is_short-clause-bad
returns-else-is_short-clause-bad c = subst (λ (s : AnyState). OnBad c.whole_group.result (λ n. StopsGroups n s)) c.self.view_is c.whole_group.ensures.bad

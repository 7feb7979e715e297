use Rattle.std.proofs.Common.{length}
use Rattle.mc_text.specs.Tokens.{spell}
use Rattle.mc_text.specs.declared.token.Before.TheVariants.{Start}
use Rattle.group_text.specs.Spelling.{title_tokens}
use Rattle.group_text.specs.Version.{version_2}
use Rattle.proof_v2.specs.inner.Rewriting.{GroupsSoFar}
use Rattle.proof_v2.proofs.texts.put_text.Given as goal

abbrev pub invariant-loop-out : goal.invariant-loop-out
invariant-loop-out l = GroupsSoFar l.proof l.reader (spell Start (title_tokens version_2)) l.out

abbrev pub decreases-loop-out : goal.decreases-loop-out
decreases-loop-out l = length l.reader.rest

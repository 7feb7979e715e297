use Rattle.std.proofs.Common.{subst}
use Rattle.tailrec_lang.specs.Tree.{group_tree}
use Rattle.proof_text.specs.Answers.{OnBad}
use Rattle.proof_v2.specs.AnyReading.{AnyState, StopsLines, as_item, reading_state}
use Rattle.proof_v2.proofs.any_reader.AnyReader.pass_line.Goals as goal

pub returns-then-is_short-clause-bad : goal.returns-then-is_short-clause-bad
returns-then-is_short-clause-bad c =
    subst (λ (s : AnyState). OnBad (as_item c.pass_short.result) (λ n. StopsLines (group_tree c.args.group.now) n s (reading_state c.pass_short.new.reader c.pass_short.new.lines))) c.self.view_is c.pass_short.ensures.bad

pub returns-else-is_short-clause-bad : goal.returns-else-is_short-clause-bad
returns-else-is_short-clause-bad c =
    subst (λ (s : AnyState). OnBad (as_item c.pass_whole.result) (λ n. StopsLines (group_tree c.args.group.now) n s (reading_state c.pass_whole.new.reader c.self.inside.lines))) c.self.view_is c.pass_whole.ensures.bad

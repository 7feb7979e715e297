use Rattle.std.proofs.Common.{subst}
use Rattle.tailrec_lang.specs.Tree.{group_tree}
use Rattle.proof_text.specs.Answers.{OnBad}
use Rattle.proof_v2.specs.AnyReading.{AnyState, StopsLines, reading_state}
use Rattle.proof_v2.proofs.any_reader.AnyReader.line.Goals as goal

pub returns-then-is_short-clause-bad : goal.returns-then-is_short-clause-bad
returns-then-is_short-clause-bad c =
    subst (λ (s : AnyState). OnBad c.short_line.result (λ n. StopsLines (group_tree c.args.group.now) n s (reading_state c.short_line.new.reader c.short_line.new.lines))) c.self.view_is c.short_line.ensures.bad

pub returns-else-is_short-clause-bad : goal.returns-else-is_short-clause-bad
returns-else-is_short-clause-bad c =
    subst (λ (s : AnyState). OnBad c.whole_line.result (λ n. StopsLines (group_tree c.args.group.now) n s (reading_state c.whole_line.new.reader c.self.inside.lines))) c.self.view_is c.whole_line.ensures.bad

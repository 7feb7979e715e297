use Rattle.tailrec_lang.specs.Tree.{group_tree}
use Rattle.proof_v2.proofs.AnyGiven.{bad-both, end-so, given-so, whole-ends, whole-group-given, whole-stops}
use Rattle.proof_v2.proofs.any_reader.whole_group.Goals as goal

pub returns-clause-given : goal.returns-clause-given
returns-clause-given c =
    given-so c.group.result _ _
    (λ g h. whole-group-given c.args.lines.now c.args.reader.now c.requires c.group.new.self (c.group.ensures.text, c.group.ensures.version) (group_tree g) h) c.group.ensures.given

pub returns-clause-end : goal.returns-clause-end
returns-clause-end c = end-so c.group.result _ _ (λ h. whole-ends c.args.lines.now c.args.reader.now c.requires h) c.group.ensures.end

pub returns-clause-bad : goal.returns-clause-bad
returns-clause-bad c =
    bad-both c.group.result _ _ _ (λ n bad none. whole-stops c.args.lines.now c.args.reader.now c.requires n bad none) c.group.ensures.bad c.group.ensures.no_item

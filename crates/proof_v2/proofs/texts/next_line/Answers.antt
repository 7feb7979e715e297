use Rattle.tailrec_lang.specs.Tree.{group_tree}
use Rattle.proof_v2.proofs.ReadOn.{line-next, no-bad-line}
use Rattle.proof_v2.proofs.texts.next_line.Goals as goal

pub returns-in-Ok : goal.returns-in-Ok
returns-in-Ok c =
    let k = c.in-Ok in
    line-next c.args.reader.now c.spelled_line.new.self k.ensures.text k.ensures.version c.requires.version (group_tree c.args.group.now) k.found k.ensures.given k.ensures.fits k.ensures.shorter k.ensures.end k.ensures.end_same

pub unreachable-requires : goal.unreachable-requires
unreachable-requires c =
    let given = c.requires.given in
    no-bad-line c.args.reader.now c.requires.text c.requires.version (group_tree c.args.group.now) c.in-Err-Bad.field-0 c.in-Err-Bad.field-0-0 c.in-Err-Bad.field-0-is given.0 given.1 given.2 given.3 c.in-Err-Bad.ensures.bad

use Rattle.tailrec_lang.specs.Tree.{group_tree}
use Rattle.mcdec_commands.proofs.Groups.{line-answer, line-bad}
use Rattle.mcdec_commands.proofs.search.next_line.Goals as goal

pub returns-in-Ok : goal.returns-in-Ok
returns-in-Ok c =
    line-answer (group_tree c.args.g.now) c.args.reader.now c.pass_line.new.self c.in-Ok.more c.in-Ok.ensures.same c.in-Ok.ensures.no_longer c.in-Ok.ensures.given c.in-Ok.ensures.shorter c.in-Ok.ensures.end

pub returns-in-Err-Bad : goal.returns-in-Err-Bad
returns-in-Err-Bad c =
    line-bad (group_tree c.args.g.now) c.args.reader.now c.pass_line.new.self c.in-Err-Bad.field-0 c.in-Err-Bad.number c.in-Err-Bad.field-0-is c.in-Err-Bad.ensures.same c.in-Err-Bad.ensures.bad

use Rattle.std.proofs.Common.{Bool, Ok, subst}
use Rattle.tailrec_lang.specs.Tree.{group_tree}
use Rattle.mcdec_commands.specs.inner.Search.{LineIs}
use Rattle.mcdec_commands.proofs.Groups.{lines-end, lines-stop, passed-exit}
use Rattle.mcdec_commands.proofs.search.pass_lines.Goals as goal

pub returns-in_err-next_line : goal.returns-in_err-next_line
returns-in_err-next_line c =
    let e = c.in_err-next_line.field-0.0 in
    passed-exit (group_tree c.args.g.now) c.args.reader.now c.next_line.new.reader c.from_residual.result e c.from_residual.ensures.1
    (lines-stop (group_tree c.args.g.now) c.args.reader.now c.loop.reader c.loop.invariant c.next_line.new.reader c.next_line.new.reader e c.in_err-next_line.ensures)

pub returns : goal.returns
returns c =
    lines-end (group_tree c.args.g.now) c.args.reader.now c.loop.reader c.loop.invariant c.next_line.new.reader
    (subst (λ (more : Bool). LineIs (group_tree c.args.g.now) c.loop.reader c.next_line.new.reader (Ok more)) c.if-branch.false c.in_ok-next_line.ensures)

use Rattle.std.proofs.Common.{sym, ◌∙◌, ap}
use Rattle.stack_offsets.proofs.AccessLemmas.{told, has_row}
use Rattle.stack_offsets.proofs.accesses.is_stack_node.Goals as goal

pub returns-in-Some-rows : goal.returns-in-Some-rows
returns-in-Some-rows c =
    told c.args.g.now c.args.rows.now c.args.n c.instr.result c.in-Some.base c.in-Some-rows.row c.is_some.result c.requires.settled (sym c.instr.ensures) (sym c.base_of.ensures ∙ c.in-Some.is) c.in-Some-rows.is
    (c.is_some.ensures ∙ ap Rattle.std.specs.Option.is_some c.offset.ensures)

pub returns-in-None : goal.returns-in-None
returns-in-None c = absurd (has_row c.args.g.now c.args.rows.now c.args.n c.requires.settled c.requires.node c.in-None.is)

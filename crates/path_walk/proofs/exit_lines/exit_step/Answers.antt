use Rattle.std.proofs.Common.{ap, ◌∙◌}
use Rattle.code_parts.specs.Kept.{flow_in}
use Rattle.code_parts.specs.VariableMaps.{place_of}
use Rattle.path_walk.proofs.CallLemmas.{exit_made}
use Rattle.path_walk.proofs.exit_lines.exit_step.Goals as goal

pub returns-clause-steps : goal.returns-clause-steps
returns-clause-steps c =
    exit_made (flow_in c.args.flow.now) c.args.flow.now.code c.args.q c.args.exit c.args.x c.args.entry (place_of c.args.place.now) _ _ _ _ _ _ _ _ _ c.number.result c.addr-called.result c.requires.part c.requires.exit c.number.ensures
    (c.addr-called.ensures ∙ ap (flow_in c.args.flow.now).addr c.first_node.ensures.is) c.in_ok-last.ensures.is c.in_ok-last.ensures.exited c.pc_at.ensures c.place_at-next.ensures.is c.in_ok-there.ensures.on

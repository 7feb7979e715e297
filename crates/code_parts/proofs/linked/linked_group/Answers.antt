use Rattle.code_parts.proofs.Placing.{grouped}
use Rattle.code_parts.specs.declared.linked.LinkedGroup.{LinkedGroup}
use Rattle.code_parts.proofs.linked.linked_group.Goals as goal

pub returns-clause-group : goal.returns-clause-group
returns-clause-group c =
    let s : LinkedGroup = record { functions = c.in_ok-places.places.functions; callees = c.in_ok-places.places.callees; regs = c.in_ok-regs.regs; mems = c.memories.result; code = c.in_ok-code.code } in
    grouped c.args.functions.now s c.in_ok-places.places.count c.in_ok-places.ensures c.in_ok-regs.ensures c.memories.ensures c.in_ok-code.ensures

use Rattle.std.proofs.Common.{[], refl}
use Rattle.code_parts.specs.Kept.{FlowOf}
use Rattle.code_parts.proofs.Contexts.{alone_is, flow_alone, kept_alone}
use Rattle.code_parts.proofs.flow.Flow.new.Goals as goal

pub invariant_of-result : goal.invariant_of-result
invariant_of-result c =
    kept_alone c.args.graph.now c.args.forest.now c.args.parts.now _ _ _ c.requires.reached c.requires.forest c.requires.few
    (alone_is c.args.graph.now c.args.parts.now c.in_ok-regs.regs c.uses_memory.result c.one_if.result c.in_ok-regs.ensures c.uses_memory.ensures c.one_if.ensures)
    c.returns.ensures c.in_ok-code.ensures

pub returns-clause-alone : goal.returns-clause-alone
returns-clause-alone c =
    let flow : FlowOf = record {
      graph = c.args.graph.now;
      forest = c.args.forest.now;
      context = record { base = 0; parts = c.args.parts.now; regs = c.in_ok-regs.regs; mems = c.one_if.result; second = []; functions = [] };
      code = c.in_ok-code.code.ranges;
    } in
    flow_alone c.args.graph.now c.args.forest.now c.args.parts.now flow c.requires.reached refl refl
    (alone_is c.args.graph.now c.args.parts.now c.in_ok-regs.regs c.uses_memory.result c.one_if.result c.in_ok-regs.ensures c.uses_memory.ensures c.one_if.ensures)

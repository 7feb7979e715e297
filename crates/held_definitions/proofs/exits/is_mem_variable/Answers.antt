use Rattle.std.proofs.Common.{◌+◌, sym, ◌∙◌}
use Rattle.term_arena.proofs.TreeLemmas.{number_within}
use Rattle.held_definitions.proofs.ExitLemmas.{mem_variable_some, mem_variable_none}
use Rattle.held_definitions.proofs.exits.is_mem_variable.Goals as goal

pub node-requires : goal.node-requires
node-requires g c = number_within c.args.arena.now c.args.mem _ c.requires

pub returns-in-Some-clause-answer : goal.returns-in-Some-clause-answer
returns-in-Some-clause-answer g c =
    mem_variable_some c.args.arena.now c.args.mem c.node.result c.in-Some.j (c.args.first + c.args.i) _ c.requires c.node.ensures.tree (sym c.mem_variable_in.ensures ∙ c.in-Some.is) c.is_after.ensures

pub returns-in-None-clause-answer : goal.returns-in-None-clause-answer
returns-in-None-clause-answer g c = (
  λ e. absurd (cc),
  λ x. absurd (mem_variable_none c.args.arena.now c.args.mem c.node.result (c.args.first + c.args.i) c.requires c.node.ensures.tree (sym c.mem_variable_in.ensures ∙ c.in-None.is) x),
)

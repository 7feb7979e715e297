use Rattle.std.proofs.Common.{ℕ, get_or, List, subst, arith}
use Rattle.std.specs.List.{Contains}
use Rattle.std.proofs.lemmas.List.Elements.{Contains-get_or}
use Rattle.loop_forest.specs.inner.Search.{FindsSources}
use Rattle.loop_forest.proofs.LoopNodes.{loop_nodes}
use Rattle.loop_forest.proofs.DepthFirstEnds.{not_empty}
use Rattle.loop_forest.proofs.loops.loop_of.Goals as goal

pub reaching_without-requires : goal.reaching_without-requires
reaching_without-requires c k d l = c.in_ok-backs.ensures.within (get_or c.deref.result.now k d)
    (subst (λ (r : List ℕ). Contains r (get_or c.deref.result.now k d)) c.deref.ensures.value (Contains-get_or c.deref.result.now k d l))

pub returns-clause-some : goal.returns-clause-some
returns-clause-some c = loop_nodes c.args.g.now c.args.g.now.entry c.args.h c.in_ok-backs.backs.items c.in_ok-search.search.nodes c.in_ok-search.search.next_hop.items c.in_ok-backs.ensures
    (omega (arith, not_empty c.in_ok-backs.backs.len c.if-is_empty.ensures, c.in_ok-backs.backs.ok.0))
    (subst (λ (r : List ℕ). FindsSources c.args.g.now r c.args.h c.in_ok-search.search.nodes c.in_ok-search.search.next_hop.items) c.deref.ensures.value c.in_ok-search.ensures)

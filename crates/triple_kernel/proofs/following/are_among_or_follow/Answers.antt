use Rattle.std.proofs.Common.{map, sym, ◌∙◌, inl, inr, ◌⊎◌}
use Rattle.std.specs.List.{Contains}
use Rattle.triple_kernel.specs.Tree.{FactTree, fact_tree}
use Rattle.triple_kernel.specs.Rules.{Follows}
use Rattle.triple_kernel.proofs.Among.{among_more}
use Rattle.triple_kernel.proofs.following.are_among_or_follow.Goals as goal
use Rattle.triple_kernel.proofs.following.are_among_or_follow.Goals.{then-is_among, else-is_among}

pub loop-fact-preserved : goal.loop-fact-preserved
loop-fact-preserved c =
    let Known = λ (f : FactTree). Contains (map fact_tree c.args.others.now) f ⊎ Follows (map fact_tree c.args.others.now) f in
    let here : Known (fact_tree c.fact-item.result) = elim c.if-is_among.branch [
      | then-is_among w ↦ inl (c.is_among.ensures.0 w.if-is_among.true)
      | else-is_among w ↦ inr (w.follows.ensures.0 (sym w.value-is ∙ c.if-not-follows.false))
    ] in
    record { each = among_more fact_tree Known c.args.facts.now c.loop-fact.fact-index c.fact-item.result c.loop-fact-test.true c.fact-item.is c.loop-fact.invariant.each here }

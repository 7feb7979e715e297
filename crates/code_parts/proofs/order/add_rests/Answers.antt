use Rattle.std.proofs.Common.{rules, ◌≡◌, ◌++◌, ◌∷◌, [], map, ◌+◌, ◌==◌, true, false, sym, ap, subst, ◌∙◌}
use Rattle.std.specs.List.{All}
use Rattle.std.proofs.lemmas.List.Elements.{All-push}
use Rattle.loop_forest.specs.Forest.{place_of}
use Rattle.code_parts.specs.Flows.{alone, flow_of}
use Rattle.code_parts.specs.inner.Ranks.{IsRanked, rests_to}
use Rattle.code_parts.proofs.PartOrder.{next_rest, no_rest, pushed}
use Rattle.code_parts.proofs.order.add_rests.Goals as goal
use Rattle.code_parts.proofs.order.add_rests.Goals.{then-is_cut+in_ok-push, else-is_cut}

pub loop-n-preserved : goal.loop-n-preserved
loop-n-preserved c = elim c.if-is_cut.branch [
  | then-is_cut+in_ok-push w ↦
      let f = flow_of c.args.graph.now c.args.forest.now (alone c.args.graph.now []) in
      let items : c.if-is_cut.all.items ≡ c.loop-n.all.items ++ w.rank.result ∷ [] = ap (λ v. v.items) w.all-is ∙ w.in_ok-push.ensures.items in
      let cut : (place_of c.args.forest.now c.loop-n.n == 0) ≡ true = search rules in
      record {
        parts = pushed c.loop-n.all.items c.if-is_cut.all.items w.rank.result _ (rests_to f c.loop-n.n) (rests_to f (c.loop-n.n + 1)) items c.loop-n.invariant.parts
            (next_rest f c.loop-n.n w.rank.result.part cut (w.rank.ensures.part ∙ search rules));
        ranked = subst (All (IsRanked f c.args.forest.now)) (sym items) (All-push (IsRanked f c.args.forest.now) c.loop-n.all.items w.rank.result c.loop-n.invariant.ranked w.rank.ensures.ranked);
      }
  | else-is_cut w ↦
      let f = flow_of c.args.graph.now c.args.forest.now (alone c.args.graph.now []) in
      let items : c.if-is_cut.all.items ≡ c.loop-n.all.items = ap (λ v. v.items) w.all-is in
      let cut : (place_of c.args.forest.now c.loop-n.n == 0) ≡ false = search rules in
      record {
        parts = ap (map (λ r. r.part)) items ∙ c.loop-n.invariant.parts ∙ ap (λ xs. map (λ r. r.part) c.args.all.now.items ++ xs) (sym (no_rest f c.loop-n.n cut));
        ranked = subst (All (IsRanked f c.args.forest.now)) (sym items) c.loop-n.invariant.ranked;
      }
]

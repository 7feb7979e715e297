use Rattle.std.proofs.Common.{◌<◌, ◌≤◌, ◌≢◌, ℕ, List, length, get_or, subst, arith, sym, ◌∙◌, inl, inr}
use Rattle.loop_forest.proofs.QueueSearch.{exploring_after, kept_after, noted_after, all_noted_after, all_noted_more, exploring_next, exploring_end, place_after}
use Rattle.std.specs.List.{Contains}
use Rattle.flow_graph.specs.Graph.{HasEdge, preds_of}
use Rattle.flow_graph.proofs.ExactLemmas.{pred_succ, succ_pred}
use Rattle.loop_forest.proofs.IteratorLoops.{IsPassed, passed_end, passed_first, passed_more, passed_start}
use Rattle.flow_graph.proofs.Ways.{node_at}
use Rattle.std.proofs.lemmas.List.Elements.{Contains-get_or}
use Rattle.loop_forest.proofs.backward_search.reaching_without.Goals as goal
use Rattle.loop_forest.proofs.backward_search.reaching_without.Goals.{then-t-h+in_ok-note, else-t-h}

pub loop-t-preserved : goal.loop-t-preserved
loop-t-preserved c =
    let t : ℕ = get_or c.args.targets.now c.loop-t.t-index 0 in
    let N : List ℕ = c.loop-t.search.nodes in
    elim c.if-t-h.branch [
      | then-t-h+in_ok-note w ↦ rw w.search-is
          (let n = w.in_ok-note.ensures in
          record {
            so_far = exploring_after c.args.g.now c.args.targets.now c.args.h N c.loop-t.search.next_hop.items 0 t 0 _ _ c.loop-t.invariant.so_far n
                w.if-t-h.true (c.requires c.loop-t.t-index 0 c.loop-t-test.true) (inl (node_at c.args.targets.now c.loop-t.t-index c.loop-t-test.true));
            noted = all_noted_more c.args.h c.args.targets.now _ c.loop-t.t-index c.loop-t-test.true (all_noted_after n c.args.h _ c.loop-t.invariant.noted) (λ d. noted_after n);
          })
      | else-t-h w ↦ rw w.search-is (record {
        so_far = c.loop-t.invariant.so_far;
        noted = all_noted_more c.args.h c.args.targets.now N c.loop-t.t-index c.loop-t-test.true c.loop-t.invariant.noted (λ n. absurd (n w.if-t-h.false));
      })
    ]

pub nodes-smaller : goal.nodes-smaller
nodes-smaller c =
    let few : length c.nodes.search.nodes ≤ length c.args.g.now.addrs = c.len.ensures.few (length c.args.g.now.addrs) (λ k d l. c.nodes.invariant.so_far.within _ (Contains-get_or c.nodes.search.nodes k d l)) in
    omega (arith, c.len.ensures.len)

pub returns : goal.returns
returns c = exploring_end c.args.g.now c.args.targets.now c.args.h c.nodes.search.nodes c.nodes.search.next_hop.items c.nodes.i c.nodes.invariant.so_far (omega (arith, c.len.ensures.len)) c.nodes.invariant.noted

pub preds-p-items-requires : goal.preds-p-items-requires
preds-p-items-requires c = subst (λ (z : ℕ). z < length c.args.g.now.addrs) (sym c.get-x.ensures) (c.nodes.invariant.so_far.within _ (node_at c.nodes.search.nodes c.nodes.i (omega (arith, c.len.ensures.len))))

pub loop-p-init : goal.loop-p-init
loop-p-init c = record {
  can = tt;
  ends = tt;
  so_far = c.nodes.invariant.so_far;
  noted = c.nodes.invariant.noted;
  at = c.get-x.ensures;
  within = omega (arith, c.len.ensures.len);
  here = subst (λ (z : List ℕ). IsPassed (preds_of c.args.g.now.edges c.get-x.result) z (λ y. y ≢ c.args.h → Contains c.nodes.search.nodes y)) (sym (c.into_iter-p-iterator.ensures.into_iter_gives ∙ c.preds-p-items.ensures)) (passed_start _ _);
}

pub loop-p-preserved-in-Continue-branch-2 : goal.loop-p-preserved-in-Continue-branch-2
loop-p-preserved-in-Continue-branch-2 c =
    let n = c.in_ok-note-2.ensures in
    let N : List ℕ = c.loop-p.search.nodes in
    let p : ℕ = c.in-Some.p in
    let edge : HasEdge c.args.g.now p c.get-x.result = pred_succ c.args.g.now.edges p c.get-x.result (passed_first _ _ _ p _ c.in-Some.ensures.steps c.loop-p.invariant.here) in
    let kept = place_after n c.nodes.i c.loop-p.invariant.within in
    record {
      can = tt;
      ends = tt;
      so_far = exploring_after c.args.g.now c.args.targets.now c.args.h N c.loop-p.search.next_hop.items c.nodes.i p c.nodes.i _ _ c.loop-p.invariant.so_far n
          c.if-p-h.true (c.len-count.ensures.flow.source p c.get-x.result edge)
          (inr (c.loop-p.invariant.within, subst (λ (z : ℕ). HasEdge c.args.g.now p z) c.loop-p.invariant.at edge));
      noted = all_noted_after n c.args.h _ c.loop-p.invariant.noted;
      at = c.loop-p.invariant.at ∙ sym kept.1;
      within = kept.0;
      here = passed_more _ _ _ p (λ y. y ≢ c.args.h → Contains N y) _ c.in-Some.ensures.steps c.loop-p.invariant.here (λ x f d. kept_after n x (f d)) (λ d. noted_after n);
    }

pub loop-p-preserved : goal.loop-p-preserved
loop-p-preserved c = record {
  can = tt;
  ends = tt;
  so_far = c.loop-p.invariant.so_far;
  noted = c.loop-p.invariant.noted;
  at = c.loop-p.invariant.at;
  within = c.loop-p.invariant.within;
  here = passed_more _ _ _ c.in-Some.p (λ y. y ≢ c.args.h → Contains c.loop-p.search.nodes y) _ c.in-Some.ensures.steps c.loop-p.invariant.here (λ x f. f) (λ d. absurd (d c.if-p-h.false));
}

pub nodes-preserved : goal.nodes-preserved
nodes-preserved c = record {
  so_far = exploring_next c.args.g.now c.args.targets.now c.args.h c.loop-p.search.nodes c.loop-p.search.next_hop.items c.nodes.i (preds_of c.args.g.now.edges c.get-x.result)
      c.loop-p.invariant.so_far c.loop-p.invariant.within
      (λ u d. succ_pred c.args.g.now.edges u c.get-x.result (subst (λ (z : ℕ). HasEdge c.args.g.now u z) (sym c.loop-p.invariant.at) d))
      (record { each = passed_end _ _ (λ y. y ≢ c.args.h → Contains c.loop-p.search.nodes y) c.in-None.ensures.steps.0 c.loop-p.invariant.here });
  noted = c.loop-p.invariant.noted;
}

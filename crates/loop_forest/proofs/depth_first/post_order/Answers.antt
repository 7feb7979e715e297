use Rattle.std.proofs.Common.{◌≡◌, ℕ, ◌+◌, ◌-◌, ◌<◌, List, [], ◌∷◌, ◌++◌, length, get_or, take, drop, sym, ◌∙◌, arith, subst, ap, length-append, length-take, replicate}
use Rattle.std.specs.List.{All, Contains}
use Rattle.std.proofs.Math.ListN.{set}
use Rattle.std.proofs.lemmas.List.{length-replicate}
use Rattle.std.proofs.lemmas.List.Elements.{Contains-get_or}
use Rattle.flow_graph.specs.Graph.{HasEdge, succs_of}
use Rattle.loop_forest.specs.Cycles.{last_of}
use Rattle.loop_forest.specs.inner.SecondEntry.{EntersBeside}
use Rattle.loop_forest.specs.inner.DepthFirst.{mark_of, IsDone, Searching}
use Rattle.loop_forest.specs.declared.depth_first.Mark.{Mark}
use Rattle.loop_forest.specs.declared.depth_first.Mark.TheVariants.{New, OnPath}
use Rattle.loop_forest.proofs.DepthFirstInvariant.{searching_down, searching_up, some_holds, none_holds}
use Rattle.loop_forest.proofs.DepthFirstEnds.{searching_start, total_start, total_down, total_up, post_order_at_end, different_at_end, numbers_below, two_entries, top_below, top_weight, top_is, not_empty, is_empty}
use Rattle.loop_forest.proofs.depth_first.post_order.Goals as goal

pub search-init : goal.search-init
search-init c =
    let items : c.in_ok-marks.marks.items ≡ replicate c.len-node_count.result New = c.in_ok-marks.ensures.items_if_clones_equal (λ y h. h) in
    let path : c.push.new.self.items ≡ c.args.entry ∷ [] = c.in_ok-push.ensures.items ∙ ap (λ z. z ++ c.args.entry ∷ []) c.new-path.ensures.items in
    let within : c.args.entry < c.len-node_count.result = omega (arith, c.requires, c.len-node_count.ensures.len) in
    let within_list : c.args.entry < length (replicate c.len-node_count.result New) = omega (arith, length-replicate c.len-node_count.result New) in
    rw (items, path) (record {
      searching = searching_start c.args.g.now c.args.entry c.len-node_count.result c.len-node_count.ensures.len within;
      total = omega (arith, total_start c.args.entry c.len-node_count.result within, c.len-node_count.ensures.len);
    })

pub succs-requires : goal.succs-requires
succs-requires c =
    let some : 0 < length c.search.path.items = omega (arith, not_empty c.search.path.len c.search-test.ensures, c.search.path.ok.0) in
    let u_is : c.index-u.result.now ≡ last_of c.search.path.items = top_is c.search.path.items c.index-u.result.now c.len-top.result (c.len-top.ensures ∙ c.search.path.ok.0) (omega (arith, c.len-top.ensures, c.search.path.ok.0)) c.index-u.ensures in
    omega (arith, top_below c.args.g.now c.args.entry c.search.marks.items c.search.path.items c.search.count c.index-u.result.now c.search.invariant.searching some u_is, c.search.invariant.searching.as_long)

pub first_new-requires : goal.first_new-requires
first_new-requires c k d l =
    let at : Contains (succs_of c.args.g.now.edges c.index-u.result.now) (get_or c.succs.result k d) = subst (λ (r : List ℕ). Contains r (get_or c.succs.result k d)) c.succs.ensures (Contains-get_or c.succs.result k d l) in
    omega (arith, c.len-node_count.ensures.flow.within c.index-u.result.now (get_or c.succs.result k d) at, c.search.invariant.searching.as_long, ap length c.deref.ensures.value)

pub index_mut-requires-in-Some : goal.index_mut-requires-in-Some
index_mut-requires-in-Some c =
    let at : Contains (succs_of c.args.g.now.edges c.index-u.result.now) c.in-Some.v = subst (λ (r : List ℕ). Contains r c.in-Some.v) c.succs.ensures c.in-Some.ensures.some in
    omega (arith, c.len-node_count.ensures.flow.within c.index-u.result.now c.in-Some.v at, c.search.invariant.searching.as_long)

pub search-smaller-in-Continue-branch-3 : goal.search-smaller-in-Continue-branch-3
search-smaller-in-Continue-branch-3 c =
    let at : Contains (succs_of c.args.g.now.edges c.index-u.result.now) c.in-Some.v = subst (λ (r : List ℕ). Contains r c.in-Some.v) c.succs.ensures c.in-Some.ensures.some in
    let below : c.in-Some.v < length c.search.marks.items = omega (arith, c.len-node_count.ensures.flow.within c.index-u.result.now c.in-Some.v at, c.search.invariant.searching.as_long) in
    let unseen : mark_of c.search.marks.items c.in-Some.v ≡ New = subst (λ (m : List Mark). mark_of m c.in-Some.v ≡ New) c.deref.ensures.value c.in-Some.ensures.unseen in
    let t = total_down c.search.marks.items c.in-Some.v c.len.result below unseen in
    let n : length c.push-in-Some.new.self.items ≡ length c.search.path.items + 1 = ap length c.in_ok-push-in-Some.ensures.items ∙ length-append c.search.path.items (c.in-Some.v ∷ []) in
    omega (arith, t)

pub search-preserved-in-Continue-branch-3 : goal.search-preserved-in-Continue-branch-3
search-preserved-in-Continue-branch-3 c =
    let some : 0 < length c.search.path.items = omega (arith, not_empty c.search.path.len c.search-test.ensures, c.search.path.ok.0) in
    let u_is : c.index-u.result.now ≡ last_of c.search.path.items = top_is c.search.path.items c.index-u.result.now c.len-top.result (c.len-top.ensures ∙ c.search.path.ok.0) (omega (arith, c.len-top.ensures, c.search.path.ok.0)) c.index-u.ensures in
    let at : Contains (succs_of c.args.g.now.edges c.index-u.result.now) c.in-Some.v = subst (λ (r : List ℕ). Contains r c.in-Some.v) c.succs.ensures c.in-Some.ensures.some in
    let below : c.in-Some.v < length c.search.marks.items = omega (arith, c.len-node_count.ensures.flow.within c.index-u.result.now c.in-Some.v at, c.search.invariant.searching.as_long) in
    let unseen : mark_of c.search.marks.items c.in-Some.v ≡ New = subst (λ (m : List Mark). mark_of m c.in-Some.v ≡ New) c.deref.ensures.value c.in-Some.ensures.unseen in
    let edge : HasEdge c.args.g.now (last_of c.search.path.items) c.in-Some.v = subst (λ (z : ℕ). HasEdge c.args.g.now z c.in-Some.v) u_is at in
    rw c.in_ok-push-in-Some.ensures.items (record {
      searching = subst (λ (z : ℕ). Searching c.args.g.now c.args.entry (set c.search.marks.items c.in-Some.v (OnPath z)) (c.search.path.items ++ c.in-Some.v ∷ []) c.search.count) (sym (c.len.ensures ∙ c.search.path.ok.0))
          (searching_down c.args.g.now c.args.entry c.search.marks.items c.search.path.items c.search.count c.in-Some.v c.search.invariant.searching some edge below unseen);
      total = omega (arith, total_down c.search.marks.items c.in-Some.v c.len.result below unseen, length-append c.search.path.items (c.in-Some.v ∷ []), c.search.invariant.total);
    })

pub second_entry_from-requires-clause-within : goal.second_entry_from-requires-clause-within
second_entry_from-requires-clause-within c =
    let some : 0 < length c.search.path.items = omega (arith, not_empty c.search.path.len c.search-test.ensures, c.search.path.ok.0) in
    let u_is : c.index-u.result.now ≡ last_of c.search.path.items = top_is c.search.path.items c.index-u.result.now c.len-top.result (c.len-top.ensures ∙ c.search.path.ok.0) (omega (arith, c.len-top.ensures, c.search.path.ok.0)) c.index-u.ensures in
    omega (arith, top_below c.args.g.now c.args.entry c.search.marks.items c.search.path.items c.search.count c.index-u.result.now c.search.invariant.searching some u_is, c.search.invariant.searching.as_long)

pub index_mut-requires-in-None : goal.index_mut-requires-in-None
index_mut-requires-in-None c =
    let some : 0 < length c.search.path.items = omega (arith, not_empty c.search.path.len c.search-test.ensures, c.search.path.ok.0) in
    let u_is : c.index-u.result.now ≡ last_of c.search.path.items = top_is c.search.path.items c.index-u.result.now c.len-top.result (c.len-top.ensures ∙ c.search.path.ok.0) (omega (arith, c.len-top.ensures, c.search.path.ok.0)) c.index-u.ensures in
    omega (arith, top_below c.args.g.now c.args.entry c.search.marks.items c.search.path.items c.search.count c.index-u.result.now c.search.invariant.searching some u_is, c.search.marks.ok.0)

pub returns-in-Some-2 : goal.returns-in-Some-2
returns-in-Some-2 c =
    let some : 0 < length c.search.path.items = omega (arith, not_empty c.search.path.len c.search-test.ensures, c.search.path.ok.0) in
    let u_is : c.index-u.result.now ≡ last_of c.search.path.items = top_is c.search.path.items c.index-u.result.now c.len-top.result (c.len-top.ensures ∙ c.search.path.ok.0) (omega (arith, c.len-top.ensures, c.search.path.ok.0)) c.index-u.ensures in
    let b = c.in-Some-2.beside in
    let o = c.in_ok-beside-in-None.ensures in
    let path : c.deref-in-None-2.result.now ≡ c.search.path.items = c.deref-in-None-2.ensures.value in
    let place : b.place < length c.search.path.items = subst (λ (z : List ℕ). b.place < length z) path (some_holds c.in_ok-beside-in-None.field-0 (λ p. p.place < length c.deref-in-None-2.result.now) b c.in-Some-2.is o.place) in
    let edge : HasEdge c.args.g.now (last_of c.search.path.items) (get_or c.search.path.items b.place 0) =
    subst (λ (z : ℕ). HasEdge c.args.g.now z (get_or c.search.path.items b.place 0)) u_is
    (subst (λ (z : List ℕ). HasEdge c.args.g.now c.index-u.result.now (get_or z b.place 0)) path
    (some_holds c.in_ok-beside-in-None.field-0 (λ p. HasEdge c.args.g.now c.index-u.result.now (get_or c.deref-in-None-2.result.now p.place 0)) b c.in-Some-2.is o.edge)) in
    rw (c.in_ok-cycle-in-None.ensures ∙ ap (drop b.place) c.deref-in-Some-2.ensures.value, c.in_ok-first-in-None.ensures ∙ ap (take (b.place + 1)) c.deref-in-Some-2-2.ensures.value)
    (two_entries c.args.g.now c.args.entry c.search.marks.items c.search.path.items c.search.count b.place b.walk.items c.search.invariant.searching place edge
    (subst (λ (z : List ℕ). EntersBeside c.args.g.now (drop b.place z) c.args.entry (get_or z b.place 0) b.walk.items) path
    (some_holds c.in_ok-beside-in-None.field-0 (λ p. EntersBeside c.args.g.now (drop p.place c.deref-in-None-2.result.now) c.args.entry (get_or c.deref-in-None-2.result.now p.place 0) p.walk.items) b c.in-Some-2.is o.walk)))

pub search-preserved : goal.search-preserved
search-preserved c =
    let some : 0 < length c.search.path.items = omega (arith, not_empty c.search.path.len c.search-test.ensures, c.search.path.ok.0) in
    let u_is : c.index-u.result.now ≡ last_of c.search.path.items = top_is c.search.path.items c.index-u.result.now c.len-top.result (c.len-top.ensures ∙ c.search.path.ok.0) (omega (arith, c.len-top.ensures, c.search.path.ok.0)) c.index-u.ensures in
    let below : c.index-u.result.now < length c.search.marks.items = top_below c.args.g.now c.args.entry c.search.marks.items c.search.path.items c.search.count c.index-u.result.now c.search.invariant.searching some u_is in
    let w = top_weight c.args.g.now c.args.entry c.search.marks.items c.search.path.items c.search.count c.index-u.result.now c.search.invariant.searching some u_is in
    let shorter : c.truncate.new.self.items ≡ take (length c.search.path.items - 1) c.search.path.items = c.truncate.ensures.items ∙ ap (λ k. take (k - 1) c.search.path.items) (c.len-top.ensures ∙ c.search.path.ok.0) in
    let done : All (λ v. IsDone c.args.g.now c.args.entry c.search.marks.items c.search.count c.index-u.result.now v) (succs_of c.args.g.now.edges c.index-u.result.now) =
    subst (λ (m : List Mark). All (λ v. IsDone c.args.g.now c.args.entry m c.search.count c.index-u.result.now v) (succs_of c.args.g.now.edges c.index-u.result.now)) c.deref-in-None.ensures.value
    (none_holds c.in_ok-beside-in-None.field-0 (All (λ v. IsDone c.args.g.now c.args.entry c.deref-in-None.result.now c.search.count c.index-u.result.now v) (succs_of c.args.g.now.edges c.index-u.result.now)) c.in_default.is c.in_ok-beside-in-None.ensures.none) in
    rw shorter (record {
      searching = searching_up c.args.g.now c.args.entry c.search.marks.items c.search.path.items c.search.count c.index-u.result.now c.search.invariant.searching some u_is done;
      total = omega (arith, total_up c.search.marks.items c.index-u.result.now c.search.count below w, length-take (length c.search.path.items - 1) c.search.path.items, c.search.invariant.total);
    })

pub returns : goal.returns
returns c = record {
  in_post_order = post_order_at_end c.args.g.now c.args.entry c.search.marks.items c.search.path.items c.search.count c.search.invariant.searching (sym c.search.path.ok.0 ∙ is_empty c.search.path.len c.search-test.ensures);
  different = different_at_end c.args.g.now c.args.entry c.search.marks.items c.search.path.items c.search.count c.search.invariant.searching (sym c.search.path.ok.0 ∙ is_empty c.search.path.len c.search-test.ensures);
  few = numbers_below c.args.g.now c.args.entry c.search.marks.items c.search.path.items c.search.count (length c.args.g.now.addrs) c.search.invariant.searching (omega (arith, c.search.invariant.total));
  as_long = c.search.invariant.searching.as_long;
}

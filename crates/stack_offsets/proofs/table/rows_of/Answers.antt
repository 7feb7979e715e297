use Rattle.std.proofs.Common.{◌≡◌, ℕ, ◌+◌, ◌<◌, List, [], ◌∷◌, ◌++◌, Option, Some, None, length, take, drop, replicate, refl, sym, ◌∙◌, ap, subst, arith, true, false, Bool, length-append}
use Rattle.std.specs.List.{Contains}
use Rattle.std.proofs.lemmas.List.Elements.{All-pop, All-push}
use Rattle.flow_graph.specs.Graph.{HasEdge, succs_of}
use Rattle.loop_forest.proofs.IteratorLoops.{IsPassed, passed_end, passed_first, passed_more, passed_start}
use Rattle.stack_offsets.specs.declared.row.Row.{Row}
use Rattle.stack_offsets.specs.inner.Rows.{Lowers, offsets_of, row_of}
use Rattle.stack_offsets.specs.inner.Settling.{HasUnder, Settling}
use Rattle.stack_offsets.proofs.Search.{whole, one_within, indexed, settling_start, lowered_under, still_under, following_start, following_fell, following_end, settling_passed, settled_end}
use Rattle.stack_offsets.proofs.table.rows_of.Goals as goal

pub nodes-init : goal.nodes-init
nodes-init c =
    let items : c.in_ok-rows.rows.items ≡ replicate c.len.result None = c.in_ok-rows.ensures in
    let waiting : c.push.new.self.items ≡ c.entry-2.result ∷ [] = c.in_ok-push.ensures.items ∙ ap (λ z. z ++ c.entry-2.result ∷ []) c.new-waiting.ensures.items in
    let within : c.args.g.now.entry < length c.args.g.now.addrs = c.len.ensures.flow.entry in
    rw (items, waiting, c.entry.ensures, c.entry-2.ensures) (record {
      settling = settling_start c.args.g.now c.at_entry.result c.len.result c.len.ensures.len (omega (arith, c.len.ensures.len)) c.at_entry.ensures;
      within = one_within c.args.g.now.entry (length c.args.g.now.addrs) within;
    })

pub loop-v-init : goal.loop-v-init
loop-v-init c =
    let popped = c.in-Some.ensures.items in
    let parts = All-pop (λ u. u < length c.args.g.now.addrs) c.nodes.waiting.items c.pop.new.self.items (Some c.in-Some.u) popped c.nodes.invariant.within in
    let within : c.in-Some.u < length c.args.g.now.addrs = parts.1 in
    let found : row_of c.nodes.rows.items c.in-Some.u ≡ Some c.in-Some-index.row = indexed c.nodes.rows.items c.in-Some.u c.index.result.now (Some c.in-Some-index.row) (omega (arith, c.nodes.invariant.settling.as_long)) c.index.ensures c.in-Some-index.is in
    record {
      can = tt;
      ends = tt;
      following = following_start c.args.g.now c.nodes.rows.items c.pop.new.self.items c.in-Some.u c.in-Some-index.row c.instr.result (offsets_of c.after-after.result) c.len.ensures.flow within found (sym c.instr.ensures)
          c.after-after.ensures.within c.after-after.ensures.beyond (subst (λ (w : List ℕ). Settling c.args.g.now c.nodes.rows.items (Contains w)) popped c.nodes.invariant.settling);
      within = parts.0;
      less = omega arith;
      here = subst (λ (z : List ℕ). IsPassed (succs_of c.args.g.now.edges c.in-Some.u) z (λ y. HasUnder c.nodes.rows.items y (offsets_of c.after-after.result)))
          (sym (c.into_iter-v-iterator.ensures.into_iter_gives ∙ c.succs-v-items.ensures)) (passed_start _ _);
    }

pub nodes-smaller-in-None : goal.nodes-smaller-in-None
nodes-smaller-in-None c =
    let popped : length c.nodes.waiting.items ≡ length c.pop.new.self.items + 1 = ap length c.in-Some.ensures.items ∙ length-append c.pop.new.self.items (c.in-Some.u ∷ []) in
    omega (arith, c.loop-v.invariant.less)

pub nodes-preserved-in-None : goal.nodes-preserved-in-None
nodes-preserved-in-None c = record {
  settling = following_end c.args.g.now c.loop-v.rows.items c.loop-v.waiting.items c.in-Some.u (offsets_of c.after-after.result)
      (passed_end _ _ (λ y. HasUnder c.loop-v.rows.items y (offsets_of c.after-after.result)) c.in-None.ensures.steps.0 c.loop-v.invariant.here) c.loop-v.invariant.following;
  within = c.loop-v.invariant.within;
}

pub lower-requires : goal.lower-requires
lower-requires c =
    let edge : HasEdge c.args.g.now c.in-Some.u c.in-Some-v.v = passed_first _ _ _ c.in-Some-v.v _ c.in-Some-v.ensures.steps c.loop-v.invariant.here in
    let within : c.in-Some-v.v < length c.args.g.now.addrs = c.len.ensures.flow.within c.in-Some.u c.in-Some-v.v edge in
    record {
      node = omega (arith, c.loop-v.invariant.following.settling.as_long, ap length c.deref_mut.ensures.value);
      few = c.after-after.ensures.few;
    }

pub loop-v-preserved-in-Continue-branch-3 : goal.loop-v-preserved-in-Continue-branch-3
loop-v-preserved-in-Continue-branch-3 c =
    let v : ℕ = c.in-Some-v.v in
    let rows : List (Option Row) = c.loop-v.rows.items in
    let new : List (Option Row) = c.lower.new.rows in
    let lowers : Lowers rows v (offsets_of c.after-after.result) new true =
    subst (λ (b : Bool). Lowers rows v (offsets_of c.after-after.result) new b) c.if-lower.true (subst (λ (z : List (Option Row)). Lowers z v (offsets_of c.after-after.result) new c.lower.result) c.deref_mut.ensures.value c.lower.ensures) in
    let all : take c.loop-v.rows.len (new ++ drop (length new) rows) ≡ new = whole c.loop-v.rows.len rows new lowers.as_long c.loop-v.rows.ok.0 in
    let edge : HasEdge c.args.g.now c.in-Some.u v = passed_first _ _ _ v _ c.in-Some-v.ensures.steps c.loop-v.invariant.here in
    let within : v < length c.args.g.now.addrs = c.len.ensures.flow.within c.in-Some.u v edge in
    let less = lowers.less refl in
    rw (all, c.in_ok-push-2.ensures.items) (record {
      can = tt;
      ends = tt;
      following = following_fell c.args.g.now rows new c.loop-v.waiting.items c.in-Some.u v (offsets_of c.after-after.result) edge lowers c.loop-v.invariant.following;
      within = All-push (λ u. u < length c.args.g.now.addrs) c.loop-v.waiting.items v c.loop-v.invariant.within within;
      less = omega (arith, less, c.loop-v.invariant.less, length-append c.loop-v.waiting.items (v ∷ []));
      here = passed_more _ _ _ v _ (λ y. HasUnder new y (offsets_of c.after-after.result)) c.in-Some-v.ensures.steps c.loop-v.invariant.here
          (λ x h. still_under rows new v (offsets_of c.after-after.result) true lowers x (offsets_of c.after-after.result) h) (lowered_under rows new v (offsets_of c.after-after.result) true lowers);
    })

pub loop-v-preserved : goal.loop-v-preserved
loop-v-preserved c =
    let v : ℕ = c.in-Some-v.v in
    let rows : List (Option Row) = c.loop-v.rows.items in
    let new : List (Option Row) = c.lower.new.rows in
    let lowers : Lowers rows v (offsets_of c.after-after.result) new false =
    subst (λ (b : Bool). Lowers rows v (offsets_of c.after-after.result) new b) c.if-lower.false (subst (λ (z : List (Option Row)). Lowers z v (offsets_of c.after-after.result) new c.lower.result) c.deref_mut.ensures.value c.lower.ensures) in
    let same : new ≡ rows = lowers.same refl in
    let all : take c.loop-v.rows.len (new ++ drop (length new) rows) ≡ rows = whole c.loop-v.rows.len rows new lowers.as_long c.loop-v.rows.ok.0 ∙ same in
    rw all (record {
      can = tt;
      ends = tt;
      following = c.loop-v.invariant.following;
      within = c.loop-v.invariant.within;
      less = c.loop-v.invariant.less;
      here = passed_more _ _ _ v _ (λ y. HasUnder rows y (offsets_of c.after-after.result)) c.in-Some-v.ensures.steps c.loop-v.invariant.here (λ x h. h)
          (subst (λ (z : List (Option Row)). HasUnder z v (offsets_of c.after-after.result)) same (lowered_under rows new v (offsets_of c.after-after.result) false lowers));
    })

pub nodes-preserved : goal.nodes-preserved
nodes-preserved c =
    let popped = c.in-Some.ensures.items in
    let parts = All-pop (λ u. u < length c.args.g.now.addrs) c.nodes.waiting.items c.pop.new.self.items (Some c.in-Some.u) popped c.nodes.invariant.within in
    let within : c.in-Some.u < length c.args.g.now.addrs = parts.1 in
    let found : row_of c.nodes.rows.items c.in-Some.u ≡ None = indexed c.nodes.rows.items c.in-Some.u c.index.result.now None (omega (arith, c.nodes.invariant.settling.as_long)) c.index.ensures c.in_default-index.is in
    record {
      settling = settling_passed c.args.g.now c.nodes.rows.items c.pop.new.self.items c.in-Some.u found (subst (λ (w : List ℕ). Settling c.args.g.now c.nodes.rows.items (Contains w)) popped c.nodes.invariant.settling);
      within = parts.0;
    }

pub returns : goal.returns
returns c = settled_end c.args.g.now c.nodes.rows.items c.nodes.waiting.items c.len.ensures.flow (sym c.nodes.waiting.ok.0 ∙ c.in_default.ensures.cases.0) c.nodes.invariant.settling

-- Back from a node to the last base.
use Rattle.std.proofs.Common.{◌≤◌, ◌∙◌, ap, inl, inr, get_or, ◌≡◌, ℕ, ◌+◌, ◌%◌, ◌<◌, List, [], length, Bool, sym, arith, subst}
use Rattle.std.specs.List.{Contains}
use Rattle.flow_graph.specs.Graph.{GraphOf, HasEdge, IsFlow, preds_of}
use Rattle.loop_forest.specs.inner.Bases.{IsEnd, IsEndOf, IsMarked, HasBases}
use Rattle.loop_forest.specs.inner.DepthFirst.{mark_of, number_of}
use Rattle.std.proofs.lemmas.Bool.{cases_eq}
use Rattle.loop_forest.specs.declared.depth_first.Mark.{Mark}
use Rattle.loop_forest.specs.declared.heads.LoopWithExits.{LoopWithExits}
use Rattle.flow_graph.proofs.ExactLemmas.{succ_pred}
use Rattle.loop_forest.proofs.Regions.{has_source, down_to_no_head}

-- a node that is no base has a predecessor
pub some_pred : (g : GraphOf) (marks : List Mark) (base : List Bool) (n : ℕ) → IsFlow g → HasBases g marks base → n < length g.addrs → (IsMarked base n → ⊥) → preds_of g.edges n ≡ [] → ⊥
some_pred g marks base n f b l out none =
    let s = has_source (HasEdge g) (f.reached n l) (λ q. out (subst (IsMarked base) (sym q) b.entry)) in
    let c = subst (λ (xs : List ℕ). Contains xs s.0) none (succ_pred g.edges s.0 n s.2) in
    omega (arith, c.1)

-- and its number is larger
pub pred_number : (g : GraphOf) (marks : List Mark) (base : List Bool) (u n : ℕ) → IsFlow g → HasBases g marks base → u < length g.addrs → (IsMarked base n → ⊥) → HasEdge g u n → number_of (mark_of marks n) < number_of (mark_of marks u)
pred_number g marks base u n f b l out d = down_to_no_head (HasEdge g) g.entry (λ x. number_of (mark_of marks x)) b.in_post_order u n (f.reached u l) d (λ h. out (b.heads n h))

pub one_more : (k steps : ℕ) → ((k + 1) % 32 + steps) % 32 ≡ (k + (steps + 1) % 32) % 32
one_more k steps = omega arith

pub no_more : (steps : ℕ) → steps < 32 → (0 + steps) % 32 ≡ steps
no_more steps l = omega arith

-- a loop of which n is no end is passed
pub past : (loops : List LoopWithExits) (n i : ℕ) (l d : LoopWithExits) → l ≡ get_or loops i d → (IsEndOf l n → ⊥) → (o : IsEnd loops n) → i ≤ o.place → i + 1 ≤ o.place
past loops n i l d at out o le = elim (cases_eq o.place i) [
  | inr m ↦ omega (arith, le, m)
  | inl q ↦
      let same : get_or loops o.place d ≡ l = ap (λ k. get_or loops k d) q ∙ sym at in
      absurd (out (subst (λ (x : LoopWithExits). IsEndOf x n) same (o.ends d)))
]

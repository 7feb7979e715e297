-- The sources of back edges, and the nodes of a loop.
use Rattle.std.proofs.Common.{◌≡◌, ℕ, ◌+◌, ◌<◌, ◌≤◌, ◌≢◌, List, [], ◌∷◌, ◌++◌, ◌⊎◌, ◌↔◌, length, get_or, inl, inr, refl, sym, ◌∙◌, arith, subst}
use Rattle.std.specs.List.{Contains}
use Rattle.std.proofs.lemmas.List.Elements.{Contains-push, Contains-push_cases, Contains-append_left}
use Rattle.flow_graph.specs.Graph.{GraphOf, HasEdge, IsRising, preds_of, succs_of}
use Rattle.flow_graph.specs.Walks.{Way}
use Rattle.loop_forest.specs.Loops.{Dominates}
use Rattle.loop_forest.specs.Loops.{IsBackEdge, InLoop, AtHead, Inside, IsExit}
use Rattle.loop_forest.specs.inner.LoopOf.{AreBackTo, AreExits, IsIn, IsLoopOf, LeadsOut, NotesExits}
use Rattle.loop_forest.proofs.IteratorLoops.{IsPassed, passed_end, passed_first, passed_more, passed_start}
use Rattle.flow_graph.specs.inner.Reached.{GrowsBy}
use Rattle.flow_graph.proofs.ReachSearch.{kept_by}
use Rattle.flow_graph.proofs.ExactLemmas.{succ_pred}
use Rattle.std.proofs.lemmas.Bool.{cases_eq}
use Rattle.loop_forest.specs.inner.Search.{FindsSources}
use Rattle.flow_graph.proofs.Ways.{node_at, place_of, Contains-cons}

-- where the entry was found, not every walk meets h
pub not_met : (g : GraphOf) (e u h : ℕ) (N T : List ℕ) → FindsSources g (u ∷ []) h N T → Contains N e → Dominates (HasEdge g) e h u → ⊥
not_met g e u h N T f c m =
    let r = f.sound e c in
    elim (Contains-cons u [] r.target r.among) [
      | inl q ↦ r.reaches.last (sym q ∙ m.met (subst (λ (z : ℕ). Way (HasEdge g) (λ n. n ≢ h) e z) (sym q) r.reaches.way))
      | inr d ↦ absurd (omega (arith, d.1))
    ]

pub loop_nodes : (g : GraphOf) (e h : ℕ) (backs N T : List ℕ) → AreBackTo g e h backs → 0 < length backs → FindsSources g backs h N T → IsLoopOf g e h h N
loop_nodes g e h backs N T b some f = record {
  head_is = refl;
  is_head = record { source = get_or backs 0 0; back = b.back (get_or backs 0 0) (node_at backs 0 some) };
  inside = λ x d. inside_cases g e h backs N T b f x d;
  within = f.within;
  only = λ x d. elim d [ inl q ↦ subst (λ (z : ℕ). InLoop (HasEdge g) e h z) (sym q) AtHead | inr c ↦ let r = f.sound x c in Inside (b.back r.target r.among) r.reaches ];
}
  where
    inside_cases : (g : GraphOf) (e h : ℕ) (backs N T : List ℕ) → AreBackTo g e h backs → FindsSources g backs h N T → (x : ℕ) → InLoop (HasEdge g) e h x → (x ≡ h) ⊎ Contains N x
    inside_cases g e h backs N T b f _ AtHead = inl refl
    inside_cases g e h backs N T b f x (Inside {u = u} k r) = inr (f.complete x (record { target = u; among = b.all u k; reaches = r }))

-- the back edges to h among the edges to it are those that don't go down
pub record BackSoFar (g : GraphOf) (e h : ℕ) (rest backs : List ℕ) : Type 0 where
  pub back : (u : ℕ) → Contains backs u → IsBackEdge (HasEdge g) e u h
  pub passed : IsPassed (preds_of g.edges h) rest (λ u. IsBackEdge (HasEdge g) e u h → Contains backs u)

pub back_start : (g : GraphOf) (e h : ℕ) (rest : List ℕ) → rest ≡ preds_of g.edges h → BackSoFar g e h rest []
back_start g e h rest q = record {
  back = λ u c. absurd (omega (arith, c.1));
  passed = subst (λ (z : List ℕ). IsPassed (preds_of g.edges h) z (λ u. IsBackEdge (HasEdge g) e u h → Contains [] u)) (sym q) (passed_start _ _);
}

pub back_more : (g : GraphOf) (e h : ℕ) (rest next backs : List ℕ) (u : ℕ) → rest ≡ u ∷ next → BackSoFar g e h rest backs → IsBackEdge (HasEdge g) e u h → BackSoFar g e h next (backs ++ u ∷ [])
back_more g e h rest next backs u q s b = record {
  back = λ x c. elim (Contains-push_cases backs u x c) [ inl d ↦ s.back x d | inr r ↦ subst (λ (z : ℕ). IsBackEdge (HasEdge g) e z h) r b ];
  passed = passed_more _ _ _ u _ _ q s.passed (λ x f d. Contains-append_left backs (u ∷ []) x (f d)) (λ d. Contains-push backs u);
}

pub back_skip : (g : GraphOf) (e h : ℕ) (rest next backs : List ℕ) (u : ℕ) → rest ≡ u ∷ next → BackSoFar g e h rest backs → (IsBackEdge (HasEdge g) e u h → ⊥) → BackSoFar g e h next backs
back_skip g e h rest next backs u q s n = record { back = s.back; passed = passed_more _ _ _ u _ _ q s.passed (λ x f. f) (λ d. absurd (n d)) }

pub back_end : (g : GraphOf) (e h : ℕ) (rest backs : List ℕ) → ((u v : ℕ) → HasEdge g u v → u < length g.addrs) → rest ≡ [] → BackSoFar g e h rest backs → AreBackTo g e h backs
back_end g e h rest backs source q s = record {
  back = s.back;
  all = λ u b. passed_end _ _ _ q s.passed u (succ_pred g.edges u h b.edge) b;
  within = λ u c. source u h (s.back u c).edge;
}

-- ---- exits

pub record ExitsSoFar (g : GraphOf) (head : ℕ) (nodes : List ℕ) (x : ℕ) (rest old exits : List ℕ) : Type 0 where
  pub kept : (v : ℕ) → Contains old v → Contains exits v
  pub only : (v : ℕ) → Contains exits v → Contains old v ⊎ (HasEdge g x v × (IsIn head nodes v → ⊥))
  pub passed : IsPassed (succs_of g.edges x) rest (λ v. (IsIn head nodes v → ⊥) → Contains exits v)

pub exits_start : (g : GraphOf) (head : ℕ) (nodes : List ℕ) (x : ℕ) (rest old : List ℕ) → rest ≡ succs_of g.edges x → ExitsSoFar g head nodes x rest old old
exits_start g head nodes x rest old q = record {
  kept = λ v c. c;
  only = λ v c. inl c;
  passed = subst (λ (z : List ℕ). IsPassed (succs_of g.edges x) z (λ v. (IsIn head nodes v → ⊥) → Contains old v)) (sym q) (passed_start _ _);
}

pub exits_more : (g : GraphOf) (head : ℕ) (nodes : List ℕ) (x : ℕ) (rest next old exits exits' : List ℕ) (v : ℕ) → rest ≡ v ∷ next → ExitsSoFar g head nodes x rest old exits → (IsIn head nodes v → ⊥) → GrowsBy exits (v ∷ []) exits' → ExitsSoFar g head nodes x next old exits'
exits_more g head nodes x rest next old exits exits' v q s out grows = record {
  kept = λ y c. kept_by exits (v ∷ []) exits' grows y (s.kept y c);
  only = λ y c. elim (grows.only y c) [
    | inl d ↦ s.only y d
    | inr d ↦ elim (Contains-cons v [] y d) [
      | inl r ↦ inr (subst (λ (z : ℕ). HasEdge g x z × (IsIn head nodes z → ⊥)) r (passed_first _ _ _ v _ q s.passed, out))
      | inr n ↦ absurd (omega (arith, n.1))
    ]
  ];
  passed = passed_more _ _ _ v _ _ q s.passed (λ y f o. kept_by exits (v ∷ []) exits' grows y (f o)) (λ o. grows.added v (0, omega arith, refl));
}

pub exits_skip : (g : GraphOf) (head : ℕ) (nodes : List ℕ) (x : ℕ) (rest next old exits : List ℕ) (v : ℕ) → rest ≡ v ∷ next → ExitsSoFar g head nodes x rest old exits → IsIn head nodes v → ExitsSoFar g head nodes x next old exits
exits_skip g head nodes x rest next old exits v q s i = record { kept = s.kept; only = s.only; passed = passed_more _ _ _ v _ _ q s.passed (λ y f. f) (λ o. absurd (o i)) }

pub exits_end : (g : GraphOf) (head : ℕ) (nodes : List ℕ) (x : ℕ) (rest old exits : List ℕ) → rest ≡ [] → ExitsSoFar g head nodes x rest old exits → NotesExits g head nodes x old exits
exits_end g head nodes x rest old exits q s = record { kept = s.kept; only = s.only; added = λ v d o. passed_end _ _ _ q s.passed v d o }

-- the exits of the head and of the first i nodes
pub record ExitsTo (g : GraphOf) (head : ℕ) (nodes exits : List ℕ) (i : ℕ) : Type 0 where
  pub exit : (v : ℕ) → Contains exits v → LeadsOut g head nodes v
  pub head_done : (v : ℕ) → HasEdge g head v → (IsIn head nodes v → ⊥) → Contains exits v
  pub done : (k v : ℕ) → k < i → HasEdge g (get_or nodes k 0) v → (IsIn head nodes v → ⊥) → Contains exits v
  pub upto : i ≤ length nodes

pub exits_to_head : (g : GraphOf) (head : ℕ) (nodes old exits : List ℕ) → old ≡ [] → NotesExits g head nodes head old exits → ExitsTo g head nodes exits 0
exits_to_head g head nodes old exits q n = record {
  exit = λ v c. elim (n.only v c) [
    | inl d ↦ (let z = subst (λ (xs : List ℕ). Contains xs v) q d in absurd (omega (arith, z.1)))
    | inr d ↦ record { from = head; inside = inl refl; edge = d.0; outside = d.1 }
  ];
  head_done = n.added;
  done = λ k v l d o. absurd (omega arith);
  upto = omega arith;
}

pub exits_to_next : (g : GraphOf) (head : ℕ) (nodes exits exits' : List ℕ) (i : ℕ) → i < length nodes → ExitsTo g head nodes exits i → NotesExits g head nodes (get_or nodes i 0) exits exits' → ExitsTo g head nodes exits' (i + 1)
exits_to_next g head nodes exits exits' i l s n = record {
  exit = λ v c. elim (n.only v c) [ inl d ↦ s.exit v d | inr d ↦ record { from = get_or nodes i 0; inside = inr (node_at nodes i l); edge = d.0; outside = d.1 } ];
  head_done = λ v d o. n.kept v (s.head_done v d o);
  done = λ k v h d o. elim (cases_eq k i) [
    | inl q ↦ n.added v (subst (λ (z : ℕ). HasEdge g (get_or nodes z 0) v) q d) o
    | inr m ↦ n.kept v (s.done k v (omega arith) d o)
  ];
  upto = omega arith;
}

pub exits_all : (g : GraphOf) (head : ℕ) (nodes exits sorted : List ℕ) (i : ℕ) → length nodes ≤ i → ExitsTo g head nodes exits i → ((x : ℕ) → Contains exits x ↔ Contains sorted x) → IsRising sorted → AreExits g head nodes sorted
exits_all g head nodes exits sorted i l s same up = record {
  exit = λ v c. s.exit v ((same v).1 c);
  all = λ v o. (same v).0 (elim o.inside [
    | inl q ↦ s.head_done v (subst (λ (z : ℕ). HasEdge g z v) q o.edge) o.outside
    | inr c ↦ (let p = place_of nodes o.from c in s.done p.0 v (omega (arith, p.1)) (subst (λ (z : ℕ). HasEdge g z v) (sym p.2) o.edge) o.outside)
  ]);
  rising = up;
}

-- the exits of the code are those of the definition
pub exit_is : (g : GraphOf) (e h : ℕ) (nodes : List ℕ) (v : ℕ) → IsLoopOf g e h h nodes → LeadsOut g h nodes v → IsExit (HasEdge g) e h v
exit_is g e h nodes v l o = record { from = o.from; inside = l.only o.from o.inside; edge = o.edge; outside = λ i. o.outside (l.inside v i) }

pub exit_of : (g : GraphOf) (e h : ℕ) (nodes : List ℕ) (v : ℕ) → IsLoopOf g e h h nodes → IsExit (HasEdge g) e h v → LeadsOut g h nodes v
exit_of g e h nodes v l o = record { from = o.from; inside = l.inside o.from o.inside; edge = o.edge; outside = λ i. o.outside (l.only v i) }

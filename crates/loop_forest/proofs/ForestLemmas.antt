-- The parts of a forest.
use Rattle.std.proofs.Common.{◌≡◌, ℕ, zero, suc, ◌<◌, ◌≤◌, ◌↔◌, List, [], ◌∷◌, length, get_or, map, Option, None, Bool, inl, inr, refl, sym, ◌∙◌, subst, arith}
use Rattle.std.specs.List.{Contains}
use Rattle.std.proofs.lemmas.List.{get_or-map}
use Rattle.flow_graph.specs.Graph.{GraphOf, HasEdge, IsFlow, IsRising}
use Rattle.flow_graph.proofs.Ways.{Contains-cons, place_of}
use Rattle.loop_forest.specs.Loops.{IsExit, IsHead, IsPostOrder}
use Rattle.loop_forest.specs.Forest.{IsForestOf, IsMany}
use Rattle.loop_forest.specs.Regions.{HasManyExits, loop_exit_limit}
use Rattle.loop_forest.specs.inner.Found.{AreLoops, heads}
use Rattle.loop_forest.specs.inner.Kept.{AreRegions, IsKept, forest_of}
use Rattle.loop_forest.specs.inner.LoopOf.{IsIn}
use Rattle.loop_forest.specs.inner.Bases.{AreBases, ArePlaces}
use Rattle.loop_forest.specs.inner.DepthFirst.{IsNumbered, mark_of, number_of}
use Rattle.loop_forest.specs.declared.heads.LoopWithExits.{LoopWithExits}
use Rattle.loop_forest.specs.declared.depth_first.Mark.{Mark}
use Rattle.loop_forest.proofs.AddressLemmas.{graph_in_post_order}
use Rattle.loop_forest.proofs.BaseLemmas.{head_below, places_are}
use Rattle.loop_forest.proofs.SmallestLoop.{closest_around, closest_within, head_at, head_is, heads_long, in_loop, looped_at, loops_few}
use Rattle.loop_forest.proofs.FoundLemmas.{no_loop}
use Rattle.loop_forest.proofs.LoopNodes.{exit_is, exit_of}

pub post_order_same : (E : ℕ → ℕ → Type 0) (e : ℕ) (left other : ℕ → ℕ) → ((x : ℕ) → left x ≡ other x) → IsPostOrder E e left → IsPostOrder E e other
post_order_same E e left other same s = record {
  edge = λ u v r d. elim (s.edge u v r d) [ inl l ↦ inl (omega (arith, l, same u, same v)) | inr m ↦ inr m ];
}

-- the numbers are those of the marks
pub numbers_are : (marks : List Mark) (n : ℕ) → number_of (mark_of marks n) ≡ get_or (map number_of marks) n 0
numbers_are [] n = refl
numbers_are (m ∷ ms) zero = refl
numbers_are (m ∷ ms) (suc n) = numbers_are ms n

-- one of the list, or the one in front
pub front_or_in : (x : ℕ) (xs : List ℕ) (y : ℕ) → Contains (x ∷ xs) y ↔ IsIn x xs y
front_or_in x xs y = (
  (λ c. elim (Contains-cons x xs y c) [ inl q ↦ inl (sym q) | inr d ↦ inr d ]),
  (λ d. elim d [ inl q ↦ (0, omega arith, sym q) | inr c ↦ (suc c.0, omega (arith, c.1), c.2) ]),
)

pub inside_at : (loops : List LoopWithExits) (l : ℕ) (d : LoopWithExits) → l < length loops
    → get_or (map (λ (x : LoopWithExits). x.body.head ∷ x.body.nodes) loops) l [] ≡ (get_or loops l d).body.head ∷ (get_or loops l d).body.nodes
inside_at loops l d i = get_or-map (λ (x : LoopWithExits). x.body.head ∷ x.body.nodes) loops l d [] i

pub exits_at : (loops : List LoopWithExits) (l : ℕ) (d : LoopWithExits) → l < length loops → get_or (map (λ (x : LoopWithExits). x.exits) loops) l [] ≡ (get_or loops l d).exits
exits_at loops l d i = get_or-map (λ (x : LoopWithExits). x.exits) loops l d [] i

pub kept : (g : GraphOf) (loops : List LoopWithExits) (regions : List (Option ℕ)) (marks : List Mark) (table : List Bool) (places : List ℕ) → IsFlow g → IsNumbered g g.entry marks
    → AreLoops g loops (length g.addrs) → AreRegions g (heads loops) regions (length g.addrs) → ArePlaces g table places (length g.addrs) → IsKept loops regions marks places
kept g loops regions marks table places f m a r p = record {
  few = let few = loops_few g loops a in let limit : length g.addrs ≤ 1024 = f.few in omega (arith, few, limit);
  heads_below = λ h c. let lt = a.below h c in omega (arith, lt, p.as_long);
  regions_as_long = r.as_long ∙ sym p.as_long;
  marks_as_long = m.as_long ∙ sym p.as_long;
}

pub forest_is : (g : GraphOf) (loops : List LoopWithExits) (regions : List (Option ℕ)) (marks : List Mark) (table : List Bool) (places : List ℕ) → IsFlow g → IsNumbered g g.entry marks
    → AreLoops g loops (length g.addrs) → AreRegions g (heads loops) regions (length g.addrs) → AreBases g loops table (length g.addrs) → ArePlaces g table places (length g.addrs)
    → IsForestOf g (forest_of loops regions marks places)
forest_is g loops regions marks table places f m a r t p = record {
  rising = a.rising;
  heads = λ h. (
    (λ c. let q = place_of (heads loops) h c in subst (λ (z : ℕ). IsHead (HasEdge g) g.entry z) q.2 (head_is g loops q.0 a (omega (arith, q.1, heads_long loops)))),
    (λ k. a.all h (head_below g h f k) k),
  );
  insides = λ l n i.
      let below : l < length loops = omega (arith, i, heads_long loops) in
      let at = inside_at loops l no_loop below in
      let iff = in_loop g loops l no_loop n a below in
      let front = front_or_in (get_or loops l no_loop).body.head (get_or loops l no_loop).body.nodes n in
      ((λ c. iff.0 (front.0 (subst (λ (xs : List ℕ). Contains xs n) at c))), (λ d. subst (λ (xs : List ℕ). Contains xs n) (sym at) (front.1 (iff.1 d))));
  exits = λ l v i.
      let below : l < length loops = omega (arith, i, heads_long loops) in
      let at = exits_at loops l no_loop below in
      let is = looped_at g loops l no_loop a below in
      let head = head_at loops l no_loop below in (
        (λ c. subst (λ (z : ℕ). IsExit (HasEdge g) g.entry z v) (sym head) (exit_is g g.entry _ _ v is.body (is.exits.exit v (subst (λ (xs : List ℕ). Contains xs v) at c)))),
        (λ x. subst (λ (xs : List ℕ). Contains xs v) (sym at) (is.exits.all v (exit_of g g.entry _ _ v is.body (subst (λ (z : ℕ). IsExit (HasEdge g) g.entry z v) head x)))),
      );
  exits_rise = λ l i.
      let below : l < length loops = omega (arith, i, heads_long loops) in
      subst IsRising (sym (exits_at loops l no_loop below)) (looped_at g loops l no_loop a below).exits.rising;
  few = λ l i.
      let below : l < length loops = omega (arith, i, heads_long loops) in
      subst (λ (xs : List ℕ). length xs ≤ loop_exit_limit) (sym (exits_at loops l no_loop below)) (looped_at g loops l no_loop a below).few;
  regions = λ n l. closest_around g loops n (get_or regions n None) f a (r.each n l);
  within = λ n l i e. closest_within g (heads loops) n l (get_or regions n None) (r.each n i) e;
  places = λ n l. places_are g loops table n (get_or places n 0) f a t (p.each n l);
  in_post_order = post_order_same (HasEdge g) g.entry (λ x. number_of (mark_of marks x)) (λ x. get_or (map number_of marks) x 0) (numbers_are marks) m.in_post_order;
  different = λ n k l i same. m.different n k (f.reached n l) (f.reached k i) (numbers_are marks n ∙ same ∙ sym (numbers_are marks k));
  as_long = p.as_long;
}

pub many_of_order : (g : GraphOf) (marks : List Mark) (h a : ℕ) → IsFlow g → IsPostOrder (HasEdge g) g.entry (λ x. number_of (mark_of marks x)) → HasManyExits (HasEdge g) g.entry h → a ≡ get_or g.addrs h 0 → IsMany g a
many_of_order g marks h a f s m q = record { one_entry = graph_in_post_order g (λ x. number_of (mark_of marks x)) f s; head = h; many = m; at = sym q }

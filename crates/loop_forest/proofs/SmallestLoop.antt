-- The smallest loop among the first ones.
use Rattle.std.proofs.Common.{◌≡◌, ◌≢◌, ℕ, ◌+◌, ◌<◌, ◌≤◌, ◌↔◌, List, ◌++◌, ◌∷◌, [], length, get_or, Option, None, Some, option_map, inl, inr, refl, sym, ◌∙◌, ap, subst, arith, length-append}
use Rattle.std.proofs.lemmas.Bool.{cases_eq}
use Rattle.std.proofs.lemmas.List.{get_or-map, length-map, get_or_append_left}
use Rattle.std.proofs.lemmas.List.Elements.{Contains-get_or}
use Rattle.std.proofs.Math.Seq.{get_or-append_seam}
use Rattle.flow_graph.specs.Graph.{GraphOf, HasEdge, IsFlow}
use Rattle.flow_graph.specs.Walks.{Reaches}
use Rattle.flow_graph.proofs.Ways.{place_of}
use Rattle.flow_graph.proofs.NumberLemmas.{different_from_rising}
use Rattle.flow_graph.proofs.VisitedLemmas.{few_from_distinct}
use Rattle.loop_forest.specs.Loops.{IsHead, InLoop, AtHead}
use Rattle.loop_forest.specs.Regions.{IsAround}
use Rattle.loop_forest.specs.inner.Found.{AreLoops, IsLooped, heads}
use Rattle.loop_forest.specs.inner.Kept.{AreRegions, IsCloser, IsClosest}
use Rattle.loop_forest.specs.inner.LoopOf.{IsIn}
use Rattle.loop_forest.specs.declared.heads.LoopWithExits.{LoopWithExits}
use Rattle.loop_forest.proofs.BaseLemmas.{head_below}
use Rattle.loop_forest.proofs.FoundLemmas.{different_distinct, no_loop}
use Rattle.loop_forest.proofs.RegionLaws.{head_reached, holds_loop, nested}

-- ---- the loops by their places

pub heads_long : (loops : List LoopWithExits) → length (heads loops) ≡ length loops
heads_long loops = length-map loops (λ (x : LoopWithExits). x.body.head)

pub head_at : (loops : List LoopWithExits) (l : ℕ) (d : LoopWithExits) → l < length loops → get_or (heads loops) l 0 ≡ (get_or loops l d).body.head
head_at loops l d i = get_or-map (λ (x : LoopWithExits). x.body.head) loops l d 0 i

pub looped_at : (g : GraphOf) (loops : List LoopWithExits) (l : ℕ) (d : LoopWithExits) → AreLoops g loops (length g.addrs) → l < length loops → IsLooped g (get_or loops l d)
looped_at g loops l d a i = a.each l d i

pub head_is : (g : GraphOf) (loops : List LoopWithExits) (l : ℕ) → AreLoops g loops (length g.addrs) → l < length loops → IsHead (HasEdge g) g.entry (get_or (heads loops) l 0)
head_is g loops l a i = subst (λ (z : ℕ). IsHead (HasEdge g) g.entry z) (sym (head_at loops l no_loop i)) (looped_at g loops l no_loop a i).body.is_head

-- a loop of the code has exactly the nodes of the loop
pub in_loop : (g : GraphOf) (loops : List LoopWithExits) (l : ℕ) (d : LoopWithExits) (n : ℕ) → AreLoops g loops (length g.addrs) → l < length loops
    → IsIn (get_or loops l d).body.head (get_or loops l d).body.nodes n ↔ InLoop (HasEdge g) g.entry (get_or (heads loops) l 0) n
in_loop g loops l d n a i =
    let is = (looped_at g loops l d a i).body in
    let at = head_at loops l d i in
    ((λ c. subst (λ (z : ℕ). InLoop (HasEdge g) g.entry z n) (sym at) (is.only n c)), (λ c. is.inside n (subst (λ (z : ℕ). InLoop (HasEdge g) g.entry z n) at c)))

pub loops_few : (g : GraphOf) (loops : List LoopWithExits) → AreLoops g loops (length g.addrs) → length loops ≤ length g.addrs
loops_few g loops a =
    let few = few_from_distinct (heads loops) (different_distinct (heads loops) (different_from_rising (heads loops) a.rising)) (length g.addrs) (λ i d l. a.below _ (Contains-get_or (heads loops) i d l)) in
    omega (arith, few, heads_long loops)

-- ---- one loop more

source_reached : (g : GraphOf) → IsFlow g → (a b : ℕ) → HasEdge g a b → Reaches (HasEdge g) g.entry a
source_reached g f a b d = f.reached a (f.source a b d)

pub closest_start : (g : GraphOf) (hs : List ℕ) (n : ℕ) → IsClosest g hs 0 n None
closest_start g hs n = λ k l. absurd (omega arith)

pub closest_more : (g : GraphOf) (loops : List LoopWithExits) (i n : ℕ) (best : Option ℕ) → IsFlow g → AreLoops g loops (length g.addrs) → i < length loops
    → IsClosest g (heads loops) i n best → IsCloser g (heads loops) best i n → IsClosest g (heads loops) (i + 1) n (Some i)
closest_more g loops i n best f a l p q = go best p q
  where
    hs : List ℕ
    hs = heads loops

    own : (k : ℕ) → k ≡ i → InLoop (HasEdge g) g.entry (get_or (heads loops) k 0) (get_or (heads loops) i 0)
    own k e = subst (λ (z : ℕ). InLoop (HasEdge g) g.entry (get_or (heads loops) z 0) (get_or (heads loops) i 0)) (sym e) AtHead

    go : (best : Option ℕ) → IsClosest g (heads loops) i n best → IsCloser g (heads loops) best i n → IsClosest g (heads loops) (i + 1) n (Some i)
    go None p q = (omega arith, q.0, q.1, λ k lt ne c. elim (cases_eq k i) [ inl e ↦ own k e | inr m ↦ absurd (p k (omega arith) ne c) ])
    go (Some b) p q = (
      omega arith,
      q.0,
      q.1,
      λ k lt ne c. elim (cases_eq k i) [
        | inl e ↦ own k e
        | inr m ↦ holds_loop (HasEdge g) g.entry (source_reached g f) (get_or (heads loops) k 0) (get_or (heads loops) b 0)
            (head_reached (HasEdge g) g.entry (source_reached g f) _ (head_is g loops k a (omega arith))) (p.3 k (omega arith) ne c) (get_or (heads loops) i 0) q.2
      ],
    )

pub closest_skip : (g : GraphOf) (loops : List LoopWithExits) (i n : ℕ) (best : Option ℕ) → IsFlow g → AreLoops g loops (length g.addrs) → i < length loops → n < length g.addrs
    → IsClosest g (heads loops) i n best → (IsCloser g (heads loops) best i n → ⊥) → IsClosest g (heads loops) (i + 1) n best
closest_skip g loops i n best f a l below p out = go best p out
  where
    at_i : (k : ℕ) → k ≡ i → InLoop (HasEdge g) g.entry (get_or (heads loops) k 0) n → InLoop (HasEdge g) g.entry (get_or (heads loops) i 0) n
    at_i k e c = subst (λ (z : ℕ). InLoop (HasEdge g) g.entry (get_or (heads loops) z 0) n) e c

    ne_i : (k : ℕ) → k ≡ i → get_or (heads loops) k 0 ≢ n → get_or (heads loops) i 0 ≢ n
    ne_i k e ne = subst (λ (z : ℕ). get_or (heads loops) z 0 ≢ n) e ne

    go : (best : Option ℕ) → IsClosest g (heads loops) i n best → (IsCloser g (heads loops) best i n → ⊥) → IsClosest g (heads loops) (i + 1) n best
    go None p out = λ k lt ne c. elim (cases_eq k i) [ inl e ↦ absurd (out (ne_i k e ne, at_i k e c)) | inr m ↦ absurd (p k (omega arith) ne c) ]
    go (Some b) p out = (
      omega (arith, p.0),
      p.1,
      p.2,
      λ k lt ne c. elim (cases_eq k i) [
        | inr m ↦ p.3 k (omega arith) ne c
        | inl e ↦ elim (nested (HasEdge g) g.entry (source_reached g f) (get_or (heads loops) b 0) (get_or (heads loops) i 0) n
            (head_reached (HasEdge g) g.entry (source_reached g f) _ (head_is g loops b a (omega (arith, p.0))))
            (head_reached (HasEdge g) g.entry (source_reached g f) _ (head_is g loops i a l))
            (f.reached n below) p.2 (at_i k e c)) [
              | inl d ↦ absurd (out (ne_i k e ne, at_i k e c, d))
              | inr d ↦ subst (λ (z : ℕ). InLoop (HasEdge g) g.entry (get_or (heads loops) z 0) (get_or (heads loops) b 0)) (sym e) d
            ]
      ],
    )

-- the smallest of all loops is the region
pub closest_around : (g : GraphOf) (loops : List LoopWithExits) (n : ℕ) (r : Option ℕ) → IsFlow g → AreLoops g loops (length g.addrs) → IsClosest g (heads loops) (length (heads loops)) n r
    → IsAround (HasEdge g) g.entry n (option_map (λ l. get_or (heads loops) l 0) r)
closest_around g loops n None f a p = λ h k ne c.
    let q = place_of (heads loops) h (a.all h (head_below g h f k) k) in
    p q.0 q.1 (subst (λ (z : ℕ). z ≢ n) (sym q.2) ne) (subst (λ (z : ℕ). InLoop (HasEdge g) g.entry z n) (sym q.2) c)
closest_around g loops n (Some b) f a p = (
  head_is g loops b a (omega (arith, p.0, heads_long loops)),
  p.1,
  p.2,
  λ h k ne c.
      let q = place_of (heads loops) h (a.all h (head_below g h f k) k) in
      let r = p.3 q.0 q.1 (subst (λ (z : ℕ). z ≢ n) (sym q.2) ne) (subst (λ (z : ℕ). InLoop (HasEdge g) g.entry z n) (sym q.2) c) in
      subst (λ (z : ℕ). InLoop (HasEdge g) g.entry z (get_or (heads loops) b 0)) q.2 r,
)

pub closest_within : (g : GraphOf) (hs : List ℕ) (n l : ℕ) (r : Option ℕ) → IsClosest g hs (length hs) n r → r ≡ Some l → l < length hs
closest_within g hs n l None p e = absurd (cc)
closest_within g hs n l (Some b) p e = let same : b ≡ l = cc in omega (arith, p.0, same)

-- ---- the table

pub regions_start : (g : GraphOf) (hs : List ℕ) → AreRegions g hs [] 0
regions_start g hs = record { as_long = refl; each = λ k l. absurd (omega arith) }

pub regions_more : (g : GraphOf) (hs : List ℕ) (table : List (Option ℕ)) (n : ℕ) (r : Option ℕ) → AreRegions g hs table n → IsClosest g hs (length hs) n r → AreRegions g hs (table ++ r ∷ []) (n + 1)
regions_more g hs table n r a p = record {
  as_long = length-append table (r ∷ []) ∙ ap (λ k. k + 1) a.as_long;
  each = λ k l. elim (cases_eq k n) [
    | inl q ↦
        let at : get_or (table ++ r ∷ []) k None ≡ r = ap (λ z. get_or (table ++ r ∷ []) z None) (q ∙ sym a.as_long) ∙ get_or-append_seam table r [] None in
        subst (λ (z : Option ℕ). IsClosest g hs (length hs) k z) (sym at) (subst (λ (z : ℕ). IsClosest g hs (length hs) z r) (sym q) p)
    | inr m ↦
        let at : get_or (table ++ r ∷ []) k None ≡ get_or table k None = get_or_append_left table (r ∷ []) None k (omega (arith, a.as_long, m, l)) in
        subst (λ (z : Option ℕ). IsClosest g hs (length hs) k z) (sym at) (a.each k (omega arith))
  ];
}

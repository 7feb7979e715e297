-- The table of bases is that of the definition.
use Rattle.std.proofs.Common.{◌≡◌, ℕ, ◌+◌, ◌<◌, ◌≤◌, ◌↔◌, ◌⊎◌, List, [], ◌∷◌, ◌++◌, length, get_or, Bool, false, IsTrue, inl, inr, refl, sym, ◌∙◌, ap, subst, arith, length-append, true≢false}
use Rattle.std.specs.List.{Contains}
use Rattle.std.proofs.lemmas.List.{get_or-map, length-map, get_or_append_left}
use Rattle.std.proofs.Math.Seq.{get_or-append_seam}
use Rattle.std.proofs.lemmas.Bool.{cases_eq}
use Rattle.flow_graph.specs.Graph.{GraphOf, HasEdge, IsFlow, preds_of}
use Rattle.loop_forest.specs.Loops.{IsHead, IsExit}
use Rattle.loop_forest.specs.Cuts.{StepsSinceCut, AtBase, After}
use Rattle.flow_graph.proofs.Ways.{place_of, node_at}
use Rattle.flow_graph.proofs.ExactLemmas.{pred_succ, succ_pred}
use Rattle.loop_forest.specs.Cuts.{IsBase, Entry, Head, Exit, Joined}
use Rattle.loop_forest.specs.inner.Bases.{AreBases, ArePlaces, HasBases, IsBaseOf, IsEnd, IsMarked}
use Rattle.loop_forest.specs.inner.DepthFirst.{mark_of, number_of}
use Rattle.loop_forest.specs.declared.depth_first.Mark.{Mark}
use Rattle.loop_forest.specs.Loops.{IsPostOrder}
use Rattle.std.proofs.Math.ListN.{get_or-eq_default}
use Rattle.std.proofs.lemmas.Bool.Decides.{leb_tells}
use Rattle.loop_forest.specs.inner.Found.{AreLoops, IsLooped, heads}
use Rattle.loop_forest.specs.declared.heads.LoopWithExits.{LoopWithExits}
use Rattle.loop_forest.proofs.LoopNodes.{exit_is, exit_of}
use Rattle.loop_forest.proofs.FoundLemmas.{no_loop}

pub bases_start : (g : GraphOf) (loops : List LoopWithExits) → AreBases g loops [] 0
bases_start g loops = record { as_long = refl; each = λ k l. absurd (omega arith) }

pub bases_more : (g : GraphOf) (loops : List LoopWithExits) (table : List Bool) (n : ℕ) (b : Bool) → AreBases g loops table n → IsTrue b ↔ IsBaseOf g loops n → AreBases g loops (table ++ b ∷ []) (n + 1)
bases_more g loops table n b a is = record {
  as_long = length-append table (b ∷ []) ∙ ap (λ k. k + 1) a.as_long;
  each = λ k l. elim (cases_eq k n) [
    | inl q ↦
        let at : get_or (table ++ b ∷ []) k false ≡ b = ap (λ z. get_or (table ++ b ∷ []) z false) (q ∙ sym a.as_long) ∙ get_or-append_seam table b [] false in
        ((λ m. subst (λ (z : ℕ). IsBaseOf g loops z) (sym q) (is.0 (sym at ∙ m))), (λ d. at ∙ is.1 (subst (λ (z : ℕ). IsBaseOf g loops z) q d)))
    | inr m ↦
        let at : get_or (table ++ b ∷ []) k false ≡ get_or table k false = get_or_append_left table (b ∷ []) false k (omega (arith, a.as_long, m, l)) in
        let e = a.each k (omega arith) in
        ((λ t. e.0 (sym at ∙ t)), (λ d. at ∙ e.1 d))
  ];
}

-- how many edges lead to a node
abbrev pub incoming : GraphOf → ℕ → ℕ
incoming g n = length (preds_of g.edges n)

end_of : (g : GraphOf) (loops : List LoopWithExits) (h n : ℕ) → AreLoops g loops (length g.addrs) → Contains (heads loops) h → ((l : LoopWithExits) → IsLooped g l → l.body.head ≡ h → (n ≡ l.body.head) ⊎ Contains l.exits n) → IsEnd loops n
end_of g loops h n a c f =
    let p = place_of (heads loops) h c in
    let i : p.0 < length loops = omega (arith, p.1, length-map loops (λ (x : LoopWithExits). x.body.head)) in
    record { place = p.0; within = i; ends = λ l. f (get_or loops p.0 l) (a.each p.0 l i) (sym (get_or-map (λ (x : LoopWithExits). x.body.head) loops p.0 l 0 i) ∙ p.2) }

pub head_below : (g : GraphOf) (h : ℕ) → IsFlow g → IsHead (HasEdge g) g.entry h → h < length g.addrs
head_below g h f k = f.within k.source h k.back.edge

-- the bases of the code are those of the definition
pub base_is : (g : GraphOf) (loops : List LoopWithExits) (n : ℕ) → AreLoops g loops (length g.addrs) → IsBaseOf g loops n → IsBase (HasEdge g) g.entry (incoming g) n
base_is g loops n a (inl e) = subst (λ (z : ℕ). IsBase (HasEdge g) g.entry (incoming g) z) (sym e) Entry
base_is g loops n a (inr (inr j)) = Joined j
base_is g loops n a (inr (inl o)) =
    let is = a.each o.place no_loop o.within in
    elim (o.ends no_loop) [
      | inl e ↦ subst (λ (z : ℕ). IsBase (HasEdge g) g.entry (incoming g) z) (sym e) (Head is.body.is_head)
      | inr c ↦ Exit is.body.is_head (exit_is g g.entry _ _ n is.body (is.exits.exit n c))
    ]

pub base_of : (g : GraphOf) (loops : List LoopWithExits) (n : ℕ) → IsFlow g → AreLoops g loops (length g.addrs) → IsBase (HasEdge g) g.entry (incoming g) n → IsBaseOf g loops n
base_of g loops _ f a Entry = inl refl
base_of g loops n f a (Joined j) = inr (inr j)
base_of g loops n f a (Head k) = inr (inl (end_of g loops n n a (a.all n (head_below g n f k) k) (λ l is q. inl (sym q))))
base_of g loops n f a (Exit {h = h} k x) = inr (inl (end_of g loops h n a (a.all h (head_below g h f k) k)
    (λ l is q. inr (is.exits.all n (exit_of g g.entry l.body.head l.body.nodes n is.body (subst (λ (z : ℕ). IsExit (HasEdge g) g.entry z n) (sym q) x))))))

-- a node that is no base has one incoming edge at most
two_edges : (xs : List ℕ) (u v : ℕ) → (2 ≤ length xs → ⊥) → Contains xs u → Contains xs v → u ≡ v
two_edges xs u v few c d =
    let p = place_of xs u c in
    let q = place_of xs v d in
    elim (cases_eq p.0 q.0) [
      | inl e ↦ sym p.2 ∙ ap (λ k. get_or xs k 0) e ∙ q.2
      | inr n ↦ absurd (few (omega (arith, p.1, q.1, n)))
    ]

pub single : (g : GraphOf) (n u v : ℕ) → (IsBase (HasEdge g) g.entry (incoming g) n → ⊥) → HasEdge g u n → HasEdge g v n → u ≡ v
single g n u v out d e = two_edges (preds_of g.edges n) u v (λ j. out (Joined j)) (succ_pred g.edges u n d) (succ_pred g.edges v n e)

pub places_start : (g : GraphOf) (base : List Bool) → ArePlaces g base [] 0
places_start g base = record { as_long = refl; each = λ k l. absurd (omega arith) }

pub places_more : (g : GraphOf) (base : List Bool) (places : List ℕ) (n p : ℕ) → ArePlaces g base places n → StepsSinceCut (HasEdge g) (IsMarked base) n p → ArePlaces g base (places ++ p ∷ []) (n + 1)
places_more g base places n p a s = record {
  as_long = length-append places (p ∷ []) ∙ ap (λ k. k + 1) a.as_long;
  each = λ k l. elim (cases_eq k n) [
    | inl q ↦
        let at : get_or (places ++ p ∷ []) k 0 ≡ p = ap (λ z. get_or (places ++ p ∷ []) z 0) (q ∙ sym a.as_long) ∙ get_or-append_seam places p [] 0 in
        subst (λ (z : ℕ). StepsSinceCut (HasEdge g) (IsMarked base) k z) (sym at) (subst (λ (z : ℕ). StepsSinceCut (HasEdge g) (IsMarked base) z p) (sym q) s)
    | inr m ↦
        let at : get_or (places ++ p ∷ []) k 0 ≡ get_or places k 0 = get_or_append_left places (p ∷ []) 0 k (omega (arith, a.as_long, m, l)) in
        subst (λ (z : ℕ). StepsSinceCut (HasEdge g) (IsMarked base) k z) (sym at) (a.each k (omega arith))
  ];
}

-- what the table needs for places
pub has_bases : (g : GraphOf) (loops : List LoopWithExits) (marks : List Mark) (table : List Bool) → IsFlow g → AreLoops g loops (length g.addrs) → AreBases g loops table (length g.addrs)
    → IsPostOrder (HasEdge g) g.entry (λ x. number_of (mark_of marks x)) → ((x : ℕ) → number_of (mark_of marks x) ≤ length g.addrs) → HasBases g marks table
has_bases g loops marks table f a t s n = record {
  in_post_order = s;
  numbers = n;
  entry = (t.each g.entry f.entry).1 (inl refl);
  heads = λ h k. (t.each h (head_below g h f k)).1 (base_of g loops h f a (Head k));
  as_long = t.as_long;
}

-- places by one table are places by any other that says the same
pub stands_same : {E : ℕ → ℕ → Type 0} {P Q : ℕ → Type 0} → ((n : ℕ) → P n → Q n) → ((n : ℕ) → Q n → P n) → {n k : ℕ} → StepsSinceCut E P n k → StepsSinceCut E Q n k
stands_same to from (AtBase b) = AtBase (to _ b)
stands_same to from (After m d s q) = After (λ b. m (from _ b)) d (stands_same to from s) q

base_below : (g : GraphOf) (n : ℕ) → IsFlow g → IsBase (HasEdge g) g.entry (incoming g) n → n < length g.addrs
base_below g _ f Entry = f.entry
base_below g n f (Head k) = head_below g n f k
base_below g n f (Exit k x) = f.within x.from n x.edge
base_below g n f (Joined j) = f.within (get_or (preds_of g.edges n) 0 0) n (pred_succ g.edges _ n (node_at (preds_of g.edges n) 0 (omega arith)))

marked_below : (table : List Bool) (n : ℕ) → IsMarked table n → n < length table
marked_below table n m = elim (leb_tells (length table) n) [
  | inr t ↦ t.1
  | inl t ↦ absurd (true≢false (sym m ∙ get_or-eq_default table false {n = n} t.1))
]

-- the places are those of the definition; a cut is where the place is 0
pub places_are : (g : GraphOf) (loops : List LoopWithExits) (table : List Bool) (n k : ℕ) → IsFlow g → AreLoops g loops (length g.addrs) → AreBases g loops table (length g.addrs)
    → StepsSinceCut (HasEdge g) (IsMarked table) n k → StepsSinceCut (HasEdge g) (IsBase (HasEdge g) g.entry (incoming g)) n k
places_are g loops table n k f a t s = stands_same
    (λ m d. base_is g loops m a ((t.each m (let l = marked_below table m d in omega (arith, l, t.as_long))).0 d))
    (λ m d. (t.each m (base_below g m f d)).1 (base_of g loops m f a d)) s

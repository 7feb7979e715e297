-- The graph of reached code is one: its edges lie between its nodes, which are reached from its entry.
use Rattle.std.proofs.Common.{◌≡◌, ℕ, zero, suc, ◌+◌, ◌<◌, ◌≤◌, ◌≢◌, List, [], ◌∷◌, ◌++◌, inl, inr, length, get_or, map, refl, sym, ◌∙◌, ap, subst, arith, Bool, true, false, cond, eqb, Some, Ok, append-nil}
use Rattle.std.specs.List.{Contains}
use Rattle.std.proofs.lemmas.Bool.Decides.{eqb_tells, leb_tells}
use Rattle.std.proofs.lemmas.List.{get_or-map, length-map}
use Rattle.rv_words.specs.Bytes.{Bytes}
use Rattle.rvc.specs.Number.{number_in}
use Rattle.flow_graph.specs.Flow.{look, next, Next}
use Rattle.flow_graph.specs.Walks.{Way, Stop, Leave, AnyNode}
use Rattle.flow_graph.specs.Graph.{GraphOf, HasEdge, IsFlow, IsGraphOf, edge_to, edges_from, number, succs_of}
use Rattle.flow_graph.proofs.Ways.{place_of, node_at}
use Rattle.flow_graph.proofs.NumberLemmas.{different_from_rising, number_at, number_within}
use Rattle.flow_graph.proofs.BuildLemmas.{closed_from_reach}

append_if : (t : Bool) (x : ℕ) (xs ys zs : List ℕ) → xs ≡ ys ++ zs → cond t (x ∷ xs) xs ≡ cond t (x ∷ ys) ys ++ zs
append_if true x xs ys zs e = ap (λ l. x ∷ l) e
append_if false x xs ys zs e = e

pub succs_append : (xs ys : List (ℕ × ℕ)) (n : ℕ) → succs_of (xs ++ ys) n ≡ succs_of xs n ++ succs_of ys n
succs_append [] ys n = refl
succs_append (e ∷ es) ys n = append_if (eqb e.0 n) e.1 (succs_of (es ++ ys) n) (succs_of es n) (succs_of ys n) (succs_append es ys n)

same_true : (n : ℕ) → eqb n n ≡ true
same_true n = elim (eqb_tells n n) [ inl t ↦ t.0 | inr t ↦ absurd (t.1 refl) ]

other_false : (n m : ℕ) → n ≢ m → eqb n m ≡ false
other_false n m d = elim (eqb_tells n m) [ inl t ↦ absurd (d t.1) | inr t ↦ t.0 ]

succs_own : (all : List ℕ) (n : ℕ) (bs : List ℕ) → succs_of (map (edge_to all n) bs) n ≡ map (number all) bs
succs_own all n [] = refl
succs_own all n (b ∷ bs) = (λ i. cond (same_true n i) (number all b ∷ succs_own all n bs i) (succs_own all n bs i))

succs_other : (all : List ℕ) (n m : ℕ) (bs : List ℕ) → n ≢ m → succs_of (map (edge_to all n) bs) m ≡ []
succs_other all n m [] d = refl
succs_other all n m (b ∷ bs) d = (λ i. cond (other_false n m d i) (number all b ∷ succs_of (map (edge_to all n) bs) m) (succs_other all n m bs d i))

row_below : (leads : ℕ → List ℕ) (all : List ℕ) (n m : ℕ) (rest : List ℕ) → m < n → succs_of (edges_from leads all n rest) m ≡ []
row_below leads all n m [] l = refl
row_below leads all n m (a ∷ rest) l =
    succs_append (map (edge_to all n) (leads a)) (edges_from leads all (n + 1) rest) m
    ∙ (λ i. succs_other all n m (leads a) (λ q. absurd (omega arith)) i ++ row_below leads all (n + 1) m rest (omega arith) i)

row_above : (leads : ℕ → List ℕ) (all : List ℕ) (n m : ℕ) (rest : List ℕ) → n + length rest ≤ m → succs_of (edges_from leads all n rest) m ≡ []
row_above leads all n m [] l = refl
row_above leads all n m (a ∷ rest) l =
    succs_append (map (edge_to all n) (leads a)) (edges_from leads all (n + 1) rest) m
    ∙ (λ i. succs_other all n m (leads a) (λ q. absurd (omega arith)) i ++ row_above leads all (n + 1) m rest (omega arith) i)

row_from : (leads : ℕ → List ℕ) (all : List ℕ) (n m k : ℕ) (rest : List ℕ) → k < length rest → m ≡ n + k → succs_of (edges_from leads all n rest) m ≡ map (number all) (leads (get_or rest k 0))
row_from leads all n m k [] l e = absurd (omega arith)
row_from leads all n m zero (a ∷ rest) l e =
    let same : m ≡ n = omega arith in
    succs_append (map (edge_to all n) (leads a)) (edges_from leads all (n + 1) rest) m
    ∙ (λ i. (ap (succs_of (map (edge_to all n) (leads a))) same ∙ succs_own all n (leads a)) i ++ row_below leads all (n + 1) m rest (omega arith) i)
    ∙ append-nil (map (number all) (leads a))
row_from leads all n m (suc k) (a ∷ rest) l e =
    succs_append (map (edge_to all n) (leads a)) (edges_from leads all (n + 1) rest) m
    ∙ (λ i. succs_other all n m (leads a) (λ q. absurd (omega arith)) i ++ row_from leads all (n + 1) m k rest (omega arith) (omega arith) i)

-- the successors of a node are the numbers of its address's successors
pub row_is : (leads : ℕ → List ℕ) (all : List ℕ) (n : ℕ) → n < length all → succs_of (edges_from leads all 0 all) n ≡ map (number all) (leads (get_or all n 0))
row_is leads all n l = row_from leads all 0 n n all l (omega arith)

contains_map : (f : ℕ → ℕ) (xs : List ℕ) (x : ℕ) → Contains xs x → Contains (map f xs) (f x)
contains_map f xs x c =
    let p = place_of xs x c in
    subst (λ (z : ℕ). Contains (map f xs) z) (get_or-map f xs p.0 0 0 p.1 ∙ ap f p.2) (node_at (map f xs) p.0 (omega (arith, length-map xs f, p.1)))

contains_unmap : (f : ℕ → ℕ) (xs : List ℕ) (y : ℕ) → Contains (map f xs) y → (x : ℕ) × Contains xs x × (f x ≡ y)
contains_unmap f xs y c =
    let p = place_of (map f xs) y c in
    let l : p.0 < length xs = omega (arith, length-map xs f, p.1) in
    (get_or xs p.0 0, node_at xs p.0 l, sym (get_or-map f xs p.0 0 0 l) ∙ p.2)

-- an edge is a successor
pub edge_is : (linked : Bool) (code : Bytes) (e : ℕ) (g : GraphOf) → IsGraphOf linked code e g → (u v : ℕ) → HasEdge g u v → (u < length g.addrs) × (b : ℕ) × Next linked code (get_or g.addrs u 0) b × (number g.addrs b ≡ v)
edge_is linked code e g r u v d = elim (leb_tells (length g.addrs) u) [
  | inl t ↦
      let none = subst (λ (xs : List ℕ). Contains xs v) (ap (λ es. succs_of es u) r.edges ∙ row_above (next linked code) g.addrs 0 u g.addrs (omega (arith, t.1))) d in
      absurd (omega (arith, none.1))
  | inr t ↦
      let c = contains_unmap (number g.addrs) (next linked code (get_or g.addrs u 0)) v (subst (λ (xs : List ℕ). Contains xs v) (ap (λ es. succs_of es u) r.edges ∙ row_is (next linked code) g.addrs u t.1) d) in
      (t.1, c.0, c.1, c.2)
]

-- a successor is an edge
pub edge_of : (linked : Bool) (code : Bytes) (e : ℕ) (g : GraphOf) → IsGraphOf linked code e g → (u b : ℕ) → u < length g.addrs → Next linked code (get_or g.addrs u 0) b → HasEdge g u (number g.addrs b)
edge_of linked code e g r u b l d =
    subst (λ (xs : List ℕ). Contains xs (number g.addrs b)) (sym (ap (λ es. succs_of es u) r.edges ∙ row_is (next linked code) g.addrs u l)) (contains_map (number g.addrs) (next linked code (get_or g.addrs u 0)) b d)

-- a walk along successors is one along edges
walk_of : (linked : Bool) (code : Bytes) (e : ℕ) (g : GraphOf) → IsGraphOf linked code e g → {a b : ℕ} → Way (Next linked code) AnyNode a b → Contains g.addrs a → Way (HasEdge g) AnyNode (number g.addrs a) (number g.addrs b)
walk_of linked code e g r Stop c = Stop
walk_of linked code e g r (Leave {a = a} {c = m} p d w) c =
    let at = number_within g.addrs a c in
    Leave tt (edge_of linked code e g r (number g.addrs a) m at.0 (subst (λ (z : ℕ). Next linked code z m) (sym at.1) d)) (walk_of linked code e g r w (closed_from_reach linked code e g.addrs r.reach a m c d))

pub is_flow : (linked : Bool) (code : Bytes) (e : ℕ) (g : GraphOf) → IsGraphOf linked code e g → IsFlow g
is_flow linked code e g r = record {
  entry = let at = (number_within g.addrs e (r.reach.all e Stop)).0 in subst (λ (z : ℕ). z < length g.addrs) (sym r.entry) at;
  few = r.few;
  rising = r.rising;
  as_long = sym (length-map g.instrs (λ i. Ok i)) ∙ ap length r.instrs ∙ length-map g.addrs (look linked code);
  as_many = sym (length-map g.numbers (λ w. Some w)) ∙ ap length r.numbers ∙ length-map g.addrs (number_in code);
  source = λ u v d. (edge_is linked code e g r u v d).0;
  within = λ u v d.
      let c = edge_is linked code e g r u v d in
      let there = closed_from_reach linked code e g.addrs r.reach (get_or g.addrs u 0) c.1 (node_at g.addrs u c.0) c.2 in
      subst (λ (z : ℕ). z < length g.addrs) c.3 (number_within g.addrs c.1 there).0;
  reached = λ n l.
      let w = walk_of linked code e g r (r.reach.reached (get_or g.addrs n 0) (node_at g.addrs n l)) (r.reach.all e Stop) in
      subst (λ (z : ℕ). Way (HasEdge g) AnyNode z n) (sym r.entry)
      (subst (λ (z : ℕ). Way (HasEdge g) AnyNode (number g.addrs e) z) (number_at g.addrs (different_from_rising g.addrs r.rising) n (get_or g.addrs n 0) l refl) w);
}

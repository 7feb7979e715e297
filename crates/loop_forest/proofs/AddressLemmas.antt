-- Two entries at nodes are two entries at addresses.
use Rattle.std.proofs.Common.{◌≡◌, ℕ, ◌+◌, ◌-◌, ◌<◌, List, length, get_or, map, inl, inr, refl, sym, ◌∙◌, ap, subst, arith, Bool}
use Rattle.std.specs.List.{Contains}
use Rattle.std.proofs.lemmas.List.{get_or-map, length-map}
use Rattle.std.proofs.lemmas.Bool.Decides.{leb_tells}
use Rattle.rv_words.specs.Bytes.{Bytes}
use Rattle.flow_graph.specs.Flow.{Next}
use Rattle.flow_graph.specs.Graph.{GraphOf, HasEdge, IsFlow, IsGraphOf, number}
use Rattle.flow_graph.specs.Walks.{Reaches, Stop}
use Rattle.loop_forest.specs.Cycles.{IsLinked, IsCycle, Enters, ShowsTwoEntries, TwoEntries, last_of}
use Rattle.loop_forest.specs.Loops.{IsPostOrder}
use Rattle.flow_graph.proofs.Ways.{place_of, node_at}
use Rattle.flow_graph.proofs.NumberLemmas.{different_from_rising, number_at, number_within}
use Rattle.flow_graph.proofs.FlowLemmas.{edge_is, is_flow}
use Rattle.flow_graph.proofs.BuildLemmas.{closed_from_reach}
use Rattle.loop_forest.specs.Addresses.{GoesTo, entry_at}
use Rattle.loop_forest.proofs.AddressOrders.{Numbers, lifted}
use Rattle.loop_forest.proofs.OneEntry.{none_with_two_entries}

module _ (A B : ℕ → ℕ → Type 0) (addr : ℕ → ℕ) (n : ℕ)
    (forward : (u v : ℕ) → A u v → B (addr u) (addr v))
    (nodes : (u v : ℕ) → A u v → (u < n) × (v < n))
    (same : (u v : ℕ) → u < n → v < n → addr u ≡ addr v → u ≡ v)
  where
    at : (w : List ℕ) (k : ℕ) → k < length w → get_or (map addr w) k 0 ≡ addr (get_or w k 0)
    at w k l = get_or-map addr w k 0 0 l

    last_at : (w : List ℕ) → 0 < length w → last_of (map addr w) ≡ addr (last_of w)
    last_at w some = ap (λ m. get_or (map addr w) (m - 1) 0) (length-map w addr) ∙ at w (length w - 1) (omega arith)

    linked : (w : List ℕ) → IsLinked A w → IsLinked B (map addr w)
    linked w l k h =
        let long : length (map addr w) ≡ length w = length-map w addr in
        subst (λ (z : ℕ). B z (get_or (map addr w) (k + 1) 0)) (sym (at w k (omega arith)))
        (subst (λ (z : ℕ). B (addr (get_or w k 0)) z) (sym (at w (k + 1) (omega arith))) (forward _ _ (l k (omega arith))))

    -- a node of a cycle is one
    cycle_node : (c : List ℕ) → IsCycle A c → (k : ℕ) → k < length c → get_or c k 0 < n
    cycle_node c i k l = elim (leb_tells (length c) (k + 1)) [
      | inl t ↦ (let e : length c - 1 ≡ k = omega (arith, t.1) in subst (λ (z : ℕ). get_or c z 0 < n) e (nodes _ _ i.closed).0)
      | inr t ↦ (nodes _ _ (i.linked k t.1)).0
    ]

    cycle_at : (c : List ℕ) → IsCycle A c → IsCycle B (map addr c)
    cycle_at c i =
        let long : length (map addr c) ≡ length c = length-map c addr in
        let some : 0 < length c = i.some in
        record {
          some = omega arith;
          linked = linked c i.linked;
          closed = subst (λ (z : ℕ). B z (get_or (map addr c) 0 0)) (sym (last_at c some)) (subst (λ (z : ℕ). B (addr (last_of c)) z) (sym (at c 0 some)) (forward _ _ i.closed));
          different = λ j k l h q. i.different j k l (omega arith)
              (same _ _ (cycle_node c i j (omega arith)) (cycle_node c i k (omega arith)) (sym (at c j (omega arith)) ∙ q ∙ at c k (omega arith)));
        }

    -- a walk enters at addresses where it does at nodes
    enters_at : (c w : List ℕ) (a : ℕ) → IsCycle A c → Enters A c a w → Enters B (map addr c) (addr a) (map addr w)
    enters_at c w a i e =
        let long : length (map addr w) ≡ length w = length-map w addr in
        let some : 0 < length w = e.some in
        record {
          some = omega arith;
          starts = at w 0 some ∙ ap addr e.starts;
          linked = linked w e.linked;
          apart = λ k h d.
              let p = place_of (map addr c) (get_or (map addr w) k 0) d in
              let l : p.0 < length c = omega (arith, p.1, length-map c addr) in
              let below : k + 1 < length w = omega arith in
              let q : get_or c p.0 0 ≡ get_or w k 0 = same _ _ (cycle_node c i p.0 l) (nodes _ _ (e.linked k below)).0 (sym (at c p.0 l) ∙ p.2 ∙ at w k (omega arith)) in
              e.apart k below (subst (λ (z : ℕ). Contains c z) q (node_at c p.0 l));
          ends =
              let p = place_of c (last_of w) e.ends in
              subst (λ (z : ℕ). Contains (map addr c) z) (at c p.0 p.1 ∙ ap addr p.2 ∙ sym (last_at w some)) (node_at (map addr c) p.0 (omega (arith, p.1, length-map c addr)));
        }

    pub shows_at : (a : ℕ) (c f s : List ℕ) → a < n → ShowsTwoEntries A a c f s → ShowsTwoEntries B (addr a) (map addr c) (map addr f) (map addr s)
    shows_at a c f s l t = record {
      cycle_is = cycle_at c t.cycle_is;
      enters_first = enters_at c f a t.cycle_is t.enters_first;
      enters_second = enters_at c s a t.cycle_is t.enters_second;
      differ = λ q. t.differ (same _ _ (on_cycle (last_of f) t.enters_first.ends) (on_cycle (last_of s) t.enters_second.ends) (sym (last_at f t.enters_first.some) ∙ q ∙ last_at s t.enters_second.some));
    }
      where
        on_cycle : (x : ℕ) → Contains c x → x < n
        on_cycle x d = let p = place_of c x d in subst (λ (z : ℕ). z < n) p.2 (cycle_node c t.cycle_is p.0 p.1)

-- ---- the graph's own edges at addresses, and the code's

addr_same : (g : GraphOf) → IsFlow g → (u v : ℕ) → u < length g.addrs → v < length g.addrs → get_or g.addrs u 0 ≡ get_or g.addrs v 0 → u ≡ v
addr_same g f u v l h q =
    let d = different_from_rising g.addrs f.rising in
    sym (number_at g.addrs d u (get_or g.addrs u 0) l refl) ∙ number_at g.addrs d v (get_or g.addrs u 0) h (sym q)

pub graph_shows : (g : GraphOf) (c f s : List ℕ) → IsFlow g → ShowsTwoEntries (HasEdge g) g.entry c f s → ShowsTwoEntries (GoesTo g) (entry_at g) (map (λ u. get_or g.addrs u 0) c) (map (λ u. get_or g.addrs u 0) f) (map (λ u. get_or g.addrs u 0) s)
graph_shows g c f s flow t =
    shows_at (HasEdge g) (GoesTo g) (λ u. get_or g.addrs u 0) (length g.addrs) (λ u v d. record { from = u; to = v; edge = d; at_from = refl; at_to = refl })
    (λ u v d. (flow.source u v d, flow.within u v d)) (addr_same g flow) g.entry c f s flow.entry t

reached_node : (g : GraphOf) → IsFlow g → (u : ℕ) → Reaches (HasEdge g) g.entry u → u < length g.addrs
reached_node g f u w = go w f.entry
  where
    go : {a b : ℕ} → Reaches (HasEdge g) a b → a < length g.addrs → b < length g.addrs
    go Stop l = l
    go (Rattle.flow_graph.specs.Walks.Leave {a = a} {c = c} p d w) l = go w (f.within a c d)

graph_numbers : (g : GraphOf) → IsFlow g → Numbers (HasEdge g) (GoesTo g) g.entry (λ u. get_or g.addrs u 0) (number g.addrs)
graph_numbers g f = record {
  back = λ u b r d.
      let q : d.from ≡ u = addr_same g f d.from u (f.source d.from d.to d.edge) (reached_node g f u r) d.at_from in
      (d.to, subst (λ (z : ℕ). HasEdge g z d.to) q d.edge, d.at_to);
  same = λ u r. number_at g.addrs (different_from_rising g.addrs f.rising) u (get_or g.addrs u 0) (reached_node g f u r) refl;
}

pub graph_in_post_order : (g : GraphOf) (left : ℕ → ℕ) → IsFlow g → IsPostOrder (HasEdge g) g.entry left → TwoEntries (GoesTo g) (entry_at g) → ⊥
graph_in_post_order g left f s = none_with_two_entries (entry_at g) (λ a. left (number g.addrs a)) (lifted (HasEdge g) (GoesTo g) g.entry (λ u. get_or g.addrs u 0) (number g.addrs) left (graph_numbers g f) s)

-- the same for the successors in the code
code_numbers : (linked : Bool) (code : Bytes) (e : ℕ) (g : GraphOf) → IsGraphOf linked code e g → Numbers (HasEdge g) (Next linked code) g.entry (λ u. get_or g.addrs u 0) (number g.addrs)
code_numbers linked code e g r = record {
  back = λ u b w d.
      let f = is_flow linked code e g r in
      let l = reached_node g f u w in (
        number g.addrs b,
        Rattle.flow_graph.proofs.FlowLemmas.edge_of linked code e g r u b l d,
        (number_within g.addrs b (closed_from_reach linked code e g.addrs r.reach (get_or g.addrs u 0) b (node_at g.addrs u l) d)).1,
      );
  same = λ u w. number_at g.addrs (different_from_rising g.addrs r.rising) u (get_or g.addrs u 0) (reached_node g (is_flow linked code e g r) u w) refl;
}

pub entry_is : (linked : Bool) (code : Bytes) (e : ℕ) (g : GraphOf) → IsGraphOf linked code e g → entry_at g ≡ e
entry_is linked code e g r = ap (λ n. get_or g.addrs n 0) r.entry ∙ (number_within g.addrs e (r.reach.all e Stop)).1

pub code_in_post_order : (linked : Bool) (code : Bytes) (e : ℕ) (g : GraphOf) (left : ℕ → ℕ) → IsGraphOf linked code e g → IsPostOrder (HasEdge g) g.entry left → TwoEntries (Next linked code) e → ⊥
code_in_post_order linked code e g left r s t =
    none_with_two_entries (entry_at g) (λ a. left (number g.addrs a)) (lifted (HasEdge g) (Next linked code) g.entry (λ u. get_or g.addrs u 0) (number g.addrs) left (code_numbers linked code e g r) s)
    (subst (λ (z : ℕ). TwoEntries (Next linked code) z) (sym (entry_is linked code e g r)) t)

-- what the graph shows, the code does
goes_next : (linked : Bool) (code : Bytes) (e : ℕ) (g : GraphOf) → IsGraphOf linked code e g → (a b : ℕ) → GoesTo g a b → Next linked code a b
goes_next linked code e g r a b d =
    let s = edge_is linked code e g r d.from d.to d.edge in
    let there = closed_from_reach linked code e g.addrs r.reach (get_or g.addrs d.from 0) s.1 (node_at g.addrs d.from s.0) s.2 in
    let q : s.1 ≡ b = sym (number_within g.addrs s.1 there).1 ∙ ap (λ n. get_or g.addrs n 0) s.3 ∙ d.at_to in
    subst (λ (z : ℕ). Next linked code z b) d.at_from (subst (λ (z : ℕ). Next linked code (get_or g.addrs d.from 0) z) q s.2)

enters_more : (A B : ℕ → ℕ → Type 0) → ((a b : ℕ) → A a b → B a b) → (c w : List ℕ) (a : ℕ) → Enters A c a w → Enters B c a w
enters_more A B f c w a e = record { some = e.some; starts = e.starts; linked = λ k h. f _ _ (e.linked k h); apart = e.apart; ends = e.ends }

pub shows_code : (linked : Bool) (code : Bytes) (e : ℕ) (g : GraphOf) (c f s : List ℕ) → IsGraphOf linked code e g → ShowsTwoEntries (GoesTo g) (entry_at g) c f s → ShowsTwoEntries (Next linked code) e c f s
shows_code linked code e g c f s r t = subst (λ (z : ℕ). ShowsTwoEntries (Next linked code) z c f s) (entry_is linked code e g r) (record {
  cycle_is = record { some = t.cycle_is.some; linked = λ k h. goes_next linked code e g r _ _ (t.cycle_is.linked k h); closed = goes_next linked code e g r _ _ t.cycle_is.closed; different = t.cycle_is.different };
  enters_first = enters_more (GoesTo g) (Next linked code) (goes_next linked code e g r) c f (entry_at g) t.enters_first;
  enters_second = enters_more (GoesTo g) (Next linked code) (goes_next linked code e g r) c s (entry_at g) t.enters_second;
  differ = t.differ;
})

-- all nodes of the three lists are nodes of the graph
pub linked_nodes : (g : GraphOf) (w : List ℕ) (m : ℕ) → IsFlow g → IsLinked (HasEdge g) w → last_of w ≡ m → m < length g.addrs → (u : ℕ) → Contains w u → u < length g.addrs
linked_nodes g w m f l q below u c =
    let p = place_of w u c in
    elim (leb_tells (length w) (p.0 + 1)) [
      | inl t ↦ (let e : length w - 1 ≡ p.0 = omega (arith, t.1, p.1) in
          let same : m ≡ u = sym q ∙ ap (λ k. get_or w k 0) e ∙ p.2 in subst (λ (z : ℕ). z < length g.addrs) same below)
      | inr t ↦ subst (λ (z : ℕ). z < length g.addrs) p.2 (f.source _ _ (l p.0 t.1))
    ]

pub cycle_nodes : (g : GraphOf) (c : List ℕ) → IsFlow g → IsCycle (HasEdge g) c → (u : ℕ) → Contains c u → u < length g.addrs
cycle_nodes g c f i = linked_nodes g c (last_of c) f i.linked refl (f.source _ _ i.closed)

pub walk_nodes : (g : GraphOf) (c w : List ℕ) (a : ℕ) → IsFlow g → IsCycle (HasEdge g) c → Enters (HasEdge g) c a w → (u : ℕ) → Contains w u → u < length g.addrs
walk_nodes g c w a f i e = linked_nodes g w (last_of w) f e.linked refl (cycle_nodes g c f i (last_of w) e.ends)

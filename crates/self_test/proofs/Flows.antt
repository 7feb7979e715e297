-- The flow of a program.
use Rattle.std.proofs.Common.{◌≡◌, ◌≢◌, ℕ, ◌+◌, ◌-◌, ◌/◌, ◌<◌, ◌≤◌, inl, inr, pos, List, [], ◌∷◌, length, map, get_or, Ok, refl, sym, ap, subst, ◌∙◌, arith, false}
use Rattle.std.specs.List.{Contains}
use Rattle.std.specs.Prelude.{All}
use Rattle.std.proofs.lemmas.Bool.Decides.{leb_tells}
use Rattle.std.proofs.lemmas.List.{get_or-map, length-map}
use Rattle.std.proofs.lemmas.List.Elements.{All-from_get_or}
use Rattle.rv_words.specs.Bytes.{Bytes}
use Rattle.rv_decode.specs.declared.instruction.Instr.{Instr}
use Rattle.rv_decode.specs.declared.instruction.Instr.TheVariants.{Jalr}
use Rattle.flow_graph.specs.Flow.{length_in, look, leads, Next}
use Rattle.flow_graph.specs.Walks.{Reaches}
use Rattle.flow_graph.specs.Reach.{IsFault, Large, Least, ReachesOver, reach_limit}
use Rattle.flow_graph.specs.Graph.{GraphOf, IsFlow, IsGraphOf, number}
use Rattle.flow_graph.specs.declared.outside.Outside.{Outside}
use Rattle.flow_graph.specs.declared.outside.Outside.TheVariants.{NoSuch, Ambiguous, TooLarge, OutsideCode, NotDecoded, Environment, Call, JumpThrough, Misaligned, TwoEntries as Entries, ManyExits}
use Rattle.flow_graph.proofs.BuildLemmas.{ok_err, closed_from_reach}
use Rattle.flow_graph.proofs.ExactLemmas.{reached_least}
use Rattle.flow_graph.proofs.FlowLemmas.{edge_is, edge_of, is_flow}
use Rattle.flow_graph.proofs.NumberLemmas.{number_within, number_at, different_from_rising}
use Rattle.flow_graph.proofs.VisitedLemmas.{few_from_distinct}
use Rattle.flow_graph.proofs.Ways.{node_at}
use Rattle.loop_forest.specs.Forest.{IsForestFault}
use Rattle.loop_forest.specs.Cycles.{TwoEntries}
use Rattle.loop_forest.proofs.AddressLemmas.{graph_in_post_order, code_in_post_order, entry_is}
use Rattle.loop_forest.proofs.FoundLemmas.{different_distinct}
use Rattle.code_gen.specs.Pieces.{Pieces, drawn}
use Rattle.code_gen.specs.Program.{code, instructions}
use Rattle.code_gen.specs.Structure.{AreShaped, EachAt, IsWordAt}
use Rattle.code_gen.specs.ElfFile.{start}
use Rattle.code_gen.proofs.SizeLemmas.{count, drawn-count}
use Rattle.code_gen.proofs.ShapeLemmas.{drawn-shaped}
use Rattle.code_gen.proofs.TargetLemmas.{each-split}
use Rattle.self_test.proofs.Edges.{Edge, edge-within}
use Rattle.self_test.proofs.Leads.{Ground, at, Leads, all-lead, looked, none-there}
use Rattle.self_test.proofs.Loops.{Laid, in_post_order, few-exits}

-- the return
abbrev return : Instr
return = Jalr 0 1 (pos 0)

-- a program of pieces stands in these bytes
record Standing (bytes : Bytes) (p : Pieces) : Type 0 where
  shaped : AreShaped 0 p
  few : count 0 p ≤ 1000
  words : EachAt (IsWordAt bytes start) 0 (code 0 p)
  last : IsWordAt bytes start (count 0 p) return

ground : (p : Pieces) → count 0 p ≤ 1000 → Ground start (count 0 p + 1)
ground p h = record { even = refl; room = omega (arith, h) }

leads-at : (bytes : Bytes) (p : Pieces) → Standing bytes p → (u : ℕ) → u < count 0 p → Leads bytes start u (λ v. Edge 0 p 0 u v)
leads-at bytes p s u h =
    all-lead bytes start (count 0 p + 1) 0 p 0 (ground p s.few) s.shaped (omega arith) s.words u (omega arith) (omega (arith, h))

returns-at : (bytes : Bytes) (p : Pieces) → Standing bytes p → look false bytes (at start (count 0 p)) ≡ Ok return
returns-at bytes p s = looked bytes start (count 0 p + 1) (count 0 p) return (ground p s.few) (omega arith) s.last refl

-- no place is refused
found : (bytes : Bytes) (p : Pieces) → Standing bytes p → (u : ℕ) → u ≤ count 0 p → (i : Instr) × (look false bytes (at start u) ≡ Ok i)
found bytes p s u h = elim (leb_tells (count 0 p) u) [
  | inl t ↦ let e : count 0 p ≡ u = omega (arith, t.1, h) in (return, (λ j. look false bytes (at start (sym e j))) ∙ returns-at bytes p s)
  | inr t ↦ let l = leads-at bytes p s u t.1 in (l.instr, l.fine)
]

-- the edges from a place
record Goes (p : Pieces) (u a : ℕ) : Type 0 where
  place : ℕ
  is : a ≡ at start place
  edge : Edge 0 p 0 u place

goes : (bytes : Bytes) (p : Pieces) → Standing bytes p → (u a : ℕ) → u ≤ count 0 p → Next false bytes (at start u) a → Goes p u a
goes bytes p s u a h c = elim (leb_tells (count 0 p) u) [
  | inl t ↦
      let e : count 0 p ≡ u = omega (arith, t.1, h) in
      let none : look false bytes (at start u) ≡ Ok return = (λ j. look false bytes (at start (sym e j))) ∙ returns-at bytes p s in
      none-there a (subst (λ ts. Contains ts a) (λ j. leads (at start u) (length_in bytes (at start u)) (none j)) c)
  | inr t ↦
      let l = leads-at bytes p s u t.1 in
      let r = l.leads a (subst (λ ts. Contains ts a) (λ j. leads (at start u) (l.long j) (l.fine j)) c) in
      record { place = r.0; is = r.1; edge = r.2 }
]

goes-on : (bytes : Bytes) (p : Pieces) → Standing bytes p → (u : ℕ) → u < count 0 p → (v : ℕ) × (u < v) × Next false bytes (at start u) (at start v)
goes-on bytes p s u h =
    let l = leads-at bytes p s u h in
    (l.on.0, l.on.1, subst (λ ts. Contains ts (at start l.on.0)) (sym (λ j. leads (at start u) (l.long j) (l.fine j))) l.on.2)

-- what is reached is a place
record IsPlace (p : Pieces) (a : ℕ) : Type 0 where
  place : ℕ
  is : a ≡ at start place
  most : place ≤ count 0 p

reached : (bytes : Bytes) (p : Pieces) → Standing bytes p → (a : ℕ) → Reaches (Next false bytes) start a → IsPlace p a
reached bytes p s a w =
    reached_least false bytes (IsPlace p)
    (λ x y h c.
    let r = goes bytes p s h.place y h.most (subst (λ z. Next false bytes z y) h.is c) in
    record { place = r.place; is = r.is; most = let l = edge-within 0 p 0 h.place r.place r.edge in omega (arith, l.last) })
    w (record { place = 0; is = refl; most = omega arith })

-- the number of a place
abbrev place_of_address : ℕ → ℕ
place_of_address a = (a - start) / 4

place-is : (k : ℕ) → place_of_address (at start k) ≡ k
place-is k = omega arith

-- ---- no fault

never-large : (bytes : Bytes) (p : Pieces) → Standing bytes p → ReachesOver (Next false bytes) start reach_limit → ⊥
never-large bytes p s o =
    let xs : List ℕ = o.some in
    let ks : List ℕ = map place_of_address xs in
    let long : length ks ≡ length xs = length-map xs place_of_address in
    let there : (j : ℕ) → j < length xs → IsPlace p (get_or xs j 0) = (λ j h. reached bytes p s (get_or xs j 0) (o.reached (get_or xs j 0) (node_at xs j h))) in
    let each : (j : ℕ) (h : j < length xs) → get_or ks j 0 ≡ (there j h).place =
    (λ j h. get_or-map place_of_address xs j 0 0 h ∙ ap place_of_address (there j h).is ∙ place-is (there j h).place) in
    let apart : (j k : ℕ) → j < k → k < length ks → get_or ks j 0 ≢ get_or ks k 0 = (λ j k l h e.
    let hk : k < length xs = omega (arith, h, long) in
    let hj : j < length xs = omega (arith, l, hk) in
    let one : (there j hj).place ≡ (there k hk).place = sym (each j hj) ∙ e ∙ each k hk in
    o.different j k l hk ((there j hj).is ∙ (λ i. at start (one i)) ∙ sym (there k hk).is)) in
    let below : All (λ x. x < count 0 p + 1) ks = All-from_get_or (λ x. x < count 0 p + 1) ks 0 (λ i h.
    let hi : i < length xs = omega (arith, h, long) in
    let e : get_or ks i 0 ≡ (there i hi).place = each i hi in
    omega (arith, e, (there i hi).most)) in
    let few : length ks ≤ count 0 p + 1 = few_from_distinct ks (different_distinct ks apart) (count 0 p + 1) below in
    let over : reach_limit < length xs = o.over in
    omega (arith, few, long, over, s.few)

not-refused : (bytes : Bytes) (p : Pieces) → Standing bytes p → (why : Outside) → IsFault false bytes start why → ⊥
not-refused bytes p s _ (Large o) = never-large bytes p s o
not-refused bytes p s _ (Least {a = a} {why = why} none l) =
    let h = reached bytes p s a l.reached in
    let f = found bytes p s h.place h.most in
    ok_err f.0 why (sym f.1 ∙ (λ j. look false bytes (sym h.is j)) ∙ l.fault)

-- ---- the graph

laid : (bytes : Bytes) (p : Pieces) → Standing bytes p → (g : GraphOf) → IsGraphOf false bytes start g → Laid p g (λ u. place_of_address (get_or g.addrs u 0))
laid bytes p s g r =
    let flow : IsFlow g = is_flow false bytes start g r in
    let there : (u : ℕ) → u < length g.addrs → IsPlace p (get_or g.addrs u 0) =
    (λ u h. reached bytes p s (get_or g.addrs u 0) (r.reach.reached (get_or g.addrs u 0) (node_at g.addrs u h))) in
    let is : (u : ℕ) (h : u < length g.addrs) → place_of_address (get_or g.addrs u 0) ≡ (there u h).place =
    (λ u h. ap place_of_address (there u h).is ∙ place-is (there u h).place) in
    let back : (u : ℕ) → u < length g.addrs → get_or g.addrs u 0 ≡ at start (place_of_address (get_or g.addrs u 0)) =
    (λ u h. (there u h).is ∙ (λ j. at start (sym (is u h) j))) in
    record {
      flow = flow;
      most = λ u h. let e = is u h in omega (arith, e, (there u h).most);
      same = λ u v hu hv e.
          let one : get_or g.addrs u 0 ≡ get_or g.addrs v 0 = back u hu ∙ (λ j. at start (e j)) ∙ sym (back v hv) in
          sym (number_at g.addrs (different_from_rising g.addrs flow.rising) u (get_or g.addrs u 0) hu refl)
          ∙ number_at g.addrs (different_from_rising g.addrs flow.rising) v (get_or g.addrs u 0) hv (sym one);
      edge = λ u v d.
          let x = edge_is false bytes start g r u v d in
          let hu : u < length g.addrs = x.0 in
          let go = goes bytes p s (there u hu).place x.1 (there u hu).most (subst (λ z. Next false bytes z x.1) (there u hu).is x.2) in
          let within = number_within g.addrs x.1 (closed_from_reach false bytes start g.addrs r.reach (get_or g.addrs u 0) x.1 (node_at g.addrs u hu) x.2) in
          let address : get_or g.addrs v 0 ≡ at start go.place = (λ j. get_or g.addrs (sym x.3 j) 0) ∙ within.1 ∙ go.is in
          let to : place_of_address (get_or g.addrs v 0) ≡ go.place = ap place_of_address address ∙ place-is go.place in
          subst (λ k. Edge 0 p 0 (place_of_address (get_or g.addrs u 0)) k) (sym to)
          (subst (λ k. Edge 0 p 0 k go.place) (sym (is u hu)) go.edge);
      on = λ u hu low.
          let e = is u hu in
          let x = goes-on bytes p s (there u hu).place (omega (arith, e, low)) in
          let next : Next false bytes (get_or g.addrs u 0) (at start x.0) = subst (λ z. Next false bytes z (at start x.0)) (sym (there u hu).is) x.2 in
          let within = number_within g.addrs (at start x.0) (closed_from_reach false bytes start g.addrs r.reach (get_or g.addrs u 0) (at start x.0) (node_at g.addrs u hu) next) in
          let to : place_of_address (get_or g.addrs (number g.addrs (at start x.0)) 0) ≡ x.0 = ap place_of_address within.1 ∙ place-is x.0 in
          (number g.addrs (at start x.0), edge_of false bytes start g r u (at start x.0) hu next, omega (arith, e, to, x.1));
      entry = ap place_of_address (entry_is false bytes start g r);
    }

-- a program stands in its words
standing : (number size : ℕ) (bytes : Bytes) → size ≤ 600 → EachAt (IsWordAt bytes start) 0 (instructions number size) → Standing bytes (drawn size 0 number).pieces
standing number size bytes small words =
    let p : Pieces = (drawn size 0 number).pieces in
    let parts = each-split (IsWordAt bytes start) 0 (code 0 p) (return ∷ []) words in
    let e : 0 + count 0 p ≡ count 0 p = omega arith in
    record {
      shaped = drawn-shaped size 0 number small (omega arith);
      few = omega (arith, drawn-count size 0 number, small);
      words = parts.0;
      last = subst (λ k. IsWordAt bytes start k return) e parts.1.0;
    }

pub no-fault : (number size : ℕ) (bytes : Bytes) (why : Outside) → size ≤ 600
    → EachAt (IsWordAt bytes start) 0 (instructions number size) → IsFault false bytes start why → ⊥
no-fault number size bytes why small words fault =
    not-refused bytes (drawn size 0 number).pieces (standing number size bytes small words) why fault

no-outside : (p : Pieces) (g : GraphOf) (place : ℕ → ℕ) → Laid p g place → (why : Outside) → IsForestFault g why → ⊥
no-outside p g place l (Entries cycle first second) f =
    graph_in_post_order g (λ u. count 0 p - place u) l.flow (in_post_order p g place l) (record { cycle = cycle; first = first; second = second; shows = f })
no-outside p g place l (ManyExits a) f = few-exits p g place l f.head f.many
no-outside p g place l NoSuch f = f
no-outside p g place l (Ambiguous a b) f = f
no-outside p g place l TooLarge f = f
no-outside p g place l (OutsideCode a) f = f
no-outside p g place l (NotDecoded a w) f = f
no-outside p g place l (Environment a) f = f
no-outside p g place l (Call a) f = f
no-outside p g place l (JumpThrough a) f = f
no-outside p g place l (Misaligned a t) f = f

pub no-forest-fault : (number size : ℕ) (bytes : Bytes) (g : GraphOf) (why : Outside) → size ≤ 600
    → EachAt (IsWordAt bytes start) 0 (instructions number size) → IsGraphOf false bytes start g → IsForestFault g why → ⊥
no-forest-fault number size bytes g why small words graph fault =
    no-outside (drawn size 0 number).pieces g (λ u. place_of_address (get_or g.addrs u 0))
    (laid bytes (drawn size 0 number).pieces (standing number size bytes small words) g graph) why fault

pub no-two-entries : (number size : ℕ) (bytes : Bytes) (g : GraphOf) → size ≤ 600
    → EachAt (IsWordAt bytes start) 0 (instructions number size) → IsGraphOf false bytes start g → TwoEntries (Next false bytes) start → ⊥
no-two-entries number size bytes g small words graph entries =
    let p : Pieces = (drawn size 0 number).pieces in
    let place : ℕ → ℕ = λ u. place_of_address (get_or g.addrs u 0) in
    let l : Laid p g place = laid bytes p (standing number size bytes small words) g graph in
    code_in_post_order false bytes start g (λ u. count 0 p - place u) graph (in_post_order p g place l) entries

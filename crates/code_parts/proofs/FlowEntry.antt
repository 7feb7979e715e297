-- The part of a graph that is the rest of the whole function from the entry on stands last.
use Rattle.std.proofs.Common.{◌≡◌, ◌≢◌, ℕ, zero, suc, ◌+◌, ◌-◌, ◌*◌, ◌<◌, ◌≤◌, List, [], ◌∷◌, map, length, get_or, refl, ap, subst, ◌∙◌, arith, None, Some, option_map, ◌⊎◌, inl, inr, eq-eqb, Bool}
use Rattle.std.proofs.lemmas.Bool.{cases_eq}
use Rattle.std.specs.Prelude.{slice_get}
use Rattle.rv_words.specs.Bytes.{Bytes}
use Rattle.rv_words.specs.declared.range.Range.{Range}
use Rattle.tailrec_lang.specs.Tree.{DefTree, listed_def}
use Rattle.flow_graph.specs.Graph.{GraphOf, HasEdge, IsGraphOf}
use Rattle.flow_graph.specs.Walks.{Way, Stop, Leave, AnyNode, Reaches}
use Rattle.flow_graph.proofs.NumberLemmas.{number_within}
use Rattle.flow_graph.proofs.Ways.{way-join, way-weaken}
use Rattle.loop_forest.specs.Forest.{ForestOf, IsForestOf, number_of, place_of}
use Rattle.loop_forest.specs.Loops.{IsPostOrder}
use Rattle.code_parts.specs.declared.part.Part.{Part}
use Rattle.code_parts.specs.declared.part.Part.TheVariants.{Loop, Rest}
use Rattle.code_parts.specs.Bodies.{Flow, part_def}
use Rattle.code_parts.specs.Graph.{IsPart}
use Rattle.code_parts.specs.Flows.{Context, flow_of, group_of, place_in}
use Rattle.code_parts.specs.Order.{AreParts, StandsBefore}
use Rattle.code_parts.proofs.Lists.{length-map, slice-mapped}
use Rattle.code_parts.proofs.FlowGraph.{flow, region-within, walks}
use Rattle.code_parts.proofs.FlowOrder.{le_or, part-at, there-at}

-- ---- the entry is left last

module _ (E : ℕ → ℕ → Type 0) (e : ℕ) (left : ℕ → ℕ) (in_post_order : IsPostOrder E e left) where
  -- the entry, or left before it
  abbrev Lower : ℕ → Type 0
  Lower n = (n ≡ e) ⊎ (left n < left e)

  -- a walk leaves a node, or doesn't
  left_or_not : (c : ℕ) {a b : ℕ} → Way E Lower a b → Way E (λ x. x ≢ c) a b ⊎ Lower c
  left_or_not c Stop = inl Stop
  left_or_not c (Leave {a = a} low d w) = elim (cases_eq a c) [
    | inl same ↦ inr (subst Lower same low)
    | inr other ↦ elim (left_or_not c w) [ inl v ↦ inl (Leave other d v) | inr h ↦ inr h ]
  ]

  on : (a c : ℕ) → Way E Lower e a → Lower a → E a c → Lower c
  on a c w low d = elim (in_post_order.edge a c (way-weaken (λ x h. tt) w) d) [
    | inl less ↦ inr (below low less)
    | inr met ↦ elim (left_or_not c w) [ inl v ↦ subst Lower (met.met v) low | inr h ↦ h ]
  ]
    where
      below : Lower a → left c < left a → left c < left e
      below (inl same) less = subst (λ x. left c < left x) same less
      below (inr lt) less = omega (arith, lt, less)

  along : {a b : ℕ} → Way E AnyNode a b → Way E Lower e a → Lower a → Lower b
  along Stop w low = low
  along (Leave {a = a} {c = c} any d v) w low = along v (way-join w (Leave low d Stop)) (on a c w low d)

  pub entry-last : (n : ℕ) → Reaches E e n → (n ≡ e) ⊎ (left n < left e)
  entry-last n w = along w Stop (inl refl)

-- ---- the last part

last-place : {A : Type 0} (xs : List A) (j : ℕ) → j < length xs → ((k : ℕ) (x : A) → slice_get xs k ≡ Some x → k ≤ j) → length xs ≡ j + 1
last-place [] j lt all = absurd (omega arith)
last-place (x ∷ []) zero lt all = refl
last-place (x ∷ y ∷ xs) zero lt all = absurd (let le = all 1 y refl in omega (arith, le))
last-place (x ∷ xs) (suc j) lt all = let rest = last-place xs j (omega (arith, lt)) (λ k y at. let le = all (suc k) y at in omega (arith, le)) in omega (arith, rest)

place-within : {A : Type 0} (xs : List A) (k : ℕ) (x : A) → slice_get xs k ≡ Some x → k < length xs
place-within [] k x e = absurd (cc)
place-within (y ∷ xs) zero x e = omega arith
place-within (y ∷ xs) (suc k) x e = let lt = place-within xs k x e in omega (arith, lt)

module _ (linked : Bool) (code : Bytes) (entry : ℕ) (g : GraphOf) (f : ForestOf) (s : Context) (graph : IsGraphOf linked code entry g) (forest : IsForestOf g f)
    (order : AreParts (flow_of g f s) (number_of f) s.parts) where
  abbrev the_flow : Flow
  the_flow = flow_of g f s

  abbrev whole : Part
  whole = Rest None g.entry

  -- the whole function is a part
  pub whole-is : IsPart (flow_of g f s) (Rest None g.entry)
  whole-is = let w = (walks linked code entry g f s graph forest).entry in ((flow linked code entry g f s graph forest).entry, eq-eqb (place_of f g.entry) 0 w.0, w.1)

  -- no part stands behind it
  none-after : (q : Part) → IsPart the_flow q → StandsBefore the_flow (number_of f) order.depth whole q → ⊥
  none-after q there (inl lt) = let none = order.outside in omega (arith, lt, none)
  none-after (Loop l) there (inr h) = let none = order.outside in let deep = order.deeper l there in let same = h.0 in omega (arith, none, deep, same)
  none-after (Rest (Some l) n) there (inr h) =
      let none = order.outside in
      let deep = order.deeper l (region-within linked code entry g f s graph forest n there.0 l there.2) in
      let same = h.0 in
      omega (arith, none, deep, same)
  none-after (Rest None n) there (inr h) =
      let more = h.1 in
      by more (entry-last (HasEdge g) g.entry (number_of f) forest.in_post_order n ((flow linked code entry g f s graph forest).reached n there.0))
    where
      by : 2 * number_of f g.entry + 1 < 2 * number_of f n + 1 → (n ≡ g.entry) ⊎ (number_of f n < number_of f g.entry) → ⊥
      by more (inl same) = let equal = ap (number_of f) same in omega (arith, more, equal)
      by more (inr less) = omega (arith, more, less)

  whole-at : slice_get s.parts (place_in s.parts (Rest None g.entry)) ≡ Some (Rest None g.entry)
  whole-at = there-at the_flow (number_of f) s.parts order whole whole-is

  pub last-is : length s.parts ≡ place_in s.parts (Rest None g.entry) + 1
  last-is = last-place s.parts (place_in s.parts whole) (place-within s.parts (place_in s.parts whole) whole whole-at) none
    where
      none : (j : ℕ) (q : Part) → slice_get s.parts j ≡ Some q → j ≤ place_in s.parts whole
      none j q at = by (le_or j (place_in s.parts whole))
        where
          by : (j ≤ place_in s.parts whole) ⊎ (place_in s.parts whole < j) → j ≤ place_in s.parts whole
          by (inl le) = le
          by (inr lt) = absurd (none-after q (part-at the_flow (number_of f) s.parts order j q at).0 (order.ordered (place_in s.parts whole) j whole q lt whole-at at))

  -- the group of these parts lists the function that is entered there
  pub lists-entry : (name : List ℕ) (ranges : List Range) → option_map (λ (d : DefTree). d.entry) (slice_get (group_of (flow_of g f s) name ranges s.parts).defs (listed_def (group_of (flow_of g f s) name ranges s.parts))) ≡ Some entry
  lists-entry name ranges =
      let count : length (map (part_def the_flow) s.parts) - 1 ≡ place_in s.parts whole = (let last = last-is in let same = length-map (part_def the_flow) s.parts in omega (arith, last, same)) in
      ap (λ k. option_map (λ (d : DefTree). d.entry) (slice_get (map (part_def the_flow) s.parts) k)) count
      ∙ ap (option_map (λ (d : DefTree). d.entry)) (slice-mapped (part_def the_flow) s.parts (place_in s.parts whole) whole whole-at)
      ∙ ap Some (ap (λ n. get_or g.addrs n 0) graph.entry ∙ (number_within g.addrs entry (graph.reach.all entry Stop)).1)

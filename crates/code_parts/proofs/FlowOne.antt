-- A graph's parts have one order.
use Rattle.std.proofs.Common.{◌≡◌, ℕ, zero, suc, ◌+◌, ◌<◌, ◌≤◌, List, [], ◌∷◌, length, refl, sym, ap, subst, ◌∙◌, arith, Option, None, Some, inl, inr, Bool}
use Rattle.std.proofs.lemmas.Option.{slice_get-get_or}
use Rattle.std.specs.Prelude.{slice_get}
use Rattle.std.specs.List.{Contains}
use Rattle.rv_words.specs.Bytes.{Bytes}
use Rattle.flow_graph.specs.Graph.{GraphOf, IsGraphOf}
use Rattle.loop_forest.specs.Forest.{ForestOf, IsForestOf, head_of, number_of, region_of}
use Rattle.code_parts.specs.declared.part.Part.{Part}
use Rattle.code_parts.specs.declared.part.Part.TheVariants.{Loop, Rest}
use Rattle.code_parts.specs.Bodies.{own}
use Rattle.code_parts.specs.Graph.{IsPart}
use Rattle.code_parts.specs.Flows.{Context, flow_of}
use Rattle.code_parts.specs.Order.{AreParts, StandsBefore, weight}
use Rattle.code_parts.proofs.Lists.{contains-cases, here, later}
use Rattle.code_parts.proofs.FlowGraph.{region-within, walks}
use Rattle.code_parts.proofs.FlowOrder.{never-before, one-way, part-at}

-- ---- two lists in one order

module _ (Before : Part → Part → Type 0) (never : (p : Part) → Before p p → ⊥) (way : (p q : Part) → Before p q → Before q p → ⊥) where
  abbrev Ordered : List Part → Type 0
  Ordered ps = (j k : ℕ) (p q : Part) → j < k → slice_get ps j ≡ Some p → slice_get ps k ≡ Some q → Before p q

  tail-ordered : (x : Part) (xs : List Part) → Ordered (x ∷ xs) → Ordered xs
  tail-ordered x xs h j k p q lt a b = h (suc j) (suc k) p q (omega (arith, lt)) a b

  head-before : (x : Part) (xs : List Part) → Ordered (x ∷ xs) → (z : Part) → Contains xs z → Before x z
  head-before x xs h z c = h 0 (suc c.0) x z (omega arith) refl (slice_get-get_or xs c.0 z c.1 ∙ ap Some c.2)

  tail-there : (x y : Part) (xs ys : List Part) → x ≡ y → Ordered (x ∷ xs) → ((p : Part) → Contains (x ∷ xs) p → Contains (y ∷ ys) p) → (z : Part) → Contains xs z → Contains ys z
  tail-there x y xs ys same h there z c =
      contains-cases y ys z (there z (later x xs z c)) (λ e. absurd (never x (subst (Before x) (sym (same ∙ e)) (head-before x xs h z c)))) (λ d. d)

  same-list : (xs ys : List Part) → Ordered xs → Ordered ys → ((p : Part) → Contains xs p → Contains ys p) → ((p : Part) → Contains ys p → Contains xs p) → xs ≡ ys
  same-list [] [] h k there back = refl
  same-list [] (y ∷ ys) h k there back = absurd (let c = back y (here y ys) in omega (arith, c.1))
  same-list (x ∷ xs) [] h k there back = absurd (let c = there x (here x xs) in omega (arith, c.1))
  same-list (x ∷ xs) (y ∷ ys) h k there back =
      let same : x ≡ y = contains-cases y ys x (there x (here x xs)) (λ e. sym e) (λ d.
      contains-cases x xs y (back y (here y ys)) (λ e. e) (λ c. absurd (way x y (head-before x xs h y c) (head-before y ys k x d)))) in
      let rest : xs ≡ ys = same-list xs ys (tail-ordered x xs h) (tail-ordered y ys k) (tail-there x y xs ys same h there) (tail-there y x ys xs (sym same) k back) in
      λ i. same i ∷ rest i

-- ---- depths are determined

module _ (linked : Bool) (code : Bytes) (entry : ℕ) (g : GraphOf) (f : ForestOf) (s t : Context) (graph : IsGraphOf linked code entry g) (forest : IsForestOf g f)
    (one : AreParts (flow_of g f s) (number_of f) s.parts) (two : AreParts (flow_of g f t) (number_of f) t.parts) where
  abbrev IsNumbered : Option ℕ → Type 0
  IsNumbered r = (l : ℕ) → r ≡ Some l → l < length f.heads

  depth-same : (n : ℕ) (r : Option ℕ) → IsNumbered r → one.depth r ≤ n → one.depth r ≡ two.depth r
  depth-same n None known le = one.outside ∙ sym two.outside
  depth-same zero (Some l) known le = absurd (let up = one.deeper l (known l refl) in omega (arith, up, le))
  depth-same (suc n) (Some l) known le =
      let lt = known l refl in
      let up = one.deeper l lt in
      let head = (walks linked code entry g f s graph forest).head l lt in
      let inner = depth-same n (region_of f (head_of f l)) (λ j e. region-within linked code entry g f s graph forest (head_of f l) head.0 j e) (omega (arith, up, le)) in
      up ∙ ap (λ d. d + 1) inner ∙ sym (two.deeper l lt)

  same-some : (l j : ℕ) → Some l ≡ Some j → l ≡ j
  same-some l j e = cc

  own-numbered : (p : Part) → IsPart (flow_of g f t) p → IsNumbered (own p)
  own-numbered (Loop l) there j e = subst (λ x. x < length f.heads) (same-some l j e) there
  own-numbered (Rest r n) there j e = region-within linked code entry g f s graph forest n there.0 j (there.2 ∙ e)

  own-depth : (p : Part) → IsPart (flow_of g f t) p → one.depth (own p) ≡ two.depth (own p)
  own-depth p there = depth-same (one.depth (own p)) (own p) (own-numbered p there) (omega arith)

  -- which parts there are, and what they weigh, doesn't depend on their places
  part-here : (p : Part) → IsPart (flow_of g f t) p → IsPart (flow_of g f s) p
  part-here (Loop l) h = h
  part-here (Rest r n) h = h

  part-there : (p : Part) → IsPart (flow_of g f s) p → IsPart (flow_of g f t) p
  part-there (Loop l) h = h
  part-there (Rest r n) h = h

  weight-same : (p : Part) → weight (flow_of g f t) (number_of f) p ≡ weight (flow_of g f s) (number_of f) p
  weight-same (Loop l) = refl
  weight-same (Rest r n) = refl

  before-here : (p q : Part) → IsPart (flow_of g f t) p → IsPart (flow_of g f t) q → StandsBefore (flow_of g f t) (number_of f) two.depth p q → StandsBefore (flow_of g f s) (number_of f) one.depth p q
  before-here p q here there (inl lt) = let x = own-depth p here in let y = own-depth q there in inl (omega (arith, lt, x, y))
  before-here p q here there (inr h) =
      let x = own-depth p here in
      let y = own-depth q there in
      let u = weight-same p in
      let v = weight-same q in
      let less = h.1 in
      inr (x ∙ h.0 ∙ sym y, omega (arith, less, u, v))

  pub one-order : s.parts ≡ t.parts
  one-order = same-list (StandsBefore (flow_of g f s) (number_of f) one.depth) (never-before (flow_of g f s) (number_of f) one.depth) (one-way (flow_of g f s) (number_of f) one.depth) s.parts t.parts
      one.ordered
      (λ j k p q lt a b. before-here p q (part-at (flow_of g f t) (number_of f) t.parts two j p a).0 (part-at (flow_of g f t) (number_of f) t.parts two k q b).0 (two.ordered j k p q lt a b))
      (λ p c. (two.all p).1 (part-there p ((one.all p).0 c)))
      (λ p c. (one.all p).1 (part-here p ((two.all p).0 c)))

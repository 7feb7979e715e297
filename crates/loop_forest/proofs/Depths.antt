-- How many loops have a node: one more for the head of a loop than for that of the loop around it.
use Rattle.std.proofs.Common.{◌≡◌, ◌≢◌, ℕ, zero, suc, ◌+◌, ◌<◌, ◌≤◌, Bool, true, false, cond, length, refl, sym, ap, subst, ◌∙◌, arith, Option, None, Some, option_map, ◌⊎◌, inl, inr}
use Rattle.std.proofs.lemmas.Bool.{cases_eq}
use Rattle.std.proofs.lemmas.Bool.Decides.{leb_tells}
use Rattle.std.proofs.lemmas.Cmp.{nat_eq_equiv}
use Rattle.std.proofs.lemmas.Map.Views.{Contains-from_any, exact_unsigned_eq, list_any-from_Contains}
use Rattle.std.specs.List.{Contains}
use Rattle.flow_graph.specs.Graph.{GraphOf, HasEdge, IsFlow}
use Rattle.flow_graph.specs.Walks.{Reaches}
use Rattle.loop_forest.specs.Loops.{IsHead, InLoop, AtHead}
use Rattle.loop_forest.specs.Regions.{IsAround}
use Rattle.loop_forest.specs.Forest.{ForestOf, IsForestOf, count_below, depth_of, has_inside, head_of, inside_of, loops_around, region_of}
use Rattle.loop_forest.proofs.LoopNesting.{inner_loop, loop_is_met, met_before_differ}
use Rattle.flow_graph.proofs.Ways.{node_at}
use Rattle.loop_forest.proofs.WalkLaws.{walkable}

-- ---- counts

pub count-most : (p : ℕ → Bool) (n : ℕ) → count_below p n ≤ n
count-most p zero = omega arith
count-most p (suc n) = go (p n) (count-most p n)
  where
    go : (b : Bool) → count_below p n ≤ n → cond b (suc (count_below p n)) (count_below p n) ≤ suc n
    go true le = omega (arith, le)
    go false le = omega (arith, le)

count-same : (p q : ℕ → Bool) (n : ℕ) → ((k : ℕ) → k < n → p k ≡ q k) → count_below p n ≡ count_below q n
count-same p q zero same = refl
count-same p q (suc n) same =
    let here : p n ≡ q n = same n (omega arith) in
    let rest = count-same p q n (λ k lt. same k (omega (arith, lt))) in
    λ i. cond (here i) (suc (rest i)) (rest i)

count-none : (n : ℕ) → count_below (λ k. false) n ≡ 0
count-none zero = refl
count-none (suc n) = count-none n

count-one_more : (p q : ℕ → Bool) (l n : ℕ) → l < n → p l ≡ true → q l ≡ false → ((k : ℕ) → k < n → k ≢ l → p k ≡ q k) → count_below p n ≡ count_below q n + 1
count-one_more p q l zero lt at out same = absurd (omega arith)
count-one_more p q l (suc n) lt at out same = elim (cases_eq l n) [
  | inl e ↦
      let p_is : p n ≡ true = ap p (sym e) ∙ at in
      let q_is : q n ≡ false = ap q (sym e) ∙ out in
      let rest = count-same p q n (λ k low. same k (omega (arith, low)) (λ f. absurd (omega (arith, low, e, f)))) in
      let next : suc (count_below q n) ≡ count_below q n + 1 = omega arith in
      (λ i. cond (p_is i) (suc (rest i)) (rest i)) ∙ next ∙ (λ i. cond (sym q_is i) (suc (count_below q n)) (count_below q n) + 1)
  | inr ne ↦
      let here : p n ≡ q n = same n (omega arith) (λ e. ne (sym e)) in
      let low : l < n = omega (arith, lt, ne) in
      let rest = count-one_more p q l n low at out (λ k less other. same k (omega (arith, less)) other) in
      (λ i. cond (here i) (suc (rest i)) (rest i)) ∙ both (q n)
]
  where
    both : (b : Bool) → cond b (suc (count_below q n + 1)) (count_below q n + 1) ≡ cond b (suc (count_below q n)) (count_below q n) + 1
    both true = omega arith
    both false = refl

pub count-more : (p : ℕ → Bool) (n : ℕ) (b : Bool) → p n ≡ b → count_below p (n + 1) ≡ cond b (suc (count_below p n)) (count_below p n)
count-more p n b is = let next : n + 1 ≡ suc n = omega arith in (λ i. count_below p (next i)) ∙ (λ i. cond (is i) (suc (count_below p n)) (count_below p n))

-- ---- loops

le_or : (a b : ℕ) → (a ≤ b) ⊎ (b < a)
le_or a b = elim (leb_tells a b) [ inl t ↦ inl t.1 | inr t ↦ inr t.1 ]

same-tests : (p q : Bool) → (p ≡ true → q ≡ true) → (q ≡ true → p ≡ true) → p ≡ q
same-tests true q f g = sym (f refl)
same-tests false true f g = g refl
same-tests false false f g = refl

test-false : (p : Bool) → (p ≡ true → ⊥) → p ≡ false
test-false true h = absurd (h refl)
test-false false h = refl

pub inside_is : (f : ForestOf) (l n : ℕ) (b : Bool) → (b ≡ true → Contains (inside_of f l) n) × (Contains (inside_of f l) n → b ≡ true) → b ≡ has_inside f n l
inside_is f l n b h = same-tests b (has_inside f n l) (λ t. list_any-from_Contains nat_eq_equiv n (inside_of f l) (h.0 t)) (λ t. h.1 (Contains-from_any exact_unsigned_eq n (inside_of f l) t))

module _ (g : GraphOf) (f : ForestOf) (flow : IsFlow g) (forest : IsForestOf g f) where
  abbrev In : ℕ → ℕ → Type 0
  In h n = InLoop (HasEdge g) g.entry h n

  abbrev Numbered : ℕ → Type 0
  Numbered l = l < length f.heads

  pub head-node : (l : ℕ) → l < length f.heads → head_of f l < length g.addrs
  head-node l lt = ((walkable g f flow forest).head l lt).0

  reached : (l : ℕ) → l < length f.heads → Reaches (HasEdge g) g.entry (head_of f l)
  reached l lt = flow.reached (head_of f l) (head-node l lt)

  test-inside : (l n : ℕ) → l < length f.heads → has_inside f n l ≡ true → InLoop (HasEdge g) g.entry (head_of f l) n
  test-inside l n lt t = (forest.insides l n lt).0 (Contains-from_any exact_unsigned_eq n (inside_of f l) t)

  inside-test : (l n : ℕ) → l < length f.heads → InLoop (HasEdge g) g.entry (head_of f l) n → has_inside f n l ≡ true
  inside-test l n lt i = list_any-from_Contains nat_eq_equiv n (inside_of f l) ((forest.insides l n lt).1 i)

  head-is : (l : ℕ) → l < length f.heads → IsHead (HasEdge g) g.entry (head_of f l)
  head-is l lt = (forest.heads (head_of f l)).0 (node_at f.heads l lt)

  -- loops of one head are one
  pub one-loop : (k l : ℕ) → k < length f.heads → l < length f.heads → head_of f k ≡ head_of f l → k ≡ l
  one-loop k l low lt e = elim (le_or k l) [
    | inr above ↦ absurd (let rise = forest.rising.below l k above low in omega (arith, rise, e))
    | inl le ↦ elim (le_or l k) [
      | inl back ↦ omega (arith, le, back)
      | inr above ↦ absurd (let rise = forest.rising.below k l above lt in omega (arith, rise, e))
    ]
  ]

  apart : (k l : ℕ) → k < length f.heads → l < length f.heads → k ≢ l → head_of f k ≢ head_of f l
  apart k l low lt ne e = ne (one-loop k l low lt e)

  deeper-around : (l : ℕ) (lt : l < length f.heads) (r : Option ℕ) → ((k : ℕ) → r ≡ Some k → k < length f.heads) → IsAround (HasEdge g) g.entry (head_of f l) (option_map (head_of f) r) →
      loops_around f (head_of f l) ≡ depth_of f r + 1
  deeper-around l lt None within around =
      count-one_more (has_inside f (head_of f l)) (λ k. false) l (length f.heads) lt (inside-test l (head_of f l) lt AtHead) refl
      (λ k low other. test-false (has_inside f (head_of f l) k) (λ t. around (head_of f k) (head-is k low) (apart k l low lt other) (test-inside k (head_of f l) low t)))
      ∙ ap (λ n. n + 1) (count-none (length f.heads))
  deeper-around l lt (Some p) within around =
      let low_p = within p refl in
      let h : ℕ = head_of f l in
      let hp : ℕ = head_of f p in
      count-one_more (has_inside f h) (has_inside f hp) l (length f.heads) lt (inside-test l h lt AtHead)
      (test-false (has_inside f hp l) (λ t. around.1 (met_before_differ g.entry hp h (reached p low_p) (loop_is_met g.entry hp h around.2) (loop_is_met g.entry h hp (test-inside l hp lt t)))))
      (λ k low other. same-tests (has_inside f h k) (has_inside f hp k)
      (λ t. inside-test k hp low (around.3 (head_of f k) (head-is k low) (apart k l low lt other) (test-inside k h low t)))
      (λ t. inside-test k h low (within-outer k low (test-inside k hp low t))))
    where
      within-outer : (k : ℕ) → k < length f.heads → InLoop (HasEdge g) g.entry (head_of f k) (head_of f p) → InLoop (HasEdge g) g.entry (head_of f k) (head_of f l)
      within-outer k low i = elim (cases_eq (head_of f k) (head_of f p)) [
        | inl e ↦ subst (λ (z : ℕ). InLoop (HasEdge g) g.entry z (head_of f l)) (sym e) around.2
        | inr ne ↦ inner_loop g.entry (head_of f k) (head_of f p) (reached k low) ne i (head_of f l) around.2
      ]

  pub deeper : (l : ℕ) → l < length f.heads → loops_around f (head_of f l) ≡ depth_of f (region_of f (head_of f l)) + 1
  deeper l lt = deeper-around l lt (region_of f (head_of f l)) (λ k e. forest.within (head_of f l) k (head-node l lt) e) (forest.regions (head_of f l) (head-node l lt))

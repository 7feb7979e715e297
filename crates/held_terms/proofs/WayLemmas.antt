-- Facts of a way: which ones are indexed after a change, and where they are found.
use Rattle.std.proofs.Common.{true≢false, ◌≡◌, ◌⊎◌, ℕ, zero, suc, ◌+◌, ◌<◌, ◌≤◌, Bool, false, cond, List, [], ◌∷◌, ◌++◌, Option, Some, None, Ordering, Less, Equal, Greater, length, map, take, refl, ap, sym, ◌∙◌, subst, inl, inr, arith, length-append}
use Rattle.std.specs.Prelude.{◌↔◌, IsTrue, slice_get}
use Rattle.std.specs.List.{Contains}
use Rattle.std.specs.Map.{lookup}
use Rattle.std.specs.Ordering.{is_eq, nat_cmp, match_ordering}
use Rattle.std.specs.BTreeMap.{insert_entry}
use Rattle.std.specs.Cmp.{Equal-is}
use Rattle.std.specs.Cmp.Lexicographic.{slice_cmp}
use Rattle.std.proofs.lemmas.Bool.{cases_Bool, cond-true, cond-false}
use Rattle.std.proofs.lemmas.Map.Lookups.{exact_bytes}
use Rattle.std.proofs.lemmas.Option.{same_Some, slice_get_within}
use Rattle.std.proofs.lemmas.List.Elements.{All-contains}
use Rattle.term_arena.proofs.Places.{at-append, at_place, at_contains, contains_at, at-map, map-at}
use Rattle.term_arena.specs.declared.node.Node.{Node}
use Rattle.term_arena.specs.Arena.{IsArena}
use Rattle.held_terms.specs.declared.held.HeldFact.{HeldFact}
use Rattle.held_terms.specs.Held.{fact_of, IsFactAt, AreFactsAt}
use Rattle.held_terms.specs.inner.Numbers.{numbers_of}
use Rattle.held_terms.specs.inner.Ways.{found_at, HasPlace, IsPlaced, IsIndexed}
use Rattle.held_terms.proofs.NumberLemmas.{same_lists, told}
use Rattle.held_terms.proofs.ToldLemmas.{one_fact}

-- ---- the first items of a list

pub at_take : {A : Type 0} (n : ℕ) (xs : List A) (k : ℕ) (x : A) → k < n → slice_get xs k ≡ Some x → slice_get (take n xs) k ≡ Some x
at_take zero xs k x lt e = absurd (omega (arith, lt))
at_take (suc n) [] k x lt e = e
at_take (suc n) (y ∷ xs) zero x lt e = e
at_take (suc n) (y ∷ xs) (suc k) x lt e = at_take n xs k x (omega (arith, lt)) e

pub take_at : {A : Type 0} (n : ℕ) (xs : List A) (k : ℕ) (x : A) → slice_get (take n xs) k ≡ Some x → slice_get xs k ≡ Some x
take_at zero [] k x e = e
take_at zero (y ∷ xs) k x e = cc
take_at (suc n) [] k x e = e
take_at (suc n) (y ∷ xs) zero x e = e
take_at (suc n) (y ∷ xs) (suc k) x e = take_at n xs k x e

low_take : {A : Type 0} (m n : ℕ) (xs : List A) → m ≤ n → m ≤ length xs → m ≤ length (take n xs)
low_take zero n xs le long = omega arith
low_take (suc m) zero xs le long = absurd (omega (arith, le))
low_take (suc m) (suc n) [] le long = absurd (omega (arith, long))
low_take (suc m) (suc n) (x ∷ xs) le long = let rest = low_take m n xs (omega (arith, le)) (omega (arith, long)) in omega (arith, rest)

pub take_under : {A : Type 0} (n : ℕ) (xs : List A) (k : ℕ) (x : A) → slice_get (take n xs) k ≡ Some x → k < n
take_under zero [] k x e = cc
take_under zero (y ∷ xs) k x e = cc
take_under (suc n) [] k x e = cc
take_under (suc n) (y ∷ xs) zero x e = omega arith
take_under (suc n) (y ∷ xs) (suc k) x e = let lt = take_under n xs k x e in omega (arith, lt)

-- ---- an index with one entry more

module _ {V : Type 0} (items : V → List ℕ) where
  abbrev test : List ℕ → V → Bool
  test k v = is_eq (slice_cmp nat_cmp k (items v))

  abbrev order : V → V → Ordering
  order v w = slice_cmp nat_cmp (items v) (items w)

  -- at the entry's own numbers
  inserted_here : (v : V) (place : ℕ) (es : List (V × ℕ)) → lookup (test (items v)) (insert_entry order es v place) ≡ Some place
  inserted_here v place [] = cond-true (test (items v) v) (Some place) None (ap is_eq (same_lists (items v)))
  inserted_here v place (e ∷ es) = at_order (inserted_here v place es) (order v e.0) refl
    where
      at_order : lookup (test (items v)) (insert_entry order es v place) ≡ Some place → (o : Ordering) → o ≡ order v e.0 → lookup (test (items v)) (match_ordering o ((v, place) ∷ e ∷ es) ((e.0, place) ∷ es) (e ∷ insert_entry order es v place)) ≡ Some place
      at_order rest Less is = cond-true (test (items v) v) (Some place) (lookup (test (items v)) (e ∷ es)) (ap is_eq (same_lists (items v)))
      at_order rest Equal is = cond-true (test (items v) e.0) (Some place) (lookup (test (items v)) es) (ap is_eq (sym is))
      at_order rest Greater is = cond-false (test (items v) e.0) (Some e.1) (lookup (test (items v)) (insert_entry order es v place)) (ap is_eq (sym is)) ∙ rest

  -- at others
  inserted_other : (v : V) (place : ℕ) (es : List (V × ℕ)) (k : List ℕ) → test k v ≡ false → lookup (test k) (insert_entry order es v place) ≡ lookup (test k) es
  inserted_other v place [] k other = cond-false (test k v) (Some place) None other
  inserted_other v place (e ∷ es) k other = at_order (inserted_other v place es k other) (order v e.0) refl
    where
      at_order : lookup (test k) (insert_entry order es v place) ≡ lookup (test k) es → (o : Ordering) → o ≡ order v e.0 → lookup (test k) (match_ordering o ((v, place) ∷ e ∷ es) ((e.0, place) ∷ es) (e ∷ insert_entry order es v place)) ≡ lookup (test k) (e ∷ es)
      at_order rest Less is = cond-false (test k v) (Some place) (lookup (test k) (e ∷ es)) other
      at_order rest Equal is =
          let same : items v ≡ items e.0 = exact_bytes (items v) (items e.0) (sym is) in
          let apart : test k e.0 ≡ false = ap (λ (l : List ℕ). is_eq (slice_cmp nat_cmp k l)) (sym same) ∙ other in
          cond-false (test k e.0) (Some place) (lookup (test k) es) apart ∙ sym (cond-false (test k e.0) (Some e.1) (lookup (test k) es) apart)
      at_order rest Greater is = (λ i. cond (test k e.0) (Some e.1) (rest i))

  pub has_place : (v : V) (place : ℕ) (old new : List (V × ℕ)) → new ≡ insert_entry order old v place → HasPlace (found_at items old) (found_at items new) (items v) place
  has_place v place old new e = record {
    here = ap (lookup (test (items v))) e ∙ inserted_here v place old;
    others = λ k. elim (cases_Bool (test k v)) [
      | inl same ↦ inl (exact_bytes k (items v) ((Equal-is _).0 same))
      | inr other ↦ inr (ap (lookup (test k)) e ∙ inserted_other v place old k other)
    ];
  }

-- ---- which facts are indexed

pub before_or_last : (j i : ℕ) → j < i + 1 → (j < i) ⊎ (j ≡ i)
before_or_last zero zero lt = inr refl
before_or_last zero (suc i) lt = inl (omega arith)
before_or_last (suc j) zero lt = absurd (omega (arith, lt))
before_or_last (suc j) (suc i) lt = elim (before_or_last j i (omega (arith, lt))) [ inl h ↦ inl (omega (arith, h)) | inr h ↦ inr (ap suc h) ]

pub indexed_more : (facts more new : List HeldFact) (n : ℕ) (at : List ℕ → Option ℕ) → new ≡ facts ++ more → IsIndexed facts n at → IsIndexed new n at
indexed_more facts more new n at is a =
    subst (λ (l : List HeldFact). IsIndexed l n at) (sym is) (record {
      few = let long = length-append facts more in let few = a.few in omega (arith, long, few);
      each = λ i f lt e.
          let few = a.few in
          let item = at_place facts i (omega (arith, lt, few)) in
          let same : item.0 ≡ f = same_Some item.0 f (sym (at-append facts more i item.0 item.1) ∙ e) in
          let p = a.each i f lt (item.1 ∙ ap (λ (g : HeldFact). Some g) same) in
          record { place = p.place; low = p.low; found = p.found; there = at-append facts more p.place f p.there };
    })

pub indexed_short : (facts new : List HeldFact) (n m l : ℕ) (at : List ℕ → Option ℕ) → new ≡ take l facts → m ≤ n → m ≤ l → IsIndexed facts n at → IsIndexed new m at
indexed_short facts new n m l at is le short a =
    subst (λ (fs : List HeldFact). IsIndexed fs m at) (sym is) (record {
      few = let few = a.few in low_take m l facts short (omega (arith, le, few));
      each = λ i f lt e.
          let p = a.each i f (omega (arith, lt, le)) (take_at l facts i f e) in
          let low = p.low in
          record { place = p.place; low = p.low; found = p.found; there = at_take l facts p.place f (omega (arith, low, lt, short)) p.there };
    })

module _ (facts : List HeldFact) (i : ℕ) (f : HeldFact) (there : slice_get facts i ≡ Some f) where
  same_at : (j : ℕ) (g : HeldFact) → j ≡ i → slice_get facts j ≡ Some g → f ≡ g
  same_at j g same e = same_Some f g (sym there ∙ ap (λ (k : ℕ). slice_get facts k) (sym same) ∙ e)

  -- it is found now
  pub indexed_next : (at new : List ℕ → Option ℕ) → IsIndexed facts i at → (IsPlaced facts at i f → ⊥) → HasPlace at new (numbers_of f) i → IsIndexed facts (i + 1) new
  indexed_next at new a unknown h = record {
    few = let long = slice_get_within facts i f there in omega (arith, long);
    each = λ j g lt e. elim (before_or_last j i lt) [
      | inl before ↦
          let p = a.each j g before e in
          elim (h.others (numbers_of g)) [
            | inl same ↦
                let one : g ≡ f = told g f same in
                let q : IsPlaced facts at (j + 1) f = subst (IsPlaced facts at (j + 1)) one p in
                absurd (unknown (record { place = q.place; low = (let low = q.low in omega (arith, low, before)); found = q.found; there = q.there }))
            | inr kept ↦ record { place = p.place; low = p.low; found = kept ∙ p.found; there = p.there }
          ]
      | inr same ↦ subst (IsPlaced facts new (j + 1)) (same_at j g same e) (record { place = i; low = omega (arith, same); found = h.here; there = there })
    ];
  }

-- ---- facts as trees

module _ (ns : List Node) (arena : IsArena ns) (facts : List HeldFact) (there : AreFactsAt ns facts) where
  pub fact_there : (place : ℕ) (g : HeldFact) → slice_get facts place ≡ Some g → IsFactAt ns g
  fact_there place g e = All-contains (IsFactAt ns) facts g there (contains_at facts place g e)

  -- the fact stands where its tree does
  pub stands_is : (place : ℕ) (f : HeldFact) (r : Bool) → IsFactAt ns f → (IsTrue r ↔ (slice_get (map (fact_of ns) facts) place ≡ Some (fact_of ns f))) → IsTrue r ↔ (slice_get facts place ≡ Some f)
  stands_is place f r hf is = (
    λ h.
        let item = at-map (fact_of ns) facts place (fact_of ns f) (is.0 h) in
        item.1 ∙ ap (λ (x : HeldFact). Some x) (one_fact ns arena item.0 f (fact_there place item.0 item.1) hf item.2),
    λ k. is.1 (map-at (fact_of ns) facts place f k),
  )

  -- none of them, where it is found at no place and all are indexed
  pub none_indexed : (at : List ℕ → Option ℕ) (f : HeldFact) → IsFactAt ns f → IsIndexed facts (length facts) at → ((place : ℕ) → at (numbers_of f) ≡ Some place → slice_get facts place ≡ Some f → ⊥)
      → Contains (map (fact_of ns) facts) (fact_of ns f) → ⊥
  none_indexed at f hf a none c =
      let tree = at_contains (map (fact_of ns) facts) (fact_of ns f) c in
      let item = at-map (fact_of ns) facts tree.0 (fact_of ns f) tree.1 in
      let same : item.0 ≡ f = one_fact ns arena item.0 f (fact_there tree.0 item.0 item.1) hf item.2 in
      let here : slice_get facts tree.0 ≡ Some f = item.1 ∙ ap (λ (x : HeldFact). Some x) same in
      let p = a.each tree.0 f (slice_get_within facts tree.0 f here) here in
      none p.place p.found p.there

-- ---- answers

pub known_not : {P : Type 0} (r : Bool) → (IsTrue r ↔ P) → r ≡ false → P → ⊥
known_not r is not p = true≢false (sym (is.1 p) ∙ not)

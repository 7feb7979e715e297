-- Facts by their numbers: each is told by them, and a set of them is looked up.
use Rattle.std.proofs.Common.{◌≡◌, ◌⊎◌, ℕ, ◌+◌, ◌<◌, Bool, true, false, List, [], ◌∷◌, ◌++◌, Option, Some, None, Ordering, Less, Equal, Greater, length, map, take, get_or, refl, ap, sym, ◌∙◌, subst, inl, inr, arith}
use Rattle.std.specs.Prelude.{◌↔◌, IfSome, IsTrue}
use Rattle.std.specs.List.{Contains, list_any}
use Rattle.std.specs.Ordering.{is_eq, nat_cmp, match_ordering, ordering_then}
use Rattle.std.specs.Cmp.{Equal-is, nat_cmp_is}
use Rattle.std.specs.Cmp.Lexicographic.{slice_cmp}
use Rattle.std.specs.BTreeSet.{insert_key}
use Rattle.std.proofs.lemmas.Bool.{or_left, or_right, or_cases}
use Rattle.std.proofs.lemmas.List.{append_assoc}
use Rattle.std.proofs.lemmas.List.Elements.{Contains-append_left, Contains-append_right, Contains-append_cases, Contains-push_cases, Contains-push}
use Rattle.std.proofs.lemmas.Map.Lookups.{exact_bytes}
use Rattle.tailrec_lang.proofs.Lists.{map-take_more}
use Rattle.term_arena.proofs.Places.{at_contains}
use Rattle.held_terms.specs.declared.held.HeldValues.{HeldValues}
use Rattle.held_terms.specs.declared.held.HeldFact.{HeldFact}
use Rattle.held_terms.specs.declared.held.HeldFact.TheVariants as held
use Rattle.held_terms.specs.inner.Numbers.{numbers_of, AreListed}

-- ---- a fact is told by its numbers

parted : (xs ys us vs : List ℕ) → length xs ≡ length ys → xs ++ us ≡ ys ++ vs → (xs ≡ ys) × (us ≡ vs)
parted [] [] us vs l e = (refl, e)
parted [] (y ∷ ys) us vs l e = absurd (omega (arith, l))
parted (x ∷ xs) [] us vs l e = absurd (omega (arith, l))
parted (x ∷ xs) (y ∷ ys) us vs l e =
    let here : x ≡ y = cc in
    let rest : xs ++ us ≡ ys ++ vs = cc in
    let both = parted xs ys us vs (omega (arith, l)) rest in
    (λ i. here i ∷ both.0 i, both.1)

gives_told : (d e : ℕ) (x y : HeldValues) (d2 e2 : ℕ) (x2 y2 : HeldValues) → numbers_of (held.Gives d e x y) ≡ numbers_of (held.Gives d2 e2 x2 y2) → held.Gives d e x y ≡ held.Gives d2 e2 x2 y2
gives_told d e x y d2 e2 x2 y2 same =
    let def : d ≡ d2 = cc in
    let exit : e ≡ e2 = cc in
    let l1 : length x.words ≡ length x2.words = cc in
    let l2 : length x.mems ≡ length x2.mems = cc in
    let l3 : length y.words ≡ length y2.words = cc in
    let rest : x.words ++ (x.mems ++ (y.words ++ y.mems)) ≡ x2.words ++ (x2.mems ++ (y2.words ++ y2.mems)) = cc in
    let p1 = parted x.words x2.words _ _ l1 rest in
    let p2 = parted x.mems x2.mems _ _ l2 p1.1 in
    let p3 = parted y.words y2.words _ _ l3 p2.1 in
    λ i. held.Gives (def i) (exit i) (record { words = p1.0 i; mems = p2.0 i }) (record { words = p3.0 i; mems = p3.1 i })

pub told : (f g : HeldFact) → numbers_of f ≡ numbers_of g → f ≡ g
told (held.WordIs a b) (held.WordIs c d) e = cc
told (held.MemIs a b) (held.MemIs c d) e = cc
told (held.So a) (held.So c) e = cc
told (held.Gives d e x y) (held.Gives d2 e2 x2 y2) same = gives_told d e x y d2 e2 x2 y2 same
told (held.WordIs a b) (held.MemIs c d) e = cc
told (held.WordIs a b) (held.So c) e = cc
told (held.WordIs a b) (held.Gives d e2 x y) e = cc
told (held.MemIs a b) (held.WordIs c d) e = cc
told (held.MemIs a b) (held.So c) e = cc
told (held.MemIs a b) (held.Gives d e2 x y) e = cc
told (held.So a) (held.WordIs c d) e = cc
told (held.So a) (held.MemIs c d) e = cc
told (held.So a) (held.Gives d e2 x y) e = cc
told (held.Gives d e x y) (held.WordIs a b) same = cc
told (held.Gives d e x y) (held.MemIs a b) same = cc
told (held.Gives d e x y) (held.So a) same = cc

-- .. as they are put together
pub gives_joined : (h a b c d all : List ℕ) → all ≡ (((h ++ a) ++ b) ++ c) ++ d → all ≡ h ++ (a ++ (b ++ (c ++ d)))
gives_joined h a b c d all e = e ∙ append_assoc ((h ++ a) ++ b) c d ∙ append_assoc (h ++ a) b (c ++ d) ∙ append_assoc h a (b ++ (c ++ d))

-- ---- a list of keys

has_head : {A : Type 0} (x : A) (xs : List A) → Contains (x ∷ xs) x
has_head x xs = Contains-append_left (x ∷ []) xs x (Contains-push [] x)

has_tail : {A : Type 0} (x : A) (xs : List A) (y : A) → Contains xs y → Contains (x ∷ xs) y
has_tail x xs y c = Contains-append_right (x ∷ []) xs y c

has_none : {A : Type 0} (x : A) → Contains [] x → ⊥
has_none x c = let at = at_contains [] x c in cc

has_cases : {A : Type 0} (x : A) (xs : List A) (y : A) → Contains (x ∷ xs) y → (x ≡ y) ⊎ Contains xs y
has_cases x xs y c = elim (Contains-append_cases (x ∷ []) xs y c) [
  | inl first ↦ elim (Contains-push_cases [] x y first) [ inl none ↦ absurd (has_none y none) | inr same ↦ inl same ]
  | inr more ↦ inr more
]

pub same_lists : (ks : List ℕ) → slice_cmp nat_cmp ks ks ≡ Equal
same_lists [] = refl
same_lists (k ∷ ks) = ap (λ (o : Ordering). ordering_then o (slice_cmp nat_cmp ks ks)) (sym (nat_cmp_is k k Equal refl)) ∙ same_lists ks

module _ {V : Type 0} (items : V → List ℕ) where
  abbrev order : V → V → Ordering
  order v w = slice_cmp nat_cmp (items v) (items w)

  -- whether a key is found
  pub found_listed : (k : List ℕ) (vs : List V) → IsTrue (list_any (λ v. is_eq (slice_cmp nat_cmp k (items v))) vs) ↔ Contains (map items vs) k
  found_listed k [] = (λ h. let f : false ≡ true = h in cc, λ c. absurd (has_none k c))
  found_listed k (v ∷ vs) =
      let rest = found_listed k vs in (
        λ h. elim (or_cases (is_eq (slice_cmp nat_cmp k (items v))) _ h) [
          | inl here ↦ subst (Contains (map items (v ∷ vs))) (sym (exact_bytes k (items v) ((Equal-is _).0 here))) (has_head (items v) (map items vs))
          | inr more ↦ has_tail (items v) (map items vs) k (rest.0 more)
        ],
        λ c. elim (has_cases (items v) (map items vs) k c) [
          | inl same ↦ or_left _ _ ((Equal-is _).1 (ap (λ (l : List ℕ). slice_cmp nat_cmp k l) same ∙ same_lists k))
          | inr more ↦ or_right _ _ (rest.1 more)
        ],
      )

  -- the keys with one more
  inserted_at : (v x : V) (xs : List V) (k : List ℕ) (o : Ordering) → o ≡ order v x → (Contains (map items (insert_key order xs v)) k ↔ ((items v ≡ k) ⊎ Contains (map items xs) k))
      → Contains (map items (match_ordering o (v ∷ x ∷ xs) (x ∷ xs) (x ∷ insert_key order xs v))) k ↔ ((items v ≡ k) ⊎ Contains (map items (x ∷ xs)) k)
  inserted_at v x xs k Less e rest = (has_cases (items v) (map items (x ∷ xs)) k, λ s. elim s [ inl same ↦ subst (Contains (map items (v ∷ x ∷ xs))) same (has_head (items v) (map items (x ∷ xs))) | inr was ↦ has_tail (items v) (map items (x ∷ xs)) k was ])
  inserted_at v x xs k Equal e rest = (
    λ c. inr c,
    λ s. elim s [ inl same ↦ subst (Contains (map items (x ∷ xs))) (sym (exact_bytes (items v) (items x) (sym e)) ∙ same) (has_head (items x) (map items xs)) | inr was ↦ was ],
  )
  inserted_at v x xs k Greater e rest = (
    λ c. elim (has_cases (items x) (map items (insert_key order xs v)) k c) [
      | inl first ↦ inr (subst (Contains (map items (x ∷ xs))) first (has_head (items x) (map items xs)))
      | inr more ↦ elim (rest.0 more) [ inl same ↦ inl same | inr was ↦ inr (has_tail (items x) (map items xs) k was) ]
    ],
    λ s. elim s [
      | inl same ↦ has_tail (items x) (map items (insert_key order xs v)) k (rest.1 (inl same))
      | inr was ↦ elim (has_cases (items x) (map items xs) k was) [
        | inl first ↦ subst (Contains (map items (x ∷ insert_key order xs v))) first (has_head (items x) (map items (insert_key order xs v)))
        | inr more ↦ has_tail (items x) (map items (insert_key order xs v)) k (rest.1 (inr more))
      ]
    ],
  )

  inserted : (v : V) (xs : List V) (k : List ℕ) → Contains (map items (insert_key order xs v)) k ↔ ((items v ≡ k) ⊎ Contains (map items xs) k)
  inserted v [] k = (
    λ c. inl (elim (has_cases (items v) [] k c) [ inl same ↦ same | inr none ↦ absurd (has_none k none) ]),
    λ s. elim s [ inl same ↦ subst (Contains (map items (v ∷ []))) same (has_head (items v) []) | inr none ↦ absurd (has_none k none) ],
  )
  inserted v (x ∷ xs) k = inserted_at v x xs k (order v x) refl (inserted v xs k)

  -- the numbers of one fact more
  pub listed_more : (facts : List HeldFact) (i : ℕ) (f : HeldFact) (old new : List V) (v : V) → i < length facts → f ≡ get_or facts i f → items v ≡ numbers_of f → new ≡ insert_key order old v
      → AreListed (take i facts) (map items old) → AreListed (take (i + 1) facts) (map items new)
  listed_more facts i f old new v lt at is e a =
      let more : map numbers_of (take (i + 1) facts) ≡ map numbers_of (take i facts) ++ numbers_of f ∷ [] = map-take_more numbers_of facts i f lt at in
      record {
        each = λ k. (
          λ c. subst (λ (l : List (List ℕ)). Contains l k) (sym more) (
              elim ((inserted v old k).0 (subst (λ (l : List V). Contains (map items l) k) e c)) [
                | inl same ↦ Contains-append_right (map numbers_of (take i facts)) (numbers_of f ∷ []) k (subst (Contains (numbers_of f ∷ [])) (sym is ∙ same) (has_head (numbers_of f) []))
                | inr was ↦ Contains-append_left (map numbers_of (take i facts)) (numbers_of f ∷ []) k ((a.each k).0 was)
              ]),
          λ c. subst (λ (l : List V). Contains (map items l) k) (sym e) ((inserted v old k).1 (
              elim (Contains-push_cases (map numbers_of (take i facts)) (numbers_of f) k (subst (λ (l : List (List ℕ)). Contains l k) more c)) [
                | inl was ↦ inr ((a.each k).1 was)
                | inr same ↦ inl (is ∙ same)
              ])),
        );
      }

  pub listed_none : (vs : List V) → vs ≡ [] → AreListed [] (map items vs)
  listed_none vs e = subst (λ (l : List V). AreListed [] (map items l)) (sym e) (record { each = λ k. (λ c. c, λ c. c) })

-- what is told by the keys is told by the facts
pub told_by_keys : (facts now : List HeldFact) (keys : List (List ℕ)) (k : List ℕ) (o : Option Bool) → AreListed facts keys → facts ≡ now → IfSome o (λ r. IsTrue r ↔ Contains keys k)
    → IfSome o (λ r. IsTrue r ↔ Contains (map numbers_of now) k)
told_by_keys facts now keys k None a e is = tt
told_by_keys facts now keys k (Some r) a e is = subst (λ (fs : List HeldFact). IsTrue r ↔ Contains (map numbers_of fs) k) e (λ h. (a.each k).0 (is.0 h), λ c. is.1 ((a.each k).1 c))

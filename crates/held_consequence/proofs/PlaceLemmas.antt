-- Where the pairs of a table stand.
use Rattle.std.proofs.Common.{◌≡◌, ◌⊎◌, ℕ, ◌<◌, Bool, true, false, cond, List, [], ◌∷◌, ◌++◌, Option, Some, None, Ordering, Equal, length, map, set, get_or, refl, ap, sym, ◌∙◌, subst, inl, inr, arith}
use Rattle.std.specs.Prelude.{slice_get}
use Rattle.std.specs.List.{Contains}
use Rattle.std.specs.Map.{lookup}
use Rattle.std.specs.Ordering.{is_eq, nat_cmp, ordering_then}
use Rattle.std.specs.BTreeMap.{BTreeMap, get, is_at}
use Rattle.std.specs.Cmp.{Equal-is, nat_cmp_is}
use Rattle.std.proofs.lemmas.Bool.{both_ways, cases_Bool, cond-true, cond-false}
use Rattle.std.proofs.lemmas.List.{length-map}
use Rattle.std.proofs.lemmas.List.Elements.{Contains-push_cases}
use Rattle.std.proofs.lemmas.Map.Lookups.{exact_pairs, exact_unsigned}
use Rattle.std.proofs.lemmas.Option.{get_or_from_slice_get, slice_get_within}
use Rattle.term_arena.proofs.Places.{at-append, at-push, at-map, at_contains, contains_at, map-at, map-set_same}
use Rattle.held_consequence.specs.inner.Table.{Entry, key_of, keys_of}
use Rattle.held_consequence.specs.inner.Places.{pair_order, ArePlaced}

-- the answer at a pair's place
pub answer_there : (known : List Entry) (i : ℕ) (d : Entry) (v : Bool) (k : ℕ × ℕ) → v ≡ (get_or known i d).2 → slice_get (keys_of known) i ≡ Some k → Contains known (k.0, k.1, v)
answer_there known i d v k is e =
    let at = at-map key_of known i k e in
    let item : get_or known i d ≡ at.0 = get_or_from_slice_get known i at.0 d at.1 in
    let answer : v ≡ at.0.2 = is ∙ ap (λ (p : Entry). p.2) item in
    subst (Contains known) (λ j. ((at.2 j).0, (at.2 j).1, sym answer j)) (contains_at known i at.0 at.1)

-- a place of a pair is one of the table
pub place_there : (known : List Entry) (places : BTreeMap (ℕ × ℕ) ℕ) (k : ℕ × ℕ) (i : ℕ) → ArePlaced known places → get pair_order places k ≡ Some i → i < length known
place_there known places k i a e = let at = at-map key_of known i k (a.found k i e) in slice_get_within known i at.0 at.1

pub placed_none : (known : List Entry) (places : BTreeMap (ℕ × ℕ) ℕ) → known ≡ [] → places.entries ≡ [] → ArePlaced known places
placed_none known places none empty = record {
  found = λ k i e. let f : None ≡ Some i = sym (ap (λ es. lookup (is_at (pair_order k)) es) empty) ∙ e in cc;
  each = λ k e c. let at = at_contains [] k (subst (λ (l : List Entry). Contains (keys_of l) k) none c) in cc;
}

-- the same pairs in another table, the same places in another map
pub placed_same : (old new : List Entry) (m n : BTreeMap (ℕ × ℕ) ℕ) → keys_of new ≡ keys_of old → n.entries ≡ m.entries → ArePlaced old m → ArePlaced new n
placed_same old new m n keys same a =
    let get_same : (k : ℕ × ℕ) → get pair_order m k ≡ get pair_order n k = λ k. ap (λ es. lookup (is_at (pair_order k)) es) (sym same) in
    record {
      found = λ k i e. ap (λ ks. slice_get ks i) keys ∙ a.found k i (get_same k ∙ e);
      each = λ k e c. a.each k (get_same k ∙ e) (subst (λ (ks : List (ℕ × ℕ)). Contains ks k) keys c);
    }

pub placed_set : (old new : List Entry) (m : BTreeMap (ℕ × ℕ) ℕ) (i : ℕ) (p : Entry) → slice_get (keys_of old) i ≡ Some (key_of p) → new ≡ set old i p → ArePlaced old m → ArePlaced new m
placed_set old new m i p e is a =
    let at = at-map key_of old i (key_of p) e in
    placed_same old new m m (ap keys_of is ∙ map-set_same key_of old i at.0 p at.1 (sym at.2)) refl a

map_push : {A B : Type 0} (f : A → B) (xs : List A) (x : A) → map f (xs ++ x ∷ []) ≡ map f xs ++ f x ∷ []
map_push f [] x = refl
map_push f (y ∷ xs) x = ap (λ l. f y ∷ l) (map_push f xs x)

same_itself : (k : ℕ × ℕ) → is_eq (pair_order k k) ≡ true
same_itself k = ap (λ (o : Ordering). is_eq (ordering_then o (nat_cmp k.1 k.1))) (sym (nat_cmp_is k.0 k.0 Equal refl)) ∙ ap is_eq (sym (nat_cmp_is k.1 k.1 Equal refl))

-- one pair more
pub placed_push : (old new : List Entry) (m n : BTreeMap (ℕ × ℕ) ℕ) (p : Entry) (place : ℕ) → place ≡ length old → new ≡ old ++ p ∷ []
    → ((q : ℕ × ℕ) → get pair_order n q ≡ cond (is_at (pair_order (key_of p)) q) (Some place) (get pair_order m q)) → ArePlaced old m → ArePlaced new n
placed_push old new m n p place here is updates a =
    let l = key_of p in
    let keys : keys_of new ≡ keys_of old ++ l ∷ [] = ap keys_of is ∙ map_push key_of old p in
    let At = λ (k : ℕ × ℕ) (i : ℕ). slice_get (keys_of new) i ≡ Some k in
    let last : At l place =
    ap (λ ks. slice_get ks place) keys ∙ ap (λ (i : ℕ). slice_get (keys_of old ++ l ∷ []) i) (here ∙ sym (length-map old key_of)) ∙ at-push (keys_of old) l in
    record {
      found = λ k i e.
          elim (cases_Bool (is_at (pair_order l) k)) [
            | inl here_is ↦
                let same : l ≡ k = exact_pairs nat_cmp nat_cmp exact_unsigned exact_unsigned l k ((Equal-is (pair_order l k)).0 here_is) in
                let is_place : Some place ≡ Some i = sym (updates k ∙ cond-true _ _ _ here_is) ∙ e in
                let at_place : place ≡ i = cc in
                subst (λ (j : ℕ). At k j) at_place (subst (λ (q : ℕ × ℕ). At q place) same last)
            | inr other ↦ ap (λ ks. slice_get ks i) keys ∙ at-append (keys_of old) (l ∷ []) i k (a.found k i (sym (updates k ∙ cond-false _ _ _ other) ∙ e))
          ];
      each = λ k e c.
          elim (cases_Bool (is_at (pair_order l) k)) [
            | inl here_is ↦ let f : Some place ≡ None = sym (updates k ∙ cond-true _ _ _ here_is) ∙ e in cc
            | inr other ↦ elim (Contains-push_cases (keys_of old) l k (subst (λ (ks : List (ℕ × ℕ)). Contains ks k) keys c)) [
              | inl was ↦ a.each k (sym (updates k ∙ cond-false _ _ _ other) ∙ e) was
              | inr same ↦ absurd (both_ways _ other (ap (λ (q : ℕ × ℕ). is_eq (pair_order l q)) (sym same) ∙ same_itself l))
            ]
          ];
    }

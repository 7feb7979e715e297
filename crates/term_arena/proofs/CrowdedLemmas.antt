-- Numbers of nodes by the order of their keys.
use Rattle.std.proofs.Common.{◌≡◌, ℕ, Bool, true, false, [], Option, Some, None, Equal, refl, ap, sym, ◌∙◌, inl, inr}
use Rattle.std.specs.Prelude.{is_some}
use Rattle.std.specs.Map.{lookup}
use Rattle.std.specs.Ordering.{nat_cmp}
use Rattle.std.specs.BTreeMap.{BTreeMap, Updates, get, is_at}
use Rattle.std.specs.Cmp.{Equal-is}
use Rattle.std.proofs.lemmas.Bool.{true≢false, cases_Bool, cond-true}
use Rattle.std.proofs.lemmas.Map.Lookups.{exact_pairs, exact_unsigned}
use Rattle.term_arena.specs.declared.node.Node.{Node}
use Rattle.term_arena.specs.inner.Crowded.{Key, key_of, key_order, Numbers, number_under, Has, IsPut}

-- keys that the order doesn't tell apart are the same
exact_keys : (k l : Key) → key_order k l ≡ Equal → k ≡ l
exact_keys k l h =
    let e = exact_pairs _ nat_cmp (exact_pairs _ nat_cmp (exact_pairs _ nat_cmp (exact_pairs nat_cmp nat_cmp exact_unsigned exact_unsigned) exact_unsigned) exact_unsigned) exact_unsigned
    ((((k.0, k.1), k.2), k.3), k.4) ((((l.0, l.1), l.2), l.3), l.4) h in
    λ i. ((e i).0.0.0.0, (e i).0.0.0.1, (e i).0.0.1, (e i).0.1, (e i).1)

-- a key that had no number gets one
pub has_put : (old new : BTreeMap Key ℕ) (n : Node) (k : ℕ) → number_under old n ≡ None → Updates key_order old new (key_of n) (Some k)
    → Has n k (number_under old) (number_under new)
has_put old new n k none updates = record {
  here = updates.1;
  keeps = λ m j is. elim (cases_Bool (is_at (key_order (key_of n)) (key_of m))) [
    | inl at ↦
        let same : key_of n ≡ key_of m = exact_keys (key_of n) (key_of m) ((Equal-is (key_order (key_of n) (key_of m))).0 at) in
        let bad : None ≡ Some j = sym none ∙ ap (get key_order old) same ∙ is in
        cc
    | inr other ↦ updates.2 (key_of m) other ∙ is
  ];
  only = λ m j is. elim (cases_Bool (is_at (key_order (key_of n)) (key_of m))) [
    | inl at ↦ let same : Some k ≡ Some j = sym (updates.0 (key_of m) ∙ cond-true _ _ _ at) ∙ is in inr cc
    | inr other ↦ inl (sym (updates.2 (key_of m) other) ∙ is)
  ];
}

pub was_put : (n : Node) (k : ℕ) (b : Bool) (old new : Numbers) → b ≡ true → IsPut n k b old new → Has n k old new
was_put n k true old new is h = h
was_put n k false old new is h = absurd (true≢false (sym is))

pub not_put : (n : Node) (k : ℕ) (b : Bool) (old new : Numbers) → b ≡ false → IsPut n k b old new → new ≡ old
not_put n k true old new is h = absurd (true≢false is)
not_put n k false old new is h = h

pub is_none : {A : Type 0} (o : Option A) {b : Bool} → b ≡ false → b ≡ is_some o → o ≡ None
is_none None no_some e = refl
is_none (Some x) no_some e = absurd (true≢false (sym e ∙ no_some))

-- the same entries give the same numbers
pub numbers_same : (old new : BTreeMap Key ℕ) → new.entries ≡ old.entries → number_under new ≡ number_under old
numbers_same old new e i n = lookup (is_at (key_order (key_of n))) (e i)

pub numbers_none : (new : BTreeMap Key ℕ) → new.entries ≡ [] → number_under new ≡ (λ _. None)
numbers_none new e i n = lookup (is_at (key_order (key_of n))) (e i)

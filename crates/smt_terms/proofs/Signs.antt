-- Numbers in two's complement: by the highest bit.
use Rattle.std.proofs.Common.{◌≡◌, ℕ, suc, ◌-◌, ◌^◌, ◌<◌, ◌≤◌, Bool, true, false, not, cond, ℤ, pos, negsuc, refl, sym, subst, arith, nat_lt, ⊎_elim}
use Rattle.std.specs.Prelude.{int_lt, ◌&&◌, ◌||◌}
use Rattle.std.proofs.lemmas.Bool.{cases_lt}
use Rattle.rv_words.specs.Operation.{signed_of}
use Rattle.rv_words.proofs.WordLemmas.{signed_below, signed_above}
use Rattle.smt_terms.specs.Operators.{is_negative, less_signed}

negative-below : (w x : ℕ) → x < 2 ^ (w - 1) → is_negative w x ≡ false
negative-below w x h = grind arith

negative-above : (w x : ℕ) → 2 ^ (w - 1) ≤ x → is_negative w x ≡ true
negative-above w x h = grind arith

pub by_sign : (w x : ℕ) (P : ℤ → Bool → Type 0) → x < 2 ^ w → (x < 2 ^ (w - 1) → P (pos x) false) → (2 ^ (w - 1) ≤ x → P (negsuc (2 ^ w - suc x)) true) → P (signed_of w x) (is_negative w x)
by_sign w x P h low high = ⊎_elim
    (λ l. subst (λ z. P z (is_negative w x)) (sym (signed_below w x l)) (subst (P (pos x)) (sym (negative-below w x l)) (low l)))
    (λ l. subst (λ z. P z (is_negative w x)) (sym (signed_above w x l h)) (subst (P (negsuc (2 ^ w - suc x))) (sym (negative-above w x l)) (high l)))
    (cases_lt x (2 ^ (w - 1)))

-- the order in two's complement, from the signs
abbrev pub less_by : Bool → Bool → ℕ → ℕ → Bool
less_by n m a b = cond n (not m || nat_lt a b) (not m && nat_lt a b)

turned : (k a b : ℕ) → a < k → b < k → nat_lt a b ≡ nat_lt (k - suc b) (k - suc a)
turned k a b h l = grind arith

pub less : (w x y : ℕ) → x < 2 ^ w → y < 2 ^ w → less_signed w x y ≡ int_lt (signed_of w x) (signed_of w y)
less w x y h l =
    by_sign w x (λ z n. less_by n (is_negative w y) x y ≡ int_lt z (signed_of w y)) h
    (λ p. by_sign w y (λ z n. less_by false n x y ≡ int_lt (pos x) z) l (λ q. refl) (λ q. refl))
    (λ p. by_sign w y (λ z n. less_by true n x y ≡ int_lt (negsuc (2 ^ w - suc x)) z) l (λ q. refl) (λ q. turned (2 ^ w) x y h l))

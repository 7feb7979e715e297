-- An element that is put into an array.
use Rattle.std.proofs.Common.{◌≡◌, ℕ, suc, ◌-◌, ◌%◌, ◌^◌, ◌<◌, ◌≤◌, Bool, true, false, cond, [], ◌∷◌, Option, Some, None, refl, sym, ap, subst, ◌∙◌, ⊎_elim, arith}
use Rattle.std.specs.Prelude.{◌==◌, ◌||◌, ◌↔◌, IsTrue, slice_get, unwrap_or}
use Rattle.std.specs.Option.{option_or}
use Rattle.std.proofs.lemmas.Bool.{cases_order, eq-eqb, eqb-true, ne_eqb, le-leb, lt-leb}
use Rattle.std.proofs.Math.Nat.{mod-eq_of_lt}
use Rattle.std.specs.Ordering.{nat_cmp}
use Rattle.std.specs.FinMap.{FinMap, get}
use Rattle.std.proofs.lemmas.Nat.{pow_pos}
use Rattle.rv_words.specs.Bytes.{IsMemory, bytes_from, over}
use Rattle.rv_words.specs.Limits.{AreBytesBelow}

one-byte : (i x k : ℕ) → bytes_from i (x ∷ []) k ≡ cond (k == i) (Some x) None
one-byte i x k = ⊎_elim here (⊎_elim before behind) (cases_order k i)
  where
    here : k ≡ i → bytes_from i (x ∷ []) k ≡ cond (k == i) (Some x) None
    here e =
        let le : i ≤ k = omega arith in
        let z : k - i ≡ 0 = omega arith in
        (λ j. cond (le-leb i k le j) (slice_get (x ∷ []) (k - i)) None) ∙ ap (slice_get (x ∷ [])) z ∙ sym (λ j. cond (eq-eqb k i e j) (Some x) None)

    before : k < i → bytes_from i (x ∷ []) k ≡ cond (k == i) (Some x) None
    before h =
        let other : k ≡ i → ⊥ = λ e. absurd (omega arith) in
        (λ j. cond (lt-leb i k h j) (slice_get (x ∷ []) (k - i)) None) ∙ sym (λ j. cond (ne_eqb k i other j) (Some x) None)

    behind : i < k → bytes_from i (x ∷ []) k ≡ cond (k == i) (Some x) None
    behind h =
        let other : k ≡ i → ⊥ = λ e. absurd (omega arith) in
        let le : i ≤ k = omega arith in
        let z : k - i ≡ suc (k - i - 1) = omega arith in
        (λ j. cond (le-leb i k le j) (slice_get (x ∷ []) (k - i)) None) ∙ ap (slice_get (x ∷ [])) z ∙ sym (λ j. cond (ne_eqb k i other j) (Some x) None)

chosen : (b : Bool) (x : ℕ) (o : Option ℕ) → unwrap_or (option_or (cond b (Some x) None) o) 0 ≡ cond b x (unwrap_or o 0)
chosen true x o = refl
chosen false x o = refl

pub stored-element : (x i k : ℕ) (m : ℕ → Option ℕ) → unwrap_or (over (bytes_from i (x ∷ [])) m k) 0 ≡ cond (k == i) x (unwrap_or (m k) 0)
stored-element x i k m = ap (λ (o : Option ℕ). unwrap_or (option_or o (m k)) 0) (one-byte i x k) ∙ chosen (k == i) x (m k)

-- ---- elements below a limit

absent : (o : Option ℕ) (limit : ℕ) → 0 < limit → ((b : ℕ) → o ≡ Some b → b < limit) → unwrap_or o 0 < limit
absent None limit h f = h
absent (Some b) limit h f = f b refl

pub low_element : (w i : ℕ) (m : FinMap nat_cmp ℕ) → AreBytesBelow (2 ^ w) (get m) → unwrap_or (get m i) 0 % 2 ^ w ≡ unwrap_or (get m i) 0
low_element w i m h = mod-eq_of_lt (absent (get m i) (2 ^ w) (pow_pos w) (h i))

pub same_below : (w : ℕ) (m n : FinMap nat_cmp ℕ) → n ≡ m → AreBytesBelow (2 ^ w) (get m) → AreBytesBelow (2 ^ w) (get n)
same_below w m n e h = subst (λ (x : FinMap nat_cmp ℕ). AreBytesBelow (2 ^ w) (get x)) (sym e) h

pub copied_below : (w : ℕ) (m n k : FinMap nat_cmp ℕ) → n ≡ m → k ≡ n → AreBytesBelow (2 ^ w) (get m) → AreBytesBelow (2 ^ w) (get k)
copied_below w m n k e f h = same_below w m k (f ∙ e) h

-- the bytes of a memory have 8 bits
pub bytes_width : (w : ℕ) (m : FinMap nat_cmp ℕ) → w ≡ 8 → IsMemory (get m) → AreBytesBelow (2 ^ w) (get m)
bytes_width w m e h = subst (λ (k : ℕ). AreBytesBelow (2 ^ k) (get m)) (sym e) h.bytes

first-holds : (t u : Bool) → (t || u) ≡ true → u ≡ false → t ≡ true
first-holds true u h e = refl
first-holds false u h e = absurd (cc)

pub bits_width : (w : ℕ) (m : FinMap nat_cmp ℕ) (b : Bool) → (w ≡ 8 → ⊥) → (w == 1 || w == 8) ≡ true → (IsTrue b ↔ AreBytesBelow 2 (get m)) → (IsTrue b ↔ AreBytesBelow (2 ^ w) (get m))
bits_width w m b other sort h =
    let one : w ≡ 1 = eqb-true w 1 (first-holds (w == 1) (w == 8) sort (ne_eqb w 8 other)) in
    subst (λ (k : ℕ). IsTrue b ↔ AreBytesBelow (2 ^ k) (get m)) (sym one) h

either-below : (limit x b : ℕ) (t : Bool) (o : Option ℕ) → option_or (cond t (Some x) None) o ≡ Some b → x < limit → (o ≡ Some b → b < limit) → b < limit
either-below limit x b true o e lt f = let same : Some x ≡ Some b = e in let is : x ≡ b = cc in omega arith
either-below limit x b false o e lt f = f e

pub stored_below : (w v i x : ℕ) (m n : FinMap nat_cmp ℕ) → get n ≡ over (bytes_from i (x ∷ [])) (get m) → x < 2 ^ v → v ≡ w → AreBytesBelow (2 ^ w) (get m) → AreBytesBelow (2 ^ w) (get n)
stored_below w v i x m n e lt same h a b g =
    let small : x < 2 ^ w = subst (λ (k : ℕ). x < 2 ^ k) same lt in
    either-below (2 ^ w) x b (a == i) (get m a) (sym ((λ j. e j a) ∙ ap (λ (o : Option ℕ). option_or o (get m a)) (one-byte i x a)) ∙ g) small (h a b)

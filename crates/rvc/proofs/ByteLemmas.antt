-- The bytes of a parcel or a word are those at its address.
use Rattle.std.proofs.Common.{◌≡◌, ℕ, zero, suc, ◌+◌, ◌*◌, ◌^◌, ◌<◌, ◌≤◌, Bool, true, false, cond, ◌&&◌, Option, Some, None, is_some, [], ◌∷◌, length, get_or, refl, sym, ap, ◌∙◌, arith}
use Rattle.std.proofs.lemmas.Nat.{le_bytes_2, le_bytes_4}
use Rattle.std.specs.Prelude.{slice_get}
use Rattle.std.specs.Int.{w16, w32, to_le_bytes}
use Rattle.std.specs.Option.{unwrap_or}
use Rattle.rv_words.specs.Bytes.{AreBytes, Bytes, after, inside, load}
use Rattle.rv_words.proofs.MemoryLemmas.{load_small}
use Rattle.rvc.specs.Number.{bytes_of, is_word, length_of, number_at}
use Rattle.rvc.proofs.NumberLemmas.{number_at-is}

some_of : (o : Option ℕ) → is_some o ≡ true → (b : ℕ) × (o ≡ Some b)
some_of None e = absurd (cc)
some_of (Some b) e = (b, refl)

both : (b c : Bool) → (b && c) ≡ true → (b ≡ true) × (c ≡ true)
both true c e = (refl, e)
both false c e = absurd (cc)

pub bytes-long : (w : ℕ) → length (bytes_of w) ≡ length_of w
bytes-long w = by_length (is_word w)
  where
    by_length : (t : Bool) → length (cond t (to_le_bytes w32 w) (to_le_bytes w16 w)) ≡ cond t 4 2
    by_length true = refl
    by_length false = refl

pub number-small : (m : Bytes) (a w : ℕ) → AreBytes m → number_at m a ≡ Some w → w < 2 ^ 32
number-small m a w bytes e = by_length (is_word w) ((number_at-is m a w).0 e)
  where
    by_length : (t : Bool) → (inside (cond t 4 2) m a ≡ true) × (load (cond t 4 2) m a ≡ w) → w < 2 ^ 32
    by_length true h = let is = h.1 in let l = load_small 4 m a bytes in omega arith
    by_length false h = let is = h.1 in let l = load_small 2 m a bytes in omega arith

-- each byte at the address is that byte of the number
pub number-bytes : (m : Bytes) (a w : ℕ) → AreBytes m → a + length_of w ≤ 2 ^ 64 → number_at m a ≡ Some w → (k : ℕ) → k < length_of w → m (a + k) ≡ slice_get (bytes_of w) k
number-bytes m a w bytes room e k l = by_length (is_word w) room ((number_at-is m a w).0 e) k l
  where
    by_length : (t : Bool) → a + cond t 4 2 ≤ 2 ^ 64 → (inside (cond t 4 2) m a ≡ true) × (load (cond t 4 2) m a ≡ w) → (k : ℕ) → k < cond t 4 2
        → m (a + k) ≡ slice_get (cond t (to_le_bytes w32 w) (to_le_bytes w16 w)) k
    by_length true fits (there, number) k l =
        let s0 : a + 0 ≡ a = omega arith in
        let s1 : after a ≡ a + 1 = omega arith in
        let s2 : after (after a) ≡ a + 2 = omega arith in
        let s3 : after (after (after a)) ≡ a + 3 = omega arith in
        let p0 = both (is_some (m a)) (inside 3 m (after a)) there in
        let p1 = both (is_some (m (after a))) (inside 2 m (after (after a))) p0.1 in
        let p2 = both (is_some (m (after (after a)))) (inside 1 m (after (after (after a)))) p1.1 in
        let p3 = both (is_some (m (after (after (after a))))) true p2.1 in
        let x0 = some_of (m a) p0.0 in
        let x1 = some_of (m (after a)) p1.0 in
        let x2 = some_of (m (after (after a))) p2.0 in
        let x3 = some_of (m (after (after (after a)))) p3.0 in
        let sum : x0.0 + 256 * (x1.0 + 256 * (x2.0 + 256 * (x3.0 + 256 * 0))) ≡ w =
        (λ i. unwrap_or (sym x0.1 i) 0 + 256 * (unwrap_or (sym x1.1 i) 0 + 256 * (unwrap_or (sym x2.1 i) 0 + 256 * (unwrap_or (sym x3.1 i) 0 + 256 * 0)))) ∙ number in
        let list : to_le_bytes w32 w ≡ x0.0 ∷ x1.0 ∷ x2.0 ∷ x3.0 ∷ [] =
        le_bytes_4 (x0.0 ∷ x1.0 ∷ x2.0 ∷ x3.0 ∷ []) w refl
        (four x0.0 x1.0 x2.0 x3.0 (bytes a x0.0 x0.1) (bytes (after a) x1.0 x1.1) (bytes (after (after a)) x2.0 x2.1) (bytes (after (after (after a))) x3.0 x3.1)) (omega (arith, sum)) in
        at_4 x0.0 x1.0 x2.0 x3.0 (ap m s0 ∙ x0.1) (ap m (sym s1) ∙ x1.1) (ap m (sym s2) ∙ x2.1) (ap m (sym s3) ∙ x3.1) k l ∙ (λ i. slice_get (sym list i) k)
      where
        four : (b0 b1 b2 b3 : ℕ) → b0 < 256 → b1 < 256 → b2 < 256 → b3 < 256 → (i : ℕ) → get_or (b0 ∷ b1 ∷ b2 ∷ b3 ∷ []) i 0 < 256
        four b0 b1 b2 b3 l0 l1 l2 l3 zero = l0
        four b0 b1 b2 b3 l0 l1 l2 l3 (suc zero) = l1
        four b0 b1 b2 b3 l0 l1 l2 l3 (suc (suc zero)) = l2
        four b0 b1 b2 b3 l0 l1 l2 l3 (suc (suc (suc zero))) = l3
        four b0 b1 b2 b3 l0 l1 l2 l3 (suc (suc (suc (suc i)))) = omega arith

        at_4 : (b0 b1 b2 b3 : ℕ) → m (a + 0) ≡ Some b0 → m (a + 1) ≡ Some b1 → m (a + 2) ≡ Some b2 → m (a + 3) ≡ Some b3 → (k : ℕ) → k < 4 → m (a + k) ≡ slice_get (b0 ∷ b1 ∷ b2 ∷ b3 ∷ []) k
        at_4 b0 b1 b2 b3 e0 e1 e2 e3 zero l = e0
        at_4 b0 b1 b2 b3 e0 e1 e2 e3 (suc zero) l = e1
        at_4 b0 b1 b2 b3 e0 e1 e2 e3 (suc (suc zero)) l = e2
        at_4 b0 b1 b2 b3 e0 e1 e2 e3 (suc (suc (suc zero))) l = e3
        at_4 b0 b1 b2 b3 e0 e1 e2 e3 (suc (suc (suc (suc k)))) l = absurd (omega (arith, l))
    by_length false fits (there, number) k l =
        let s0 : a + 0 ≡ a = omega arith in
        let s1 : after a ≡ a + 1 = omega arith in
        let p0 = both (is_some (m a)) (inside 1 m (after a)) there in
        let p1 = both (is_some (m (after a))) true p0.1 in
        let x0 = some_of (m a) p0.0 in
        let x1 = some_of (m (after a)) p1.0 in
        let sum : x0.0 + 256 * (x1.0 + 256 * 0) ≡ w = (λ i. unwrap_or (sym x0.1 i) 0 + 256 * (unwrap_or (sym x1.1 i) 0 + 256 * 0)) ∙ number in
        let list : to_le_bytes w16 w ≡ x0.0 ∷ x1.0 ∷ [] = le_bytes_2 (x0.0 ∷ x1.0 ∷ []) w refl (two x0.0 x1.0 (bytes a x0.0 x0.1) (bytes (after a) x1.0 x1.1)) (omega (arith, sum)) in
        at_2 x0.0 x1.0 (ap m s0 ∙ x0.1) (ap m (sym s1) ∙ x1.1) k l ∙ (λ i. slice_get (sym list i) k)
      where
        two : (b0 b1 : ℕ) → b0 < 256 → b1 < 256 → (i : ℕ) → get_or (b0 ∷ b1 ∷ []) i 0 < 256
        two b0 b1 l0 l1 zero = l0
        two b0 b1 l0 l1 (suc zero) = l1
        two b0 b1 l0 l1 (suc (suc i)) = omega arith

        at_2 : (b0 b1 : ℕ) → m (a + 0) ≡ Some b0 → m (a + 1) ≡ Some b1 → (k : ℕ) → k < 2 → m (a + k) ≡ slice_get (b0 ∷ b1 ∷ []) k
        at_2 b0 b1 e0 e1 zero l = e0
        at_2 b0 b1 e0 e1 (suc zero) l = e1
        at_2 b0 b1 e0 e1 (suc (suc k)) l = absurd (omega (arith, l))

-- Bytes at n addresses from a on, modulo 2 ^ 64: which are present, what a store leaves and writes, and what a load gives.
use Rattle.std.proofs.Common.{◌≡◌, ◌≢◌, ℕ, zero, suc, ◌+◌, ◌-◌, ◌*◌, ◌/◌, ◌%◌, ◌^◌, ◌<◌, ◌≤◌, Bool, true, false, cond, eqb, ◌&&◌, ◌↔◌, Option, Some, None, is_some, option_map, List, [], ◌∷◌, length, refl, sym, ap, subst, ◌∙◌, ⊎_elim, arith}
use Rattle.std.specs.Option.{option_or, unwrap_or}
use Rattle.std.specs.List.{slice_get}
use Rattle.std.specs.Prelude.{All}
use Rattle.std.proofs.Math.Nat.{div-div-eq-div-mul, mod-add-mod, mod-eq_of_lt, mod-lt, pow-succ'}
use Rattle.std.proofs.lemmas.Bool.{eq-eqb, ne_eqb, cases_lt, cond-true, cond-false}
use Rattle.std.proofs.lemmas.Nat.{pow_pos}
use Rattle.std.proofs.lemmas.Option.{get_or_from_slice_get, slice_get-get_or, slice_get_within}
use Rattle.rv_words.specs.Bytes.{AreAt, AreBytes, AreSame, Bytes, IsMemory, after, away, bytes_from, inside, load, number_of, over, store, word_at}
use Rattle.rv_words.specs.declared.pieces.Piece.{Piece}
use Rattle.rv_words.specs.inner.Pieces.{AreKept, ArePiecesFrom, bytes_in, end}
use Rattle.rv_words.proofs.PieceLemmas.{bytes_before, bytes_within}

pub away-zero : (a : ℕ) → a < 2 ^ 64 → away a 0 ≡ a
away-zero a h = let e : a + 0 ≡ a = omega arith in ap (λ x. x % 2 ^ 64) e ∙ mod-eq_of_lt h

pub away-suc : (a k : ℕ) → away (after a) k ≡ away a (suc k)
away-suc a k = let e : a + 1 + k ≡ a + suc k = omega arith in mod-add-mod (a + 1) (2 ^ 64) k ∙ ap (λ x. x % 2 ^ 64) e

pub after_small : (a : ℕ) → after a < 2 ^ 64
after_small a = mod-lt _ (pow_pos 64)

-- ---- presence

-- all n addresses from a on have a byte
abbrev pub ArePresent : ℕ → Bytes → ℕ → Type 0
ArePresent n m a = (k : ℕ) → k < n → is_some (m (away a k)) ≡ true

both_true : (b c : Bool) → (b && c) ≡ true → (b ≡ true) × (c ≡ true)
both_true true c e = (refl, e)
both_true false c e = absurd (cc)

inside-present : (n : ℕ) (m : Bytes) (a : ℕ) → a < 2 ^ 64 → inside n m a ≡ true → ArePresent n m a
inside-present zero m a h e k l = absurd (omega arith)
inside-present (suc n) m a h e zero l = ap (λ q. is_some (m q)) (away-zero a h) ∙ (both_true (is_some (m a)) (inside n m (after a)) e).0
inside-present (suc n) m a h e (suc k) l =
    ap (λ q. is_some (m q)) (sym (away-suc a k)) ∙ inside-present n m (after a) (after_small a) (both_true (is_some (m a)) (inside n m (after a)) e).1 k (omega arith)

present-inside : (n : ℕ) (m : Bytes) (a : ℕ) → a < 2 ^ 64 → ArePresent n m a → inside n m a ≡ true
present-inside zero m a h f = refl
present-inside (suc n) m a h f =
    let first : is_some (m a) ≡ true = ap (λ q. is_some (m q)) (sym (away-zero a h)) ∙ f 0 (omega arith) in
    let rest : inside n m (after a) ≡ true = present-inside n m (after a) (after_small a) (λ k l. ap (λ q. is_some (m q)) (away-suc a k) ∙ f (suc k) (omega arith)) in
    λ i. first i && rest i

pub inside-all : (n : ℕ) (m : Bytes) (a : ℕ) → a < 2 ^ 64 → (inside n m a ≡ true) ↔ ArePresent n m a
inside-all n m a h = (inside-present n m a h, present-inside n m a h)

-- ---- stores

present_put : (t : Bool) (o : Option ℕ) (b : ℕ) → is_some (cond t (option_map (λ _. b) o) o) ≡ is_some o
present_put false o b = refl
present_put true None b = refl
present_put true (Some x) b = refl

-- a store never changes which addresses are present
pub store-present : (n : ℕ) (m : Bytes) (a v q : ℕ) → is_some (store n m a v q) ≡ is_some (m q)
store-present zero m a v q = refl
store-present (suc n) m a v q = present_put (eqb q a) (store n m (after a) (v / 256) q) (v % 256) ∙ store-present n m (after a) (v / 256) q

-- it changes no byte elsewhere
pub store-elsewhere : (n : ℕ) (m : Bytes) (a v q : ℕ) → a < 2 ^ 64 → ((k : ℕ) → k < n → q ≢ away a k) → store n m a v q ≡ m q
store-elsewhere zero m a v q h other = refl
store-elsewhere (suc n) m a v q h other =
    cond-false (eqb q a) _ _ (ne_eqb q a (λ e. other 0 (omega arith) (e ∙ sym (away-zero a h))))
    ∙ store-elsewhere n m (after a) (v / 256) q (after_small a) (λ k l e. other (suc k) (omega arith) (e ∙ away-suc a k))

-- what it makes of an address depends on that address alone
pub store-same : (n : ℕ) (m w : Bytes) (a v q : ℕ) → m q ≡ w q → store n m a v q ≡ store n w a v q
store-same zero m w a v q e = e
store-same (suc n) m w a v q e = let f = store-same n m w (after a) (v / 256) q e in λ i. cond (eqb q a) (option_map (λ _. v % 256) (f i)) (f i)

-- nor which of k addresses from b on are
pub inside-store : (n k : ℕ) (m : Bytes) (a v b : ℕ) → inside k (store n m a v) b ≡ inside k m b
inside-store n zero m a v b = refl
inside-store n (suc k) m a v b = λ j. store-present n m a v b j && inside-store n k m a v (after b) j

mapped_same : (b : ℕ) (x y : Option ℕ) → is_some x ≡ is_some y → option_map (λ _. b) x ≡ option_map (λ _. b) y
mapped_same b None None e = refl
mapped_same b None (Some y) e = absurd (cc)
mapped_same b (Some x) None e = absurd (cc)
mapped_same b (Some x) (Some y) e = refl

-- byte k of a number without its low byte
byte-suc : (v k : ℕ) → v / 256 / 256 ^ k ≡ v / 256 ^ suc k
byte-suc v k = div-div-eq-div-mul v 256 (256 ^ k) ∙ ap (λ d. v / d) (sym (pow-succ' 256 k))

-- byte k of the number goes to the address k after a, if that is present
pub store-stored : (n : ℕ) (m : Bytes) (a v k : ℕ) → a < 2 ^ 64 → n ≤ 2 ^ 64 → k < n
    → store n m a v (away a k) ≡ option_map (λ _. v / 256 ^ k % 256) (m (away a k))
store-stored zero m a v k h few l = absurd (omega arith)
store-stored (suc n) m a v zero h few l =
    let q = away a 0 in
    let rest = store n m (after a) (v / 256) q in
    let low : v % 256 ≡ v / 256 ^ 0 % 256 = omega arith in
    cond-true (eqb q a) (option_map (λ _. v % 256) rest) rest (eq-eqb q a (away-zero a h))
    ∙ mapped_same (v % 256) rest (m q) (store-present n m (after a) (v / 256) q)
    ∙ (λ i. option_map (λ _. low i) (m q))
store-stored (suc n) m a v (suc k) h few l =
    let q = away a (suc k) in
    let rest = store n m (after a) (v / 256) q in
    let apart : q ≢ a = λ e. omega arith in
    cond-false (eqb q a) (option_map (λ _. v % 256) rest) rest (ne_eqb q a apart)
    ∙ (λ i. store n m (after a) (v / 256) (sym (away-suc a k) i))
    ∙ store-stored n m (after a) (v / 256) k (after_small a) (omega arith) (omega arith)
    ∙ (λ i. option_map (λ _. byte-suc v k i % 256) (m (away-suc a k i)))

-- ---- bytes that are the same from a on

first_same : (n : ℕ) (m w : Bytes) (a : ℕ) → a < 2 ^ 64 → AreSame (suc n) m w a → m a ≡ w a
first_same n m w a h f = ap m (sym (away-zero a h)) ∙ f 0 (omega arith) ∙ ap w (away-zero a h)

rest_same : (n : ℕ) (m w : Bytes) (a : ℕ) → AreSame (suc n) m w a → AreSame n m w (after a)
rest_same n m w a f k l = ap m (away-suc a k) ∙ f (suc k) (omega arith) ∙ ap w (sym (away-suc a k))

pub load-same : (n : ℕ) (m w : Bytes) (a : ℕ) → a < 2 ^ 64 → AreSame n m w a → load n m a ≡ load n w a
load-same zero m w a h f = refl
load-same (suc n) m w a h f =
    let first = first_same n m w a h f in
    let rest = load-same n m w (after a) (after_small a) (rest_same n m w a f) in
    λ i. unwrap_or (first i) 0 + 256 * rest i

pub inside-same : (n : ℕ) (m w : Bytes) (a : ℕ) → a < 2 ^ 64 → AreSame n m w a → inside n m a ≡ inside n w a
inside-same zero m w a h f = refl
inside-same (suc n) m w a h f =
    let first = first_same n m w a h f in
    let rest = inside-same n m w (after a) (after_small a) (rest_same n m w a f) in
    λ i. is_some (first i) && rest i

pub word-same : (m w : Bytes) (a : ℕ) → a < 2 ^ 64 → AreSame 4 m w a → word_at m a ≡ word_at w a
word-same m w a h f =
    let there = inside-same 4 m w a h f in
    let number = load-same 4 m w a h f in
    λ i. cond (there i) (Some (number i)) None

-- ---- bytes below 256

byte_small : (o : Option ℕ) → ((b : ℕ) → o ≡ Some b → b < 256) → unwrap_or o 0 < 256
byte_small None h = omega arith
byte_small (Some b) h = h b refl

pub load_small : (n : ℕ) (m : Bytes) (a : ℕ) → AreBytes m → load n m a < 256 ^ n
load_small zero m a h = omega arith
load_small (suc n) m a h =
    let low = byte_small (m a) (h a) in
    let high = load_small n m (after a) h in
    let more : 256 ^ suc n ≡ 256 * 256 ^ n = pow-succ' 256 n in
    omega arith

put_small : (t : Bool) (o : Option ℕ) (x b : ℕ) → x < 256 → (o ≡ Some b → b < 256) → cond t (option_map (λ _. x) o) o ≡ Some b → b < 256
put_small true None x b p h e = absurd (cc)
put_small true (Some y) x b p h e = let same : x ≡ b = cc in subst (λ z. z < 256) same p
put_small false o x b p h e = h e

pub store_small : (n : ℕ) (m : Bytes) (a v : ℕ) → AreBytes m → AreBytes (store n m a v)
store_small zero m a v h q b e = h q b e
store_small (suc n) m a v h q b e =
    put_small (eqb q a) (store n m (after a) (v / 256) q) (v % 256) b (omega arith) (store_small n m (after a) (v / 256) h q b) e

pub store-memory : (n : ℕ) (m : Bytes) (a v : ℕ) → IsMemory m → IsMemory (store n m a v)
store-memory n m a v h = record { bytes = store_small n m a v h.bytes; places = λ q e. h.places q (sym (store-present n m a v q) ∙ e) }

pub over_small : (x m : Bytes) → AreBytes x → AreBytes m → AreBytes (over x m)
over_small x m h k a b e = one (x a) (h a b) e
  where
    one : (o : Option ℕ) → (o ≡ Some b → b < 256) → option_or o (m a) ≡ Some b → b < 256
    one None g e = k a b e
    one (Some c) g e = g e

-- a byte that lies from a on: its place
pub from_place : (a : ℕ) (bs : List ℕ) (q b : ℕ) → bytes_from a bs q ≡ Some b → (a ≤ q) × (q < a + length bs) × (slice_get bs (q - a) ≡ Some b)
from_place a bs q b e =
    ⊎_elim
    (λ below. absurd (none_byte b (sym (bytes_before a bs q below) ∙ e)))
    (λ le. let at = sym (bytes_within a bs q le) ∙ e in (le, omega (arith, slice_get_within bs (q - a) b at), at))
    (cases_lt q a)
  where
    none_byte : (b : ℕ) → None ≡ Some b → ⊥
    none_byte b e = cc

pub from_small : (a : ℕ) (bs : List ℕ) → All (λ b. b < 256) bs → AreBytes (bytes_from a bs)
from_small a bs h q b e =
    let at = from_place a bs q b e in
    subst (λ x. x < 256) (get_or_from_slice_get bs (q - a) b b at.2) (h (q - a) b (omega (arith, at.0, at.1)))

pub over-memory : (a : ℕ) (bs : List ℕ) (m : Bytes) → All (λ b. b < 256) bs → a + length bs ≤ 2 ^ 64 → IsMemory m → IsMemory (over (bytes_from a bs) m)
over-memory a bs m small fits h = record {
  bytes = over_small (bytes_from a bs) m (from_small a bs small) h.bytes;
  places = λ q e. one q (bytes_from a bs q) refl e;
}
  where
    one : (q : ℕ) (o : Option ℕ) → bytes_from a bs q ≡ o → is_some (option_or o (m q)) ≡ true → q < 2 ^ 64
    one q None is e = h.places q e
    one q (Some b) is e = let at = from_place a bs q b is in omega (arith, at.1)

-- ---- the number of bytes

first_at : (m : Bytes) (a b : ℕ) (bs : List ℕ) → a < 2 ^ 64 → AreAt (b ∷ bs) m a → m a ≡ Some b
first_at m a b bs h f = ap m (sym (away-zero a h)) ∙ f 0 (omega arith)

rest_at : (m : Bytes) (a b : ℕ) (bs : List ℕ) → AreAt (b ∷ bs) m a → AreAt bs m (after a)
rest_at m a b bs f k l = ap m (away-suc a k) ∙ f (suc k) (omega arith)

-- a load of the bytes that lie from a on gives their number
pub load-number : (bs : List ℕ) (m : Bytes) (a : ℕ) → a < 2 ^ 64 → AreAt bs m a → load (length bs) m a ≡ number_of bs
load-number [] m a h f = refl
load-number (b ∷ bs) m a h f =
    let first = first_at m a b bs h f in
    let rest = load-number bs m (after a) (after_small a) (rest_at m a b bs f) in
    λ i. unwrap_or (first i) 0 + 256 * rest i

pub inside-number : (bs : List ℕ) (m : Bytes) (a : ℕ) → a < 2 ^ 64 → AreAt bs m a → inside (length bs) m a ≡ true
inside-number [] m a h f = refl
inside-number (b ∷ bs) m a h f =
    let first = first_at m a b bs h f in
    let rest = inside-number bs m (after a) (after_small a) (rest_at m a b bs f) in
    λ i. is_some (first i) && rest i

-- bytes that are put from a on lie there
pub over-at : (bs : List ℕ) (m : Bytes) (a : ℕ) → a + length bs ≤ 2 ^ 64 → AreAt bs (over (bytes_from a bs) m) a
over-at bs m a fits k l =
    let q = away a k in
    let place : q - a ≡ k = omega arith in
    let some = slice_get-get_or bs k 0 l in
    let at : bytes_from a bs q ≡ slice_get bs k = bytes_within a bs q (omega arith) ∙ ap (slice_get bs) place in
    (λ i. option_or ((at ∙ some) i) (m q)) ∙ sym some

-- the bytes that are present are those of the number that they make
pub load-byte : (n : ℕ) (m : Bytes) (a k : ℕ) → a < 2 ^ 64 → AreBytes m → inside n m a ≡ true → k < n → m (away a k) ≡ Some (load n m a / 256 ^ k % 256)
load-byte zero m a k h small e l = absurd (omega arith)
load-byte (suc n) m a k h small e l = here (m a) refl k l (both_true (is_some (m a)) (inside n m (after a)) e).0
    (λ j lt. load-byte n m (after a) j (after_small a) small (both_true (is_some (m a)) (inside n m (after a)) e).1 lt)
  where
    here : (o : Option ℕ) → m a ≡ o → (k : ℕ) → k < suc n → is_some o ≡ true
        → ((j : ℕ) → j < n → m (away (after a) j) ≡ Some (load n m (after a) / 256 ^ j % 256))
        → m (away a k) ≡ Some ((unwrap_or o 0 + 256 * load n m (after a)) / 256 ^ k % 256)
    here None is k l some rest = absurd (cc)
    here (Some b) is zero l some rest =
        let low = small a b is in
        let byte : b ≡ (b + 256 * load n m (after a)) / 256 ^ 0 % 256 = omega arith in
        ap m (away-zero a h) ∙ is ∙ ap Some byte
    here (Some b) is (suc k) l some rest =
        let low = small a b is in
        let x = load n m (after a) in
        let high : (b + 256 * x) / 256 ≡ x = omega arith in
        let byte : x / 256 ^ k % 256 ≡ (b + 256 * x) / 256 ^ suc k % 256 = ap (λ y. y / 256 ^ k % 256) (sym high) ∙ ap (λ y. y % 256) (byte-suc (b + 256 * x) k) in
        ap m (sym (away-suc a k)) ∙ rest k (omega arith) ∙ ap Some byte

-- ---- what a map keeps

pieces_place : (least : ℕ) (ps : List Piece) (a : ℕ) → ArePiecesFrom least ps → is_some (bytes_in ps a) ≡ true → a < 2 ^ 64
pieces_place least [] a h e = absurd (cc)
pieces_place least (p ∷ ps) a h e = one (bytes_from p.at p.bytes.items a) refl e (λ rest. pieces_place (end p) ps a h.3 rest)
  where
    one : (o : Option ℕ) → bytes_from p.at p.bytes.items a ≡ o → is_some (option_or o (bytes_in ps a)) ≡ true → (is_some (bytes_in ps a) ≡ true → a < 2 ^ 64) → a < 2 ^ 64
    one None is e more = more e
    one (Some b) is e more = let at = from_place p.at p.bytes.items a b is in omega (arith, at.1, h.2)

pub kept-memory : (ps : List Piece) → AreKept ps → IsMemory (bytes_in ps)
kept-memory ps h = record { bytes = h.bytes; places = λ a e. pieces_place 0 ps a h.rise e }

-- What holds at the addresses of each range holds of all bytes of code.
use Rattle.std.proofs.Common.{◌≡◌, ℕ, zero, suc, ◌+◌, ◌-◌, ◌<◌, ◌≤◌, Bool, true, false, cond, Option, Some, None, List, [], ◌∷◌, length, get_or, leb, refl, sym, ◌∙◌, ap, subst, arith}
use Rattle.std.specs.Prelude.{All, slice_get}
use Rattle.std.specs.Option.{option_or}
use Rattle.std.proofs.lemmas.Bool.{leb-true}
use Rattle.std.proofs.lemmas.Bool.Decides.{nat_tests}
use Rattle.std.proofs.lemmas.List.Elements.{All-head, All-tail}
use Rattle.std.proofs.lemmas.Option.{none-some, slice_get_within, slice_get-get_or}
use Rattle.rv_words.proofs.PieceLemmas.{or_none}
use Rattle.rv_words.specs.Bytes.{Bytes, bytes_from, over}
use Rattle.rv_words.specs.declared.range.Range.{Range}
use Rattle.rv_words.specs.Ranges.{range_bytes}
use Rattle.sep_assert.specs.Code.{Agree, IsWithin}
use Rattle.sep_assert.specs.inner.Code.{AreSameAt}

-- an address with a byte of a range is one of its addresses
range-address : (r : Range) (a b : ℕ) → bytes_from r.at r.bytes a ≡ Some b → (r.at ≤ a) × (a - r.at < length r.bytes)
range-address r a b e = at (leb r.at a) refl e
  where
    at : (t : Bool) → leb r.at a ≡ t → cond t (slice_get r.bytes (a - r.at)) None ≡ Some b → (r.at ≤ a) × (a - r.at < length r.bytes)
    at true h e = (leb-true r.at a h, slice_get_within r.bytes (a - r.at) b e)
    at false h e = absurd (none-some b e)

-- each address of a range has its byte
range-byte : (r : Range) (k : ℕ) → k < length r.bytes → bytes_from r.at r.bytes (r.at + k) ≡ Some (get_or r.bytes k 0)
range-byte r k lt =
    let test : leb r.at (r.at + k) ≡ true = grind (arith, nat_tests) in
    let place : r.at + k - r.at ≡ k = omega arith in
    (λ i. cond (test i) (slice_get r.bytes (place i)) None) ∙ slice_get-get_or r.bytes k 0 lt

abbrev HoldsIn : (ℕ → Type 0) → Range → Type 0
HoldsIn P r = (k : ℕ) → k < length r.bytes → P (r.at + k)

address-in : (P : ℕ → Type 0) (r : Range) (x : Bytes) (a b : ℕ) → HoldsIn P r → (x a ≡ Some b → P a) → over (bytes_from r.at r.bytes) x a ≡ Some b → P a
address-in P r x a b here later e = at (bytes_from r.at r.bytes a) refl e
  where
    at : (o : Option ℕ) → bytes_from r.at r.bytes a ≡ o → option_or o (x a) ≡ Some b → P a
    at None h e = later e
    at (Some c) h e =
        let is = range-address r a c h in
        let same : r.at + (a - r.at) ≡ a = omega (arith, is.0) in
        subst P same (here (a - r.at) is.1)

-- what holds at the addresses of each range holds wherever there is a byte
each-address : (P : ℕ → Type 0) (rs : List Range) → All (HoldsIn P) rs → (a b : ℕ) → range_bytes rs a ≡ Some b → P a
each-address P [] all a b e = absurd (none-some b e)
each-address P (r ∷ rs) all a b e =
    address-in P r (range_bytes rs) a b (All-head (HoldsIn P) r rs all) (each-address P rs (All-tail (HoldsIn P) r rs all) a b) e

-- code has a byte wherever one of its ranges has one
some-byte : (r : Range) (rs : List Range) (a b : ℕ) → bytes_from r.at r.bytes a ≡ Some b → (c : ℕ) × (range_bytes (r ∷ rs) a ≡ Some c)
some-byte r rs a b e = (b, λ i. option_or (e i) (range_bytes rs a))

later-byte : (o : Option ℕ) (p : Option ℕ) (b : ℕ) → p ≡ Some b → (c : ℕ) × (option_or o p ≡ Some c)
later-byte None p b e = (b, e)
later-byte (Some c) p b e = (c, refl)

has-byte : (rs : List Range) (i : ℕ) (d : Range) (k : ℕ) → i < length rs → k < length (get_or rs i d).bytes → (c : ℕ) × (range_bytes rs ((get_or rs i d).at + k) ≡ Some c)
has-byte [] i d k lt le = absurd (omega arith)
has-byte (r ∷ rs) zero d k lt le = some-byte r rs (r.at + k) (get_or r.bytes k 0) (range-byte r k le)
has-byte (r ∷ rs) (suc i) d k lt le =
    let rest = has-byte rs i d k (omega arith) le in
    later-byte (bytes_from r.at r.bytes ((get_or rs i d).at + k)) (range_bytes rs ((get_or rs i d).at + k)) rest.0 rest.1

pub within_of_all : (rs : List Range) (y : Bytes) → All (AreSameAt (range_bytes rs) y) rs → IsWithin (range_bytes rs) y
within_of_all rs y all a b e = sym (each-address (λ q. range_bytes rs q ≡ y q) rs all a b e) ∙ e

pub all_of_within : (rs : List Range) (y : Bytes) → IsWithin (range_bytes rs) y → All (AreSameAt (range_bytes rs) y) rs
all_of_within rs y is i d lt k le =
    let c = has-byte rs i d k lt le in
    c.1 ∙ sym (is _ c.0 c.1)

pub within_same : (xs ys : List Range) → xs ≡ ys → IsWithin (range_bytes xs) (range_bytes ys)
within_same xs ys e a b h = (λ i. range_bytes (sym e i) a) ∙ h

-- ---- bytes over others

-- there is no byte in no ranges
pub over_none : (x : Bytes) → over x (range_bytes []) ≡ x
over_none x = λ i a. or_none (x a) i

or-agree : (o p : Option ℕ) (b : ℕ) → p ≡ Some b → ((c : ℕ) → o ≡ Some c → b ≡ c) → option_or o p ≡ Some b
or-agree None p b e same = e
or-agree (Some c) p b e same = ap Some (sym (same c refl))

agree-or : (o p : Option ℕ) (b c : ℕ) → option_or o p ≡ Some b → o ≡ Some c → b ≡ c
agree-or None p b c e f = absurd (none-some c f)
agree-or (Some d) p b c e f = cc

pub within_of_agree : (x y : Bytes) → Agree x y → IsWithin x (over y x)
within_of_agree x y agree a b e = or-agree (y a) (x a) b e (λ c f. agree a b c e f)

pub agree_of_within : (x y : Bytes) → IsWithin x (over y x) → Agree x y
agree_of_within x y is a b c e f = agree-or (y a) (x a) b c (is a b e) f

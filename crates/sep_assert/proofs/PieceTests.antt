-- Bytes that lie in a range, and those that lie in two.
use Rattle.std.proofs.Common.{◌≡◌, ℕ, false, ◌+◌, ◌-◌, ◌<◌, ◌≤◌, Option, Some, None, List, [], ◌∷◌, length, get_or, take, drop, refl, sym, ◌∙◌, ap, subst, eqb, arith, ⊎_elim, length-drop}
use Rattle.std.specs.Prelude.{All}
use Rattle.std.specs.Option.{option_or}
use Rattle.std.proofs.lemmas.Bool.{cases_lt, eqb-false}
use Rattle.std.proofs.lemmas.List.{take-append-drop, length-take-le, drop_more, drop_all}
use Rattle.std.proofs.lemmas.List.Elements.{All-head, All-tail}
use Rattle.std.proofs.lemmas.Option.{none-some}
use Rattle.rv_words.proofs.PieceLemmas.{bytes_append, bytes_before, bytes_past, bytes_take, bytes_drop}
use Rattle.rv_words.specs.Bytes.{Bytes, bytes_from, over}
use Rattle.rv_words.specs.Ranges.{range_bytes}
use Rattle.rv_words.specs.declared.range.Range.{Range}
use Rattle.sep_assert.specs.Code.{IsWithin}

-- ---- bytes from an address on

-- no address but theirs has one of them
has-place : (at : ℕ) (bs : List ℕ) (q b : ℕ) → bytes_from at bs q ≡ Some b → (at ≤ q) × (q < at + length bs)
has-place at bs q b e = (
  ⊎_elim (λ (lt : q < at). absurd (none-some b (sym (bytes_before at bs q lt) ∙ e))) (λ (le : at ≤ q). le) (cases_lt q at),
  ⊎_elim (λ (lt : q < at + length bs). lt) (λ (le : at + length bs ≤ q). absurd (none-some b (sym (bytes_past at bs q le) ∙ e))) (cases_lt q (at + length bs)),
)

pub none-within : (at : ℕ) (bs : List ℕ) (y : Bytes) → length bs ≡ 0 → IsWithin (bytes_from at bs) y
none-within at bs y none q b e =
    let has = has-place at bs q b e in
    absurd (omega (arith, none, has.0, has.1))

-- bytes that stand in others
pub part-within : (start at : ℕ) (xs bs : List ℕ) → start ≤ at → at - start + length bs ≤ length xs → bs ≡ take (length bs) (drop (at - start) xs)
    → IsWithin (bytes_from at bs) (bytes_from start xs)
part-within start at xs bs le fits is q b e =
    let has = has-place at bs q b e in
    let place : start + (at - start) ≡ at = omega arith in
    let long : length bs ≤ length (drop (at - start) xs) = omega (arith, length-drop (at - start) xs) in
    sym (bytes_drop start (at - start) xs q (omega (arith, has.0))) ∙ (λ i. bytes_from (place i) (drop (at - start) xs) q)
    ∙ sym (bytes_take at (length bs) (drop (at - start) xs) q long has.1) ∙ (λ i. bytes_from at (sym is i) q) ∙ e

-- the same bytes by other names
pub renamed : (at place : ℕ) (bs there : List ℕ) (y : Bytes) → at ≡ place → bs ≡ there → IsWithin (bytes_from at bs) y → IsWithin (bytes_from place there) y
renamed at place bs there y same equal is = subst (λ (n : ℕ). IsWithin (bytes_from n there) y) same (subst (λ (xs : List ℕ). IsWithin (bytes_from at xs) y) equal is)

either : (o p : Option ℕ) (b : ℕ) {A : Type 0} → option_or o p ≡ Some b → (o ≡ Some b → A) → (p ≡ Some b → A) → A
either None p b e f g = g e
either (Some c) p b e f g = f e

-- the bytes before a place, and those from there on
two-within : (at n : ℕ) (bs : List ℕ) (y : Bytes) → n ≤ length bs → IsWithin (bytes_from at (take n bs)) y → IsWithin (bytes_from (at + n) (drop n bs)) y → IsWithin (bytes_from at bs) y
two-within at n bs y le front back q b e =
    let both : bytes_from at bs q ≡ option_or (bytes_from at (take n bs) q) (bytes_from (at + n) (drop n bs) q) =
    (λ i. bytes_from at (sym (take-append-drop n bs) i) q) ∙ bytes_append at (take n bs) (drop n bs) q
    ∙ (λ i. option_or (bytes_from at (take n bs) q) (bytes_from (at + length-take-le n bs le i) (drop n bs) q)) in
    either (bytes_from at (take n bs) q) (bytes_from (at + n) (drop n bs) q) b (sym both ∙ e) (front q b) (back q b)

-- ---- bytes over others

or-first : (o p : Option ℕ) (b : ℕ) → o ≡ Some b → option_or o p ≡ Some b
or-first o p b e = (λ i. option_or (e i) p)

first-within : (x y z : Bytes) → IsWithin x y → IsWithin x (over y z)
first-within x y z is q b e = or-first (y q) (z q) b (is q b e)

-- those that lie where the first ones aren't
second-within : (x y z : Bytes) → ((q b : ℕ) → x q ≡ Some b → y q ≡ None) → IsWithin x z → IsWithin x (over y z)
second-within x y z none is q b e = (λ i. option_or (none q b e i) (z q)) ∙ is q b e

before-none : (at : ℕ) (bs : List ℕ) (f : Range) → (0 < length bs → at + length bs ≤ f.at) → (q b : ℕ) → bytes_from at bs q ≡ Some b → bytes_from f.at f.bytes q ≡ None
before-none at bs f end q b e =
    let has = has-place at bs q b e in
    let low : at + length bs ≤ f.at = end (omega (arith, has.0, has.1)) in
    bytes_before f.at f.bytes q (omega (arith, has.1, low))

behind-none : (at : ℕ) (bs : List ℕ) (f : Range) → (0 < length bs → f.at + length f.bytes ≤ at) → (q b : ℕ) → bytes_from at bs q ≡ Some b → bytes_from f.at f.bytes q ≡ None
behind-none at bs f begin q b e =
    let has = has-place at bs q b e in
    let high : f.at + length f.bytes ≤ at = begin (omega (arith, has.0, has.1)) in
    bytes_past f.at f.bytes q (omega (arith, has.0, high))

-- three pieces, of which the middle one lies in the one range and the others, before and behind that, in the other
three-within : (at : ℕ) (bs : List ℕ) (n k : ℕ) (f s : Range) → n ≤ length bs → k ≤ length (drop n bs) → (0 < n → at + n ≤ f.at) → (k < length (drop n bs) → f.at + length f.bytes ≤ at + n + k)
    → IsWithin (bytes_from at (take n bs)) (bytes_from s.at s.bytes) → IsWithin (bytes_from (at + n) (take k (drop n bs))) (bytes_from f.at f.bytes)
    → IsWithin (bytes_from (at + n + k) (drop k (drop n bs))) (bytes_from s.at s.bytes) → IsWithin (bytes_from at bs) (over (bytes_from f.at f.bytes) (bytes_from s.at s.bytes))
three-within at bs n k f s le lek below above front middle back =
    let first = bytes_from f.at f.bytes in
    let second = bytes_from s.at s.bytes in
    let short = length-take-le n bs le in
    let left = length-drop k (drop n bs) in
    two-within at n bs (over first second) le
    (second-within (bytes_from at (take n bs)) first second (before-none at (take n bs) f (λ some. let low = below (omega (arith, short, some)) in omega (arith, short, low))) front)
    (two-within (at + n) k (drop n bs) (over first second) lek
    (first-within (bytes_from (at + n) (take k (drop n bs))) first second middle)
    (second-within (bytes_from (at + n + k) (drop k (drop n bs))) first second (behind-none (at + n + k) (drop k (drop n bs)) f (λ some. above (omega (arith, left, some)))) back))

-- the same, with names for the pieces
pub joined-within : (at : ℕ) (bs front rest middle back : List ℕ) (n k : ℕ) (f s : Range) → n ≤ length bs → k ≤ length rest → front ≡ take n bs → rest ≡ drop n bs → middle ≡ take k rest → back ≡ drop k rest
    → (0 < n → at + n ≤ f.at) → (k < length rest → f.at + length f.bytes ≤ at + n + k)
    → IsWithin (bytes_from at front) (bytes_from s.at s.bytes) → IsWithin (bytes_from (at + n) middle) (bytes_from f.at f.bytes) → IsWithin (bytes_from (at + n + k) back) (bytes_from s.at s.bytes)
    → IsWithin (bytes_from at bs) (over (bytes_from f.at f.bytes) (bytes_from s.at s.bytes))
joined-within at bs front rest middle back n k f s le lek is_front is_rest is_middle is_back below above in_front in_middle in_back =
    three-within at bs n k f s le (subst (λ (xs : List ℕ). k ≤ length xs) is_rest lek) below (λ some. above (subst (λ (xs : List ℕ). k < length xs) (sym is_rest) some))
    (renamed at at front (take n bs) (bytes_from s.at s.bytes) refl is_front in_front)
    (renamed (at + n) (at + n) middle (take k (drop n bs)) (bytes_from f.at f.bytes) refl (is_middle ∙ ap (take k) is_rest) in_middle)
    (renamed (at + n + k) (at + n + k) back (drop k (drop n bs)) (bytes_from s.at s.bytes) refl (is_back ∙ ap (drop k) is_rest) in_back)

-- ---- ranges

pub some-length : (n : ℕ) → eqb n 0 ≡ false → 0 < n
some-length n e = let some = eqb-false n 0 e in omega (arith, some)

head-is : (rs : List Range) (r : Range) → 0 < length rs → r ≡ get_or rs 0 r → rs ≡ r ∷ drop 1 rs
head-is rs r some is = drop_more rs 0 r some ∙ (λ i. sym is i ∷ drop 1 rs)

-- what lies in the first range lies in all of them
pub in-first : (x z : Bytes) (ys : List Range) (f : Range) → 0 < length ys → f ≡ get_or ys 0 f → IsWithin x (bytes_from f.at f.bytes) → IsWithin x (over (range_bytes ys) z)
in-first x z ys f some is within =
    subst (λ (rs : List Range). IsWithin x (over (range_bytes rs) z)) (sym (head-is ys f some is))
    (first-within x (range_bytes (f ∷ drop 1 ys)) z (first-within x (bytes_from f.at f.bytes) (range_bytes (drop 1 ys)) within))

or-pairs : (o p m : Option ℕ) (b : ℕ) → option_or o p ≡ Some b → option_or (option_or o None) (option_or p m) ≡ Some b
or-pairs None p m b e = or-first p m b e
or-pairs (Some c) p m b e = e

-- and what lies in one range and the first of others
pub in-both : (x : Bytes) (ys zs : List Range) (f s : Range) → 0 < length ys → length ys ≤ 1 → f ≡ get_or ys 0 f → 0 < length zs → s ≡ get_or zs 0 s
    → IsWithin x (over (bytes_from f.at f.bytes) (bytes_from s.at s.bytes)) → IsWithin x (over (range_bytes ys) (range_bytes zs))
in-both x ys zs f s some one is has is_s within =
    let only : ys ≡ f ∷ [] = head-is ys f some is ∙ (λ i. f ∷ drop_all 1 ys one i) in
    subst (λ (rs : List Range). IsWithin x (over (range_bytes rs) (range_bytes zs))) (sym only)
    (subst (λ (rs : List Range). IsWithin x (over (range_bytes (f ∷ [])) (range_bytes rs))) (sym (head-is zs s has is_s))
    (λ q b e. or-pairs (bytes_from f.at f.bytes q) (bytes_from s.at s.bytes q) (range_bytes (drop 1 zs) q) b (within q b e)))

abbrev pub LiesIn : Bytes → Range → Type 0
LiesIn y r = IsWithin (bytes_from r.at r.bytes) y

-- ranges that lie there each do so together
pub each-within : (rs : List Range) (y : Bytes) → All (LiesIn y) rs → IsWithin (range_bytes rs) y
each-within [] y all q b e = absurd (none-some b e)
each-within (r ∷ rs) y all q b e =
    either (bytes_from r.at r.bytes q) (range_bytes rs q) b e (All-head (LiesIn y) r rs all q b) (each-within rs y (All-tail (LiesIn y) r rs all) q b)

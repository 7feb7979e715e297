-- Places are read as they are spelled.
use Rattle.std.proofs.Common.{◌≡◌, ℕ, ◌+◌, ◌-◌, ◌<◌, Bool, true, false, cond, List, [], ◌∷◌, codes, length, Option, Some, None, refl, ap, subst, ◌∙◌, arith}
use Rattle.std.specs.Prelude.{◌&&◌, nat_le}
use Rattle.std.specs.List.{AllByRecursion}
use Rattle.std.specs.Str.{bytes_eq}
use Rattle.std.proofs.lemmas.Slice.Eq.{bytes_eq-Decides}
use Rattle.mc_text.specs.Tokens.{Atom}
use Rattle.mc_text.specs.Reading.{one, atom_of}
use Rattle.mc_text.proofs.ReaderLaws.{Reads, Reads-one}
use Rattle.mc_text.proofs.Shown.{shows-atom}
use Rattle.group_text.proofs.HeadLaws.{le-true, true-le}
use Rattle.fun_laws.specs.Spelling.{digits, place_text}
use Rattle.fun_laws.specs.inner.Reading.{are_digits, is_digit, is_number, numbers, place_of}

abbrev pub IsPlace : List ℕ → Type 0
IsPlace ks = AllByRecursion (λ k. k < 10) ks

both-true : (a b : Bool) → (a && b) ≡ true → (a ≡ true) × (b ≡ true)
both-true true true e = (refl, refl)
both-true true false e = absurd cc
both-true false b e = absurd cc

true-both : (a b : Bool) → a ≡ true → b ≡ true → (a && b) ≡ true
true-both a b e f = rw (e, f) refl

digit-there : (b : ℕ) → is_digit b ≡ true → (b ≡ 48 + (b - 48)) × (b - 48 < 10)
digit-there b e =
    let h = both-true (nat_le 48 b) (nat_le b 57) e in
    let f = le-true 48 b h.0 in
    let g = le-true b 57 h.1 in
    (omega (arith, f, g), omega (arith, f, g))

digits-there : (bs : List ℕ) → are_digits bs ≡ true → (bs ≡ digits (numbers bs)) × IsPlace (numbers bs)
digits-there [] e = (refl, tt)
digits-there (b ∷ bs) e =
    let h = both-true (is_digit b) (are_digits bs) e in
    let f = digit-there b h.0 in
    let g = digits-there bs h.1 in
    ((λ j. f.0 j ∷ g.0 j), (f.1, g.1))

digit-back : (k : ℕ) → k < 10 → is_digit (48 + k) ≡ true
digit-back k h = true-both (nat_le 48 (48 + k)) (nat_le (48 + k) 57) (true-le 48 (48 + k) (omega arith)) (true-le (48 + k) 57 (omega (arith, h)))

digits-back : (ks : List ℕ) → IsPlace ks → are_digits (digits ks) ≡ true
digits-back [] h = refl
digits-back (k ∷ ks) h = true-both (is_digit (48 + k)) (are_digits (digits ks)) (digit-back k h.0) (digits-back ks h.1)

numbers-back : (ks : List ℕ) → numbers (digits ks) ≡ ks
numbers-back [] = refl
numbers-back (k ∷ ks) = let e : 48 + k - 48 ≡ k = omega arith in (λ j. e j ∷ numbers-back ks j)

abbrev chosen : List ℕ → Bool → Bool → Option (List ℕ)
chosen a v w = cond v (Some []) (cond w (Some (numbers a)) None)

some-same : (ks ps : List ℕ) → Some ks ≡ Some ps → ks ≡ ps
some-same ks ps e = cc

number-there : (a ps : List ℕ) → is_number a ≡ true → numbers a ≡ ps → (a ≡ place_text ps) × IsPlace ps
number-there [] ps e f = absurd (cc)
number-there (b ∷ bs) ps e f =
    let h = digits-there (b ∷ bs) (both-true (nat_le 1 (length (b ∷ bs))) (are_digits (b ∷ bs)) e).1 in
    subst (λ qs. (b ∷ bs ≡ place_text qs) × IsPlace qs) f h

there : (a ps : List ℕ) (v w : Bool) → bytes_eq a (codes "-") ≡ v → is_number a ≡ w → chosen a v w ≡ Some ps → (a ≡ place_text ps) × IsPlace ps
there a ps true w e f h = let s = some-same [] ps h in subst (λ qs. (a ≡ place_text qs) × IsPlace qs) s ((bytes_eq-Decides a (codes "-")).0 e, tt)
there a ps false true e f h = number-there a ps f (some-same (numbers a) ps h)
there a ps false false e f h = absurd (cc)

place-there : (a ps : List ℕ) → place_of a ≡ Some ps → (a ≡ place_text ps) × IsPlace ps
unfolding place_of
place-there a ps e = there a ps (bytes_eq a (codes "-")) (is_number a) refl refl e

no-dash : (k : ℕ) (bs : List ℕ) (v : Bool) → bytes_eq ((48 + k) ∷ bs) (codes "-") ≡ v → v ≡ false
no-dash k bs true e = let h = (bytes_eq-Decides ((48 + k) ∷ bs) (codes "-")).0 e in absurd (head-apart h)
  where
    head : List ℕ → ℕ
    head [] = 0
    head (x ∷ xs) = x

    head-apart : (48 + k) ∷ bs ≡ codes "-" → ⊥
    head-apart h = let e : 48 + k ≡ 45 = ap head h in omega (arith, e)
no-dash k bs false e = refl

number-back : (k : ℕ) (ks : List ℕ) → IsPlace (k ∷ ks) → is_number (digits (k ∷ ks)) ≡ true
number-back k ks h = true-both (nat_le 1 (length (digits (k ∷ ks)))) (are_digits (digits (k ∷ ks))) (true-le 1 (length (digits (k ∷ ks))) (omega arith)) (digits-back (k ∷ ks) h)

place-back : (ps : List ℕ) → IsPlace ps → place_of (place_text ps) ≡ Some ps
unfolding place_of
place-back [] h = refl
place-back (k ∷ ks) h =
    (λ j. chosen (digits (k ∷ ks)) (no-dash k (digits ks) (bytes_eq (digits (k ∷ ks)) (codes "-")) refl j) (number-back k ks h j))
    ∙ ap Some (numbers-back (k ∷ ks))

pub place-law : Reads (one (atom_of place_of)) IsPlace (λ ps. Atom (place_text ps) ∷ [])
place-law = Reads-one (atom_of place_of) IsPlace (λ ps. Atom (place_text ps)) (shows-atom place_of IsPlace place_text place-there place-back)

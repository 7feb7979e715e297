-- The first newline ends the first row.
use Rattle.std.proofs.Common.{◌≡◌, ℕ, zero, suc, ◌+◌, ◌<◌, ◌≤◌, Bool, true, false, not, cond, eqb, List, [], ◌∷◌, ◌++◌, length, get_or, take, drop, Option, Some, None, refl, sym, ap, subst, ◌∙◌, arith, length-append, inl, inr, ◌⊎◌}
use Rattle.std.specs.Prelude.{option_map}
use Rattle.std.proofs.lemmas.Bool.{eqb-true}
use Rattle.std.proofs.lemmas.List.{drop_at}
use Rattle.mc_text.specs.Printing.{BeginsWith}
use Rattle.mc_text.specs.Fault.{first_lines, newlines}
use Rattle.mc_text.proofs.FaultLine.{AreLines}
use Rattle.mc_text.proofs.Tail.{count-cons}
use Rattle.group_text.specs.inner.Cut.{AreWholeLines, drop_lines}
use Rattle.group_text.specs.inner.Rows.{IsRow, Holds, RowPosition, Passed, Way}
use Rattle.group_text.specs.inner.TextRows.{IsHeld, FirstRow}
use Rattle.group_text.proofs.Cuts.{same-some, are-lines, whole-lines, lines-behind, drop-true, drop-false, drop-none, lines-after-lines}

first-is : (b : ℕ) (bytes : List ℕ) (f : Bool) → eqb b 10 ≡ f → option_map (λ (x : List ℕ). b ∷ x) (cond f (first_lines 0 bytes) (first_lines 1 bytes)) ≡ Some (b ∷ bytes) → first_lines 1 (b ∷ bytes) ≡ Some (b ∷ bytes)
unfolding first_lines
first-is b bytes f e h = rw e h

-- a byte that is no newline, in front of a row
longer-row : (b : ℕ) (bytes : List ℕ) → eqb b 10 ≡ false → IsRow bytes → IsRow (b ∷ bytes)
longer-row b bytes e h = first-is b bytes false e (ap (option_map (λ (x : List ℕ). b ∷ x)) h)

one-byte : (b : ℕ) → eqb b 10 ≡ true → IsRow (b ∷ [])
unfolding first_lines
one-byte b e = first-is b [] true e refl

no-row-of-none : IsRow [] → ⊥
unfolding first_lines
no-row-of-none h = absurd cc

by-byte : (b : ℕ) (bytes : List ℕ) (f : Bool) → eqb b 10 ≡ f → cond f (first_lines 0 bytes) (first_lines 1 bytes) ≡ Some bytes → ((bytes ≡ []) × (eqb b 10 ≡ true)) ⊎ ((eqb b 10 ≡ false) × IsRow bytes)
unfolding first_lines
by-byte b [] true e h = inl (refl, e)
by-byte b (c ∷ bytes) true e h = absurd cc
by-byte b bytes false e h = inr (e, h)

mapped : (b : ℕ) (o : Option (List ℕ)) (bytes : List ℕ) → option_map (λ (f : List ℕ). b ∷ f) o ≡ Some (b ∷ bytes) → o ≡ Some bytes
mapped b (Some m) bytes e = cc
mapped b None bytes e = absurd cc

row-cases : (b : ℕ) (bytes : List ℕ) → IsRow (b ∷ bytes) → ((bytes ≡ []) × (eqb b 10 ≡ true)) ⊎ ((eqb b 10 ≡ false) × IsRow bytes)
unfolding first_lines
row-cases b bytes h = by-byte b bytes (eqb b 10) refl (mapped b (cond (eqb b 10) (first_lines 0 bytes) (first_lines 1 bytes)) bytes h)

-- ---- the first row of a text

other : (f : Bool) → (f ≡ true → ⊥) → f ≡ false
other true h = absurd (h refl)
other false h = refl

ends-row : (bytes : List ℕ) (k : ℕ) → k < length bytes → ((j : ℕ) → j < k → eqb (get_or bytes j 0) 10 ≡ true → ⊥) → eqb (get_or bytes k 0) 10 ≡ true → IsRow (take (k + 1) bytes)
ends-row [] k lt none is = absurd (omega (arith, lt))
ends-row (b ∷ bs) zero lt none is = one-byte b is
ends-row (b ∷ bs) (suc k) lt none is =
    let next : suc k + 1 ≡ suc (k + 1) = omega arith in
    subst (λ (n : ℕ). IsRow (take n (b ∷ bs))) (sym next)
    (longer-row b (take (k + 1) bs) (other (eqb b 10) (none 0 (omega arith))) (ends-row bs k (omega (arith, lt)) (λ j below. none (suc j) (omega (arith, below))) is))

take-drop : (n : ℕ) (bytes : List ℕ) → bytes ≡ take n bytes ++ drop n bytes
take-drop zero bytes = refl
take-drop (suc n) [] = refl
take-drop (suc n) (b ∷ bytes) = ap (λ (v : List ℕ). b ∷ v) (take-drop n bytes)

as-first : (row bytes : List ℕ) → IsRow row → BeginsWith row bytes → FirstRow row bytes
as-first [] bytes r h = absurd (no-row-of-none r)
as-first (b ∷ row) bytes r h = record { is = r; first = h }

pub row-to : (bytes row : List ℕ) (k : ℕ) → k < length bytes → ((j : ℕ) → 0 ≤ j → j < k → eqb (get_or bytes j 0) 10 ≡ true → ⊥) → eqb (get_or bytes k 0) 10 ≡ true → row ≡ take (k + 1) bytes → FirstRow row bytes
row-to bytes row k lt none is e =
    as-first row bytes (subst IsRow (sym e) (ends-row bytes k lt (λ j below. none j (omega arith) below) is)) (record { rest = drop (k + 1) bytes; is = take-drop (k + 1) bytes ∙ ap (λ (v : List ℕ). v ++ drop (k + 1) bytes) (sym e) })

no-newlines : (bytes : List ℕ) → ((j : ℕ) → j < length bytes → eqb (get_or bytes j 0) 10 ≡ true → ⊥) → newlines bytes ≡ 0
no-newlines [] none = refl
no-newlines (b ∷ bs) none = count-cons b bs false (other (eqb b 10) (none 0 (omega arith))) ∙ no-newlines bs (λ j below. none (suc j) (omega (arith, below)))

no-line : (bytes : List ℕ) → AreWholeLines bytes → newlines bytes ≡ 0 → bytes ≡ []
unfolding first_lines
no-line bytes h none = sym (same-some [] bytes (ap (λ (n : ℕ). first_lines n bytes) (sym none) ∙ h))

nothing-first : (row bytes : List ℕ) → row ≡ [] → bytes ≡ [] → FirstRow row bytes
nothing-first [] bytes e h = h
nothing-first (b ∷ row) bytes e h = absurd cc

pub no-row-first : (bytes row : List ℕ) → AreWholeLines bytes → ((j : ℕ) → 0 ≤ j → j < length bytes → eqb (get_or bytes j 0) 10 ≡ true → ⊥) → row ≡ take 0 bytes → FirstRow row bytes
no-row-first bytes row h none e = nothing-first row bytes e (no-line bytes h (no-newlines bytes (λ j below. none j (omega arith) below)))

-- ---- the held row

pub first-held : (row bytes : List ℕ) → FirstRow row bytes → IsHeld row bytes
first-held [] bytes h = inl refl
first-held (b ∷ row) bytes h = inr h

pub held-first : (row bytes : List ℕ) → IsHeld row bytes → (length row ≡ 0 → ⊥) → FirstRow row bytes
held-first [] bytes h some = absurd (some refl)
held-first (b ∷ row) bytes (inl h) some = absurd cc
held-first (b ∷ row) bytes (inr h) some = h

pub text-holds : (row bytes : List ℕ) (taken : ℕ) (none : Bool) → FirstRow row bytes → none ≡ eqb (length row) 0 → Holds (not none) row (λ p. p ≡ record { rest = bytes; taken = taken })
text-holds [] bytes taken true h e = λ p k. ap (λ (x : RowPosition). x.rest) k ∙ h
text-holds [] bytes taken false h e = absurd cc
text-holds (b ∷ row) bytes taken true h e = absurd (let k : suc (length row) ≡ 0 = eqb-true (suc (length row)) 0 (sym e) in omega arith)
text-holds (b ∷ row) bytes taken false h e = (h.is, λ p k. subst (BeginsWith (b ∷ row)) (sym (ap (λ (x : RowPosition). x.rest) k)) h.first)

pub record Behind (held rest back : List ℕ) : Type 0 where
  pub lines : AreWholeLines back
  pub shorter : length back < length rest
  pub is : rest ≡ held ++ back

pub behind-held : (held rest back : List ℕ) → IsRow held → IsHeld held rest → AreWholeLines rest → back ≡ drop (length held) rest → Behind held rest back
behind-held [] rest back r h w e = absurd (no-row-of-none r)
behind-held (b ∷ held) rest back r (inl h) w e = absurd cc
behind-held (b ∷ held) rest back r (inr h) w e =
    let same : back ≡ h.first.rest = e ∙ ap (drop (length (b ∷ held))) h.first.is ∙ drop_at (b ∷ held) h.first.rest (length (b ∷ held)) refl in
    let whole : rest ≡ (b ∷ held) ++ back = h.first.is ∙ ap (λ (v : List ℕ). (b ∷ held) ++ v) (sym same) in
    let count : length rest ≡ length ((b ∷ held) ++ back) = ap length whole in
    record { lines = whole-lines back (lines-behind (b ∷ held) back (subst AreLines whole (are-lines rest w))); shorter = omega (arith, count, length-append (b ∷ held) back); is = whole }

-- ---- ways from one place to another

pub way-same : (p : RowPosition) → Way p p
way-same p = record { rows = 0; taken = omega arith; rest = sym (drop-none p.rest) }

pub way-more : (p q r : RowPosition) → Way p q → Way q r → Way p r
way-more p q r a b = record {
  rows = a.rows + b.rows;
  taken = omega (arith, a.taken, b.taken);
  rest = b.rest ∙ ap (drop_lines b.rows) a.rest ∙ sym (lines-after-lines a.rows b.rows p.rest);
}

behind-row : (row more : List ℕ) → IsRow row → drop_lines 1 (row ++ more) ≡ more
behind-row [] more r = absurd (no-row-of-none r)
behind-row (b ∷ row) more r = elim (row-cases b row r) [
  | inl k ↦ drop-true 0 b (row ++ more) k.1 ∙ drop-none (row ++ more) ∙ ap (λ (v : List ℕ). v ++ more) k.0
  | inr k ↦ drop-false 0 b (row ++ more) k.0 ∙ behind-row row more k.1
]

pub way-row : (row : List ℕ) (p q : RowPosition) → IsRow row → Passed row p q → Way p q
way-row row p q r h = record { rows = 1; taken = h.taken; rest = sym (behind-row row q.rest r) ∙ ap (drop_lines 1) (sym h.rest) }

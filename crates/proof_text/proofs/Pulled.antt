-- A line of a file is a row, or the last bytes; rows that are pulled stand where the file goes on.
use Rattle.std.proofs.Common.{◌≡◌, ◌≢◌, ℕ, suc, ◌+◌, ◌-◌, ◌<◌, Bool, true, false, cond, eqb, List, [], ◌∷◌, ◌++◌, length, get_or, Option, Some, None, IfSome, refl, sym, ap, subst, ◌∙◌, arith, append_assoc, length-append, inl, inr}
use Rattle.std.specs.Prelude.{option_map}
use Rattle.mc_text.specs.Fault.{first_lines, newlines}
use Rattle.mc_text.specs.Printing.{BeginsWith}
use Rattle.mc_text.proofs.FaultLine.{AreLines, EndsByte, first-step, lines-first, newlines-append}
use Rattle.mc_text.proofs.Tail.{count-cons}
use Rattle.std.proofs.lemmas.Bool.{eqb-true}
use Rattle.std.proofs.lemmas.List.{append-nil}
use Rattle.mc_shelf.specs.Shelf.{Contents}
use Rattle.mc_shelf.specs.Lines.{LinesState, up_to_newline, bytes_left, AllGiven, GivesFirstLine}
use Rattle.group_text.specs.inner.Cut.{AreWholeLines}
use Rattle.group_text.specs.inner.Rows.{IsRow, RowPosition, Passed, Holds}
use Rattle.group_text.proofs.Cuts.{same-some, within}
use Rattle.proof_text.specs.inner.PulledRows.{PulledState, IsTail, behind_held, not_passed, IsToldPlace, IsPossiblePlace, IsPlaceInName, IsPlaceIn, IsPulledPlace, KeepsLine}

one-byte : (b : ℕ) → eqb b 10 ≡ true → IsRow (b ∷ [])
unfolding first_lines
one-byte b e = first-step b [] 0 true e

longer-row : (b : ℕ) (bytes : List ℕ) → eqb b 10 ≡ false → IsRow bytes → IsRow (b ∷ bytes)
longer-row b bytes e h = first-step b bytes 0 false e ∙ ap (option_map (λ (x : List ℕ). b ∷ x)) h

-- a row where the last byte is a newline, else bytes without a newline
abbrev RowOr : Bool → List ℕ → Type 0
RowOr true bytes = IsRow bytes
RowOr false bytes = newlines bytes ≡ 0

other-bytes : (b c : ℕ) (x y : List ℕ) → b ∷ x ≡ c ∷ y → x ≡ y
other-bytes b c x y e = cc

no-more : (b c : ℕ) (bytes : List ℕ) → b ∷ [] ≡ b ∷ c ∷ bytes → ⊥
no-more b c bytes e = absurd cc

row-or : (b : ℕ) (bytes : List ℕ) (last : Bool) → up_to_newline (b ∷ bytes) ≡ b ∷ bytes → eqb (get_or (b ∷ bytes) (length bytes) 0) 10 ≡ last → RowOr last (b ∷ bytes)
row-or b [] true alone e = one-byte b e
row-or b [] false alone e = count-cons b [] false e
row-or b (c ∷ bytes) last alone e = by (eqb b 10) refl (λ further. row-or c bytes last further e)
  where
    longer : (f : Bool) → eqb b 10 ≡ false → RowOr f (c ∷ bytes) → RowOr f (b ∷ c ∷ bytes)
    longer true h ih = longer-row b (c ∷ bytes) h ih
    longer false h ih = count-cons b (c ∷ bytes) false h ∙ ih

    by : (f : Bool) → eqb b 10 ≡ f → (up_to_newline (c ∷ bytes) ≡ c ∷ bytes → RowOr last (c ∷ bytes)) → RowOr last (b ∷ c ∷ bytes)
    by true h ih = absurd (no-more b c bytes (sym (ap (λ (f : Bool). cond f (b ∷ []) (b ∷ up_to_newline (c ∷ bytes))) h) ∙ alone))
    by false h ih = longer last h (ih (other-bytes b b (up_to_newline (c ∷ bytes)) (c ∷ bytes) (sym (ap (λ (f : Bool). cond f (b ∷ []) (b ∷ up_to_newline (c ∷ bytes))) h) ∙ alone)))

of-last : (bytes : List ℕ) (last : Bool) → 0 < length bytes → up_to_newline bytes ≡ bytes → eqb (get_or bytes (length bytes - 1) 0) 10 ≡ last → RowOr last bytes
of-last [] last some alone e = absurd (omega (arith, some))
of-last (b ∷ bytes) last some alone e =
    let place : length bytes ≡ suc (length bytes) - 1 = omega arith in
    row-or b bytes last alone (ap (λ (n : ℕ). eqb (get_or (b ∷ bytes) n 0) 10) place ∙ e)

pub row_by_last : (bytes : List ℕ) → 0 < length bytes → up_to_newline bytes ≡ bytes → eqb (get_or bytes (length bytes - 1) 0) 10 ≡ true → IsRow bytes
row_by_last bytes some alone e = of-last bytes true some alone e

pub tail_by_last : (bytes : List ℕ) → 0 < length bytes → up_to_newline bytes ≡ bytes → eqb (get_or bytes (length bytes - 1) 0) 10 ≡ false → newlines bytes ≡ 0
tail_by_last bytes some alone e = of-last bytes false some alone e

-- ---- a row ends with a newline

not-none : (bytes : List ℕ) → None ≡ Some bytes → ⊥
not-none bytes e = absurd cc

not-nothing : (b : ℕ) (bytes : List ℕ) → Some [] ≡ Some (b ∷ bytes) → ⊥
not-nothing b bytes e = absurd cc

mapped : (b : ℕ) (o : Option (List ℕ)) (bytes : List ℕ) → option_map (λ (x : List ℕ). b ∷ x) o ≡ Some (b ∷ bytes) → o ≡ Some bytes
mapped b (Some m) bytes e = cc
mapped b None bytes e = absurd cc

pub row_some : IsRow [] → ⊥
unfolding first_lines
row_some h = not-none [] h

-- what stands behind the first byte of a row
behind-byte : (b : ℕ) (bytes : List ℕ) (f : Bool) → eqb b 10 ≡ f → IsRow (b ∷ bytes) → cond f (first_lines 0 bytes) (first_lines 1 bytes) ≡ Some bytes
behind-byte b bytes f e h = mapped b (cond f (first_lines 0 bytes) (first_lines 1 bytes)) bytes (sym (first-step b bytes 0 f e) ∙ h)

ends-alone : (b : ℕ) (f : Bool) → eqb b 10 ≡ f → cond f (first_lines 0 []) (first_lines 1 []) ≡ Some [] → b ≡ 10
unfolding first_lines
ends-alone b true e h = eqb-true b 10 e
ends-alone b false e h = absurd (not-none [] h)

goes-on : (c : ℕ) (bytes : List ℕ) (f : Bool) → cond f (first_lines 0 (c ∷ bytes)) (first_lines 1 (c ∷ bytes)) ≡ Some (c ∷ bytes) → IsRow (c ∷ bytes)
unfolding first_lines
goes-on c bytes true h = absurd (not-nothing c bytes h)
goes-on c bytes false h = h

row-ends : (b : ℕ) (bytes : List ℕ) → IsRow (b ∷ bytes) → EndsByte b bytes
row-ends b [] h = ends-alone b (eqb b 10) refl (behind-byte b [] (eqb b 10) refl h)
row-ends b (c ∷ bytes) h = row-ends c bytes (goes-on c bytes (eqb b 10) (behind-byte b (c ∷ bytes) (eqb b 10) refl h))

pub row-lines : (row : List ℕ) → IsRow row → AreLines row
row-lines [] h = absurd (row_some h)
row-lines (b ∷ bytes) h = row-ends b bytes h

pub row_length : (row : List ℕ) → IsRow row → 0 < length row
row_length [] h = absurd (row_some h)
row_length (b ∷ bytes) h = omega arith

-- whole lines behind a row
row-whole : (row rest : List ℕ) → IsRow row → AreWholeLines rest → AreWholeLines (row ++ rest)
row-whole row rest h w =
    ap (λ (n : ℕ). first_lines n (row ++ rest)) (newlines-append row rest)
    ∙ lines-first row rest (newlines rest) (row-lines row h)
    ∙ ap (option_map (λ (f : List ℕ). row ++ f)) w

no-line : (bytes : List ℕ) → AreWholeLines bytes → newlines bytes ≡ 0 → bytes ≡ []
unfolding first_lines
no-line bytes h none = sym (same-some [] bytes (ap (λ (n : ℕ). first_lines n bytes) (sym none) ∙ h))

-- ---- a row is passed

abbrev pub passed_of : PulledState → PulledState
passed_of s = record { lines = s.lines; held = []; tail = s.tail; taken = s.taken + 1 }

abbrev row_before : PulledState → RowPosition → RowPosition
row_before s q = record { rest = s.held ++ q.rest; taken = s.taken }

module _ (s : PulledState) (row : IsRow s.held) (q : RowPosition) where
  may-before : IsPossiblePlace (passed_of s) q → IsPossiblePlace s (row_before s q)
  may-before h = record {
    held = λ some. record { rest = q.rest; is = refl };
    ended = λ none over. absurd (row_some (subst IsRow none row));
  }

  at-before : (file : List ℕ) → IsToldPlace (passed_of s) file q → IsToldPlace s file (row_before s q)
  at-before file h = record {
    tail = h.tail;
    is = ap (λ (v : List ℕ). s.held ++ v) h.is ∙ sym (append_assoc s.held q.rest h.tail);
    whole = row-whole s.held q.rest row h.whole;
    none = h.none;
  }

  in-name-before : (held : Option (List ℕ)) → IsPlaceInName held (passed_of s) q → IsPlaceInName held s (row_before s q)
  in-name-before None h = may-before h
  in-name-before (Some file) h = at-before file h

  in-before : (told : Option Contents) → IsPlaceIn told (passed_of s) q → IsPlaceIn told s (row_before s q)
  in-before None h = may-before h
  in-before (Some files) h = in-name-before (files s.lines.name) h

pub row_was_passed : (told : Option Contents) (s : PulledState) → IsRow s.held → (q : RowPosition) → IsPulledPlace told (passed_of s) q → (p : RowPosition) × IsPulledPlace told s p × Passed s.held p q
row_was_passed told s row q h = (
  row_before s q,
  record { going = h.going; taken = refl; in_file = in-before s row q told h.in_file },
  record { rest = refl; taken = h.taken },
)

-- ---- the row that is held, and the last bytes

nonempty : (row : List ℕ) → IsRow row → row ≢ []
nonempty row h = λ none. row_some (subst IsRow none h)

module _ (s : PulledState) (p : RowPosition) where
  begins-at : (file : List ℕ) → IsRow s.held → IsToldPlace s file p → BeginsWith s.held p.rest
  begins-at file row h =
      let k = within p.rest h.tail s.held (behind_held s.tail (bytes_left s.lines file)) (sym h.is) h.none (row-lines s.held row) in
      record { rest = k.more; is = k.is }

  begins-in-name : (held : Option (List ℕ)) → IsRow s.held → IsPlaceInName held s p → BeginsWith s.held p.rest
  begins-in-name None row h = h.held (nonempty s.held row)
  begins-in-name (Some file) row h = begins-at file row h

  begins-in : (told : Option Contents) → IsRow s.held → IsPlaceIn told s p → BeginsWith s.held p.rest
  begins-in None row h = h.held (nonempty s.held row)
  begins-in (Some files) row h = begins-in-name (files s.lines.name) row h

pub begins_with_held : (told : Option Contents) (s : PulledState) → IsRow s.held → (p : RowPosition) → IsPulledPlace told s p → BeginsWith s.held p.rest
begins_with_held told s row p h = begins-in s p told row h.in_file

no-bytes-more : (b : ℕ) (bytes : List ℕ) → b ∷ bytes ≡ [] → ⊥
no-bytes-more b bytes e = absurd cc

tail-some : (tail : List ℕ) → IsTail tail → tail ≢ []
tail-some [] h = absurd (omega (arith, h.some))
tail-some (b ∷ tail) h = λ e. no-bytes-more b tail e

-- no whole line stands in the last bytes
only-tail : (tail left rest more : List ℕ) → IsTail tail → behind_held tail left ≡ rest ++ more → AreWholeLines rest → rest ≡ []
only-tail [] left rest more h e whole = absurd (omega (arith, h.some))
only-tail (b ∷ tail) left rest more h e whole =
    let count : newlines (b ∷ tail) ≡ newlines rest + newlines more = ap newlines e ∙ newlines-append rest more in
    no-line rest whole (omega (arith, count, h.none))

module _ (s : PulledState) (none : s.held ≡ []) (tail : IsTail s.tail) (p : RowPosition) where
  ended-at : (file : List ℕ) → IsToldPlace s file p → p.rest ≡ []
  ended-at file h = only-tail s.tail (bytes_left s.lines file) p.rest h.tail tail ((λ i. sym none i ++ behind_held s.tail (bytes_left s.lines file)) ∙ h.is) h.whole

  ended-may : IsPossiblePlace s p → p.rest ≡ []
  ended-may h = h.ended none (inl (tail-some s.tail tail))

  ended-in-name : (held : Option (List ℕ)) → IsPlaceInName held s p → p.rest ≡ []
  ended-in-name None h = ended-may h
  ended-in-name (Some file) h = ended-at file h

  ended-in : (told : Option Contents) → IsPlaceIn told s p → p.rest ≡ []
  ended-in None h = ended-may h
  ended-in (Some files) h = ended-in-name (files s.lines.name) h

pub ends_in_tail : (told : Option Contents) (s : PulledState) → s.held ≡ [] → IsTail s.tail → (p : RowPosition) → IsPulledPlace told s p → p.rest ≡ []
ends_in_tail told s none tail p h = ended-in s none tail p told h.in_file

-- ---- a line was pulled

-- the line has no newline, so that nothing stands behind it
all-of : (bytes : List ℕ) → newlines (up_to_newline bytes) ≡ 0 → up_to_newline bytes ≡ bytes
all-of [] none = refl
all-of (b ∷ bytes) none = by (eqb b 10) refl (all-of bytes)
  where
    by : (f : Bool) → eqb b 10 ≡ f → (newlines (up_to_newline bytes) ≡ 0 → up_to_newline bytes ≡ bytes) → up_to_newline (b ∷ bytes) ≡ b ∷ bytes
    by true e ih =
        let line : up_to_newline (b ∷ bytes) ≡ b ∷ [] = ap (λ (f : Bool). cond f (b ∷ []) (b ∷ up_to_newline bytes)) e in
        absurd (omega (arith, none, ap newlines line, count-cons b [] true e))
    by false e ih =
        let line : up_to_newline (b ∷ bytes) ≡ b ∷ up_to_newline bytes = ap (λ (f : Bool). cond f (b ∷ []) (b ∷ up_to_newline bytes)) e in
        line ∙ ap (λ (v : List ℕ). b ∷ v) (ih (sym (count-cons b (up_to_newline bytes) false e) ∙ ap newlines (sym line) ∙ none))

no-length : (bytes : List ℕ) → length bytes ≡ 0 → bytes ≡ []
no-length [] h = refl
no-length (b ∷ bytes) h = absurd (omega (arith, h))

nothing-behind : (line before after : List ℕ) → newlines line ≡ 0 → GivesFirstLine (Some line) before after → after ≡ []
nothing-behind line before after none h =
    let all : line ≡ before = h.0 ∙ all-of before (ap newlines (sym h.0) ∙ none) in
    let count : length before ≡ length line + length after = ap length h.1 ∙ length-append line after in
    no-length after (omega (arith, count, ap length all))

-- the state after the line was kept
abbrev pub with_lines : PulledState → LinesState → PulledState
with_lines s l = record { lines = l; held = s.held; tail = s.tail; taken = s.taken }

tail-behind : (tail left : List ℕ) → IsTail tail → behind_held tail left ≡ tail
tail-behind [] left h = absurd (omega (arith, h.some))
tail-behind (b ∷ tail) left h = refl

-- the line stands in front of what was not passed before
pub kept-line : (file line : List ℕ) (result : Bool) (s new : PulledState) (l : LinesState) → s.held ≡ [] → s.tail ≡ [] → KeepsLine result line (with_lines s l) new
    → GivesFirstLine (Some line) (bytes_left s.lines file) (bytes_left l file) → not_passed s file ≡ not_passed new file
kept-line file line true s new l none no_tail kept gives =
    (λ i. none i ++ behind_held (no_tail i) (bytes_left s.lines file))
    ∙ gives.1
    ∙ (λ i. line ++ behind_held (sym no_tail i) (bytes_left l file))
    ∙ ap (λ (x : PulledState). not_passed x file) (sym kept.1)
kept-line file line false s new l none no_tail kept gives =
    let nothing : bytes_left l file ≡ [] = nothing-behind line (bytes_left s.lines file) (bytes_left l file) kept.0.none gives in
    (λ i. none i ++ behind_held (no_tail i) (bytes_left s.lines file))
    ∙ gives.1
    ∙ (λ i. line ++ nothing i)
    ∙ append-nil line
    ∙ sym (tail-behind line (bytes_left l file) kept.0)
    ∙ (λ i. sym none i ++ behind_held line (bytes_left l file))
    ∙ ap (λ (x : PulledState). not_passed x file) (sym kept.1)

name-kept : (result : Bool) (line : List ℕ) (mid new : PulledState) → KeepsLine result line mid new → new.lines ≡ mid.lines
name-kept true line mid new kept = ap (λ (x : PulledState). x.lines) kept.1
name-kept false line mid new kept = ap (λ (x : PulledState). x.lines) kept.1

pub taken-kept : (result : Bool) (line : List ℕ) (mid new : PulledState) → KeepsLine result line mid new → new.taken ≡ mid.taken
taken-kept true line mid new kept = ap (λ (x : PulledState). x.taken) kept.1
taken-kept false line mid new kept = ap (λ (x : PulledState). x.taken) kept.1

module _ (s new : PulledState) (l : LinesState) (line : List ℕ) (result : Bool) (none : s.held ≡ []) (no_tail : s.tail ≡ [])
    (same : l.name ≡ s.lines.name) (more : AllGiven s.lines → ⊥) (kept : KeepsLine result line (with_lines s l) new) (p : RowPosition) where
  pulled-may : IsPossiblePlace s p
  pulled-may = record {
    held = λ some. absurd (some none);
    ended = λ empty over. absurd (elim over [ inl tail ↦ tail no_tail | inr all ↦ more all ]);
  }

  pulled-at : (file : List ℕ) → GivesFirstLine (Some line) (bytes_left s.lines file) (bytes_left l file) → IsToldPlace new file p → IsToldPlace s file p
  pulled-at file gives h = record {
    tail = h.tail;
    is = kept-line file line result s new l none no_tail kept gives ∙ h.is;
    whole = h.whole;
    none = h.none;
  }

  pulled-in-name : (held : Option (List ℕ)) → IfSome held (λ file. GivesFirstLine (Some line) (bytes_left s.lines file) (bytes_left l file)) → IsPlaceInName held new p → IsPlaceInName held s p
  pulled-in-name None gives h = pulled-may
  pulled-in-name (Some file) gives h = pulled-at file gives h

  pulled-in : (told : Option Contents) → IfSome told (λ files. IfSome (files s.lines.name) (λ file. GivesFirstLine (Some line) (bytes_left s.lines file) (bytes_left l file))) → IsPlaceIn told new p → IsPlaceIn told s p
  pulled-in None gives h = pulled-may
  pulled-in (Some files) gives h =
      let name : new.lines.name ≡ s.lines.name = ap (λ (x : LinesState). x.name) (name-kept result line (with_lines s l) new kept) ∙ same in
      pulled-in-name (files s.lines.name) gives (subst (λ (n : List ℕ). IsPlaceInName (files n) new p) name h)

-- where the rows may stand behind a line that was pulled they might stand before
pub line_was_pulled : (told now : Option Contents) (s new : PulledState) (l : LinesState) (line : List ℕ) (result : Bool) → now ≡ told → s.held ≡ [] → s.tail ≡ [] → s.lines.refused ≡ None
    → l.name ≡ s.lines.name → (AllGiven s.lines → ⊥) → KeepsLine result line (with_lines s l) new
    → IfSome told (λ files. IfSome (files s.lines.name) (λ file. GivesFirstLine (Some line) (bytes_left s.lines file) (bytes_left l file)))
    → (p : RowPosition) → IsPulledPlace now new p → IsPulledPlace told s p
line_was_pulled told now s new l line result kept_told none no_tail going same more kept gives p h = record {
  going = going;
  taken = h.taken ∙ taken-kept result line (with_lines s l) new kept;
  in_file = pulled-in s new l line result none no_tail same more kept p told gives (subst (λ (t : Option Contents). IsPlaceIn t new p) kept_told h.in_file);
}

-- what is held then
pub line_is_held : (told : Option Contents) (mid new : PulledState) (line : List ℕ) (result : Bool) → mid.held ≡ [] → KeepsLine result line mid new → Holds result new.held (λ p. IsPulledPlace told new p)
line_is_held told mid new line true none kept =
    let row : IsRow new.held = subst IsRow (ap (λ (x : PulledState). x.held) (sym kept.1)) kept.0 in
    (row, begins_with_held told new row)
line_is_held told mid new line false none kept =
    let empty : new.held ≡ [] = ap (λ (x : PulledState). x.held) kept.1 ∙ none in
    ends_in_tail told new empty (subst IsTail (ap (λ (x : PulledState). x.tail) (sym kept.1)) kept.0)

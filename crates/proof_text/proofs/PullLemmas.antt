-- What was read of rows that are pulled: of the file, where it is told what the name holds, and of some text over every shelf.
use Rattle.std.proofs.Common.{◌≡◌, ◌≢◌, ℕ, ◌+◌, ◌-◌, ◌≤◌, Bool, List, [], ◌∷◌, ◌++◌, length, Option, Some, None, IfSome, Ok, refl, sym, ap, subst, ◌∙◌, arith}
use Rattle.std.proofs.lemmas.List.{append-nil}
use Rattle.mc_text.specs.Tokens.{Tok}
use Rattle.mc_text.specs.declared.token.Before.TheVariants.{Start}
use Rattle.mc_text.specs.Scanning.{lex, At}
use Rattle.mc_text.specs.Reading.{Reader}
use Rattle.mc_text.specs.Fault.{newlines}
use Rattle.mc_shelf.specs.Shelf.{Contents}
use Rattle.rv_words.specs.declared.range.Range.{Range}
use Rattle.tailrec_lang.specs.Tree.{GroupTree}
use Rattle.group_text.specs.Limits.{IsGroupIn}
use Rattle.group_text.specs.inner.Cut.{AreWholeLines}
use Rattle.group_text.specs.inner.Reading.{turn_at}
use Rattle.group_text.specs.inner.Rest.{GoesOn}
use Rattle.group_text.specs.inner.Rows.{RowPosition, tokens}
use Rattle.group_text.proofs.Cuts.{are-lines, cut, whole-lines}
use Rattle.group_text.proofs.Claims.{bytes-left, tail-left}
use Rattle.group_text.proofs.HeadLaws.{IsCode}
use Rattle.group_text.proofs.Joins.{AllOk, AllBad}
use Rattle.proof_text.specs.inner.LineReaders.{KnownTexts}
use Rattle.proof_text.specs.inner.PulledRows.{PulledState, IsToldPlace, IsPossiblePlace, IsPlaceInName, IsPlaceIn, IsPulledPlace, IfFile, after_newlines, not_passed}
use Rattle.proof_text.specs.inner.Pulling.{ReadFrom, StoppedAt}
use Rattle.proof_text.proofs.KnownLines.{version, Line, Are, Fits, turn}
use Rattle.proof_text.proofs.Drawn.{after_lines, after_none}
use Rattle.proof_text.proofs.Passed.{turn-takes}
use Rattle.proof_text.proofs.Resumed.{line-takes}

-- from one thing that is said where it is told to another
pub told_so : (told : Option Contents) (name : List ℕ) (Q P : List ℕ → Type 0) → ((files : Contents) (file : List ℕ) → told ≡ Some files → files name ≡ Some file → Q file → P file)
    → IfFile told name Q → IfFile told name P
told_so told name Q P so q = by told refl q
  where
    in-name : (files : Contents) → told ≡ Some files → (held : Option (List ℕ)) → files name ≡ held → IfSome held Q → IfSome held P
    in-name files e None h q = tt
    in-name files e (Some file) h q = so files file e h q

    by : (t : Option Contents) → told ≡ t → IfFile t name Q → IfFile t name P
    by None e q = tt
    by (Some files) e q = in-name files e (files name) refl q

-- where it stands with the bytes behind the last newline
last-bytes : (bytes lines tail : List ℕ) → bytes ≡ lines ++ tail → AreWholeLines lines → newlines tail ≡ 0 → after_newlines bytes ≡ tail
last-bytes bytes lines tail is whole none = ap after_newlines is ∙ after_lines lines tail (are-lines lines whole) ∙ after_none tail none

module _ (told now : Option Contents) (old new : PulledState) (kept : now ≡ told) (named : new.lines.name ≡ old.lines.name) (going : new.lines.refused ≡ None) where
  abbrev Old : RowPosition → Type 0
  Old = λ p. IsPulledPlace told old p

  abbrev New : RowPosition → Type 0
  New = λ p. IsPulledPlace now new p

  -- ---- where it is told

  module _ (files : Contents) (file : List ℕ) (is : told ≡ Some files) (held : files old.lines.name ≡ Some file) where
    in-old : (p : RowPosition) → IsPlaceIn told old p → IsToldPlace old file p
    in-old p h = subst (λ (o : Option (List ℕ)). IsPlaceInName o old p) held (subst (λ (t : Option Contents). IsPlaceIn t old p) is h)

    in-new : (q : RowPosition) → IsToldPlace new file q → IsPlaceIn now new q
    in-new q h = subst (λ (t : Option Contents). IsPlaceIn t new q) (sym (kept ∙ is)) (subst (λ (o : Option (List ℕ)). IsPlaceInName o new q) (sym (ap files named ∙ held)) h)

    here : (q : RowPosition) × IsToldPlace new file q × New q
    here =
        let k = cut (not_passed new file) in
        let q : RowPosition = record { rest = k.lines; taken = new.taken } in
        let h : IsToldPlace new file q = record { tail = k.tail; is = k.is; whole = whole-lines k.lines k.whole; none = k.none } in
        (q, h, record { going = going; taken = refl; in_file = in-new q h })

    module _ {Y : Type 0} (r : Reader Y) where
      pub read_from : after_newlines (not_passed new file) ≡ after_newlines (not_passed old file) → (y : Y) → AllOk r y Old New → ReadFrom r y old new file
      read_from last y all =
          let q = here in
          let k = all q.0 q.2 in
          let p = in-old k.spot k.may.in_file in
          let tails : q.1.tail ≡ p.tail = sym (last-bytes (not_passed new file) q.0.rest q.1.tail q.1.is q.1.whole q.1.none) ∙ last ∙ last-bytes (not_passed old file) k.spot.rest p.tail p.is p.whole p.none in
          record {
            lines = k.spot.rest;
            tail = p.tail;
            more = q.0.rest;
            rows = k.way.rows;
            before = record { is = p.is; whole = p.whole; none = p.none };
            is = k.is;
            rest = k.way.rest;
            count = omega (arith, k.total, k.way.taken);
            after = record { is = q.1.is ∙ ap (λ (v : List ℕ). q.0.rest ++ v) tails; whole = q.1.whole; none = p.none };
            taken = sym q.2.taken ∙ k.way.taken ∙ ap (λ (n : ℕ). n + k.way.rows) k.may.taken;
          }

      pub stopped_at : old.taken ≤ new.taken → (n : ℕ) → n ≡ new.taken + 1 → AllBad r Old New → StoppedAt r old n file
      stopped_at le n at all =
          let q = here in
          let k = all q.0 q.2 in
          let p = in-old k.spot k.may.in_file in
          record {
            lines = k.spot.rest;
            tail = p.tail;
            bad = k.bad;
            rows = new.taken - old.taken;
            before = record { is = p.is; whole = p.whole; none = p.none };
            is = k.is;
            count = omega (arith, le, k.total, k.row, k.may.taken, q.2.taken);
            at = omega (arith, le, at);
          }

  -- ---- over every shelf

  possible : IsPossiblePlace new (record { rest = new.held; taken = new.taken })
  possible = record { held = λ some. record { rest = []; is = sym (append-nil new.held) }; ended = λ none over. none }

  some-place : (t : Option Contents) → (q : RowPosition) × (q.taken ≡ new.taken) × IsPlaceIn t new q
  some-place None = (record { rest = new.held; taken = new.taken }, refl, possible)
  some-place (Some files) = in-name (files new.lines.name)
    where
      in-name : (o : Option (List ℕ)) → (q : RowPosition) × (q.taken ≡ new.taken) × IsPlaceInName o new q
      in-name None = (record { rest = new.held; taken = new.taken }, refl, possible)
      in-name (Some file) =
          let k = cut (not_passed new file) in
          (record { rest = k.lines; taken = new.taken }, refl, record { tail = k.tail; is = k.is; whole = whole-lines k.lines k.whole; none = k.none })

  pub some_read : {Y : Type 0} (r : Reader Y) (y : Y) → AllOk r y Old New → (ts us : List Tok) × (r ts ≡ Ok (y, us))
  some_read r y all =
      let q = some-place now in
      let k = all q.0 (record { going = going; taken = q.1; in_file = q.2 }) in
      (tokens k.spot, tokens q.0, k.is)

  pub group_within : (known : KnownTexts) (first : Bool) (g : GroupTree) → AllOk (turn_at (version known) first) (Some g) Old New → IsGroupIn (version known) g
  group_within known first g all = let s = some_read (turn_at (version known) first) (Some g) all in (turn-takes known first s.0 g s.1 s.2).fits

  pub line_within : (known : KnownTexts) (own : List Range) → IsCode own → (before : List (Line known)) → Are known before → (l : Line known) → AllOk (turn known own before) (Some l) Old New → Fits known before l
  line_within known own code before are l all = let s = some_read (turn known own before) (Some l) all in (line-takes known own code before are s.0 l s.1 s.2).fits

-- ---- behind the last group

no-length : (bytes : List ℕ) → length bytes ≡ 0 → bytes ≡ []
no-length [] e = refl
no-length (b ∷ bytes) e = absurd (omega (arith, e))

pub nothing_more : (bytes lines tail : List ℕ) → bytes ≡ lines ++ tail → bytes ≡ [] → (lines ≡ []) × (tail ≡ [])
nothing_more bytes [] tail is none = (refl, sym is ∙ none)
nothing_more bytes (b ∷ lines) tail is none = absurd (some (sym is ∙ none))
  where
    some : b ∷ lines ++ tail ≡ [] → ⊥
    some e = cc

pub something_more : (bytes lines tail : List ℕ) → bytes ≡ lines ++ tail → bytes ≢ [] → GoesOn (lex lines (At Start)) tail
something_more bytes [] tail is some = tail-left [] tail refl (λ none. some (is ∙ no-length tail none))
something_more bytes (b ∷ lines) tail is some = bytes-left (b ∷ lines) tail (λ none. absurd (omega (arith, none)))

-- What a call for a line and a row that is passed do to rows that are pulled.
use Rattle.std.proofs.Common.{◌≡◌, ◌≢◌, ℕ, suc, ◌+◌, ◌≤◌, ◌<◌, Bool, true, false, cond, eqb, List, [], ◌∷◌, ◌++◌, length, Option, Some, None, IfSome, Result, Ok, Err, ◌⊎◌, inl, inr, refl, sym, ap, ◌∙◌, arith}
use Rattle.std.proofs.lemmas.Bool.{eqb-true}
use Rattle.std.specs.Option.{is_some}
use Rattle.std.specs.Prelude.{IsErrOf}
use Rattle.mc_text.specs.Fault.{newlines}
use Rattle.mc_text.proofs.FaultLine.{AreLines, EndsByte, one-newline, newlines-append}
use Rattle.mc_shelf.specs.Fault.{Rose}
use Rattle.mc_shelf.specs.Shelf.{Contents, TellsName}
use Rattle.mc_shelf.specs.Lines.{LinesState, bytes_left, GivesFirstLine}
use Rattle.mc_shelf.specs.inner.OnlyReads.{OnlyReads}
use Rattle.mc_shelf.specs.declared.lines.LineFault.{LineFault}
use Rattle.mc_shelf.specs.declared.lines.LineFault.TheVariants as line
use Rattle.group_text.specs.inner.Rows.{IsRow}
use Rattle.group_text.specs.declared.read_error.RowError.{RowError}
use Rattle.group_text.specs.declared.read_error.RowError.TheVariants as row
use Rattle.proof_text.specs.inner.PulledRows.{PulledState, IsTail, Draws, FailsFirst, IfFile, KeepsLine, held_bytes, after_newlines, behind_held, not_passed}
use Rattle.proof_text.specs.inner.Drawing.{draws_nothing, if_file}
use Rattle.proof_text.proofs.Pulled.{row-lines, row_length, passed_of, taken-kept, with_lines, kept-line}

-- ---- what is held, and what was answered

pub held-of : (held : Option (List ℕ)) → true ≡ is_some held → IfSome held IsRow → IsRow (held_bytes held)
held-of None e h = absurd cc
held-of (Some row) e h = h

pub none-of : (held : Option (List ℕ)) → false ≡ is_some held → held_bytes held ≡ []
none-of None e = refl
none-of (Some row) e = absurd cc

pub tail-of : (tail : Option (List ℕ)) → true ≡ is_some tail → IfSome tail IsTail → IsTail (held_bytes tail)
tail-of None e h = absurd cc
tail-of (Some tail) e h = h

pub not-refused : (refused : Option LineFault) (result : Result (Option (List ℕ)) LineFault) (given : Option (List ℕ)) → result ≡ Ok given → IfSome refused (λ fault. result ≡ Err fault) → refused ≡ None
not-refused None result given e h = refl
not-refused (Some other) result given e h = absurd cc

-- ---- the bytes behind the last newline

after-some : (b : ℕ) (bytes : List ℕ) (n : ℕ) → newlines (b ∷ bytes) ≡ suc n → after_newlines (b ∷ bytes) ≡ after_newlines bytes
after-some b bytes n e = by (eqb (newlines (b ∷ bytes)) 0) refl
  where
    by : (f : Bool) → eqb (newlines (b ∷ bytes)) 0 ≡ f → after_newlines (b ∷ bytes) ≡ after_newlines bytes
    by true h = absurd (omega (arith, eqb-true (newlines (b ∷ bytes)) 0 h, e))
    by false h = ap (λ (f : Bool). cond f (b ∷ bytes) (after_newlines bytes)) h

pub after_none : (bytes : List ℕ) → newlines bytes ≡ 0 → after_newlines bytes ≡ bytes
after_none [] none = refl
after_none (b ∷ bytes) none = ap (λ (n : ℕ). cond (eqb n 0) (b ∷ bytes) (after_newlines bytes)) none

behind-byte : (b : ℕ) (bytes : List ℕ) → EndsByte b bytes → AreLines bytes
behind-byte b [] h = tt
behind-byte b (c ∷ cs) h = h

pub after_lines : (lines bytes : List ℕ) → AreLines lines → after_newlines (lines ++ bytes) ≡ after_newlines bytes
after_lines [] bytes h = refl
after_lines (b ∷ w) bytes h =
    let i = one-newline b w h in
    let count : newlines (b ∷ w ++ bytes) ≡ suc (i.0 + newlines bytes) = omega (arith, newlines-append (b ∷ w) bytes, i.1) in
    after-some b (w ++ bytes) (i.0 + newlines bytes) count ∙ after_lines w bytes (behind-byte b w h)

-- ---- a call for a line

abbrev pub row_error_of : LineFault → RowError
row_error_of line.Fault = row.Fault
row_error_of line.NoMemory = row.NoMemory

lost-none : (e : RowError) → Some e ≡ None → ⊥
lost-none e h = cc

none-fails : None ≡ Some row.Fault → ⊥
none-fails h = cc

module _ {Store : Type 0} (contents : Store → Option Contents) (reads writes : Store → ℕ) (Sure : Store → Type 0) (result : Result (Option (List ℕ)) LineFault)
    (s : PulledState) (l : LinesState) (d e : Store)
    (kept : contents e ≡ contents d) (counted : reads d ≤ reads e) (wrote : writes e ≡ writes d)
    (cause : IsErrOf result line.Fault → Rose (reads d) (reads e) ⊎ (s.lines.refused ≡ Some line.Fault))
    (stays : Sure d → Sure e)
    (sure : Sure d → TellsName (contents d) s.lines.name → IsErrOf result line.Fault → s.lines.refused ≡ Some line.Fault)
    (counts : Sure d → TellsName (contents d) s.lines.name → (reads e ≡ reads d) × (writes e ≡ writes d))
    (same : (l.name ≡ s.lines.name) × (l.size ≡ s.lines.size)) where
  shelf-read : (lost : Option RowError) → (lost ≡ Some row.Fault → IsErrOf result line.Fault) → OnlyReads contents reads writes Sure (FailsFirst lost s.lines) s.lines.name d e
  shelf-read lost failed = record {
    kept = kept;
    reads = counted;
    writes = wrote;
    cause = λ fails. elim (cause (failed fails.0)) [ inl rose ↦ rose | inr was ↦ absurd (fails.1 was) ];
    stays_sure = stays;
    sure_fault = λ is tells fails. fails.1 (sure is tells (failed fails.0));
    sure_counts = λ is tells. (counts is tells).0;
  }

  -- no line was given
  pub drew_error : (fault : LineFault) → result ≡ Err fault → (lost : RowError) → row_error_of fault ≡ lost → Draws contents reads writes Sure (Some lost) s d (with_lines s l) e
  drew_error fault is lost so = record {
    shelf = shelf-read (Some lost) (by fault is so);
    name = same.0;
    size = same.1;
    taken = omega arith;
    going = λ none. absurd (lost-none lost none);
    last = λ none. absurd (lost-none lost none);
  }
    where
      full-not : row.NoMemory ≡ row.Fault → ⊥
      full-not h = cc

      same-lost : (a b : RowError) → Some a ≡ Some b → a ≡ b
      same-lost a b h = cc

      by : (fault : LineFault) → result ≡ Err fault → row_error_of fault ≡ lost → Some lost ≡ Some row.Fault → IsErrOf result line.Fault
      by line.Fault is so h = is
      by line.NoMemory is so h = absurd (full-not (so ∙ same-lost lost row.Fault h))

  module _ (going : s.lines.refused ≡ None) (still : l.refused ≡ None) where
    -- a line was kept
    pub drew_line : (given : List ℕ) (f : Bool) (new : PulledState) → s.held ≡ [] → s.tail ≡ [] → KeepsLine f given (with_lines s l) new
        → IfFile (contents d) s.lines.name (λ file. GivesFirstLine (Some given) (bytes_left s.lines file) (bytes_left l file)) → Draws contents reads writes Sure None s d new e
    drew_line given f new none no_tail keeps gives = record {
      shelf = shelf-read None (λ h. absurd (none-fails h));
      name = ap (λ (x : LinesState). x.name) (lines-kept f keeps) ∙ same.0;
      size = ap (λ (x : LinesState). x.size) (lines-kept f keeps) ∙ same.1;
      taken = omega (arith, taken-kept f given (with_lines s l) new keeps);
      going = λ _. ap (λ (x : LinesState). x.refused) (lines-kept f keeps) ∙ still ∙ sym going;
      last = λ _. by (contents d) gives;
    }
      where
        lines-kept : (f : Bool) → KeepsLine f given (with_lines s l) new → new.lines ≡ l
        lines-kept true keeps = ap (λ (x : PulledState). x.lines) keeps.1
        lines-kept false keeps = ap (λ (x : PulledState). x.lines) keeps.1

        Gives : List ℕ → Type 0
        Gives file = GivesFirstLine (Some given) (bytes_left s.lines file) (bytes_left l file)

        Same : List ℕ → Type 0
        Same file = after_newlines (not_passed new file) ≡ after_newlines (not_passed s file)

        in-name : (held : Option (List ℕ)) → IfSome held Gives → IfSome held Same
        in-name None g = tt
        in-name (Some file) g = ap after_newlines (sym (kept-line file given f s new l none no_tail keeps g))

        by : (told : Option Contents) → IfFile told s.lines.name Gives → IfFile told s.lines.name Same
        by None g = tt
        by (Some files) g = in-name (files s.lines.name) g

    -- there was none
    pub drew_none : s.held ≡ [] → s.tail ≡ [] → IfFile (contents d) s.lines.name (λ file. GivesFirstLine None (bytes_left s.lines file) (bytes_left l file)) → Draws contents reads writes Sure None s d (with_lines s l) e
    drew_none none no_tail gives = record {
      shelf = shelf-read None (λ h. absurd (none-fails h));
      name = same.0;
      size = same.1;
      taken = omega arith;
      going = λ _. still ∙ sym going;
      last = λ _. by (contents d) gives;
    }
      where
        Gives : List ℕ → Type 0
        Gives file = GivesFirstLine None (bytes_left s.lines file) (bytes_left l file)

        Same : List ℕ → Type 0
        Same file = after_newlines (not_passed (with_lines s l) file) ≡ after_newlines (not_passed s file)

        in-name : (held : Option (List ℕ)) → IfSome held Gives → IfSome held Same
        in-name None g = tt
        in-name (Some file) g = λ i. after_newlines (s.held ++ behind_held s.tail ((g.1 ∙ sym g.0) i))

        by : (told : Option Contents) → IfFile told s.lines.name Gives → IfFile told s.lines.name Same
        by None g = tt
        by (Some files) g = in-name (files s.lines.name) g

-- ---- a row that is passed

pub drew_pass : {Store : Type 0} (contents : Store → Option Contents) (reads writes : Store → ℕ) (Sure : Store → Type 0) (s : PulledState) (d : Store) → IsRow s.held → Draws contents reads writes Sure None s d (passed_of s) d
drew_pass contents reads writes Sure s d row =
    let nothing = draws_nothing contents reads writes Sure s d in
    record {
      shelf = nothing.shelf;
      name = refl;
      size = refl;
      taken = omega arith;
      going = λ _. refl;
      last = λ _. if_file (contents d) s.lines.name _ (λ file. sym (after_lines s.held (behind_held s.tail (bytes_left s.lines file)) (row-lines s.held row)));
    }

-- ---- whether bytes are left

no-bytes : (b : ℕ) (bytes : List ℕ) → b ∷ bytes ≡ [] → ⊥
no-bytes b bytes e = absurd cc

some-behind : (line more : List ℕ) → 0 < length line → line ++ more ≢ []
some-behind [] more some = absurd (omega (arith, some))
some-behind (b ∷ line) more some = λ e. no-bytes b (line ++ more) e

module _ (s : PulledState) (file : List ℕ) where
  pub row_is_left : IsRow s.held → not_passed s file ≢ []
  row_is_left row = some-behind s.held (behind_held s.tail (bytes_left s.lines file)) (row_length s.held row)

  module _ (none : s.held ≡ []) where
    behind-none : not_passed s file ≡ behind_held s.tail (bytes_left s.lines file)
    behind-none = ap (λ (v : List ℕ). v ++ behind_held s.tail (bytes_left s.lines file)) none

    pub tail_is_left : IsTail s.tail → not_passed s file ≢ []
    tail_is_left tail e = some-tail s.tail tail (sym behind-none ∙ e)
      where
        some-tail : (tail : List ℕ) → IsTail tail → behind_held tail (bytes_left s.lines file) ≡ [] → ⊥
        some-tail [] h e = absurd (omega (arith, h.some))
        some-tail (b ∷ tail) h e = no-bytes b tail e

    module _ (no_tail : s.tail ≡ []) (after : List ℕ) where
      file-left : not_passed s file ≡ bytes_left s.lines file
      file-left = behind-none ∙ ap (λ (v : List ℕ). behind_held v (bytes_left s.lines file)) no_tail

      pub line_is_left : (line : List ℕ) → 0 < length line → GivesFirstLine (Some line) (bytes_left s.lines file) after → not_passed s file ≢ []
      line_is_left line some gives e = some-behind line after some (sym gives.1 ∙ sym file-left ∙ e)

      pub nothing_is_left : GivesFirstLine None (bytes_left s.lines file) after → not_passed s file ≡ []
      nothing_is_left gives = file-left ∙ gives.0

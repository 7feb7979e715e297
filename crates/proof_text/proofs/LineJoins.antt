-- Lines behind groups, row by row.
use Rattle.std.proofs.Common.{◌≡◌, Bool, true, false, cond, List, Option, Some, None, Result, Ok, Err, refl, sym, ap, ◌∙◌}
use Rattle.mc_text.specs.Tokens.{Tok}
use Rattle.mc_text.specs.Reading.{◌>>=◌, made, goes_on}
use Rattle.rv_words.specs.declared.range.Range.{Range}
use Rattle.group_text.specs.declared.read_error.ReadError.{ReadError}
use Rattle.group_text.specs.declared.read_error.ReadError.TheVariants as halt
use Rattle.group_text.specs.Version.{Version}
use Rattle.group_text.specs.inner.RowReader.{ReadsRows}
use Rattle.group_text.specs.inner.Rows.{RowPosition, RowPositions, tokens, RowsGive}
use Rattle.group_text.proofs.Joins.{AllOk, Kept}
use Rattle.group_text.proofs.RowAt.{way-same}
use Rattle.group_text.proofs.RowReaders.{row-lines}
use Rattle.proof_text.specs.inner.LineReaders.{LineReaders, ReadsLines, ends_proof, turn_over}
use Rattle.proof_text.specs.inner.OwnCode.{IsOwnCode}

pub line-row : (R : LineReaders) (v : Version) → ReadsLines R v → (own : List Range) → IsOwnCode own → (before : List R.grammar.Line) → R.grammar.Are v before → ReadsRows (R.line_at v own before)
line-row R v laws own code before are = row-lines (R.line_at v own before) (R.Fits v before) (R.grammar.tokens v own) (laws.reads own code before are) (λ l h. laws.whole own l) (λ l h. laws.long own l)

abbrev Out : Type 0 → Type 0
Out Y = Result (Y × List Tok) (List Tok)

-- whether the proof ends at each of these places
abbrev pub Ends : Bool → RowPositions → Type 0
Ends b may = (p : RowPosition) → may p → b ≡ goes_on ends_proof (tokens p)

module _ (R : LineReaders) (v : Version) (own : List Range) (before : List R.grammar.Line) (old mid : RowPositions) (kept : Kept old mid) where
  abbrev by-word : List Tok → Bool → Out (Option R.grammar.Line)
  by-word ts b = cond b (Ok (None, ts)) (made Some (R.line_at v own before) ts)

  pub turn-ended : (b : Bool) → b ≡ true → Ends b mid → AllOk (turn_over R v own before) None old mid
  turn-ended b e ends q may = record { spot = q; may = kept q may; is = ap (by-word (tokens q)) (sym (ends q may) ∙ e); way = way-same q; total = refl }

  module _ (b : Bool) (e : b ≡ false) (ends : Ends b mid) (new : RowPositions) where
    abbrev then-some : Out R.grammar.Line → Out (Option R.grammar.Line)
    then-some q = ◌>>=◌ {A = R.grammar.Line × List Tok} {B = Option R.grammar.Line × List Tok} q (λ p. Ok (Some p.0, p.1))

    pub turn-read : (l : R.grammar.Line) → AllOk (R.line_at v own before) l mid new → AllOk (turn_over R v own before) (Some l) old new
    turn-read l h q may =
        let k = h q may in
        record { spot = k.spot; may = kept k.spot k.may; is = ap (by-word (tokens k.spot)) (sym (ends k.spot k.may) ∙ e) ∙ ap then-some k.is; way = k.way; total = k.total }

    pub turn-failed : {X Z : Type 0} (view : X → R.grammar.Line) (views : Z → Option R.grammar.Line) (f : ReadError) → RowsGive view (Err f) mid new (R.line_at v own before) → RowsGive views (Err f) old new (turn_over R v own before)
    turn-failed view views halt.Bad h = λ q may.
        let k = h q may in
        record { spot = k.spot; may = kept k.spot k.may; bad = k.bad; is = ap (by-word (tokens k.spot)) (sym (ends k.spot k.may) ∙ e) ∙ ap then-some k.is; row = k.row; total = k.total }
    turn-failed view views halt.Fault h = tt
    turn-failed view views halt.NoMemory h = tt

-- What calls did to rows and to what is lent, where an answer is passed on, by what a row was lost.
use Rattle.std.proofs.Common.{◌≡◌, Option, Result, Ok, Err, sym, subst}
use Rattle.std.specs.Result.{IsErrAnd}
use Rattle.group_text.specs.declared.read_error.RowError.{RowError}
use Rattle.group_text.specs.declared.read_error.ReadError.{ReadError}
use Rattle.group_text.specs.inner.Rows.{row_error, halted_by}

module _ {X A E : Type 0} (Lends : Option RowError → A → E → A → E → Type 0) where
  -- an error that is passed on
  pub lends-on : (e : ReadError) (result : Result X ReadError) (a b : A) (d f : E) → IsErrAnd result (λ g. g ≡ e) → Lends (row_error e) a d b f → Lends (halted_by result) a d b f
  lends-on e (Ok x) a b d f is h = absurd is
  lends-on e (Err g) a b d f is h = subst (λ (g : ReadError). Lends (row_error g) a d b f) (sym is) h

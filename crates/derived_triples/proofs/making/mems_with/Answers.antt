use Rattle.std.proofs.Common.{◌≡◌, ℕ, true, true≢false, List, [], ◌∷◌, ◌++◌, length, sym, ap, ◌∙◌}
use Rattle.std.specs.Prelude.{◌==◌}
use Rattle.std.proofs.lemmas.List.{append-nil}
use Rattle.std.proofs.lemmas.Result.{IfOk-weaker}
use lib.Dec.{eqb-suc-zero}
use Rattle.derived_triples.proofs.making.mems_with.Goals as goal

none-more : (own mems : List ℕ) → (length mems == 0) ≡ true → own ≡ own ++ mems
none-more own [] e = sym (append-nil own)
none-more own (m ∷ ms) e = absurd (true≢false (sym e ∙ eqb-suc-zero (length ms)))

pub returns-then-is_empty : goal.returns-then-is_empty
returns-then-is_empty c =
    let none = none-more c.args.own.now c.args.mems.now (sym c.is_empty.ensures ∙ c.if-is_empty.true) in
    IfOk-weaker c.share.result _ _ (λ all e. e ∙ none) c.share.ensures

pub returns : goal.returns
returns c =
    let mems = c.args.mems.now in
    IfOk-weaker c.new.result _ _ (λ all e. e ∙ c.in_ok-extend_from_slice.ensures.ok ∙ ap (λ (l : List ℕ). l ++ mems) (c.in_ok-all.ensures ∙ c.as_slice.ensures)) c.new.ensures

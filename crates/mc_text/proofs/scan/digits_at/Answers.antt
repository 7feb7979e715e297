use Rattle.std.proofs.Common.{◌∙◌, ◌++◌, Some, ap, sym, subst, arith}
use Rattle.std.proofs.lemmas.Bool.{eqb-false}
use Rattle.std.proofs.lemmas.List.{take-append-drop}
use Rattle.mc_text.specs.declared.number.Base.TheVariants.{Decimal}
use Rattle.mc_text.specs.inner.Number.{ReadsDigits}
use Rattle.mc_text.proofs.DigitValues.{plain_number}
use Rattle.mc_text.proofs.Numbers.{number_of-takes}
use Rattle.mc_text.proofs.scan.digits_at.Goals as goal

pub returns-clause-parts : goal.returns-clause-parts
returns-clause-parts c =
    let n = c.small_digits-count.result.1 in
    let ds = c.split_at.result.0.now in
    let reads = subst (λ xs. ReadsDigits 10 xs (Some n)) (sym c.split_at.ensures.front)
    (c.small_digits-count.ensures.digits, c.small_digits-count.ensures.value, omega (arith, c.small_digits-count.ensures.small)) in
    let found = plain_number Decimal ds (Some n) (eqb-false _ _ (sym c.is_empty.ensures ∙ c.if-is_empty.false)) (sym c.is_padded.ensures ∙ c.if-is_padded.false) reads in
    ap (λ xs. xs ++ c.split_at.result.1.now) (sym (number_of-takes 10 ds n (sym found)).0)
    ∙ rw (c.split_at.ensures.front, c.split_at.ensures.back) (take-append-drop c.small_digits-count.result.0 c.args.bytes.now)

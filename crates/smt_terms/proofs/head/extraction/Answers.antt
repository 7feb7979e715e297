use Rattle.std.proofs.Common.{sym, ap, ◌∙◌}
use Rattle.std.specs.Str.{bytes_eq}
use Rattle.smt_terms.specs.Meaning.{numeral}
use Rattle.smt_terms.proofs.Heads.{head_extracted}
use Rattle.smt_terms.proofs.head.extraction.Goals as goal

pub returns-then-eq : goal.returns-then-eq
returns-then-eq c =
    head_extracted c.args.name.now (numeral c.args.i.now) (numeral c.args.j.now) _ _ c.in-Some.i c.in-Some-small_numeral.j
    (ap (bytes_eq c.args.name.now) (sym c.as_slice.ensures) ∙ sym c.eq.ensures ∙ c.if-eq.true) c.small_numeral.ensures c.in-Some.is c.small_numeral-2.ensures c.in-Some-small_numeral.is

use Rattle.std.proofs.Common.{sym, ap, ◌∙◌}
use Rattle.std.specs.Str.{bytes_eq}
use Rattle.smt_terms.proofs.Heads.{head_operator}
use Rattle.smt_terms.proofs.head.plain_head.Goals as goal

pub returns-in-Some : goal.returns-in-Some
returns-in-Some c =
    head_operator c.args.name.now c.in-Some.op (ap (bytes_eq c.args.name.now) (sym c.as_slice.ensures) ∙ sym c.eq.ensures ∙ c.if-eq.false)
    (ap (bytes_eq c.args.name.now) (sym c.as_slice-2.ensures) ∙ sym c.eq-2.ensures ∙ c.if-eq-2.false) (sym c.operator_of.ensures ∙ c.in-Some.is)

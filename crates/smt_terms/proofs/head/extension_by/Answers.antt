use Rattle.std.proofs.Common.{sym, ap, ◌∙◌}
use Rattle.std.specs.Str.{bytes_eq}
use Rattle.smt_terms.proofs.Heads.{head_sign, head_zero}
use Rattle.smt_terms.proofs.head.extension_by.Goals as goal

pub returns-then-eq : goal.returns-then-eq
returns-then-eq c n e = head_sign c.args.name.now n c.args.k (ap (bytes_eq c.args.name.now) (sym c.as_slice.ensures) ∙ sym c.eq.ensures ∙ c.if-eq.true) e

pub returns-then-eq-2 : goal.returns-then-eq-2
returns-then-eq-2 c n e =
    head_zero c.args.name.now n c.args.k (ap (bytes_eq c.args.name.now) (sym c.as_slice.ensures) ∙ sym c.eq.ensures ∙ c.if-eq.false)
    (ap (bytes_eq c.args.name.now) (sym c.as_slice-2.ensures) ∙ sym c.eq-2.ensures ∙ c.if-eq-2.true) e

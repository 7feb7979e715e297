use Rattle.std.proofs.Common.{◌-◌, sym, ap, ◌∙◌, arith}
use Rattle.std.specs.Str.{bytes_eq}
use Rattle.smt_terms.proofs.Finding.{found_at, not_behind_one}
use Rattle.smt_terms.proofs.find.find.Goals as goal

pub returns-then-eq : goal.returns-then-eq
returns-then-eq c =
    found_at _ _ (c.back.left - 1) c.back.left _ _ (omega arith) (omega arith) c.index-funs-left.is
    (ap (bytes_eq c.args.name.now) (sym c.as_slice.ensures) ∙ sym c.eq.ensures ∙ c.if-eq.true) c.back.invariant.told c.first-before.ensures

pub back-preserved : goal.back-preserved
back-preserved c = record {
  within = omega arith;
  told = not_behind_one _ _ (c.back.left - 1) c.back.left _ (omega arith) (omega arith) c.index-funs-left.is
      (ap (bytes_eq c.args.name.now) (sym c.as_slice.ensures) ∙ sym c.eq.ensures ∙ c.if-eq.false) c.back.invariant.told;
}

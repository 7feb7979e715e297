use Rattle.std.proofs.Common.{◌-◌, arith, ◌∙◌, ap, None, unwrap_or}
use Rattle.word_terms.proofs.Loads.{load-more, fits-more, fits-all}
use Rattle.word_terms.proofs.evaluation.number_of.Goals as goal

pub overflow_mul-number : goal.overflow_mul-number
overflow_mul-number c =
    let fits = fits-all c.args.count c.loop-i.i _ c.loop-i-test.true c.requires.few (fits-more c.loop-i.i 0 c.loop-i.number (omega arith) c.loop-i.invariant.small) in
    omega (arith, fits)

pub overflow_add-number : goal.overflow_add-number
overflow_add-number c =
    let fits = fits-all c.args.count c.loop-i.i _ c.loop-i-test.true c.requires.few (fits-more c.loop-i.i c.from.result c.loop-i.number (omega arith) c.loop-i.invariant.small) in
    omega (arith, fits)

pub loop-i-preserved : goal.loop-i-preserved
loop-i-preserved c = record {
  loaded = λ m a lt stand.
      load-more m a c.args.count c.loop-i.i c.from.result c.loop-i.number c.loop-i-test.true c.requires.few lt
      (c.from.ensures ∙ c.unwrap_or-byte.ensures ∙ ap (λ o. unwrap_or o 0) (stand.at (c.args.count - 1 - c.loop-i.i) None (omega arith)))
      (c.loop-i.invariant.loaded m a lt stand);
  small = fits-more c.loop-i.i c.from.result c.loop-i.number (omega arith) c.loop-i.invariant.small;
}

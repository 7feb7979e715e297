use Rattle.std.proofs.Common.{refl}
use Rattle.held_terms.specs.Held.{fact_of}
use Rattle.triple_kernel.proofs.Among.{is_among}
use Rattle.held_terms.proofs.facts.Facts.has_all.Goals as goal

pub returns-then-not-has : goal.returns-then-not-has
returns-then-not-has c = (
  λ e. absurd (cc),
  λ all.
      let f = fact_of c.args.arena.now in
      let yes = c.has.ensures.1 (all.each (f c.fact-item.result) (is_among f c.args.facts.now c.loop-fact.fact-index c.fact-item.result _ c.loop-fact-test.true c.fact-item.is refl)) in
      absurd (cc),
)

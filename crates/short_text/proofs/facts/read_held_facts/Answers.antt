use Rattle.std.proofs.Common.{ap, sym, ◌∙◌, List as Items}
use Rattle.mc_text.specs.Reading.{star, is_open}
use Rattle.mc_text.specs.inner.Reading.{with_prefix}
use Rattle.mc_text.specs.Scanning.{tokens_at}
use Rattle.mc_text.proofs.Star.{star-more, star-ends}
use Rattle.mc_text.proofs.StarReads.{star-stopped}
use Rattle.short_text.specs.inner.ShortReading.{held_fact_at}
use Rattle.held_terms.specs.declared.held.HeldFact.{HeldFact}
use Rattle.short_text.proofs.HeldLaws.{held-fact-shrinks}
use Rattle.short_text.proofs.facts.read_held_facts.Goals as goal

pub facts-smaller : goal.facts-smaller
facts-smaller c = held-fact-shrinks c.args.table.now _ _ _ c.in-Ok.ensures.gives

pub facts-preserved : goal.facts-preserved
facts-preserved c = record {
  told = ap (λ (front : Items HeldFact). with_prefix front (star is_open (held_fact_at c.args.table.now) (tokens_at c.read_fact.new.scan))) c.in_ok-push-in-Ok.ensures.ok
      ∙ star-more is_open (held_fact_at c.args.table.now) (held-fact-shrinks c.args.table.now) c.facts.facts _ _ _ _ (sym c.facts-test.ensures) c.in-Ok.ensures.gives c.facts.invariant.told;
  last = c.in-Ok.ensures.last ∙ c.facts.invariant.last;
}

pub returns-in-Err-clause-gives : goal.returns-in-Err-clause-gives
returns-in-Err-clause-gives c = star-stopped (λ (x : HeldFact). x) (λ (xs : Items HeldFact). xs) is_open (held_fact_at c.args.table.now) (held-fact-shrinks c.args.table.now) c.in-Err.stop c.facts.facts c.args.scan.now c.facts.scan c.read_fact.new.scan (sym c.facts-test.ensures) c.in-Err.ensures.gives c.facts.invariant.told

pub returns-clause-gives : goal.returns-clause-gives
returns-clause-gives c = star-ends is_open (held_fact_at c.args.table.now) (held-fact-shrinks c.args.table.now) c.facts.facts _ _ (sym c.facts-test.ensures) c.facts.invariant.told

use Rattle.std.proofs.Common.{map, sym, ◌∙◌, List as Items}
use Rattle.mc_text.proofs.Star.{star-pushed, star-ends}
use Rattle.mc_text.proofs.StarReads.{star-stopped}
use Rattle.triple_kernel.specs.declared.triple.Fact.{Fact}
use Rattle.triple_kernel.specs.Tree.{fact_tree}
use Rattle.mc_text.specs.Reading.{is_open}
use Rattle.proof_text.specs.inner.LineReading.{fact_at}
use Rattle.proof_text.proofs.FactLaws.{fact-shrinks}
use Rattle.proof_text.proofs.line_facts.read_facts.Goals as goal

pub facts-smaller : goal.facts-smaller
facts-smaller c = fact-shrinks _ _ _ c.in-Ok.ensures.gives

pub facts-preserved : goal.facts-preserved
facts-preserved c = record {
  told = star-pushed fact_tree is_open fact_at fact-shrinks c.facts.facts _ _ _ _ _ c.in_ok-push-in-Ok.ensures.ok (sym c.facts-test.ensures) c.in-Ok.ensures.gives c.facts.invariant.told;
  last = c.in-Ok.ensures.last ∙ c.facts.invariant.last;
}

pub returns-in-Err-clause-gives : goal.returns-in-Err-clause-gives
returns-in-Err-clause-gives c = star-stopped fact_tree (λ (facts : Items Fact). map fact_tree facts) is_open fact_at fact-shrinks c.in-Err.stop (map fact_tree c.facts.facts) c.args.scan.now c.facts.scan c.read_fact.new.scan (sym c.facts-test.ensures) c.in-Err.ensures.gives c.facts.invariant.told

pub returns-clause-gives : goal.returns-clause-gives
returns-clause-gives c = star-ends is_open fact_at fact-shrinks (map fact_tree c.facts.facts) _ _ (sym c.facts-test.ensures) c.facts.invariant.told

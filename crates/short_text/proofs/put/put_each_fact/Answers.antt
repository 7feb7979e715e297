use Rattle.mc_text.specs.Printing.{page}
use Rattle.mc_text.proofs.Printed.{keeps_more, print_next, print_over}
use Rattle.short_text.specs.ShortSpelling.{held_fact_tokens}
use Rattle.short_text.proofs.put.put_each_fact.Goals as goal

pub loop-fact-preserved : goal.loop-fact-preserved
loop-fact-preserved c = record {
  told = print_next held_fact_tokens c.args.facts.now c.loop-fact.fact-index c.fact-item.result _ _ _ c.loop-fact-test.true c.fact-item.is c.loop-fact.invariant.told c.in_ok-put_held_fact.ensures.ok;
  kept = keeps_more _ (page c.loop-fact.pen) _ c.loop-fact.invariant.kept c.put_held_fact.ensures.kept;
}

pub returns-clause-ok : goal.returns-clause-ok
returns-clause-ok c = print_over held_fact_tokens c.args.facts.now c.loop-fact.fact-index _ _ c.loop-fact-test.false c.loop-fact.invariant.told

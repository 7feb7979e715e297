use Rattle.mc_text.specs.Printing.{page}
use Rattle.mc_text.proofs.Printed.{keeps_more, print_next, print_over_map}
use Rattle.triple_kernel.specs.Tree.{fact_tree}
use Rattle.proof_text.specs.LineSpelling.{fact_tokens}
use Rattle.proof_text.proofs.put_lines.put_all_facts.Goals as goal

pub loop-fact-preserved : goal.loop-fact-preserved
loop-fact-preserved c = record {
  told = print_next (λ t. fact_tokens (fact_tree t)) c.args.facts.now c.loop-fact.fact-index c.fact-item.result _ _ _ c.loop-fact-test.true c.fact-item.is c.loop-fact.invariant.told c.in_ok-put_fact.ensures.ok;
  kept = keeps_more _ (page c.loop-fact.pen) _ c.loop-fact.invariant.kept c.put_fact.ensures.kept;
}

pub returns-clause-ok : goal.returns-clause-ok
returns-clause-ok c = print_over_map fact_tokens fact_tree c.args.facts.now c.loop-fact.fact-index _ _ c.loop-fact-test.false c.loop-fact.invariant.told

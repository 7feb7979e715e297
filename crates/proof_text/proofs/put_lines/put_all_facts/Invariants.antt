use Rattle.std.proofs.Common.{◌≡◌, drop, flat_map}
use Rattle.mc_text.specs.Printing.{Keeps, page, print}
use Rattle.triple_kernel.specs.Tree.{fact_tree}
use Rattle.proof_text.specs.LineSpelling.{fact_tokens}
use Rattle.proof_text.proofs.put_lines.put_all_facts.Given as goal

abbrev pub invariant-loop-fact : goal.invariant-loop-fact
invariant-loop-fact l = record {
  told : print (flat_map (λ t. fact_tokens (fact_tree t)) l.facts) (page l.fn.pen) ≡ print (flat_map (λ t. fact_tokens (fact_tree t)) (drop l.fact-index l.facts)) (page l.pen);
  kept : Keeps (page l.fn.pen) (page l.pen);
}

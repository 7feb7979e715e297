use Rattle.mc_text.specs.Printing.{page}
use Rattle.mc_text.proofs.Printed.{keeps_more, print_next, print_over_map}
use Rattle.tailrec_lang.specs.Tree.{def_tree}
use Rattle.group_text.specs.Spelling.{def_tokens}
use Rattle.group_text.proofs.put.put_defs.Goals as goal

pub loop-def-preserved : goal.loop-def-preserved
loop-def-preserved c = record {
  told = print_next (λ t. def_tokens (def_tree t)) c.args.defs.now c.loop-def.def-index c.def-item.result _ _ _ c.loop-def-test.true c.def-item.is c.loop-def.invariant.told c.in_ok-put_def.ensures.ok;
  kept = keeps_more _ (page c.loop-def.pen) _ c.loop-def.invariant.kept c.put_def.ensures.kept;
}

pub returns-clause-ok : goal.returns-clause-ok
returns-clause-ok c = print_over_map def_tokens def_tree c.args.defs.now c.loop-def.def-index _ _ c.loop-def-test.false c.loop-def.invariant.told

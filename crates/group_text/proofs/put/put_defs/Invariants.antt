use Rattle.std.proofs.Common.{◌≡◌, drop, flat_map}
use Rattle.mc_text.specs.Printing.{Keeps, page, print}
use Rattle.tailrec_lang.specs.Tree.{def_tree}
use Rattle.group_text.specs.Spelling.{def_tokens}
use Rattle.group_text.proofs.put.put_defs.Given as goal

abbrev pub invariant-loop-def : goal.invariant-loop-def
invariant-loop-def l = record {
  told : print (flat_map (λ t. def_tokens (def_tree t)) l.defs) (page l.fn.pen) ≡ print (flat_map (λ t. def_tokens (def_tree t)) (drop l.def-index l.defs)) (page l.pen);
  kept : Keeps (page l.fn.pen) (page l.pen);
}

use Rattle.std.proofs.Common.{sym, ap, ◌∙◌}
use Rattle.mc_text.specs.Printing.{page, print}
use Rattle.mc_text.proofs.Printed.{keeps_more, print_next, print_over}
use Rattle.smt_terms.specs.Text.{tokens}
use Rattle.smt_terms.specs.Views.{expr}
use Rattle.std.proofs.lemmas.Result.{on_ok_weaker}
use Rattle.smt_terms.proofs.Printing.{atom_printed, each, node_printed}
use Rattle.smt_terms.proofs.print.+trees.Goals as goal

pub put_trees-loop-item-preserved : goal.put_trees-loop-item-preserved
put_trees-loop-item-preserved t c = record {
  told = print_next (λ t. tokens (expr t)) c.args.items.now c.loop-item.item-index c.item-item.result _ _ _ c.loop-item-test.true c.item-item.is c.loop-item.invariant.told c.in_ok-put_tree.ensures.ok;
  kept = keeps_more _ (page c.loop-item.pen) _ c.loop-item.invariant.kept c.put_tree.ensures.kept;
}

pub put_trees-returns-clause-ok : goal.put_trees-returns-clause-ok
put_trees-returns-clause-ok t c =
    print_over (λ t. tokens (expr t)) c.args.items.now c.loop-item.item-index _ _ c.loop-item-test.false c.loop-item.invariant.told
    ∙ ap (λ ts. print ts (page c.args.pen.now)) (sym (each expr c.args.items.now))

pub put_tree-returns-in-Atom-clause-ok : goal.put_tree-returns-in-Atom-clause-ok
put_tree-returns-in-Atom-clause-ok t c = on_ok_weaker c.atom.result (λ e. atom_printed _ _ _ _ _ c.in-Atom.is c.as_slice.ensures e) c.atom.ensures.ok

pub put_tree-returns-in_ok-put_trees-in-Node-clause-ok :
    goal.put_tree-returns-in_ok-put_trees-in-Node-clause-ok
put_tree-returns-in_ok-put_trees-in-Node-clause-ok t c =
    on_ok_weaker c.right.result (λ e. node_printed _ _ _ _ _ _ _ c.in-Node.is c.as_slice-in-Node.ensures c.in_ok-left-in-Node.ensures.ok c.in_ok-put_trees-in-Node.ensures.ok e) c.right.ensures.ok

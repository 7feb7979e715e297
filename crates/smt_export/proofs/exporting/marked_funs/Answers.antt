use Rattle.std.proofs.Common.{map, ap, ◌∙◌}
use Rattle.std.proofs.lemmas.List.{map-append}
use Rattle.tailrec_lang.specs.Tree.{group_tree}
use Rattle.smt_terms.specs.Views.{fun_tree}
use Rattle.smt_export.proofs.Funs.{funs_next}
use Rattle.smt_export.proofs.exporting.marked_funs.Goals as goal

pub loop-d-preserved : goal.loop-d-preserved
loop-d-preserved c =
    ap (map fun_tree) c.in_ok-append.ensures.ok ∙ map-append fun_tree c.loop-d.funs c.in_ok-more.more
    ∙ funs_next (group_tree c.args.g.now) c.args.def c.args.marks.now c.loop-d.d _ _ _ c.is_marked-mark.ensures c.in_ok-more.ensures.there c.in_ok-more.ensures.none c.loop-d.invariant

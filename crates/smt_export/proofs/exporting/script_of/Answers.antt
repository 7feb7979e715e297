use Rattle.std.proofs.Common.{map, sym, subst, arith}
use Rattle.tailrec_lang.specs.Tree.{group_tree}
use Rattle.smt_terms.specs.Views.{fun_tree}
use Rattle.smt_export.specs.Telling.{HasFuns, TellsEval}
use Rattle.smt_export.proofs.Exports.{exported_script, exported_sorts, exported_tells}
use Rattle.smt_export.proofs.exporting.script_of.Goals as goal

pub new-requires : goal.new-requires
new-requires c =
    exported_script c.args.g.now c.args.def c.args.marks.now (map fun_tree c.args.funs) c.requires.well_formed c.requires.there (omega (arith, c.requires.few, c.ranges.count.fits)) c.requires.range c.requires.room
    c.requires.count c.requires.marks c.requires.free c.requires.funs

pub returns-clause-sorts : goal.returns-clause-sorts
returns-clause-sorts c = λ d r.
    subst (λ fs. HasFuns (group_tree c.args.g.now) (map fun_tree fs) d) (sym c.new.ensures)
    (exported_sorts c.args.g.now c.args.def c.args.marks.now (map fun_tree c.args.funs) c.requires.well_formed c.requires.there (omega (arith, c.requires.few, c.ranges.count.fits)) c.requires.range c.requires.room
    c.requires.count c.requires.marks c.requires.free c.requires.funs d r)

pub returns-clause-tells : goal.returns-clause-tells
returns-clause-tells c = λ d r.
    subst (λ fs. TellsEval (group_tree c.args.g.now) d (map fun_tree fs)) (sym c.new.ensures)
    (exported_tells c.args.g.now c.args.def c.args.marks.now (map fun_tree c.args.funs) c.requires.well_formed c.requires.there (omega (arith, c.requires.few, c.ranges.count.fits)) c.requires.range c.requires.room
    c.requires.count c.requires.marks c.requires.free c.requires.funs d r)

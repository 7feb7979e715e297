use Rattle.std.proofs.Common.{length, map, arith, refl, sym, ap, ◌∙◌}
use Rattle.std.specs.Prelude.{slice_get}
use Rattle.std.proofs.lemmas.List.{length-map}
use Rattle.std.proofs.lemmas.Option.{slice_get_within}
use Rattle.tailrec_lang.specs.Tree.{def_tree, group_tree}
use Rattle.tailrec_lang.proofs.Definitions.{image_is, more_few}
use Rattle.tailrec_lang.proofs.needs.has_few_needs.Goals as goal

pub returns-then-not-has_few : goal.returns-then-not-has_few
returns-then-not-has_few c = (
  λ h. cc,
  λ few.
      let here = image_is def_tree c.as_slice-defs.result.now c.loop-def.def-index c.def-item.result c.loop-def-test.true c.def-item.is in
      let at = ap (λ xs. slice_get (map def_tree xs) c.loop-def.def-index) (sym c.as_slice-defs.ensures) ∙ here in
      let yields = c.has_few.ensures.1 (few c.loop-def.def-index (def_tree c.def-item.result) at) in
      cc,
)

pub loop-def-preserved : goal.loop-def-preserved
loop-def-preserved c =
    let here = image_is def_tree c.as_slice-defs.result.now c.loop-def.def-index c.def-item.result c.loop-def-test.true c.def-item.is in
    let at = ap (λ xs. slice_get (map def_tree xs) c.loop-def.def-index) (sym c.as_slice-defs.ensures) ∙ here in
    more_few (group_tree c.args.g.now).defs c.loop-def.def-index (def_tree c.def-item.result) c.loop-def.invariant at (c.has_few.ensures.0 c.if-not-has_few.false)

pub returns : goal.returns
returns c = (
  λ h. λ d def is.
      let within = slice_get_within (group_tree c.args.g.now).defs d def is in
      let count = length-map c.args.g.now.defs def_tree in
      let same = ap length c.as_slice-defs.ensures in
      c.loop-def.invariant d def (omega arith) is,
  λ few. refl,
)

use Rattle.std.proofs.Common.{◌≡◌, length, map, arith, refl, subst, sym, ap, ◌∙◌}
use Rattle.std.specs.Prelude.{slice_get}
use Rattle.std.proofs.lemmas.List.{length-map}
use Rattle.std.proofs.lemmas.Option.{slice_get_within}
use Rattle.tailrec_lang.specs.Tree.{def_tree, group_tree}
use Rattle.tailrec_lang.specs.WellFormed.{DefIsWellFormed}
use Rattle.tailrec_lang.proofs.Definitions.{image_is, more_well_formed}
use Rattle.tailrec_lang.proofs.scope.well_formed.Goals as goal

pub returns-then-not-is_def_well_formed-clause-ok : goal.returns-then-not-is_def_well_formed-clause-ok
returns-then-not-is_def_well_formed-clause-ok c = (
  λ h. cc,
  λ wf.
      let here = image_is def_tree c.as_slice-defs.result.now c.loop-i.i c.index-defs-i.result c.loop-i-test.true c.index-defs-i.is in
      let at = ap (λ xs. slice_get (map def_tree xs) c.loop-i.i) (sym c.as_slice-defs.ensures) ∙ here in
      let yields = c.is_def_well_formed.ensures.1 (wf c.loop-i.i (def_tree c.index-defs-i.result) at) in
      cc,
)

pub returns-then-not-is_def_well_formed-clause-first : goal.returns-then-not-is_def_well_formed-clause-first
returns-then-not-is_def_well_formed-clause-first c =
    let g = group_tree c.args.g.now in
    let here = image_is def_tree c.as_slice-defs.result.now c.loop-i.i c.index-defs-i.result c.loop-i-test.true c.index-defs-i.is in
    let at = ap (λ xs. slice_get (map def_tree xs) c.loop-i.i) (sym c.as_slice-defs.ensures) ∙ here in
    record {
      before = c.loop-i.invariant;
      here = λ def is wf.
          let same : def ≡ def_tree c.index-defs-i.result = cc in
          let yields = c.is_def_well_formed.ensures.1 (subst (λ x. DefIsWellFormed g c.loop-i.i x) same wf) in
          cc;
      there = slice_get_within g.defs c.loop-i.i (def_tree c.index-defs-i.result) at;
    }

pub loop-i-preserved : goal.loop-i-preserved
loop-i-preserved c =
    let g = group_tree c.args.g.now in
    let here = image_is def_tree c.as_slice-defs.result.now c.loop-i.i c.index-defs-i.result c.loop-i-test.true c.index-defs-i.is in
    let at = ap (λ xs. slice_get (map def_tree xs) c.loop-i.i) (sym c.as_slice-defs.ensures) ∙ here in
    more_well_formed g c.loop-i.i (def_tree c.index-defs-i.result) c.loop-i.invariant at (c.is_def_well_formed.ensures.0 c.if-not-is_def_well_formed.false)

pub returns-clause-ok : goal.returns-clause-ok
returns-clause-ok c = (
  λ h. λ d def is.
      let within = slice_get_within (group_tree c.args.g.now).defs d def is in
      let count = length-map c.args.g.now.defs def_tree in
      let same = ap length c.as_slice-defs.ensures in
      c.loop-i.invariant d def (omega arith) is,
  λ wf. refl,
)

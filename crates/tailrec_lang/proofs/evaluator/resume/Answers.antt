use Rattle.std.proofs.Common.{arith, sym, ◌∙◌}
use Rattle.std.proofs.lemmas.List.{length-take-le}
use Rattle.tailrec_lang.specs.Tree.{body_tree}
use Rattle.tailrec_lang.specs.Eval.{arguments, body_ending, variables_of, with_arguments}
use Rattle.tailrec_lang.specs.inner.Walk.{needs_passed}
use Rattle.tailrec_lang.proofs.Results.{if_ok-then}
use Rattle.tailrec_lang.proofs.Waiting.{arm_counted, arm_ending-at, resume_there, resume_scope}
use Rattle.tailrec_lang.proofs.evaluator.resume.Goals as goal

pub slice_bounds-before-end : goal.slice_bounds-before-end
slice_bounds-before-end c =
    let there = resume_there c.requires.0 c.args.frame c.args.exit c.args.results c.requires.1 c.requires.2 in
    sym (length-take-le c.args.exit c.args.frame.arms.now (omega arith))

pub bounds-arms-place : goal.bounds-arms-place
bounds-arms-place c = resume_there c.requires.0 c.args.frame c.args.exit c.args.results c.requires.1 c.requires.2

pub go_through-requires-clause-scope : goal.go_through-requires-clause-scope
go_through-requires-clause-scope c = (
  c.requires.0,
  c.args.frame.def,
  resume_scope c.requires.0 c.args.frame c.args.exit c.args.results c.index-arms-place.result _ _ c.requires.1 c.requires.2 c.index-arms-place.is
      c.in_ok-append.ensures.words c.in_ok-append.ensures.mems,
)

pub go_through-requires-clause-needs : goal.go_through-requires-clause-needs
go_through-requires-clause-needs c =
    let there = resume_there c.requires.0 c.args.frame c.args.exit c.args.results c.requires.1 c.requires.2 in
    let counted = arm_counted c.args.frame.arms.now c.args.exit c.index-arms-place.result there c.index-arms-place.is in
    let few = c.requires.1.2 in
    omega (arith, counted, few, c.in_ok-skip.ensures)

pub returns-clause-ending : goal.returns-clause-ending
returns-clause-ending c =
    let there = resume_there c.requires.0 c.args.frame c.args.exit c.args.results c.requires.1 c.requires.2 in
    if_ok-then _ _ c.go_through.result (λ w ending. λ call left.
    arm_ending-at call c.args.frame.def c.args.frame.arms.now c.args.exit c.index-arms-place.result (with_arguments (variables_of c.args.frame.variables) (arguments c.args.results)) (needs_passed c.args.frame.passed) left there c.index-arms-place.is
    ∙ (λ j. body_ending call c.args.frame.def (body_tree c.index-arms-place.result) (sym c.in_ok-append.ensures.after j) (sym c.in_ok-skip.ensures j) left)
    ∙ ending call c.args.frame.def left) c.go_through.ensures.ending

pub returns-clause-fits : goal.returns-clause-fits
returns-clause-fits c =
    if_ok-then _ _ c.go_through.result (λ w fits. λ g frame results. fits g c.args.frame.def
    (resume_scope g c.args.frame c.args.exit c.args.results c.index-arms-place.result _ _ frame results c.index-arms-place.is c.in_ok-append.ensures.words c.in_ok-append.ensures.mems)) c.go_through.ensures.fits

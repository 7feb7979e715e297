use Rattle.std.proofs.Common.{rules, arith, length, sym, subst, ap, IsTrue}
use Rattle.tailrec_lang.specs.Tree.{body_tree, exits_at, values_tree}
use Rattle.tailrec_lang.specs.inner.Tree.{end_tree, arm_trees}
use Rattle.tailrec_lang.specs.WellFormed.{ArmsAreWellFormed, BodyIsWellFormed}
use Rattle.tailrec_lang.specs.Eval.{needs, arm_needs, variables_of}
use Rattle.tailrec_lang.proofs.Bodies.{scope_body, needs_steps_end, scope_branch, needs_branch, scope_call, needs_call, scope_again, scope_leave, counts_of, results_fit, branches, branches_branch}
use Rattle.tailrec_lang.proofs.walk.+go_through.Goals as goal

pub take_steps-requires-clause-needs : goal.take_steps-requires-clause-needs
take_steps-requires-clause-needs t c = let whole = needs_steps_end c.args.body.now c.as_slice-steps.result.now c.as_slice-steps.ensures in omega (arith, whole, c.requires.needs)

pub go_through-requires : goal.go_through-requires
go_through-requires t c = (
  (let fewer = branches_branch c.args.body.now c.in-Branch.c c.in-Branch.a c.in-Branch.b c.in-Branch.is in
      let same = ap (λ x. branches (body_tree x)) c.deref.ensures in
      omega (arith, fewer, same, c.decreases)),
  let b = c.args.body.now in
      let all : IsTrue c.in_ok-take_steps.field-0 = search rules in
      let g = c.requires.scope.0 in
      let d = c.requires.scope.1 in
      let wf = c.in_ok-take_steps.ensures.scope all g d (end_tree b.end) (scope_body g d b c.as_slice-steps.result.now _ _ c.as_slice-steps.ensures c.requires.scope.2) in
      let parts = scope_branch g d b.end c.in-Branch.c c.in-Branch.a c.in-Branch.b _ _ c.in-Branch.is wf in
      let here = subst (λ x. BodyIsWellFormed g d (body_tree x) (length c.take_steps.new.variables.words) (length c.take_steps.new.variables.mems)) (sym c.deref.ensures) parts.1 in
      let whole = needs_steps_end b c.as_slice-steps.result.now c.as_slice-steps.ensures in
      let split = needs_branch b.end c.in-Branch.c c.in-Branch.a c.in-Branch.b c.in-Branch.is in
      let taken = c.in_ok-take_steps.ensures.needs all in
      let same = ap (λ x. needs (body_tree x)) c.deref.ensures in
      ((g, d, here), omega (arith, whole, split, taken, same, c.requires.needs)),
)

pub go_through-requires-in-Branch : goal.go_through-requires-in-Branch
go_through-requires-in-Branch t c = (
  (let fewer = branches_branch c.args.body.now c.in-Branch.c c.in-Branch.a c.in-Branch.b c.in-Branch.is in
      let same = ap (λ x. branches (body_tree x)) c.deref-in-Branch-2.ensures in
      omega (arith, fewer, same, c.decreases)),
  let b = c.args.body.now in
      let all : IsTrue c.in_ok-take_steps.field-0 = search rules in
      let g = c.requires.scope.0 in
      let d = c.requires.scope.1 in
      let wf = c.in_ok-take_steps.ensures.scope all g d (end_tree b.end) (scope_body g d b c.as_slice-steps.result.now _ _ c.as_slice-steps.ensures c.requires.scope.2) in
      let parts = scope_branch g d b.end c.in-Branch.c c.in-Branch.a c.in-Branch.b _ _ c.in-Branch.is wf in
      let here = subst (λ x. BodyIsWellFormed g d (body_tree x) (length c.take_steps.new.variables.words) (length c.take_steps.new.variables.mems)) (sym c.deref-in-Branch-2.ensures) parts.2 in
      let whole = needs_steps_end b c.as_slice-steps.result.now c.as_slice-steps.ensures in
      let split = needs_branch b.end c.in-Branch.c c.in-Branch.a c.in-Branch.b c.in-Branch.is in
      let taken = c.in_ok-take_steps.ensures.needs all in
      let first = ap (λ x. needs (body_tree x)) c.deref-in-Branch.ensures in
      let second = ap (λ x. needs (body_tree x)) c.deref-in-Branch-2.ensures in
      ((g, d, here), omega (arith, whole, split, taken, first, second, c.requires.needs, c.in_ok-skip-in-Branch.ensures)),
)

pub returns-in_ok-args-in-Call-clause-fits : goal.returns-in_ok-args-in-Call-clause-fits
returns-in_ok-args-in-Call-clause-fits t c = λ g d h.
    let b = c.args.body.now in
    let all : IsTrue c.in_ok-take_steps.field-0 = search rules in
    let wf = c.in_ok-take_steps.ensures.scope all g d (end_tree b.end) (scope_body g d b c.as_slice-steps.result.now _ _ c.as_slice-steps.ensures h) in
    let parts = scope_call g d b.end c.in-Call.def c.in-Call.values c.in-Call.arms _ _ c.in-Call.is wf in
    let arms = subst (λ x. ArmsAreWellFormed g d (exits_at g c.in-Call.def) (arm_trees x) (length c.take_steps.new.variables.words) (length c.take_steps.new.variables.mems)) (sym c.as_slice.ensures) parts.3 in
    let whole = needs_steps_end b c.as_slice-steps.result.now c.as_slice-steps.ensures in
    let split = needs_call b.end c.in-Call.def c.in-Call.values c.in-Call.arms c.in-Call.is in
    let taken = c.in_ok-take_steps.ensures.needs all in
    let same = ap (λ x. arm_needs (arm_trees x)) c.as_slice.ensures in
    (parts.0, counts_of c.in_ok-args-in-Call.args (values_tree c.in-Call.values) (variables_of c.take_steps.new.variables) (length g.regs) g.mems c.in_ok-args-in-Call.ensures parts.1, arms, omega (arith, whole, split, taken, same, c.requires.needs))

pub returns-in_ok-args-in-Again-clause-fits : goal.returns-in_ok-args-in-Again-clause-fits
returns-in_ok-args-in-Again-clause-fits t c = λ g d h.
    let b = c.args.body.now in
    let all : IsTrue c.in_ok-take_steps.field-0 = search rules in
    let wf = c.in_ok-take_steps.ensures.scope all g d (end_tree b.end) (scope_body g d b c.as_slice-steps.result.now _ _ c.as_slice-steps.ensures h) in
    let parts = scope_again g d b.end c.in-Again.values _ _ c.in-Again.is wf in
    counts_of c.in_ok-args-in-Again.args (values_tree c.in-Again.values) (variables_of c.take_steps.new.variables) (length g.regs) g.mems c.in_ok-args-in-Again.ensures parts.0

pub returns-in_ok-results-in-Leave-clause-fits : goal.returns-in_ok-results-in-Leave-clause-fits
returns-in_ok-results-in-Leave-clause-fits t c = λ g d h.
    let b = c.args.body.now in
    let all : IsTrue c.in_ok-take_steps.field-0 = search rules in
    let wf = c.in_ok-take_steps.ensures.scope all g d (end_tree b.end) (scope_body g d b c.as_slice-steps.result.now _ _ c.as_slice-steps.ensures h) in
    let parts = scope_leave g d b.end c.in-Leave.exit c.in-Leave.values _ _ c.in-Leave.is wf in
    results_fit g _ c.in_ok-results-in-Leave.results (values_tree c.in-Leave.values) (variables_of c.take_steps.new.variables) c.in_ok-results-in-Leave.ensures parts.0

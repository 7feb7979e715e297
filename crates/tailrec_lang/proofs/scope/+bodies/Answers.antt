use Rattle.std.proofs.Common.{◌<◌, length, map, refl, ap, ◌∙◌, subst, arith, rules, ltb, ◌↔◌, IsTrue}
use Rattle.std.specs.Prelude.{slice_get}
use Rattle.tailrec_lang.specs.Tree.{body_tree, exits_at, group_tree, step_tree, values_tree}
use Rattle.tailrec_lang.specs.inner.Tree.{arm_trees}
use Rattle.tailrec_lang.specs.WellFormed.{ArmsAreWellFormed, BodyIsWellFormed, HasCounts}
use Rattle.tailrec_lang.specs.inner.WellFormed.{FitsExit, words_after_all, mems_after_all}
use Rattle.tailrec_lang.proofs.Counts.{iff_then}
use Rattle.tailrec_lang.proofs.WellFormedBodies.{two, three, four, branch_well_formed, call_well_formed, again_well_formed, leave_well_formed, body_well_formed, body_ill_formed, arms_count, arms_step, arms_end}
use Rattle.tailrec_lang.proofs.scope.+bodies.Goals as goal

pub is_body_well_formed-returns-in_default : goal.is_body_well_formed-returns-in_default
is_body_well_formed-returns-in_default t c = λ w m counts. (
  λ h. cc,
  λ h. absurd (c.in_default.ensures.none w m counts (body_ill_formed (group_tree c.args.g.now) c.args.d c.args.body.now c.as_slice.result.now w m c.as_slice.ensures h)),
)

pub is_body_well_formed-returns-in-Branch : goal.is_body_well_formed-returns-in-Branch
is_body_well_formed-returns-in-Branch t c = λ w m counts.
    let g = group_tree c.args.g.now in
    let b = c.args.body.now in
    let steps = c.as_slice.result.now in
    let after = c.in-Some.ensures.some w m counts in
    let v = words_after_all (map step_tree steps) w in
    let k = mems_after_all (map step_tree steps) m in
    let whole = body_well_formed g c.args.d b steps w m c.as_slice.ensures after.0 in
    let first = subst (λ z. IsTrue c.is_body_well_formed-first.result ↔ BodyIsWellFormed g c.args.d (body_tree z) v k) c.deref.ensures (c.is_body_well_formed-first.ensures v k after.1) in
    let second = subst (λ z. IsTrue c.is_body_well_formed-second.result ↔ BodyIsWellFormed g c.args.d (body_tree z) v k) c.deref-in-Branch.ensures (c.is_body_well_formed-second.ensures v k after.1) in
    let parts = three c.both-in-Branch.ensures c.both.ensures (c.is_cond_counted-condition.ensures v k after.1) first second in
    iff_then (iff_then parts (branch_well_formed g c.args.d b.end c.in-Branch.c c.in-Branch.a c.in-Branch.b v k c.in-Branch.is)) whole

pub is_body_well_formed-returns-in-Call : goal.is_body_well_formed-returns-in-Call
is_body_well_formed-returns-in-Call t c = λ w m counts.
    let g = group_tree c.args.g.now in
    let b = c.args.body.now in
    let steps = c.as_slice.result.now in
    let after = c.in-Some.ensures.some w m counts in
    let v = words_after_all (map step_tree steps) w in
    let k = mems_after_all (map step_tree steps) m in
    let whole = body_well_formed g c.args.d b steps w m c.as_slice.ensures after.0 in
    let earlier : IsTrue (ltb c.in-Call.def c.args.d) ↔ (c.in-Call.def < c.args.d) = (λ h. search rules, λ h. search rules) in
    let has = subst (λ n. IsTrue c.has_counts-counts.result ↔ HasCounts (values_tree c.in-Call.values) n g.mems) c.len.ensures c.has_counts-counts.ensures in
    let of_exits = subst (λ xs. IsTrue c.are_arms_well_formed-fits.result ↔ ArmsAreWellFormed g c.args.d xs (arm_trees c.as_slice-in-Call.result.now) v k) c.exits_of-exits.ensures (c.are_arms_well_formed-fits.ensures v k after.1) in
    let fits = subst (λ bs. IsTrue c.are_arms_well_formed-fits.result ↔ ArmsAreWellFormed g c.args.d (exits_at g c.in-Call.def) (arm_trees bs) v k) c.as_slice-in-Call.ensures of_exits in
    let parts = four c.both-in-Call-3.ensures c.both-in-Call-2.ensures c.both-in-Call.ensures earlier has (c.are_values_counted-counted.ensures v k after.1) fits in
    iff_then (iff_then parts (call_well_formed g c.args.d b.end c.in-Call.def c.in-Call.values c.in-Call.arms v k c.in-Call.is)) whole

pub is_body_well_formed-returns-in-Again : goal.is_body_well_formed-returns-in-Again
is_body_well_formed-returns-in-Again t c = λ w m counts.
    let g = group_tree c.args.g.now in
    let b = c.args.body.now in
    let steps = c.as_slice.result.now in
    let after = c.in-Some.ensures.some w m counts in
    let v = words_after_all (map step_tree steps) w in
    let k = mems_after_all (map step_tree steps) m in
    let whole = body_well_formed g c.args.d b steps w m c.as_slice.ensures after.0 in
    let has = subst (λ n. IsTrue c.has_counts-counts-in-Again.result ↔ HasCounts (values_tree c.in-Again.values) n g.mems) c.len-in-Again.ensures c.has_counts-counts-in-Again.ensures in
    let parts = two c.both-in-Again.ensures has (c.are_values_counted-counted-in-Again.ensures v k after.1) in
    iff_then (iff_then parts (again_well_formed g c.args.d b.end c.in-Again.values v k c.in-Again.is)) whole

pub is_body_well_formed-returns-in-Leave : goal.is_body_well_formed-returns-in-Leave
is_body_well_formed-returns-in-Leave t c = λ w m counts.
    let g = group_tree c.args.g.now in
    let b = c.args.body.now in
    let steps = c.as_slice.result.now in
    let after = c.in-Some.ensures.some w m counts in
    let v = words_after_all (map step_tree steps) w in
    let k = mems_after_all (map step_tree steps) m in
    let whole = body_well_formed g c.args.d b steps w m c.as_slice.ensures after.0 in
    let at = c.exit_at.ensures ∙ ap (λ xs. slice_get xs c.in-Leave.exit) c.exits_of.ensures in
    let fits = subst (λ x. IsTrue c.fits_exit-fits.result ↔ FitsExit g x (values_tree c.in-Leave.values)) at c.fits_exit-fits.ensures in
    let parts = two c.both-in-Leave.ensures fits (c.are_values_counted-counted-in-Leave.ensures v k after.1) in
    iff_then (iff_then parts (leave_well_formed g c.args.d b.end c.in-Leave.exit c.in-Leave.values v k c.in-Leave.is)) whole

pub are_arms_well_formed-returns-then-arms-exits : goal.are_arms_well_formed-returns-then-arms-exits
are_arms_well_formed-returns-then-arms-exits t c = λ w m counts. (
  λ h. cc,
  λ h. absurd (c.if-arms-exits.true (arms_count (group_tree c.args.g.now) c.args.d c.args.exits.now c.args.arms.now w m h)),
)

pub are_arms_well_formed-loop-i-init : goal.are_arms_well_formed-loop-i-init
are_arms_well_formed-loop-i-init t c = λ w m counts. (λ h. h, λ h. h)

pub are_arms_well_formed-loop-i-preserved : goal.are_arms_well_formed-loop-i-preserved
are_arms_well_formed-loop-i-preserved t c = λ w m counts.
    let g = group_tree c.args.g.now in
    let lx : c.loop-i.i < length c.args.exits.now = omega (arith, c.if-arms-exits.false, c.loop-i-test.true) in
    let step = arms_step g c.args.d c.args.exits.now c.args.arms.now c.loop-i.i _ c.index-arms-i.result w m c.results_at-results.result lx c.loop-i-test.true c.results_at-results.ensures c.index-arms-i.is in
    let here = (c.is_body_well_formed.ensures _ _ (c.with_more-arm_scope.ensures w m counts)).0 c.if-not-is_body_well_formed.false in
    iff_then (c.loop-i.invariant w m counts) (λ h. (step.0 h).1, λ h. step.1 (here, h))

pub are_arms_well_formed-returns-then-not-is_body_well_formed : goal.are_arms_well_formed-returns-then-not-is_body_well_formed
are_arms_well_formed-returns-then-not-is_body_well_formed t c = λ w m counts. (
  λ h. cc,
  λ h.
      let g = group_tree c.args.g.now in
      let lx : c.loop-i.i < length c.args.exits.now = omega (arith, c.if-arms-exits.false, c.loop-i-test.true) in
      let step = arms_step g c.args.d c.args.exits.now c.args.arms.now c.loop-i.i _ c.index-arms-i.result w m c.results_at-results.result lx c.loop-i-test.true c.results_at-results.ensures c.index-arms-i.is in
      let yields = (c.is_body_well_formed.ensures _ _ (c.with_more-arm_scope.ensures w m counts)).1 (step.0 ((c.loop-i.invariant w m counts).0 h)).0 in
      cc,
)

pub are_arms_well_formed-returns : goal.are_arms_well_formed-returns
are_arms_well_formed-returns t c = λ w m counts. (
  λ h. (c.loop-i.invariant w m counts).1 (arms_end (group_tree c.args.g.now) c.args.d c.args.exits.now c.args.arms.now c.loop-i.i w m (omega (arith, c.if-arms-exits.false, c.loop-i-test.false)) (omega (arith, c.loop-i-test.false))),
  λ h. refl,
)

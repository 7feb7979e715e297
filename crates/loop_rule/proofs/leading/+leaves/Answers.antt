use Rattle.std.proofs.Common.{rules, suc, ◌≡◌, ◌+◌, ◌*◌, ◌<◌, ◌≤◌, ◌++◌, ◌∷◌, [], List, min, length, refl, sym, ap, ◌∙◌, arith, subst, Ok}
use Rattle.word_terms.specs.Tree.{Neg, cond_tree}
use Rattle.tailrec_lang.specs.Tree.{body_tree, def_tree, exits_at, group_tree, values_tree}
use Rattle.tailrec_lang.specs.inner.Tree.{arm_trees}
use Rattle.triple_kernel.specs.Tree.{So, fact_tree}
use Rattle.loop_rule.specs.Tree.{LeafTree}
use Rattle.loop_rule.specs.Leaves.{arm_leaves, at_exit, body_leaves}
use Rattle.loop_rule.specs.inner.Citing.{Walks}
use Rattle.loop_rule.proofs.LeafLemmas.{leaves-body, leaves-branch, leaves-call, leaves-again, leaves-leave, arms_from, arms-with, arms-end}
use Rattle.loop_rule.proofs.PathLemmas.{front-pushed, front-same, front-then}
use Rattle.loop_rule.proofs.WalkLemmas.{went_more, went_on, walks_no_memory, left_went, walks_fault, walks_behind, walks_first, walks_then, left_first, left_next, left_fault, left_end}
use Rattle.tailrec_lang.proofs.group.End.TheLaws.{the_size}
use Rattle.tailrec_lang.proofs.group.Body.TheLaws.{the_size as body_size}
use Rattle.tailrec_lang.specs.declared.group.End.TheViews.{sized-Call}
use denote.Param.Weighed.{most}
use Rattle.loop_rule.proofs.leading.+leaves.Goals as goal

-- ---- the end of a body

pub cite_for_end-returns-in_err-place-in-Branch : goal.cite_for_end-returns-in_err-place-in-Branch
cite_for_end-returns-in_err-place-in-Branch g t c =
    let k = c.args.c.now in
    let group = group_tree k.group.now in
    let def = def_tree k.def.now in
    let w = c.args.scope.words in
    let m = c.args.scope.mems in
    let way = g.J.JudgeLeaves.judge.way c.args.judge.now in
    let b = c.in-Branch in
    let second = body_leaves group def (body_tree b.b.value) w m (way ++ So (Neg (cond_tree b.cond)) ∷ []) in
    walks_first g.J.JudgeLeaves.judge k (body_leaves group def (body_tree c.deref.result.now) w m (way ++ So (cond_tree c.in_ok-holds-in-Branch.holds) ∷ [])) second _
    c.args.place c.args.judge.now c.cite_behind.new.judge c.in_err-place-in-Branch.field-0.0 c.from_residual-in_err-place-in-Branch.result
    (leaves-branch group def c.args.end.now w m way b.cond b.a b.b b.is
    ∙ (λ i. body_leaves group def (body_tree (sym c.deref.ensures i)) w m (way ++ So (sym c.in_ok-holds-in-Branch.ensures i) ∷ []) ++ second))
    c.from_residual-in_err-place-in-Branch.ensures.1 c.in_err-place-in-Branch.ensures

pub cite_for_end-returns-in_ok-place-in-Branch : goal.cite_for_end-returns-in_ok-place-in-Branch
cite_for_end-returns-in_ok-place-in-Branch g t c =
    let k = c.args.c.now in
    let group = group_tree k.group.now in
    let def = def_tree k.def.now in
    let w = c.args.scope.words in
    let m = c.args.scope.mems in
    let way = g.J.JudgeLeaves.judge.way in
    let b = c.in-Branch in
    let back : way c.cite_behind.new.judge ≡ way c.args.judge.now = c.in_ok-place-in-Branch.ensures.answers.1 in
    walks_then g.J.JudgeLeaves.judge k (body_leaves group def (body_tree c.deref.result.now) w m (way c.args.judge.now ++ So (cond_tree c.in_ok-holds-in-Branch.holds) ∷ []))
    (body_leaves group def (body_tree c.deref-in-Branch.result.now) w m (way c.cite_behind.new.judge ++ So (cond_tree c.in_ok-fails-in-Branch.fails) ∷ [])) _
    c.args.place c.in_ok-place-in-Branch.place c.args.judge.now c.cite_behind.new.judge c.cite_behind-in-Branch.new.judge c.cite_behind-in-Branch.result
    (leaves-branch group def c.args.end.now w m (way c.args.judge.now) b.cond b.a b.b b.is
    ∙ (λ i. body_leaves group def (body_tree (sym c.deref.ensures i)) w m (way c.args.judge.now ++ So (sym c.in_ok-holds-in-Branch.ensures i) ∷ [])
    ++ body_leaves group def (body_tree (sym c.deref-in-Branch.ensures i)) w m (sym back i ++ So (sym c.in_ok-fails-in-Branch.ensures i) ∷ [])))
    c.in_ok-place-in-Branch.ensures c.cite_behind-in-Branch.ensures

pub cite_for_end-cite_for_arms-requires : goal.cite_for_end-cite_for_arms-requires
cite_for_end-cite_for_arms-requires g t c κs within =
    let call = c.in-Call in
    let falls : 2 * the_size c.args.end.now + 0 ≡ t = c.decreases in
    let size = ap the_size call.is ∙ sized-Call call.callee call.values call.arms in
    let less : suc (2 * most body_size call.arms + 1) ≤ t = omega (arith, falls, size) in
    search (rules, c.as_slice.ensures, less)

pub cite_for_end-returns-in-Call : goal.cite_for_end-returns-in-Call
cite_for_end-returns-in-Call g t c =
    let k = c.args.c.now in
    let group = group_tree k.group.now in
    let def = def_tree k.def.now in
    let w = c.args.scope.words in
    let m = c.args.scope.mems in
    let way = g.J.JudgeLeaves.judge.way c.args.judge.now in
    let callee = c.in-Call.callee in
    let same = leaves-call group def c.args.end.now w m way callee c.in-Call.values c.in-Call.arms c.in-Call.is
    ∙ (λ i. arm_leaves group def callee (exits_at group callee) 0 (values_tree c.in-Call.values) (arm_trees (sym c.as_slice.ensures i)) w m way) in
    subst (λ (ls : List LeafTree). Walks g.J.JudgeLeaves.judge k ls c.args.place c.args.judge.now c.cite_for_arms.new.judge c.cite_for_arms.result) (sym same) c.cite_for_arms.ensures

pub cite_for_end-returns-in_ok-post-in-Again : goal.cite_for_end-returns-in_ok-post-in-Again
cite_for_end-returns-in_ok-post-in-Again g t c =
    let k = c.args.c.now in
    let way = g.J.JudgeLeaves.judge.way c.args.judge.now in
    let same = leaves-again (group_tree k.group.now) (def_tree k.def.now) c.args.end.now c.args.scope.words c.args.scope.mems way c.in-Again.values c.in-Again.is
    ∙ (λ i. record { facts = way; post = sym c.in_ok-post-in-Again.ensures i } ∷ []) in
    subst (λ (ls : List LeafTree). Walks g.J.JudgeLeaves.judge k ls c.args.place c.args.judge.now c.cite_for_leaf.new.judge c.cite_for_leaf.result) (sym same) c.cite_for_leaf.ensures

pub cite_for_end-returns-in_ok-post-in-Leave : goal.cite_for_end-returns-in_ok-post-in-Leave
cite_for_end-returns-in_ok-post-in-Leave g t c =
    let k = c.args.c.now in
    let way = g.J.JudgeLeaves.judge.way c.args.judge.now in
    let post = c.in_ok-post-in-Leave in
    let same = leaves-leave (group_tree k.group.now) (def_tree k.def.now) c.args.end.now c.args.scope.words c.args.scope.mems way c.in-Leave.exit c.in-Leave.values c.in-Leave.is
    ∙ (λ i. record { facts = way; post = sym (post.ensures ∙ (λ j. at_exit (group_tree k.group.now) (c.exit_at-exit.ensures j) (values_tree c.in-Leave.values))) i } ∷ []) in
    subst (λ (ls : List LeafTree). Walks g.J.JudgeLeaves.judge k ls c.args.place c.args.judge.now c.cite_for_leaf-in-Leave.new.judge c.cite_for_leaf-in-Leave.result) (sym same) c.cite_for_leaf-in-Leave.ensures

-- ---- the arms of a call

pub cite_for_arms-loop-i-init : goal.cite_for_arms-loop-i-init
cite_for_arms-loop-i-init g t c = left_first g.J.JudgeLeaves.judge c.args.c.now _ c.args.place c.args.judge.now c.requires.ready

pub cite_for_arms-returns-in_err-gives : goal.cite_for_arms-returns-in_err-gives
cite_for_arms-returns-in_err-gives g t c =
    let k = c.args.c.now in
    let group = group_tree k.group.now in
    let def = def_tree k.def.now in
    let judge = g.J.JudgeLeaves.judge in
    subst (λ ys. Walks judge k (arm_leaves group def c.args.callee ys 0 (values_tree c.args.values.now) (arm_trees c.args.arms.now) c.args.scope.words c.args.scope.mems (judge.way c.args.judge.now)) c.args.place c.args.judge.now c.loop-i.judge c.from_residual.result) c.exits_of-exits.ensures
    (walks_no_memory judge k _ c.args.place c.args.judge.now c.loop-i.judge c.from_residual.result (search rules) (left_went judge k _ _ c.args.place c.loop-i.next c.args.judge.now c.loop-i.judge c.loop-i.invariant))

pub cite_for_arms-returns-in_err-arm_scope : goal.cite_for_arms-returns-in_err-arm_scope
cite_for_arms-returns-in_err-arm_scope g t c =
    let k = c.args.c.now in
    let group = group_tree k.group.now in
    let def = def_tree k.def.now in
    let judge = g.J.JudgeLeaves.judge in
    subst (λ ys. Walks judge k (arm_leaves group def c.args.callee ys 0 (values_tree c.args.values.now) (arm_trees c.args.arms.now) c.args.scope.words c.args.scope.mems (judge.way c.args.judge.now)) c.args.place c.args.judge.now c.loop-i.judge c.from_residual-in_err-arm_scope.result) c.exits_of-exits.ensures
    (walks_no_memory judge k _ c.args.place c.args.judge.now c.loop-i.judge c.from_residual-in_err-arm_scope.result (search rules) (left_went judge k _ _ c.args.place c.loop-i.next c.args.judge.now c.loop-i.judge c.loop-i.invariant))

pub cite_for_arms-returns-in_err-next : goal.cite_for_arms-returns-in_err-next
cite_for_arms-returns-in_err-next g t c =
    let k = c.args.c.now in
    let group = group_tree k.group.now in
    let def = def_tree k.def.now in
    let v = values_tree c.args.values.now in
    let w = c.args.scope.words in
    let m = c.args.scope.mems in
    let judge = g.J.JudgeLeaves.judge in
    let way = judge.way c.args.judge.now in
    let xs = c.exits_of-exits.result.now in
    let bs = c.args.arms.now in
    let i = c.loop-i.i in
    let least : c.min-count.result ≡ min (length bs) (length xs) = search rules in
    let lx : i < length xs = omega (arith, least, c.loop-i-test.true) in
    let lb : i < length bs = omega (arith, least, c.loop-i-test.true) in
    let back : judge.way c.loop-i.judge ≡ way = c.loop-i.invariant.walks.answers.1 in
    let next = body_leaves group def (body_tree c.index-arms-i.result) c.in_ok-arm_scope.arm_scope.words c.in_ok-arm_scope.arm_scope.mems (judge.way c.loop-i.judge ++ fact_tree c.in_ok-gives.gives ∷ []) in
    let rest = arms_from group def c.args.callee v w m way xs bs (i + 1) in
    let parts : arms_from group def c.args.callee v w m way xs bs i ≡ next ++ rest = arms-with group def c.args.callee v w m way (judge.way c.loop-i.judge) xs bs i _ c.index-arms-i.result (fact_tree c.in_ok-gives.gives) c.in_ok-arm_scope.arm_scope.words c.in_ok-arm_scope.arm_scope.mems lx lb c.index-arms-i.is
    c.in_ok-arm_scope.ensures.words c.in_ok-arm_scope.ensures.mems c.in_ok-gives.ensures back in
    subst (λ ys. Walks judge k (arm_leaves group def c.args.callee ys 0 v (arm_trees bs) w m way) c.args.place c.args.judge.now c.cite_behind.new.judge c.from_residual-in_err-next.result) c.exits_of-exits.ensures
    (left_fault judge k _ _ next rest c.args.place c.loop-i.next c.args.judge.now c.loop-i.judge c.cite_behind.new.judge c.in_err-next.field-0.0 c.from_residual-in_err-next.result parts c.from_residual-in_err-next.ensures.1 c.loop-i.invariant c.in_err-next.ensures)

pub cite_for_arms-loop-i-preserved : goal.cite_for_arms-loop-i-preserved
cite_for_arms-loop-i-preserved g t c =
    let k = c.args.c.now in
    let group = group_tree k.group.now in
    let def = def_tree k.def.now in
    let v = values_tree c.args.values.now in
    let w = c.args.scope.words in
    let m = c.args.scope.mems in
    let judge = g.J.JudgeLeaves.judge in
    let way = judge.way c.args.judge.now in
    let xs = c.exits_of-exits.result.now in
    let bs = c.args.arms.now in
    let i = c.loop-i.i in
    let least : c.min-count.result ≡ min (length bs) (length xs) = search rules in
    let lx : i < length xs = omega (arith, least, c.loop-i-test.true) in
    let lb : i < length bs = omega (arith, least, c.loop-i-test.true) in
    let back : judge.way c.loop-i.judge ≡ way = c.loop-i.invariant.walks.answers.1 in
    let next = body_leaves group def (body_tree c.index-arms-i.result) c.in_ok-arm_scope.arm_scope.words c.in_ok-arm_scope.arm_scope.mems (judge.way c.loop-i.judge ++ fact_tree c.in_ok-gives.gives ∷ []) in
    let rest = arms_from group def c.args.callee v w m way xs bs (i + 1) in
    let parts : arms_from group def c.args.callee v w m way xs bs i ≡ next ++ rest = arms-with group def c.args.callee v w m way (judge.way c.loop-i.judge) xs bs i _ c.index-arms-i.result (fact_tree c.in_ok-gives.gives) c.in_ok-arm_scope.arm_scope.words c.in_ok-arm_scope.arm_scope.mems lx lb c.index-arms-i.is
    c.in_ok-arm_scope.ensures.words c.in_ok-arm_scope.ensures.mems c.in_ok-gives.ensures back in
    left_next judge k _ _ next rest c.args.place c.loop-i.next c.in_ok-next.next c.args.judge.now c.loop-i.judge c.cite_behind.new.judge parts c.loop-i.invariant c.in_ok-next.ensures

pub cite_for_arms-returns : goal.cite_for_arms-returns
cite_for_arms-returns g t c =
    let k = c.args.c.now in
    let group = group_tree k.group.now in
    let def = def_tree k.def.now in
    let v = values_tree c.args.values.now in
    let judge = g.J.JudgeLeaves.judge in
    let way = judge.way c.args.judge.now in
    let xs = c.exits_of-exits.result.now in
    let bs = c.args.arms.now in
    let least : c.min-count.result ≡ min (length bs) (length xs) = search rules in
    let none = arms-end group def c.args.callee v c.args.scope.words c.args.scope.mems way xs bs c.loop-i.i (omega (arith, least, c.loop-i-test.false)) in
    subst (λ ys. Walks judge k (arm_leaves group def c.args.callee ys 0 v (arm_trees bs) c.args.scope.words c.args.scope.mems way) c.args.place c.args.judge.now c.loop-i.judge (Ok c.loop-i.next)) c.exits_of-exits.ensures
    (left_end judge k _ _ c.args.place c.loop-i.next c.args.judge.now c.loop-i.judge none c.loop-i.invariant)

-- ---- behind a fact

pub cite_behind-returns-in_err-scope : goal.cite_behind-returns-in_err-scope
cite_behind-returns-in_err-scope g t c =
    let judge = g.J.JudgeLeaves.judge in
    let went = went_on judge [] c.args.judge.now c.push.new.self c.push_steps.new.judge c.push.ensures.went c.push_steps.ensures.went in
    walks_no_memory judge c.args.c.now _ c.args.place c.args.judge.now c.push_steps.new.judge c.from_residual-in_err-scope.result (search rules) (went_more judge _ c.args.judge.now c.push_steps.new.judge went)

pub cite_behind-returns-in_err-next : goal.cite_behind-returns-in_err-next
cite_behind-returns-in_err-next g t c =
    let k = c.args.c.now in
    let group = group_tree k.group.now in
    let def = def_tree k.def.now in
    let judge = g.J.JudgeLeaves.judge in
    let way = judge.way in
    let leaves = body_leaves group def (body_tree c.args.body.now) c.args.scope.words c.args.scope.mems in
    let pushed : leaves (way c.push.new.self) ≡ leaves (way c.args.judge.now ++ fact_tree c.args.fact ∷ []) = λ i. leaves (c.in_ok-push.ensures.way i) in
    let scope = c.in_ok-scope.scope in
    let same = sym (leaves-body group def c.args.body.now c.as_slice.result.now c.args.scope.words c.args.scope.mems scope.words scope.mems
    (way c.push.new.self) (way c.push_steps.new.judge) c.as_slice.ensures c.in_ok-scope.ensures.leaves) ∙ pushed in
    walks_fault judge k _ _ c.args.place c.args.judge.now c.push_steps.new.judge c.cite_for_end.new.judge c.in_err-next.field-0.0 c.from_residual-in_err-next.result same
    c.from_residual-in_err-next.ensures.1 (went_on judge [] c.args.judge.now c.push.new.self c.push_steps.new.judge c.push.ensures.went c.push_steps.ensures.went) c.in_err-next.ensures

pub cite_behind-returns : goal.cite_behind-returns
cite_behind-returns g t c =
    let k = c.args.c.now in
    let group = group_tree k.group.now in
    let def = def_tree k.def.now in
    let judge = g.J.JudgeLeaves.judge in
    let way = judge.way in
    let leaves = body_leaves group def (body_tree c.args.body.now) c.args.scope.words c.args.scope.mems in
    let pushed : leaves (way c.push.new.self) ≡ leaves (way c.args.judge.now ++ fact_tree c.args.fact ∷ []) = λ i. leaves (c.in_ok-push.ensures.way i) in
    let scope = c.in_ok-scope.scope in
    let same = sym (leaves-body group def c.args.body.now c.as_slice.result.now c.args.scope.words c.args.scope.mems scope.words scope.mems
    (way c.push.new.self) (way c.push_steps.new.judge) c.as_slice.ensures c.in_ok-scope.ensures.leaves) ∙ pushed in
    walks_behind judge k _ _ c.args.place c.in_ok-next.next c.args.judge.now c.push_steps.new.judge c.cite_for_end.new.judge c.shorten.new.self c.length-length.result same
    (went_on judge [] c.args.judge.now c.push.new.self c.push_steps.new.judge c.push.ensures.went c.push_steps.ensures.went)
    (front-then (way c.args.judge.now) (way c.push.new.self) (way c.push_steps.new.judge)
    (front-pushed (way c.args.judge.now) (way c.args.judge.now) (way c.push.new.self) _ c.in_ok-push.ensures.way (front-same (way c.args.judge.now) (way c.args.judge.now) refl)) c.in_ok-scope.ensures.way)
    c.length-length.ensures c.in_ok-next.ensures c.shorten.ensures.went c.shorten.ensures.way

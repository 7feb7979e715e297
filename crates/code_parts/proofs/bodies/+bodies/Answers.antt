use Rattle.std.proofs.Common.{◌≡◌, ◌-◌, ◌+◌, ℕ, suc, IfOk, List, ◌++◌, map, refl, ap, sym, ◌∙◌, subst, arith}
use Rattle.rv_decode.specs.declared.instruction.Instr.{Instr}
use Rattle.tailrec_lang.specs.Tree.{BodyTree, StepTree, body_tree, step_tree, with_steps}
use Rattle.rv_words.specs.Bytes.{away}
use Rattle.code_parts.specs.Bodies.{Flow, VariableMap, current, fresh, needs, place_after, return_arm, writes}
use Rattle.code_parts.specs.inner.Ends.{body_on, returned_body, steps_at}
use Rattle.code_parts.specs.Kept.{flow_in}
use Rattle.code_parts.specs.VariableMaps.{place_of}
use Rattle.code_parts.proofs.BuiltBodies.{called_after, goes_back, goes_in, goes_straight, goes_two_ways, two_ways}
use Rattle.code_parts.proofs.bodies.+bodies.Goals as goal

pub body_from-returns-in-Some : goal.body_from-returns-in-Some
body_from-returns-in-Some m c =
    subst (λ (z : BodyTree). IfOk c.calling_body.result (λ b. body_tree b ≡ with_steps (map step_tree c.args.steps) z))
    (goes_in (flow_in c.args.flow.now) c.args.p c.args.n c.args.room (place_of c.args.place.now) _ (sym c.callee.ensures.is ∙ c.in-Some.is) c.if-room-eq0.false)
    c.calling_body.ensures

pub acting_body-returns-in_ok-new-in-Branch-2 : goal.acting_body-returns-in_ok-new-in-Branch-2
acting_body-returns-in_ok-new-in-Branch-2 m c =
    let f : Flow = flow_in c.args.flow.now in
    let v : VariableMap = place_of c.args.place.now in
    let ss : List StepTree = map step_tree c.args.steps in
    let first = ap body_tree c.in_ok-new-in-Branch.ensures.ok ∙ c.in_ok-a-in-Branch.ensures
    ∙ (λ i. with_steps (map step_tree (c.new-none.ensures i)) (body_on (c.args.room - 1) f c.args.p (c.to.ensures.is i) v)) in
    let second = ap body_tree c.in_ok-new-in-Branch-2.ensures.ok ∙ c.in_ok-b-in-Branch.ensures
    ∙ (λ i. with_steps (map step_tree (c.new-none-in-Branch.ensures i)) (body_on (c.args.room - 1) f c.args.p (c.to-in-Branch.ensures.is i) v)) in
    two_ways _ c.in_ok-c-in-Branch.c c.in_ok-new-in-Branch.field-0 c.in_ok-new-in-Branch-2.field-0 ss _ _ _ refl refl c.in_ok-c-in-Branch.ensures first second
    ∙ ap (with_steps ss) (goes_two_ways f c.args.p c.args.n c.args.room v c.instr-i.result c.in-Branch.cmp c.in-Branch.rs1 c.in-Branch.rs2 c.in-Branch.offset c.requires.alone c.instr-i.ensures.is c.in-Branch.is (λ e. omega (arith, e, c.requires.some)))

pub acting_body-returns-then-is_jump_through : goal.acting_body-returns-then-is_jump_through
acting_body-returns-then-is_jump_through m c =
    let f : Flow = flow_in c.args.flow.now in
    let v : VariableMap = place_of c.args.place.now in
    subst (λ (z : BodyTree). IfOk c.returning_body.result (λ b. body_tree b ≡ with_steps (map step_tree c.args.steps) z))
    ((λ i. returned_body f c.instr-i.result (c.addr.ensures i) (c.size.ensures i) (c.uses-q.ensures.is i) v) ∙ goes_back f c.args.p c.args.n c.args.room v c.instr-i.result c.requires.alone c.instr-i.ensures.is (sym c.is_jump_through.ensures ∙ c.if-is_jump_through.true) (λ e. omega (arith, e, c.requires.some)))
    c.returning_body.ensures

pub acting_body-returns-in_ok-steps-in_default : goal.acting_body-returns-in_ok-steps-in_default
acting_body-returns-in_ok-steps-in_default m c =
    let f : Flow = flow_in c.args.flow.now in
    let v : VariableMap = place_of c.args.place.now in
    let i : Instr = c.instr-i.result in
    let us = c.uses-q.ensures.is in
    let made = c.in_ok-steps-in_default.ensures ∙ (λ j. map step_tree c.args.steps ++ (needs i (us j) v ++ writes i (c.addr-in_default.ensures j) (c.size-in_default.ensures j) (us j) v)) in
    subst (λ (z : BodyTree). IfOk c.body_to-in_default.result (λ b. body_tree b ≡ z))
    ((λ j. with_steps (map step_tree c.in_ok-steps-in_default.steps) (body_on (c.args.room - 1) f c.args.p (c.to-in_default.ensures.is j) ((c.after-next.ensures.is ∙ (λ k. place_after i (us k) v)) j)))
    ∙ goes_straight f c.args.p c.args.n c.args.room v i (map step_tree c.args.steps) (map step_tree c.in_ok-steps-in_default.steps) c.requires.alone c.instr-i.ensures.is c.in_default.not-Branch (sym c.is_jump_through.ensures ∙ c.if-is_jump_through.false) (λ e. omega (arith, e, c.requires.some)) made)
    c.body_to-in_default.ensures

pub return_arm-returns : goal.return_arm-returns
return_arm-returns m c =
    let f : Flow = flow_in c.args.flow.now in
    let w : ℕ = c.args.place.now.words in
    let next : w + 1 ≡ suc w = omega arith in
    subst (λ (z : BodyTree). IfOk c.body_to.result (λ b. body_tree b ≡ z))
    (λ j. with_steps (c.in_ok-steps.ensures j) (body_on c.args.room f c.args.p c.args.to ((c.fresh-next.ensures.is ∙ (λ i. fresh f (next i) c.args.place.now.mems)) j)))
    c.body_to.ensures

pub calling_body-returns : goal.calling_body-returns
calling_body-returns m c =
    let f : Flow = flow_in c.args.flow.now in
    let v : VariableMap = place_of c.args.place.now in
    let is = c.instr-i.ensures.is in
    let us = c.uses-q.ensures.is in
    let at = c.addr-addr.ensures in
    let long = c.size-length.ensures in
    let made = c.in_ok-steps.ensures ∙ (λ j. map step_tree c.args.steps ++ (needs (is j) (us j) v ++ writes (is j) (at j) (long j) (us j) v)) in
    let place = c.after-next.ensures.is ∙ (λ j. place_after (is j) (us j) v) in
    let back = c.behind-back.ensures ∙ (λ j. away (at j) (long j)) in
    called_after _ c.args.callee.def c.in_ok-values.values c.in_ok-arms.arms _ _ _ (map step_tree c.args.steps) (steps_at f c.args.n v) refl made refl
    (c.in_ok-values.ensures ∙ ap (current f) place)
    (c.in_ok-arms.ensures ∙ (λ j. return_arm f c.args.callee.returns (back j) (place j) (λ w. body_on c.args.room f c.args.p (c.to-to.ensures.is j) w)))

use Rattle.std.proofs.Common.{◌≡◌, ◌-◌, ◌<◌, length, arith, refl, sym, ap, subst, ◌∙◌}
use Rattle.std.specs.Prelude.{slice_get}
use Rattle.std.proofs.lemmas.List.{length-map}
use Rattle.tailrec_lang.specs.declared.evaluator.Frame.{Frame}
use Rattle.tailrec_lang.specs.Tree.{body_tree, def_tree, exits_at, group_tree}
use Rattle.tailrec_lang.specs.Eval.{LeavesInScope, NeedFalse, arguments, ending, needs, with_pc}
use Rattle.tailrec_lang.specs.inner.Walk.{IsLeaving, ResultsFit, StopFits, Waits, needs_passed, stop_ending, unwound}
use Rattle.tailrec_lang.proofs.Results.{if_ok-then}
use Rattle.tailrec_lang.proofs.Waiting.{unwound-push, unwound-turns, unwound-false, waits-push}
use Rattle.tailrec_lang.proofs.Evaluation.{item_there, turn_taken, entry_fits, done_in_scope}
use Rattle.tailrec_lang.proofs.evaluator.eval.Goals as goal

pub go_through-requires-clause-scope : goal.go_through-requires-clause-scope
go_through-requires-clause-scope c =
    let g = group_tree c.args.g.now in
    let call = ending g in
    let current = c.turns_left.current in
    let lt : current < length g.defs = subst (λ n. current < n) (sym (length-map c.args.g.now.defs def_tree)) c.turns_left.invariant.there in
    let d = item_there g.defs current lt in
    let body = c.body_of.ensures d.0 d.1 in
    let wf = entry_fits g current (body_tree c.body_of.result.now) d.0 (length c.turns_left.variables.words) (length c.turns_left.variables.mems) c.requires.well_formed d.1 body c.turns_left.invariant.words c.turns_left.invariant.mems in
    (g, current, wf)

pub go_through-requires-clause-needs : goal.go_through-requires-clause-needs
go_through-requires-clause-needs c =
    let g = group_tree c.args.g.now in
    let call = ending g in
    let current = c.turns_left.current in
    let lt : current < length g.defs = subst (λ n. current < n) (sym (length-map c.args.g.now.defs def_tree)) c.turns_left.invariant.there in
    let d = item_there g.defs current lt in
    let body = c.body_of.ensures d.0 d.1 in
    let few = c.requires.needs current d.0 d.1 in
    let same = ap needs body in
    omega (arith, few, same, c.nothing-start.ensures)

pub return_through-requires : goal.return_through-requires
return_through-requires c =
    let g = group_tree c.args.g.now in
    let call = ending g in
    let current = c.turns_left.current in
    let lt : current < length g.defs = subst (λ n. current < n) (sym (length-map c.args.g.now.defs def_tree)) c.turns_left.invariant.there in
    let d = item_there g.defs current lt in
    let body = c.body_of.ensures d.0 d.1 in
    let wf = entry_fits g current (body_tree c.body_of.result.now) d.0 (length c.turns_left.variables.words) (length c.turns_left.variables.mems) c.requires.well_formed d.1 body c.turns_left.invariant.words c.turns_left.invariant.mems in
    (g, c.args.def, c.turns_left.invariant.waits, c.in_ok-entered.ensures.fits g current wf, lt)

pub turns_left-preserved-in-Again-1 : goal.turns_left-preserved-in-Again-1
turns_left-preserved-in-Again-1 c =
    let g = group_tree c.args.g.now in
    let call = ending g in
    let current = c.turns_left.current in
    let lt : current < length g.defs = subst (λ n. current < n) (sym (length-map c.args.g.now.defs def_tree)) c.turns_left.invariant.there in
    let d = item_there g.defs current lt in
    let body = c.body_of.ensures d.0 d.1 in
    let wf = entry_fits g current (body_tree c.body_of.result.now) d.0 (length c.turns_left.variables.words) (length c.turns_left.variables.mems) c.requires.well_formed d.1 body c.turns_left.invariant.words c.turns_left.invariant.mems in
    let fits = c.in_ok-place.ensures.fits g c.args.def c.turns_left.invariant.waits (c.in_ok-entered.ensures.fits g current wf) lt in
    let left = c.turns_left.left - 1 in
    let turn = turn_taken g current c.turns_left.left c.turns_left.variables (body_tree c.body_of.result.now) d.0 c.in_ok-entered.entered (needs_passed c.nothing-start.result) c.nothing-start.ensures d.1 body c.in_ok-entered.ensures.ending c.turns_left-test.true in
    let now = sym (c.in_ok-place.ensures.ending call left) ∙ (λ j. unwound call c.turns_left.waiting (sym turn j)) ∙ c.turns_left.invariant.same in
    let inside : c.in_ok-place.place.def < length c.args.g.now.defs = subst (λ n. c.in_ok-place.place.def < n) (length-map c.args.g.now.defs def_tree) fits.2 in
    let args = subst (λ s. StopFits g c.in_ok-place.place.def s c.in_ok-place.place.walk) c.in-Again.is fits.1 in
    record {
      same = (λ j. unwound call c.return_through.new.waiting (stop_ending call c.in_ok-place.place.def (sym c.in-Again.is j) c.in_ok-place.place.walk left)) ∙ now;
      waits = fits.0;
      there = inside;
      words = args.0;
      mems = args.1;
      bound = omega (arith, c.turns_left.invariant.bound);
    }

pub turns_left-preserved : goal.turns_left-preserved
turns_left-preserved c =
    let g = group_tree c.args.g.now in
    let call = ending g in
    let current = c.turns_left.current in
    let lt : current < length g.defs = subst (λ n. current < n) (sym (length-map c.args.g.now.defs def_tree)) c.turns_left.invariant.there in
    let d = item_there g.defs current lt in
    let body = c.body_of.ensures d.0 d.1 in
    let wf = entry_fits g current (body_tree c.body_of.result.now) d.0 (length c.turns_left.variables.words) (length c.turns_left.variables.mems) c.requires.well_formed d.1 body c.turns_left.invariant.words c.turns_left.invariant.mems in
    let fits = c.in_ok-place.ensures.fits g c.args.def c.turns_left.invariant.waits (c.in_ok-entered.ensures.fits g current wf) lt in
    let left = c.turns_left.left - 1 in
    let turn = turn_taken g current c.turns_left.left c.turns_left.variables (body_tree c.body_of.result.now) d.0 c.in_ok-entered.entered (needs_passed c.nothing-start.result) c.nothing-start.ensures d.1 body c.in_ok-entered.ensures.ending c.turns_left-test.true in
    let now = sym (c.in_ok-place.ensures.ending call left) ∙ (λ j. unwound call c.turns_left.waiting (sym turn j)) ∙ c.turns_left.invariant.same in
    let place = c.in_ok-place.place in
    let f : Frame = record { def = place.def; callee = c.in-Call.callee; variables = place.walk.variables; passed = place.walk.passed; arms = c.in-Call.arms } in
    let stop = subst (λ s. StopFits g place.def s place.walk) c.in-Call.is fits.1 in
    let inside : place.def < length c.args.g.now.defs = subst (λ n. place.def < n) (length-map c.args.g.now.defs def_tree) fits.2 in
    let pushed = c.in_ok-push-in-Call.ensures.ok in
    record {
      same = (λ j. unwound call (pushed j) (call c.in-Call.callee (arguments c.in-Call.args) left))
          ∙ unwound-push call c.return_through.new.waiting f (call c.in-Call.callee (arguments c.in-Call.args) left)
          ∙ (λ j. unwound call c.return_through.new.waiting (stop_ending call place.def (sym c.in-Call.is j) place.walk left)) ∙ now;
      waits = subst (λ fs. Waits g c.args.def fs c.in-Call.callee) (sym pushed) (waits-push g c.args.def c.return_through.new.waiting f place.def fits.0 refl (fits.2, stop.2, stop.3));
      there = omega (arith, stop.0, inside);
      words = stop.1.0;
      mems = stop.1.1;
      bound = omega (arith, c.turns_left.invariant.bound);
    }

pub done-requires : goal.done-requires
done-requires c =
    let g = group_tree c.args.g.now in
    let call = ending g in
    let current = c.turns_left.current in
    let lt : current < length g.defs = subst (λ n. current < n) (sym (length-map c.args.g.now.defs def_tree)) c.turns_left.invariant.there in
    let d = item_there g.defs current lt in
    let body = c.body_of.ensures d.0 d.1 in
    let wf = entry_fits g current (body_tree c.body_of.result.now) d.0 (length c.turns_left.variables.words) (length c.turns_left.variables.mems) c.requires.well_formed d.1 body c.turns_left.invariant.words c.turns_left.invariant.mems in
    let fits = c.in_ok-place.ensures.fits g c.args.def c.turns_left.invariant.waits (c.in_ok-entered.ensures.fits g current wf) lt in
    let empty = c.in_ok-place.ensures.left (subst IsLeaving (sym c.in-Left.is) tt) in
    let first = subst (λ fs. Waits g c.args.def fs c.in_ok-place.place.def) empty fits.0 in
    let results = subst (λ k. ResultsFit g (slice_get (exits_at g k) c.in-Left.exit) c.in-Left.results) (sym first) (subst (λ s. StopFits g c.in_ok-place.place.def s c.in_ok-place.place.walk) c.in-Left.is fits.1) in
    results

pub returns-in-Left-clause-ok : goal.returns-in-Left-clause-ok
returns-in-Left-clause-ok c =
    let g = group_tree c.args.g.now in
    let call = ending g in
    let current = c.turns_left.current in
    let lt : current < length g.defs = subst (λ n. current < n) (sym (length-map c.args.g.now.defs def_tree)) c.turns_left.invariant.there in
    let d = item_there g.defs current lt in
    let body = c.body_of.ensures d.0 d.1 in
    let wf = entry_fits g current (body_tree c.body_of.result.now) d.0 (length c.turns_left.variables.words) (length c.turns_left.variables.mems) c.requires.well_formed d.1 body c.turns_left.invariant.words c.turns_left.invariant.mems in
    let fits = c.in_ok-place.ensures.fits g c.args.def c.turns_left.invariant.waits (c.in_ok-entered.ensures.fits g current wf) lt in
    let left = c.turns_left.left - 1 in
    let turn = turn_taken g current c.turns_left.left c.turns_left.variables (body_tree c.body_of.result.now) d.0 c.in_ok-entered.entered (needs_passed c.nothing-start.result) c.nothing-start.ensures d.1 body c.in_ok-entered.ensures.ending c.turns_left-test.true in
    let now = sym (c.in_ok-place.ensures.ending call left) ∙ (λ j. unwound call c.turns_left.waiting (sym turn j)) ∙ c.turns_left.invariant.same in
    let empty = c.in_ok-place.ensures.left (subst IsLeaving (sym c.in-Left.is) tt) in
    let first = subst (λ fs. Waits g c.args.def fs c.in_ok-place.place.def) empty fits.0 in
    let results = subst (λ k. ResultsFit g (slice_get (exits_at g k) c.in-Left.exit) c.in-Left.results) (sym first) (subst (λ s. StopFits g c.in_ok-place.place.def s c.in_ok-place.place.walk) c.in-Left.is fits.1) in
    let here = (λ j. unwound call (sym empty j) (stop_ending call c.in_ok-place.place.def (sym c.in-Left.is j) c.in_ok-place.place.walk left)) ∙ now in
    if_ok-then _ _ c.done.result (λ o is. is ∙ (λ j. with_pc (exits_at g c.args.def) (here j))) c.done.ensures

pub returns-in-Left-clause-within : goal.returns-in-Left-clause-within
returns-in-Left-clause-within c =
    let g = group_tree c.args.g.now in
    let call = ending g in
    let current = c.turns_left.current in
    let lt : current < length g.defs = subst (λ n. current < n) (sym (length-map c.args.g.now.defs def_tree)) c.turns_left.invariant.there in
    let d = item_there g.defs current lt in
    let body = c.body_of.ensures d.0 d.1 in
    let wf = entry_fits g current (body_tree c.body_of.result.now) d.0 (length c.turns_left.variables.words) (length c.turns_left.variables.mems) c.requires.well_formed d.1 body c.turns_left.invariant.words c.turns_left.invariant.mems in
    let fits = c.in_ok-place.ensures.fits g c.args.def c.turns_left.invariant.waits (c.in_ok-entered.ensures.fits g current wf) lt in
    let empty = c.in_ok-place.ensures.left (subst IsLeaving (sym c.in-Left.is) tt) in
    let first = subst (λ fs. Waits g c.args.def fs c.in_ok-place.place.def) empty fits.0 in
    let results = subst (λ k. ResultsFit g (slice_get (exits_at g k) c.in-Left.exit) c.in-Left.results) (sym first) (subst (λ s. StopFits g c.in_ok-place.place.def s c.in_ok-place.place.walk) c.in-Left.is fits.1) in
    let less : c.turns_left.left - 1 < c.args.turns = omega (arith, c.turns_left.invariant.bound, c.turns_left-test.true) in
    if_ok-then _ _ c.done.result (λ o is. subst (LeavesInScope g c.args.def c.args.turns) (sym is)
    (done_in_scope g c.args.def c.args.turns (slice_get (exits_at g c.args.def) c.in-Left.exit) c.in-Left.exit c.in-Left.results (c.turns_left.left - 1) refl results less)) c.done.ensures

pub needs-ordinal-requires : goal.needs-ordinal-requires
needs-ordinal-requires c =
    let g = group_tree c.args.g.now in
    let current = c.turns_left.current in
    let lt : current < length g.defs = subst (λ n. current < n) (sym (length-map c.args.g.now.defs def_tree)) c.turns_left.invariant.there in
    let d = item_there g.defs current lt in
    let body = c.body_of.ensures d.0 d.1 in
    let wf = entry_fits g current (body_tree c.body_of.result.now) d.0 (length c.turns_left.variables.words) (length c.turns_left.variables.mems) c.requires.well_formed d.1 body c.turns_left.invariant.words c.turns_left.invariant.mems in
    let fits = c.in_ok-place.ensures.fits g c.args.def c.turns_left.invariant.waits (c.in_ok-entered.ensures.fits g current wf) lt in
    subst (λ s. StopFits g c.in_ok-place.place.def s c.in_ok-place.place.walk) c.in-False.is fits.1

pub returns-in-False-clause-ok : goal.returns-in-False-clause-ok
returns-in-False-clause-ok c =
    let g = group_tree c.args.g.now in
    let call = ending g in
    let current = c.turns_left.current in
    let lt : current < length g.defs = subst (λ n. current < n) (sym (length-map c.args.g.now.defs def_tree)) c.turns_left.invariant.there in
    let d = item_there g.defs current lt in
    let body = c.body_of.ensures d.0 d.1 in
    let left = c.turns_left.left - 1 in
    let turn = turn_taken g current c.turns_left.left c.turns_left.variables (body_tree c.body_of.result.now) d.0 c.in_ok-entered.entered (needs_passed c.nothing-start.result) c.nothing-start.ensures d.1 body c.in_ok-entered.ensures.ending c.turns_left-test.true in
    let now = sym (c.in_ok-place.ensures.ending call left) ∙ (λ j. unwound call c.turns_left.waiting (sym turn j)) ∙ c.turns_left.invariant.same in
    let place = c.in_ok-place.place in
    let here = (λ j. NeedFalse place.def (c.needs-ordinal.ensures j)) ∙ sym (unwound-false call c.return_through.new.waiting place.def (needs_passed place.walk.passed))
    ∙ (λ j. unwound call c.return_through.new.waiting (stop_ending call place.def (sym c.in-False.is j) place.walk left)) ∙ now in
    λ j. with_pc (exits_at g c.args.def) (here j)

pub returns-in-False-clause-within : goal.returns-in-False-clause-within
returns-in-False-clause-within c =
    let g = group_tree c.args.g.now in
    let call = ending g in
    let current = c.turns_left.current in
    let lt : current < length g.defs = subst (λ n. current < n) (sym (length-map c.args.g.now.defs def_tree)) c.turns_left.invariant.there in
    let d = item_there g.defs current lt in
    let body = c.body_of.ensures d.0 d.1 in
    let wf = entry_fits g current (body_tree c.body_of.result.now) d.0 (length c.turns_left.variables.words) (length c.turns_left.variables.mems) c.requires.well_formed d.1 body c.turns_left.invariant.words c.turns_left.invariant.mems in
    let fits = c.in_ok-place.ensures.fits g c.args.def c.turns_left.invariant.waits (c.in_ok-entered.ensures.fits g current wf) lt in
    fits.2

pub returns-clause-ok : goal.returns-clause-ok
returns-clause-ok c =
    let g = group_tree c.args.g.now in
    let call = ending g in
    let none : c.turns_left.left ≡ 0 = omega (arith, c.turns_left-test.false) in
    let here = sym (unwound-turns call c.turns_left.waiting) ∙ (λ j. unwound call c.turns_left.waiting (call c.turns_left.current (arguments c.turns_left.variables) (sym none j))) ∙ c.turns_left.invariant.same in
    λ j. with_pc (exits_at g c.args.def) (here j)

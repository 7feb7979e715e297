use Rattle.std.proofs.Common.{◌≡◌, ℕ, false, List, drop, get_or, subst, arith, inr, sym}
use Rattle.std.specs.List.{Contains}
use Rattle.std.proofs.lemmas.List.Elements.{All-contains, Contains-get_or}
use Rattle.loop_forest.proofs.IteratorLoops.{passed_end, passed_first, passed_more}
use Rattle.loop_forest.specs.inner.DepthFirst.{mark_of, is_new, IsDone}
use Rattle.loop_forest.proofs.DepthFirstInvariant.{last_on_cycle, none_holds, some_holds, done_left, marked_below}
use Rattle.flow_graph.specs.Graph.{HasEdge}
use Rattle.loop_forest.specs.inner.SecondEntry.{EntersBeside}
use Rattle.loop_forest.proofs.depth_first.second_entry_from.Goals as goal

pub cycle_from-requires : goal.cycle_from-requires
cycle_from-requires c = omega (arith, (c.requires.searching.on_path _ c.in-OnPath.i c.in-OnPath.is).0)

pub second_entry-requires-clause-on : goal.second_entry-requires-clause-on
second_entry-requires-clause-on c =
    subst (λ (z : List ℕ). Contains z c.args.u) (sym c.cycle_from.ensures)
    (subst (λ (z : ℕ). Contains (drop c.in-OnPath.i c.args.path.now) z) (sym c.requires.last)
    (last_on_cycle c.args.path.now c.in-OnPath.i (c.requires.searching.on_path _ c.in-OnPath.i c.in-OnPath.is).0))

pub bounds : goal.bounds
bounds c = marked_below c.args.marks.now c.in-Some.v
    (All-contains (λ x. is_new (mark_of c.args.marks.now x) ≡ false) _ c.in-Some.v c.requires.seen (passed_first _ _ _ c.in-Some.v _ c.in-Some.ensures.steps c.loop-v.invariant.passed))

pub returns-in-Some-2-clause-edge : goal.returns-in-Some-2-clause-edge
returns-in-Some-2-clause-edge c =
    let at : get_or c.args.path.now c.in-OnPath.i 0 ≡ c.in-Some.v = (c.requires.searching.on_path _ c.in-OnPath.i c.in-OnPath.is).1 in
    subst (λ (z : ℕ). HasEdge c.args.g.now c.args.u z) (sym at) (passed_first _ _ _ c.in-Some.v _ c.in-Some.ensures.steps c.loop-v.invariant.passed)

pub returns-in-Some-2-clause-walk : goal.returns-in-Some-2-clause-walk
returns-in-Some-2-clause-walk c =
    let at : get_or c.args.path.now c.in-OnPath.i 0 ≡ c.in-Some.v = (c.requires.searching.on_path _ c.in-OnPath.i c.in-OnPath.is).1 in
    subst (λ (z : ℕ). EntersBeside c.args.g.now (drop c.in-OnPath.i c.args.path.now) c.args.entry z c.in-Some-2.walk.items) (sym at)
    (subst (λ (z : List ℕ). EntersBeside c.args.g.now z c.args.entry c.in-Some.v c.in-Some-2.walk.items) c.cycle_from.ensures
    (some_holds c.in_ok-walk.field-0 (λ w. EntersBeside c.args.g.now c.cycle_from.result.now c.args.entry c.in-Some.v w.items) c.in-Some-2.walk c.in-Some-2.is c.in_ok-walk.ensures.some))

pub loop-v-preserved-in_default-2 : goal.loop-v-preserved-in_default-2
loop-v-preserved-in_default-2 c =
    let seen : is_new (mark_of c.args.marks.now c.in-Some.v) ≡ false = All-contains (λ x. is_new (mark_of c.args.marks.now x) ≡ false) _ c.in-Some.v c.requires.seen (passed_first _ _ _ c.in-Some.v _ c.in-Some.ensures.steps c.loop-v.invariant.passed) in
    record {
      can = tt;
      ends = tt;
      passed = passed_more _ _ _ c.in-Some.v (λ x. IsDone c.args.g.now c.args.entry c.args.marks.now c.args.count c.args.u x) _ c.in-Some.ensures.steps c.loop-v.invariant.passed (λ x f. f) (inr (none_holds _ _ c.in_default-2.is c.in_ok-walk.ensures.none, seen));
    }

pub loop-v-preserved : goal.loop-v-preserved
loop-v-preserved c =
    let seen : is_new (mark_of c.args.marks.now c.in-Some.v) ≡ false = All-contains (λ x. is_new (mark_of c.args.marks.now x) ≡ false) _ c.in-Some.v c.requires.seen (passed_first _ _ _ c.in-Some.v _ c.in-Some.ensures.steps c.loop-v.invariant.passed) in
    record {
      can = tt;
      ends = tt;
      passed = passed_more _ _ _ c.in-Some.v (λ x. IsDone c.args.g.now c.args.entry c.args.marks.now c.args.count c.args.u x) _ c.in-Some.ensures.steps c.loop-v.invariant.passed (λ x f. f)
          (done_left c.args.g.now c.args.entry c.args.marks.now c.args.path.now c.args.count c.args.u c.in-Some.v c.requires.searching seen c.in_default.not-OnPath);
    }

pub returns-clause-none : goal.returns-clause-none
returns-clause-none c k d l = passed_end _ _ (λ x. IsDone c.args.g.now c.args.entry c.args.marks.now c.args.count c.args.u x) c.in-None.ensures.steps.0 c.loop-v.invariant.passed _ (Contains-get_or _ k d l)

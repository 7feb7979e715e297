use Rattle.std.proofs.Common.{◌≡◌, false}
use Rattle.std.proofs.lemmas.List.Elements.{Contains-get_or}
use Rattle.loop_forest.specs.inner.DepthFirst.{mark_of, is_new}
use Rattle.loop_forest.proofs.DepthFirstInvariant.{is_seen}
use Rattle.loop_forest.proofs.IteratorLoops.{passed_end, passed_more}
use Rattle.loop_forest.proofs.depth_first.first_new.Goals as goal

pub loop-v-preserved : goal.loop-v-preserved
loop-v-preserved c = record {
  can = tt;
  ends = tt;
  passed = passed_more _ _ _ c.in-Some.v (λ x. is_new (mark_of c.args.marks.now x) ≡ false) _ c.in-Some.ensures.steps c.loop-v.invariant.passed (λ x f. f) (is_seen _ c.in_default.not-New);
}

pub returns-clause-none : goal.returns-clause-none
returns-clause-none c k d l = passed_end _ _ (λ x. is_new (mark_of c.args.marks.now x) ≡ false) c.in-None.ensures.steps.0 c.loop-v.invariant.passed _ (Contains-get_or _ k d l)

use Rattle.std.proofs.Common.{◌≡◌, ℕ, ◌+◌, ◌%◌, sym, ◌∙◌, subst, arith, true≢false, refl}
use Rattle.flow_graph.specs.Graph.{HasEdge}
use Rattle.loop_forest.specs.Cuts.{StepsSinceCut, AtBase, After}
use Rattle.flow_graph.proofs.ExactLemmas.{pred_succ}
use Rattle.loop_forest.specs.inner.Bases.{IsMarked}
use Rattle.loop_forest.proofs.IteratorLoops.{passed_first, passed_start}
use Rattle.loop_forest.proofs.BackToBase.{some_pred, pred_number, one_more, no_more}
use Rattle.loop_forest.proofs.cuts.steps_since_cut.Goals as goal

pub back-smaller : goal.back-smaller
back-smaller c =
    let edge : HasEdge c.args.g.now c.in-Some.u c.back.at = pred_succ c.args.g.now.edges c.in-Some.u c.back.at (passed_first _ _ _ c.in-Some.u (λ x. x ≡ x) (sym c.preds-preds.ensures ∙ c.in-Some.ensures.steps) (passed_start _ _)) in
    let more = pred_number c.args.g.now c.args.marks.now c.args.base.now c.in-Some.u c.back.at c.len-count.ensures.flow c.requires.bases (c.len-count.ensures.flow.source c.in-Some.u c.back.at edge) (λ b. true≢false (sym b ∙ c.back-test.true)) edge in
    omega (arith, more, c.requires.bases.numbers c.in-Some.u)

pub back-preserved : goal.back-preserved
back-preserved c =
    let edge : HasEdge c.args.g.now c.in-Some.u c.back.at = pred_succ c.args.g.now.edges c.in-Some.u c.back.at (passed_first _ _ _ c.in-Some.u (λ x. x ≡ x) (sym c.preds-preds.ensures ∙ c.in-Some.ensures.steps) (passed_start _ _)) in
    record {
      within = c.len-count.ensures.flow.source c.in-Some.u c.back.at edge;
      few = omega arith;
      onward = λ k s. subst (λ (j : ℕ). StepsSinceCut (HasEdge c.args.g.now) (IsMarked c.args.base.now) c.args.n j) (one_more k c.back.steps)
          (c.back.invariant.onward ((k + 1) % 32) (After (λ b. true≢false (sym b ∙ c.back-test.true)) edge s refl));
    }

pub returns-in-None : goal.returns-in-None
returns-in-None c = absurd (some_pred c.args.g.now c.args.marks.now c.args.base.now c.back.at c.len-count.ensures.flow c.requires.bases c.back.invariant.within (λ b. true≢false (sym b ∙ c.back-test.true)) (sym c.preds-preds.ensures ∙ c.in-None.ensures.steps.0))

pub returns : goal.returns
returns c = subst (λ (j : ℕ). StepsSinceCut (HasEdge c.args.g.now) (IsMarked c.args.base.now) c.args.n j) (no_more c.back.steps c.back.invariant.few)
    (c.back.invariant.onward 0 (AtBase c.back-test.false))

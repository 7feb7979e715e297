use Rattle.std.proofs.Common.{◌≡◌, ℕ, subst, sym, ◌∙◌, true≢false, arith}
use Rattle.loop_forest.proofs.NodeTables.{RisesTo, rises_more, rises_skip}
use Rattle.loop_forest.proofs.node_set.NodeSet.rising.Goals as goal
use Rattle.loop_forest.proofs.node_set.NodeSet.rising.Goals.{then-has+in_ok-push, else-has}

pub loop-n-preserved : goal.loop-n-preserved
loop-n-preserved c = elim c.if-has.branch [
  | then-has+in_ok-push w ↦ rw w.found-is (rw w.in_ok-push.ensures.items (rises_more _ _ c.loop-n.n c.loop-n.invariant (c.has.ensures.0 w.if-has.true)))
  | else-has w ↦ rw w.found-is (rises_skip _ _ c.loop-n.n c.loop-n.invariant (λ d. true≢false (sym (c.has.ensures.1 d) ∙ w.if-has.false)))
]

pub returns-clause-members : goal.returns-clause-members
returns-clause-members c =
    let all : c.loop-n.n ≡ c.args.count = omega (arith, c.loop-n-test.false, c.loop-n.auto.n-end) in
    (subst (λ (n : ℕ). RisesTo c.args.self.now c.loop-n.found.items n) all c.loop-n.invariant).members

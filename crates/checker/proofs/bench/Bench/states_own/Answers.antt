use Rattle.std.proofs.Common.{sym, subst, ◌∙◌}
use Rattle.std.specs.BTreeSet.{contains}
use Rattle.std.specs.Ordering.{nat_cmp}
use Rattle.tailrec_lang.specs.Tree.{group_tree}
use Rattle.proof_text.specs.inner.OwnCode.{IsOwnCode}
use Rattle.short_text.specs.SpelledShort.{short_or_own}
use Rattle.checker.specs.Bench.{BenchState, history_from, state_group, state_history, state_nodes}
use Rattle.checker.specs.inner.Sharing.{IsOwnStated}
use Rattle.checker.proofs.OwnLines.{own_stated, theorem_code}
use Rattle.checker.proofs.bench.Bench.states_own.Goals as goal

pub returns : goal.returns
returns c = λ is.
    let s = c.self.inside in
    subst (λ (k : BenchState). IsOwnStated (state_group k) (state_history k) (state_nodes k) (short_or_own (state_group k).code c.args.all c.args.line.now)) c.self.view_is
    (own_stated (group_tree s.group.now) (history_from s.next s.arena s.held.entries s.closed) s.arena (contains nat_cmp s.marked.own)
    (λ k marked. theorem_code s.arena s.held.entries k s.group.now.code.ranges (c.self.invariant.1.theorems.own k marked)) (subst (λ (k : BenchState). IsOwnCode (state_group k).code) (sym c.self.view_is) c.requires) c.args.all c.args.line.now (sym c.states_own.ensures ∙ is))

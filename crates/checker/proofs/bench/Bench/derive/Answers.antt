use Rattle.std.proofs.Common.{sym, subst, OnOk}
use Rattle.short_text.specs.declared.short.Short.{Short}
use Rattle.checker.specs.Bench.{state_group, state_history, state_nodes}
use Rattle.checker.specs.Short.{IsFineShort, IsShortInstance, LeavesBehind}
use Rattle.checker.proofs.OwnLines.{not_own}
use Rattle.checker.proofs.bench.Bench.derive.Goals as goal

pub derive_spelled-requires-clause-line : goal.derive_spelled-requires-clause-line
derive_spelled-requires-clause-line g c =
    let old = c.args.self.now in
    subst (IsFineShort (state_nodes old)) (sym (not_own (state_group old).code c.args.line.now)) c.requires.line

pub returns-clause-left : goal.returns-clause-left
returns-clause-left g c =
    let old = c.args.self.now in
    subst (λ (s : Short). OnOk c.derive_spelled.result (LeavesBehind (state_group old) (state_history old) (state_nodes old) s (state_history c.derive_spelled.new.self))) (not_own (state_group old).code c.args.line.now) c.derive_spelled.ensures.left

pub returns-clause-no_instance : goal.returns-clause-no_instance
returns-clause-no_instance g c = λ e x.
    let old = c.args.self.now in
    c.derive_spelled.ensures.no_instance e (subst (IsShortInstance (state_group old) (state_history old) (state_nodes old)) (sym (not_own (state_group old).code c.args.line.now)) x)

use Rattle.std.proofs.Common.{◌≡◌, ◌+◌, arith, ap, sym, ◌∙◌}
use Rattle.tailrec_lang.specs.Tree.{step_tree}
use Rattle.tailrec_lang.specs.WellFormed.{words_after, mems_after}
use Rattle.tailrec_lang.proofs.Counts.{counts_as}
use Rattle.tailrec_lang.proofs.scope.next_scope.Goals as goal

pub returns-in-Bind : goal.returns-in-Bind
returns-in-Bind c = λ w m counts.
    let none : m + 0 ≡ m = omega arith in
    counts_as c.with_more.result (w + 1) (m + 0) _ _ (c.with_more.ensures w m counts)
    (sym (ap (λ s. words_after (step_tree s) w) c.in-Bind.is)) (none ∙ sym (ap (λ s. mems_after (step_tree s) m) c.in-Bind.is))

pub returns-in-BindMem : goal.returns-in-BindMem
returns-in-BindMem c = λ w m counts.
    let none : w + 0 ≡ w = omega arith in
    counts_as c.with_more-in-BindMem.result (w + 0) (m + 1) _ _ (c.with_more-in-BindMem.ensures w m counts)
    (none ∙ sym (ap (λ s. words_after (step_tree s) w) c.in-BindMem.is)) (sym (ap (λ s. mems_after (step_tree s) m) c.in-BindMem.is))

use Rattle.std.proofs.Common.{◌∙◌, sym, ◌++◌, ◌∷◌, []}
use Rattle.std.proofs.lemmas.Result.{on_ok_weaker}
use Rattle.sep_assert.proofs.JoinLemmas.{joins-apart, joins-longer}
use Rattle.sep_assert.proofs.joining.add_range.Goals as goal

pub returns-then-distance-len : goal.returns-then-distance-len
returns-then-distance-len c =
    let old = c.args.ranges.now in
    let popped = c.in-Some.ensures.items in
    on_ok_weaker _ (λ same.
    joins-apart c.pop.new.self old c.push-then-distance-len-2.new.self c.in-Some.last c.args.range.now c.requires.ranges c.requires.range c.requires.order popped
    (rw (← c.len.ensures) c.if-distance-len.true)
    (same ∙ (λ i. (c.in_ok-push.ensures.ok ∙ sym popped) i ++ c.in_ok-copied-2.ensures i ∷ [])))
    c.push-then-distance-len-2.ensures.ok

pub returns : goal.returns
returns c =
    on_ok_weaker _ (λ same.
    joins-longer c.pop.new.self c.args.ranges.now c.push-2.new.self c.in-Some.last c.args.range.now c.requires.ranges c.requires.range c.requires.order c.in-Some.ensures.items
    c.in_ok-longer.longer (rw (← c.len.ensures) c.if-distance-len.false) c.in_ok-longer.ensures.at c.in_ok-longer.ensures.bytes same)
    c.push-2.ensures.ok

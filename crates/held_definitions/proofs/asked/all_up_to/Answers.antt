use Rattle.held_definitions.proofs.AskedLemmas.{up_to_more, up_to_none}
use Rattle.held_definitions.proofs.asked.all_up_to.Goals as goal

pub loop-i-init : goal.loop-i-init
loop-i-init c = up_to_none c.new-all.result c.new-all.ensures

pub loop-i-preserved : goal.loop-i-preserved
loop-i-preserved c = up_to_more c.loop-i.i c.loop-i.all c.push.new.self c.in_ok-push.ensures.ok c.loop-i.invariant

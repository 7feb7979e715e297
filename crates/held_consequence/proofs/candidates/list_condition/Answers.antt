use Rattle.held_consequence.proofs.ClassLemmas.{list_added}
use Rattle.held_consequence.proofs.candidates.list_condition.Goals as goal

pub returns-clause-added : goal.returns-clause-added
returns-clause-added c =
    list_added c.args.lists.now c.take_list-list.new.lists c.insert.new.self c.args.k c.take_list-list.result c.push.new.self _ c.take_list-list.ensures.list c.take_list-list.ensures.updates c.in_ok-push.ensures.ok c.in_ok-insert.ensures.updates

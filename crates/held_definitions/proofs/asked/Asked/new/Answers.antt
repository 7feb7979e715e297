use Rattle.held_definitions.proofs.AskedLemmas.{asked_none}
use Rattle.held_definitions.proofs.asked.Asked.new.Goals as goal

pub returns : goal.returns
returns c = λ d way. asked_none d way _ c.new.ensures c.new-2.ensures.empty

use Rattle.std.proofs.Common.{refl}
use Rattle.held_definitions.proofs.AskedLemmas.{asked_short}
use Rattle.held_definitions.proofs.asked.Asked.shorten.Goals as goal

pub returns : goal.returns
returns c = λ d way a. asked_short d way c.args.length c.args.self.now _ c.truncate.ensures refl refl a

use Rattle.std.proofs.Common.{◌≡◌, arith, min}
use Rattle.held_terms.proofs.WayLemmas.{indexed_short}
use Rattle.held_terms.proofs.way.Way.shorten.Goals as goal

pub invariant_of-self : goal.invariant_of-self
invariant_of-self c =
    let least : c.min-self-inside.result ≡ min c.self.inside.indexed c.args.length = c.min-self-inside.ensures in
    indexed_short c.self.inside.facts c.truncate.new.self c.self.inside.indexed c.min-self-inside.result c.args.length _ c.truncate.ensures (omega (arith, least)) (omega (arith, least)) c.self.invariant

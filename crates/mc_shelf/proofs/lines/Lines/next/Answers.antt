use Rattle.std.proofs.Common.{sym, subst}
use Rattle.mc_shelf.specs.Lines.{AllGiven}
use Rattle.mc_shelf.proofs.AheadLemmas.{done_given}
use Rattle.mc_shelf.proofs.lines.Lines.next.Goals as goal

pub returns-in-Err-clause-all_given : goal.returns-in-Err-clause-all_given
returns-in-Err-clause-all_given g c =
    let l = c.self.inside in
    let places = c.self.invariant.1 c.in_default.is in
    λ going all.
    absurd (c.in-Err.ensures.going (done_given l.given l.size l.ahead places.0 places.1 (subst AllGiven (sym c.self.view_is) all)))

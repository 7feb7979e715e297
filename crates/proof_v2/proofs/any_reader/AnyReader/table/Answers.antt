use Rattle.std.proofs.Common.{◌≡◌, subst, sym}
use Rattle.proof_v2.specs.AnyReading.{AnyState, HasGivenAny, lines_of_last}
use Rattle.proof_v2.proofs.AnyGiven.{kept-table}
use Rattle.proof_v2.proofs.any_reader.AnyReader.table.Goals as goal

pub returns : goal.returns
returns c k ps h =
    kept-table k c.self.inside.lines (lines_of_last ps) c.table.result.now c.self.invariant.1 c.table.ensures.terms (subst (λ (s : AnyState). HasGivenAny k ps s) (sym c.self.view_is) h).kept

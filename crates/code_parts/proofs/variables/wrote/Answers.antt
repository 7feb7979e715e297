use Rattle.std.proofs.Common.{◌≡◌, length, refl, rules, arith}
use Rattle.code_parts.specs.VariableMaps.{place_of}
use Rattle.code_parts.proofs.VariableMaps.{place_written, written_low}
use Rattle.code_parts.proofs.variables.wrote.Goals as goal

pub invariant_of-result : goal.invariant_of-result
invariant_of-result c =
    let long : length c.args.place.names.words ≡ 32 = search rules in
    record { low = written_low c.args.place.names.words _ c.args.d _ _ c.if-d-eq0.false (omega (arith, long, c.requires.named)) c.args.place.low }

pub returns-clause-is : goal.returns-clause-is
returns-clause-is c =
    let long : length c.args.place.names.words ≡ 32 = search rules in
    place_written (place_of c.args.place) c.args.place.names.words c.args.d refl c.if-d-eq0.false (omega (arith, long, c.requires.named))

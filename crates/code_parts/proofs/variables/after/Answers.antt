use Rattle.std.proofs.Common.{◌∙◌}
use Rattle.code_parts.specs.VariableMaps.{place_of}
use Rattle.code_parts.proofs.VariableMaps.{place_after-is}
use Rattle.code_parts.proofs.variables.after.Goals as goal

pub returns-clause-is : goal.returns-clause-is
returns-clause-is c = c.wrote.ensures.is ∙ place_after-is c.args.i c.args.q (place_of c.args.place) c.destination.result c.in_default.not-Store c.destination.ensures

-- Applications of functions to trees.
use Rattle.std.specs.Prelude.{map, option_map}
use Rattle.smt_terms.specs.Expression.{exprs}
use Rattle.smt_terms.specs.Views.{expr}
use Rattle.smt_export.specs.declared.branches.Applied.{Applied}
use Rattle.smt_export.specs.Joins.{Application}

abbrev pub application_of : Applied → Application
application_of a = record { guard = option_map expr a.guard; name = a.name; args = exprs (map expr a.args) }

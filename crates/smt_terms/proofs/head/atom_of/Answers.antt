use Rattle.std.proofs.Common.{ap, map, ◌∙◌}
use Rattle.smt_terms.specs.Expression.{exprs}
use Rattle.smt_terms.specs.Views.{expr}
use Rattle.smt_terms.proofs.Views.{view_node}
use Rattle.smt_terms.proofs.head.atom_of.Goals as goal

pub returns-in-Node : goal.returns-in-Node
returns-in-Node c = (exprs (map expr c.in-Node.field-0), ap expr c.in-Node.is ∙ view_node c.in-Node.field-0)

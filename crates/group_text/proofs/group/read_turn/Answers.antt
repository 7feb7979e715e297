use Rattle.std.proofs.Common.{Option, option_map, true}
use Rattle.tailrec_lang.specs.declared.group.Group.{Group}
use Rattle.tailrec_lang.specs.Tree.{GroupTree, group_tree}
use Rattle.group_text.specs.Version.{version_of}
use Rattle.group_text.specs.inner.Reading.{turn_at}
use Rattle.group_text.proofs.BodyJoins.{passed-on}
use Rattle.group_text.proofs.GroupJoins.{turn-first, turn-second, begun, behind-begin}
use Rattle.group_text.proofs.RowLawsOf.{title-row}
use Rattle.group_text.proofs.group.read_turn.Goals as goal

abbrev found : Option Group → Option GroupTree
found o = option_map group_tree o

pub returns-in_err-next_row-clause-gives : goal.returns-in_err-next_row-clause-gives
returns-in_err-next_row-clause-gives g c = begun (version_of c.args.version) found _ _ _ c.args.first c.if-first.true
    (passed-on found c.in_err-next_row.field-0.0 c.from_residual.result _ _ (turn_at (version_of c.args.version) true) c.from_residual.ensures.1 (turn-first (version_of c.args.version) _ _ {A = Unit {0}} (λ _. (tt, (tt, tt))) found c.in_err-next_row.field-0.0 (c.in_err-next_row.ensures.gives (title-row (version_of c.args.version)))))

pub returns-in_ok-next_row-clause-gives : goal.returns-in_ok-next_row-clause-gives
returns-in_ok-next_row-clause-gives g c = begun (version_of c.args.version) found _ _ _ c.args.first c.if-first.true (turn-second (version_of c.args.version) _ _ found c.read_next.result _ (tt, (tt, tt)) (c.in_ok-next_row.ensures.gives (title-row (version_of c.args.version))) c.read_next.ensures.gives)

pub returns-else-first-clause-gives : goal.returns-else-first-clause-gives
returns-else-first-clause-gives g c = behind-begin (version_of c.args.version) found _ _ _ c.args.first c.if-first.false c.read_next-else-first.ensures.gives

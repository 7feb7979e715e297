use Rattle.std.proofs.Common.{Option, Some, None, option_map}
use Rattle.tailrec_lang.specs.declared.group.Group.{Group}
use Rattle.tailrec_lang.specs.Tree.{GroupTree, group_tree}
use Rattle.group_text.specs.declared.heads.FirstRow.TheVariants as row
use Rattle.group_text.specs.Version.{version_of}
use Rattle.group_text.specs.inner.Reading.{next_at}
use Rattle.group_text.specs.inner.GroupRows.{End, Named, first_row, first_row_tree, behind_first}
use Rattle.group_text.proofs.BodyJoins.{passed-on, no-more}
use Rattle.group_text.proofs.GroupJoins.{next-rows, rows-first, rows-second, rows-ok, item-was}
use Rattle.group_text.proofs.RowLawsOf.{first-row}
use Rattle.group_text.proofs.group.read_next.Goals as goal

abbrev found : Option Group → Option GroupTree
found o = option_map group_tree o

pub returns-in_err-first-clause-gives : goal.returns-in_err-first-clause-gives
returns-in_err-first-clause-gives g c = passed-on found c.in_err-first.field-0.0 c.from_residual.result _ _ (next_at (version_of c.args.version)) c.from_residual.ensures.1
    (rows-first (next_at (version_of c.args.version)) first_row (behind_first (version_of c.args.version)) (next-rows (version_of c.args.version)) _ _ first_row_tree found c.in_err-first.field-0.0 (c.in_err-first.ensures.gives first-row))

pub returns-in-End-clause-gives : goal.returns-in-End-clause-gives
returns-in-End-clause-gives g c = rows-ok (next_at (version_of c.args.version)) first_row (behind_first (version_of c.args.version)) (next-rows (version_of c.args.version)) _ _ _ End None (item-was first_row_tree first_row _ _ c.in_ok-first.first row.End c.in-End.is (c.in_ok-first.ensures.gives first-row)) (no-more None _)

pub returns-in_err-group-in-Group-clause-gives : goal.returns-in_err-group-in-Group-clause-gives
returns-in_err-group-in-Group-clause-gives g c = passed-on found c.in_err-group-in-Group.field-0.0 c.from_residual-in_err-group-in-Group.result _ _ (next_at (version_of c.args.version)) c.from_residual-in_err-group-in-Group.ensures.1
    (rows-second (next_at (version_of c.args.version)) first_row (behind_first (version_of c.args.version)) (next-rows (version_of c.args.version)) _ _ (λ (x : Group). Some (group_tree x)) found c.in_err-group-in-Group.field-0.0 _ (Named c.in-Group.name)
    (item-was first_row_tree first_row _ _ c.in_ok-first.first (row.Group c.in-Group.name) c.in-Group.is (c.in_ok-first.ensures.gives first-row)) c.in_err-group-in-Group.ensures.gives)

pub returns-in_ok-group-in-Group-clause-gives : goal.returns-in_ok-group-in-Group-clause-gives
returns-in_ok-group-in-Group-clause-gives g c = rows-ok (next_at (version_of c.args.version)) first_row (behind_first (version_of c.args.version)) (next-rows (version_of c.args.version)) _ _ _ (Named c.in-Group.name) (Some (group_tree c.in_ok-group-in-Group.group))
    (item-was first_row_tree first_row _ _ c.in_ok-first.first (row.Group c.in-Group.name) c.in-Group.is (c.in_ok-first.ensures.gives first-row)) c.in_ok-group-in-Group.ensures.gives

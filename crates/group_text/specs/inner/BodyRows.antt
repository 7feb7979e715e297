-- The last rows of bodies, and what stands behind them.
use Rattle.std.specs.Prelude.{ℕ, ◌^◌, Ok, codes}
use Rattle.mc_text.specs.Reading.{Reader, pair, made, refused}
use Rattle.mc_text.specs.inner.Reading.{eol, keyed, times, number_at}
use Rattle.word_terms.specs.Tree.{CondTree, cond_tree}
use Rattle.group_text.specs.TermLimits.{depth_limit}
use Rattle.group_text.specs.TermReading.{cond_at}
use Rattle.tailrec_lang.specs.Tree.{ValuesTree, values_tree, BodyTree, Branch, Call, Again, Leave, arms_of}
use Rattle.group_text.specs.inner.Reading.{mark_row, values_at, where_room, arm_bound, call_row, arm_at}
use Rattle.group_text.specs.declared.body_rows.EndRow.{EndRow}
use Rattle.group_text.specs.declared.body_rows.EndRow.TheVariants as row

-- the last row of a body
pub data EndTree : Type 0 where
  If : (c : CondTree) → EndTree
  CallOf : (def count : ℕ) (v : ValuesTree) → EndTree
  AgainWith : (v : ValuesTree) → EndTree
  LeaveBy : (exit : ℕ) (v : ValuesTree) → EndTree

abbrev pub end_row_tree : EndRow → EndTree
end_row_tree (row.If c) = If (cond_tree c)
end_row_tree (row.Call def count v) = CallOf def count (values_tree v)
end_row_tree (row.Again v) = AgainWith (values_tree v)
end_row_tree (row.Leave exit v) = LeaveBy exit (values_tree v)

abbrev pub if_row : Reader EndTree
if_row = made (λ x. If x.0) (pair (cond_at depth_limit) eol)

abbrev pub call_of : ℕ → Reader EndTree
call_of bound = made (λ x. CallOf x.0 x.1.0 x.1.1) (call_row bound)

abbrev pub leave_by : Reader EndTree
leave_by = made (λ x. LeaveBy x.0 x.1) (pair (number_at (2 ^ 32)) values_at)

unfoldable pub end_row : ℕ → Reader EndTree
end_row room =
    keyed (codes "call") (call_of (arm_bound room))
    (keyed (codes "again") (made AgainWith values_at)
    (keyed (codes "leave") leave_by
    (where_room room (keyed (codes "if") if_row refused))))

-- the rows behind it
abbrev pub behind : Reader BodyTree → EndTree → Reader BodyTree
behind body (If c) = made (λ x. Branch c x.0 x.1.1) (pair body (pair (mark_row (codes "else")) body))
behind body (CallOf def count v) = made (λ arms. Call def v (arms_of arms)) (times count (arm_at body))
behind body (AgainWith v) = λ ts. Ok (Again v, ts)
behind body (LeaveBy exit v) = λ ts. Ok (Leave exit v, ts)

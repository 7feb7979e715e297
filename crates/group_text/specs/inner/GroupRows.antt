-- The first rows of groups, and what stands behind them.
use Rattle.std.specs.Prelude.{ℕ, List, Option, Some, None, Ok, codes}
use Rattle.mc_text.specs.Reading.{Reader, pair, made, one, atom_of, refused}
use Rattle.mc_text.specs.inner.Reading.{eol, keyed}
use Rattle.tailrec_lang.specs.Tree.{GroupTree}
use Rattle.group_text.specs.Version.{Version}
use Rattle.group_text.specs.inner.Reading.{Head, name_of, regs_row, mems_row, code_row, own_defs, group_of}
use Rattle.group_text.specs.declared.heads.FirstRow.{FirstRow}
use Rattle.group_text.specs.declared.heads.FirstRow.TheVariants as row

-- the row of a group's name, or the one that ends the text
pub data FirstTree : Type 0 where
  End : FirstTree
  Named : (name : List ℕ) → FirstTree

abbrev pub first_row_tree : FirstRow → FirstTree
first_row_tree row.End = End
first_row_tree (row.Group name) = Named name

abbrev pub end_of : Reader FirstTree
end_of = made (λ _. End) eol

abbrev pub name_row : Reader FirstTree
name_row = made (λ x. Named x.0) (pair (one (atom_of name_of)) eol)

unfoldable pub first_row : Reader FirstTree
first_row = keyed (codes "end") end_of (keyed (codes "group") name_row refused)

-- the rows behind the name, up to the definitions
abbrev pub more_head : Version → List ℕ → Reader Head
more_head v name = made (λ x. record { name = name; regs = x.0.1.0; mems = x.1.0.1.0; code = x.1.1.1.0 }) (pair regs_row (pair (mems_row v) code_row))

-- the rows behind it
abbrev pub behind_first : Version → FirstTree → Reader (Option GroupTree)
behind_first v End = λ ts. Ok (None, ts)
behind_first v (Named name) = made (λ x. Some (group_of x.0 x.1)) (pair (more_head v name) own_defs)

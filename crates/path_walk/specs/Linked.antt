-- The group of linked functions with the lines of its proof, as a text of version 3.
use Rattle.std.specs.Prelude.{◌≡◌, ℕ, List, map}
use Rattle.std.specs.List.{AllByRecursion, sum_by}
use Rattle.tailrec_lang.specs.Tree.{group_tree}
use Rattle.group_text.specs.declared.version.Version.TheVariants.{Three}
use Rattle.group_text.specs.Version.{version_of}
use Rattle.proof_text.specs.Line.{line_tree}
use Rattle.proof_text.specs.LineLimits.{IsLineIn}
use Rattle.code_parts.specs.Functions.{size_of}
use Rattle.code_parts.specs.Groups.{functions_of, group_in}
use Rattle.code_parts.specs.declared.linked.LinkedGroup.{LinkedGroup}
use Rattle.path_walk.specs.declared.item.Item.{Item}
use Rattle.path_walk.specs.Closed.{AreClosedIn}

-- The group of linked functions under that name, and lines of version 3 that close each of its definitions; an instruction that two functions
-- reach counts for both.
pub record IsLinkedItem (s : LinkedGroup) (name : List ℕ) (item : Item) : Type 0 where
  pub group : group_tree item.group ≡ group_in s name
  pub lines : AreClosedIn Three (group_tree item.group) (map line_tree item.lines)
  pub fine : AllByRecursion (IsLineIn (version_of Three)) (map line_tree item.lines)
  pub reached : item.reached ≡ sum_by size_of (functions_of s)

-- The parts of a graph, walked through one after the other.
use Rattle.std.specs.Prelude.{◌≡◌, ℕ, ◌<◌, true, List, map, take}
use Rattle.std.specs.List.{AllByRecursion}
use Rattle.tailrec_lang.specs.Tree.{DefTree, GroupTree, group_tree}
use Rattle.group_text.specs.declared.version.Version.{Version as Known}
use Rattle.group_text.specs.Version.{version_of}
use Rattle.proof_text.specs.Line.{LineTree, line_tree}
use Rattle.proof_text.specs.LineLimits.{IsLineIn}
use Rattle.verdicts.specs.Instance.{AreInstancesBy, FurtherRule, after_lines, no_lines}
use Rattle.code_parts.specs.Bodies.{part_def}
use Rattle.code_parts.specs.Graph.{IsMade}
use Rattle.code_parts.specs.Flows.{group_of}
use Rattle.code_parts.specs.Kept.{FlowOf, flow_in}
use Rattle.path_walk.specs.declared.item.Item.{Item}
use Rattle.path_walk.specs.Closed.{AreClosedIn}
use Rattle.verdicts.specs.Further.{further_of}

-- lines that are right in a text with that further rule, after which the first n definitions are closed
pub record CloseFirst (F : FurtherRule) (g : GroupTree) (n : ℕ) (lines : List LineTree) : Type 0 where
  pub right : AreInstancesBy F g no_lines lines
  pub closed : (d : ℕ) → d < n → (after_lines lines).closed d ≡ true

-- the definitions of the first n parts, and lines that have a text of that version and close these in each group of all parts
pub record AreWalked (version : Known) (s : FlowOf) (n : ℕ) (defs : List DefTree) (lines : List LineTree) : Type 0 where
  pub are : defs ≡ map (part_def (flow_in s)) (take n s.context.parts)
  pub fine : AllByRecursion (IsLineIn (version_of version)) lines
  pub close : (g : GroupTree) → IsMade (flow_in s) g s.context.parts → g.code ≡ s.code → CloseFirst (further_of version) g n lines

-- the group of all parts of a flow, and lines that have a text of that version and close each of its definitions, where it is made of the parts
pub record IsItemOver (version : Known) (s : FlowOf) (name : List ℕ) (count : ℕ) (item : Item) : Type 0 where
  pub group : group_tree item.group ≡ group_of (flow_in s) name s.code s.context.parts
  pub fine : AllByRecursion (IsLineIn (version_of version)) (map line_tree item.lines)
  pub close : IsMade (flow_in s) (group_tree item.group) s.context.parts → AreClosedIn version (group_tree item.group) (map line_tree item.lines)
  pub reached : item.reached ≡ count

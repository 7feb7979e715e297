-- A function's group with the lines of its proof: what the decompiler makes of a graph and its forest.
use Rattle.std.specs.Prelude.{◌≡◌, ℕ, List, ◌++◌, map, fold, true, length, slice_get, Some}
use Rattle.std.specs.List.{AllByRecursion}
use Rattle.rv_words.specs.declared.range.Range.{Range}
use Rattle.tailrec_lang.specs.Tree.{GroupTree, group_tree}
use Rattle.proof_text.specs.Line.{LineTree, line_tree}
use Rattle.group_text.specs.Version.{version_of}
use Rattle.proof_text.specs.LineLimits.{IsLineIn}
use Rattle.group_text.specs.declared.version.Version.{Version as Known}
use Rattle.group_text.specs.declared.version.Version.TheVariants.{One}
use Rattle.verdicts.specs.Instance.{AreInstancesBy, FurtherRule, History, after_line, after_lines}
use Rattle.flow_graph.specs.Graph.{GraphOf}
use Rattle.loop_forest.specs.Forest.{ForestOf, number_of}
use Rattle.code_parts.specs.declared.part.Part.{Part}
use Rattle.path_walk.specs.declared.item.Item.{Item}
use Rattle.code_parts.specs.Bodies.{Flow, part_body, part_def}
use Rattle.path_walk.specs.Closed.{AreClosed, AreClosedIn}
use Rattle.verdicts.specs.Further.{further_of}
use Rattle.code_parts.specs.Graph.{CallsBelow, IsFor}
use Rattle.code_parts.specs.Flows.{AreCodeOf, Context, alone, flow_of, group_of}
use Rattle.code_parts.specs.Order.{AreParts}

-- lines after those that left h behind them, each of which is right in a text with that further rule, close definition d and open none again
pub record AreClosing (F : FurtherRule) (g : GroupTree) (h : History) (d : ℕ) (lines : List LineTree) : Type 0 where
  pub right : AreInstancesBy F g h lines
  pub closed : (fold after_line h lines).closed d ≡ true
  pub keeps : (c : ℕ) → h.closed c ≡ true → (fold after_line h lines).closed c ≡ true

-- Lines of a text of that version were added, which close the definition of a part, in each group of the graph with this code that has that
-- definition and the parts and functions up to some number below which it calls, after any lines that closed what it calls.
pub record IsWalkedIn (version : Known) (f : Flow) (ranges : List Range) (p : Part) (old new : List LineTree) : Type 0 where
  pub added : List LineTree
  pub lines : new ≡ old ++ added
  pub fine : AllByRecursion (IsLineIn (version_of version)) added
  pub closing : (g : GroupTree) (d : ℕ) → IsFor f d g → g.code ≡ ranges → slice_get g.defs (f.number p) ≡ Some (part_def f p)
      → CallsBelow d (part_body f p) → AreClosed (after_lines old) (part_body f p) → AreClosing (further_of version) g (after_lines old) (f.number p) added

-- .. in a text of version 1
abbrev pub IsWalked : Flow → List Range → Part → List LineTree → List LineTree → Type 0
IsWalked f ranges p old new = IsWalkedIn One f ranges p old new

-- .. over the graph's code, where the number of a part is its place among the earlier ones, or their number
pub record IsWalkedAfter (g : GraphOf) (f : ForestOf) (earlier : List Part) (p : Part) (old new : List LineTree) : Type 0 where
  pub ranges : List Range
  pub code : AreCodeOf g ranges
  pub walked : IsWalked (flow_of g f (alone g earlier)) ranges p old new

-- The group of a graph's parts in their order, with its code, in the context that goes with these parts, and lines in a text of that version that
-- close each of its definitions.
pub record IsItemWith (version : Known) (set : List Part → Context) (g : GraphOf) (f : ForestOf) (name : List ℕ) (item : Item) : Type 0 where
  pub parts : List Part
  pub ordered : AreParts (flow_of g f (set parts)) (number_of f) parts
  pub code : AreCodeOf g item.group.code.ranges
  pub group : group_tree item.group ≡ group_of (flow_of g f (set parts)) name item.group.code.ranges parts
  pub lines : AreClosedIn version (group_tree item.group) (map line_tree item.lines)
  pub fine : AllByRecursion (IsLineIn (version_of version)) (map line_tree item.lines)
  pub reached : item.reached ≡ length g.addrs

-- .. of a function alone, in a text of version 1
abbrev pub IsItemOf : GraphOf → ForestOf → List ℕ → Item → Type 0
IsItemOf g f name item = IsItemWith One (alone g) g f name item

-- The parts of one function after the other, walked through.
use Rattle.std.specs.Prelude.{◌≡◌, ℕ, ◌+◌, ◌<◌, ◌≤◌, ◌^◌, List, [], length, slice_get, Some, take, true}
use Rattle.std.specs.List.{All, AllByRecursion, Contains}
use Rattle.rv_words.specs.Bytes.{AreBytes, Bytes}
use Rattle.rv_words.specs.declared.range.Range.{Range}
use Rattle.tailrec_lang.specs.Tree.{DefTree, GroupTree}
use Rattle.group_text.specs.declared.version.Version.{Version as Known}
use Rattle.group_text.specs.declared.version.Version.TheVariants.{Three}
use Rattle.group_text.specs.Version.{version_of}
use Rattle.proof_text.specs.Line.{LineTree}
use Rattle.proof_text.specs.LineLimits.{IsLineIn}
use Rattle.code_parts.specs.declared.part.Part.{Part}
use Rattle.code_parts.specs.Bodies.{Flow, part_body, part_def}
use Rattle.loop_forest.specs.Forest.{IsForestOf}
use Rattle.code_parts.specs.Flows.{HaveInstructions, IsSetFor, context_of}
use Rattle.code_parts.specs.Kept.{IsReachedBy}
use Rattle.code_parts.specs.Graph.{CallsBelow, IsFor, IsPart}
use Rattle.code_parts.specs.Members.{AreMembers, CallsBefore, Member, defs_of, flow_at}
use Rattle.code_parts.specs.Groups.{group_in, member_in, members_of, context_in}
use Rattle.code_parts.specs.declared.linked.LinkedFunction.{LinkedFunction}
use Rattle.code_parts.specs.declared.linked.LinkedGroup.{LinkedGroup}
use Rattle.verdicts.specs.Further.{further_of}
use Rattle.path_walk.specs.inner.Walks.{CloseFirst}

-- the group has the definitions of these parts in a row, from number n on, each after those that it calls
pub record StandFrom (f : Flow) (g : GroupTree) (n : ℕ) (parts : List Part) : Type 0 where
  pub number : (j : ℕ) (q : Part) → slice_get parts j ≡ Some q → f.number q ≡ n + j
  pub group : (d : ℕ) → IsFor f d g
  pub def : (j : ℕ) (q : Part) → slice_get parts j ≡ Some q → slice_get g.defs (n + j) ≡ Some (part_def f q)
  pub below : (j : ℕ) (q : Part) → slice_get parts j ≡ Some q → CallsBelow (n + j) (part_body f q)

-- lines were added for the first k of these parts, after any that closed the definitions before them
pub record AreWalkedTo (version : Known) (f : Flow) (ranges : List Range) (parts : List Part) (k : ℕ) (old new : List LineTree) : Type 0 where
  pub fine : AllByRecursion (IsLineIn (version_of version)) old → AllByRecursion (IsLineIn (version_of version)) new
  pub close : (g : GroupTree) (n : ℕ) → StandFrom f g n parts → g.code ≡ ranges → CloseFirst (further_of version) g n old → CloseFirst (further_of version) g (n + k) new

-- the definitions of the first k functions, and lines that have a text and close these in each group of all functions
pub record AreWalkedOf (s : LinkedGroup) (k : ℕ) (defs : List DefTree) (lines : List LineTree) : Type 0 where
  pub are : defs ≡ defs_of (take k (members_of s))
  pub fine : AllByRecursion (IsLineIn (version_of Three)) lines
  pub close : (g : GroupTree) → g.code ≡ s.code.ranges → ((j : ℕ) (f : LinkedFunction) → slice_get s.functions j ≡ Some f → StandFrom (flow_at (member_in s f)) g f.base f.parts)
      → CloseFirst (further_of Three) g (length defs) lines

-- what is asked of one of the functions, so that its parts can be walked through
pub record CanBeWalked (s : LinkedGroup) (f : LinkedFunction) : Type 0 where
  pub reached : IsReachedBy f.function.now.graph
  pub forest : IsForestOf f.function.now.graph f.function.now.forest
  pub fits : IsSetFor f.function.now.graph (context_of (context_in s f))
  pub few : f.base + length f.parts < 2 ^ 32
  pub one : s.mems ≤ 1
  pub code : HaveInstructions f.function.now.graph s.code.ranges
  pub parts : All (IsPart (flow_at (member_in s f))) f.parts

-- what the parts of all functions rest on, for the group of that name
pub record CanAllBeWalked (s : LinkedGroup) (name : List ℕ) : Type 0 where
  pub code : Bytes
  pub bytes : AreBytes code
  pub main : Member
  pub members : AreMembers true code (members_of s) main (group_in s name)
  pub reached : (m : Member) → Contains (members_of s) m → IsReachedBy m.graph
  pub set : (m : Member) → Contains (members_of s) m → IsSetFor m.graph m.context
  pub instructions : (m : Member) → Contains (members_of s) m → HaveInstructions m.graph s.code.ranges
  pub calls : CallsBefore [] (members_of s)
  pub few : length (defs_of (members_of s)) ≤ 2048

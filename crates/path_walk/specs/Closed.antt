-- Lines that close the definitions of a group.
use Rattle.std.specs.Prelude.{◌≡◌, ℕ, ◌<◌, true, List, length}
use Rattle.tailrec_lang.specs.Tree.{BodyTree, Do, Branch, Call, Again, Leave, ArmTrees, NoArm, Arm, GroupTree}
use Rattle.group_text.specs.declared.version.Version.{Version as Known}
use Rattle.group_text.specs.declared.version.Version.TheVariants.{One}
use Rattle.proof_text.specs.Line.{LineTree}
use Rattle.verdicts.specs.Instance.{History, no_lines, after_lines, AreInstancesBy}
use Rattle.verdicts.specs.Further.{further_of}

abbrev mutual
  -- each definition that the body calls is closed
  pub AreClosed : History → BodyTree → Type 0
  AreClosed h (Do s rest) = AreClosed h rest
  AreClosed h (Branch c a b) = AreClosed h a × AreClosed h b
  AreClosed h (Call d v arms) = (h.closed d ≡ true) × ArmsClosed h arms
  AreClosed h (Again v) = Unit {0}
  AreClosed h (Leave k v) = Unit {0}

  pub ArmsClosed : History → ArmTrees → Type 0
  ArmsClosed h NoArm = Unit {0}
  ArmsClosed h (Arm b bs) = AreClosed h b × ArmsClosed h bs

-- lines that are right in a text of that version, after which each definition is closed
pub record AreClosedIn (version : Known) (g : GroupTree) (lines : List LineTree) : Type 0 where
  pub right : AreInstancesBy (further_of version) g no_lines lines
  pub closed : (d : ℕ) → d < length g.defs → (after_lines lines).closed d ≡ true

-- .. in a text of version 1
abbrev pub AreClosedBy : GroupTree → List LineTree → Type 0
AreClosedBy g lines = AreClosedIn One g lines

-- When values of SMT-LIB terms tell how an entry into a definition ends.
use Rattle.std.specs.Prelude.{◌≡◌, ℕ, ◌+◌, List, map, length, slice_get, Option, Some, None, true, false}
use Rattle.tailrec_lang.specs.declared.group.Exit.{Exit}
use Rattle.tailrec_lang.specs.declared.group.Exit.TheVariants.{At, Ret}
use Rattle.tailrec_lang.specs.Tree.{BodyTree, Do, Branch, Call, Again, Leave, ArmTrees, NoArm, Arm, GroupTree, exits_at}
use Rattle.tailrec_lang.specs.Eval.{Arguments, Ending, Exited, NeedFalse, NoTurns, Nothing, Meaning}
use Rattle.smt_terms.specs.Operators.{Value, Bits, Truth}
use Rattle.smt_terms.specs.Meaning.{Functions, applied}
use Rattle.group_terms.specs.Range.{ArgumentsInRange}
use Rattle.smt_export.specs.declared.told.Told.{Told}
use Rattle.smt_export.specs.declared.told.Told.TheVariants.{Ok, ExitNumber, Pc}
use Rattle.smt_export.specs.Told.{fun_name}
use Rattle.smt_export.specs.Bodies.{call_results}
use Rattle.smt_export.specs.Telling.{AreMems, AreArgumentValues, IsToldOf}

-- ---- sizes

-- at most so many variables are bound in a body, and in arms
abbrev mutual
  pub room : GroupTree → BodyTree → ℕ
  room g (Do step rest) = 1 + room g rest
  room g (Branch c a b) = room g a + room g b
  room g (Call def v arms) = arm_room g arms
  room g (Again v) = 0
  room g (Leave exit v) = 0

  pub arm_room : GroupTree → ArmTrees → ℕ
  arm_room g NoArm = 0
  arm_room g (Arm b bs) = length g.regs + 1 + g.mems + room g b + arm_room g bs

-- no entry is made again, and each call goes to a definition that P holds of
abbrev mutual
  pub EachCall : (ℕ → Type 0) → BodyTree → Type 0
  EachCall P (Do step rest) = EachCall P rest
  EachCall P (Branch c a b) = EachCall P a × EachCall P b
  EachCall P (Call def v arms) = P def × EachArmCall P arms
  EachCall P (Again v) = ⊥
  EachCall P (Leave exit v) = Unit {0}

  pub EachArmCall : (ℕ → Type 0) → ArmTrees → Type 0
  EachArmCall P NoArm = Unit {0}
  EachArmCall P (Arm b bs) = EachCall P b × EachArmCall P bs

-- ---- values

-- the address of an exit
abbrev pub IsPc : Option Exit → Value → Type 0
IsPc (Some (At a)) v = v ≡ Bits 64 a
IsPc (Some Ret) v = Unit {0}
IsPc None v = ⊥

-- what is told of leaving by an exit and its number
pub record TellsExit (g : GroupTree) (by : Option Exit) (k : ℕ) (x : Arguments) (f : Told → Value) : Type 0 where
  pub ok : f Ok ≡ Truth true
  pub exit : f ExitNumber ≡ Bits 32 k
  pub pc : IsPc by (f Pc)
  pub words : map f (call_results (length g.regs) by) ≡ map (Bits 64) x.words
  pub mems : AreMems f 0 x.mems
  pub count : length x.mems ≡ g.mems
  pub range : ArgumentsInRange x

-- the values tell the ending: of one that has no turns nothing is told
abbrev pub TellsEnding : GroupTree → List Exit → Ending → (Told → Value) → Type 0
TellsEnding g exits (Exited k x left) f = TellsExit g (slice_get exits k) k x f
TellsEnding g exits (NeedFalse d ordinal) f = f Ok ≡ Truth false
TellsEnding g exits NoTurns f = Unit {0}
TellsEnding g exits Nothing f = ⊥

-- ---- calls

-- the functions of a definition tell how entries into it end
pub record IsExported (g : GroupTree) (fs : Functions) (call : Meaning) (d : ℕ) : Type 0 where
  pub there : (t : Told) → IsToldOf g t → (f : List Value → Value) × (fs (fun_name d t) ≡ Some f)
  pub tells : (x : Arguments) (n : ℕ) (vs : List Value) → AreArgumentValues g x vs → TellsEnding g (exits_at g d) (call d x n) (λ t. applied fs (fun_name d t) vs)

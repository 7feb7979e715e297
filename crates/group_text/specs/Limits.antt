-- Which groups have a text.
use Rattle.std.specs.Prelude.{ℕ, zero, suc, ◌+◌, ◌≤◌, ◌<◌, ◌^◌, List, [], ◌∷◌, length}
use Rattle.std.specs.List.{AllByRecursion}
use Rattle.mc_text.specs.Tokens.{IsAtom}
use Rattle.mc_text.specs.Fault.{Grammar}
use Rattle.rv_words.specs.Ranges.{AreRanges}
use Rattle.group_text.specs.TermLimits.{IsWord, IsMem, IsCond}
use Rattle.tailrec_lang.specs.Tree.{ValuesTree, StepTree, Bind, BindMem, Need, BodyTree, Do, Branch, Call, Again, Leave, ArmTrees, NoArm, Arm, DefTree, GroupTree}
use Rattle.tailrec_lang.specs.declared.group.Exit.{Exit}
use Rattle.tailrec_lang.specs.declared.group.Exit.TheVariants.{At, Ret}
use Rattle.tailrec_lang.specs.Registers.{AreRegistersFrom}
use Rattle.group_text.specs.Version.{Version, version_1}
use Rattle.group_text.specs.Spelling.{arm_count, text_in}

abbrev pub IsValues : ValuesTree → Type 0
IsValues v = AllByRecursion IsWord v.words × AllByRecursion IsMem v.mems

abbrev pub IsStep : StepTree → Type 0
IsStep (Bind t) = IsWord t
IsStep (BindMem m) = IsMem m
IsStep (Need c) = IsCond c

-- the numbers of definitions, exits and variables are below this
abbrev pub index_limit : ℕ
index_limit = 2 ^ 32

-- the most arms of a call, and the most exits of a definition
abbrev pub def_exit_limit : ℕ
def_exit_limit = 16

-- by the nesting that is left: the bodies of a branch and of a call have one less
abbrev mutual
  pub IsBody : ℕ → BodyTree → Type 0
  IsBody zero b = ⊥
  IsBody (suc n) (Do step rest) = IsStep step × IsBody (suc n) rest
  IsBody (suc n) (Branch c a b) = IsCond c × IsBody n a × IsBody n b
  IsBody (suc n) (Call def v arms) = (def < index_limit) × (arm_count arms ≤ def_exit_limit) × IsValues v × AreArms n arms
  IsBody (suc n) (Again v) = IsValues v
  IsBody (suc n) (Leave exit v) = (exit < index_limit) × IsValues v

  pub AreArms : ℕ → ArmTrees → Type 0
  AreArms n NoArm = Unit {0}
  AreArms n (Arm b bs) = IsBody n b × AreArms n bs

-- the deepest nesting of bodies that is written
abbrev pub nesting_limit : ℕ
nesting_limit = 64

abbrev pub IsExit : Exit → Type 0
IsExit (At a) = a < 2 ^ 64
IsExit Ret = Unit {0}

-- how many exits return
abbrev pub returns : List Exit → ℕ
returns [] = 0
returns (At a ∷ xs) = returns xs
returns (Ret ∷ xs) = returns xs + 1

pub record IsDef (d : DefTree) : Type 0 where
  pub entry : d.entry < 2 ^ 64
  pub exits : AllByRecursion IsExit d.exits
  pub few : length d.exits ≤ def_exit_limit
  pub one_return : returns d.exits ≤ 1
  pub body : IsBody nesting_limit d.body

-- the most bytes of a name
abbrev pub name_limit : ℕ
name_limit = 4096

-- a name: at least one byte from 0x21 to 0x7e, none of them ( ) ;
abbrev pub IsName : List ℕ → Type 0
IsName name = IsAtom name × (length name ≤ name_limit)

-- the most definitions of a group
abbrev pub def_limit : ℕ
def_limit = 4096

pub record IsGroupIn (v : Version) (g : GroupTree) : Type 0 where
  pub name : IsName g.name
  pub registers : AreRegistersFrom 1 g.regs
  pub memories : (v.least_mems ≤ g.mems) × (g.mems ≤ v.most_mems)
  pub code : AreRanges g.code
  pub bytes : AllByRecursion (λ r. AllByRecursion (λ b. b < 256) r.bytes) g.code
  pub defs : AllByRecursion IsDef g.defs
  pub some : 1 ≤ length g.defs
  pub few : length g.defs ≤ def_limit

abbrev pub AreGroupsIn : Version → List GroupTree → Type 0
AreGroupsIn v gs = AllByRecursion (IsGroupIn v) gs

-- the texts of lists of groups in that version
abbrev pub texts_in : Version → Grammar (List GroupTree)
texts_in v = record { Has = AreGroupsIn v; text = text_in v }

-- ---- the version that is read

abbrev pub IsGroup : GroupTree → Type 0
IsGroup g = IsGroupIn version_1 g

abbrev pub AreGroups : List GroupTree → Type 0
AreGroups gs = AllByRecursion IsGroup gs

abbrev pub proof_texts : Grammar (List GroupTree)
proof_texts = texts_in version_1

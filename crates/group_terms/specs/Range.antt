-- Words of 64 bits, and memories of bytes at 64-bit addresses: in arguments, and as the constants and addresses of definitions.
use Rattle.std.specs.Prelude.{◌<◌, ◌^◌}
use Rattle.std.specs.List.{AllByRecursion}
use Rattle.rv_words.specs.Bytes.{IsMemory}
use Rattle.word_terms.specs.Scope.{WordInRange, MemInRange, CondInRange}
use Rattle.tailrec_lang.specs.declared.group.Exit.{Exit}
use Rattle.tailrec_lang.specs.declared.group.Exit.TheVariants.{At, Ret}
use Rattle.tailrec_lang.specs.Tree.{ValuesTree, StepTree, Bind, BindMem, Need, BodyTree, Do, Branch, Call, Again, Leave, ArmTrees, NoArm, Arm, DefTree, GroupTree}
use Rattle.tailrec_lang.specs.Eval.{Arguments}

-- the arguments are 64-bit words, and memories of bytes at 64-bit addresses
pub record ArgumentsInRange (x : Arguments) : Type 0 where
  pub words : AllByRecursion (λ n. n < 2 ^ 64) x.words
  pub mems : AllByRecursion IsMemory x.mems

-- the constants are 64-bit words
abbrev pub ValuesInRange : ValuesTree → Type 0
ValuesInRange v = AllByRecursion WordInRange v.words × AllByRecursion MemInRange v.mems

abbrev pub StepInRange : StepTree → Type 0
StepInRange (Bind t) = WordInRange t
StepInRange (BindMem m) = MemInRange m
StepInRange (Need c) = CondInRange c

abbrev mutual
  pub BodyInRange : BodyTree → Type 0
  BodyInRange (Do step rest) = StepInRange step × BodyInRange rest
  BodyInRange (Branch c a b) = CondInRange c × BodyInRange a × BodyInRange b
  BodyInRange (Call def v arms) = ValuesInRange v × ArmsInRange arms
  BodyInRange (Again v) = ValuesInRange v
  BodyInRange (Leave exit v) = ValuesInRange v

  pub ArmsInRange : ArmTrees → Type 0
  ArmsInRange NoArm = Unit {0}
  ArmsInRange (Arm b bs) = BodyInRange b × ArmsInRange bs

abbrev pub ExitInRange : Exit → Type 0
ExitInRange (At a) = a < 2 ^ 64
ExitInRange Ret = Unit {0}

-- the addresses and the constants of a definition are 64-bit words
pub record DefInRange (d : DefTree) : Type 0 where
  pub entry : d.entry < 2 ^ 64
  pub exits : AllByRecursion ExitInRange d.exits
  pub body : BodyInRange d.body

abbrev pub GroupInRange : GroupTree → Type 0
GroupInRange g = AllByRecursion DefInRange g.defs

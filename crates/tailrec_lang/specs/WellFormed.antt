-- Which groups are well-formed: each variable is in scope at its place, each `Call` goes to an earlier definition and
-- has an arm for each of its exits, each `Leave` names an exit of its definition, and each list of values has the right
-- counts. Variables are levels, so a scope is how many word and memory variables there are.
use Rattle.std.specs.Prelude.{◌≡◌, ℕ, ◌+◌, ◌<◌, List, [], ◌∷◌, length, slice_get, Some, IsSomeAnd, All}
use Rattle.word_terms.specs.Scope.{WordInScope, MemInScope, CondInScope}
use Rattle.tailrec_lang.specs.declared.group.Exit.{Exit}
use Rattle.tailrec_lang.specs.declared.group.Exit.TheVariants.{At, Ret}
use Rattle.tailrec_lang.specs.Tree.{ValuesTree, StepTree, Bind, BindMem, Need, BodyTree, Do, Branch, Call, Again, Leave, ArmTrees, NoArm, Arm, DefTree, GroupTree, exits_at}

-- the step's variables are in scope
abbrev pub StepInScope : StepTree → ℕ → ℕ → Type 0
StepInScope (Bind t) words mems = WordInScope t words mems
StepInScope (BindMem m) words mems = MemInScope m words mems
StepInScope (Need c) words mems = CondInScope c words mems

-- how many word variables there are after the step
abbrev pub words_after : StepTree → ℕ → ℕ
words_after (Bind t) words = words + 1
words_after _ words = words

-- how many memory variables there are after the step
abbrev pub mems_after : StepTree → ℕ → ℕ
mems_after (BindMem m) mems = mems + 1
mems_after _ mems = mems

-- the values' variables are in scope
abbrev pub ValuesInScope : ValuesTree → ℕ → ℕ → Type 0
ValuesInScope v words mems = All (λ t. WordInScope t words mems) v.words × All (λ t. MemInScope t words mems) v.mems

-- there are that many values of each kind
abbrev pub HasCounts : ValuesTree → ℕ → ℕ → Type 0
HasCounts v words mems = (length v.words ≡ words) × (length v.mems ≡ mems)

-- how many words an exit is left with: one for each register, and in front the returned address where there is one
abbrev pub exit_words : GroupTree → Exit → ℕ
exit_words g (At a) = length g.regs
exit_words g Ret = length g.regs + 1

abbrev mutual
  -- a body of definition d, where that many variables are in scope
  pub BodyIsWellFormed : GroupTree → ℕ → BodyTree → ℕ → ℕ → Type 0
  BodyIsWellFormed g d (Do step rest) words mems =
      StepInScope step words mems × BodyIsWellFormed g d rest (words_after step words) (mems_after step mems)
  BodyIsWellFormed g d (Branch c a b) words mems =
      CondInScope c words mems × BodyIsWellFormed g d a words mems × BodyIsWellFormed g d b words mems
  BodyIsWellFormed g d (Call def v arms) words mems =
      (def < d) × HasCounts v (length g.regs) g.mems × ValuesInScope v words mems × ArmsAreWellFormed g d (exits_at g def) arms words mems
  BodyIsWellFormed g d (Again v) words mems = HasCounts v (length g.regs) g.mems × ValuesInScope v words mems
  BodyIsWellFormed g d (Leave exit v) words mems =
      IsSomeAnd (slice_get (exits_at g d) exit) (λ x. HasCounts v (exit_words g x) g.mems) × ValuesInScope v words mems

  -- arms in definition d of a call with these exits, each of which has the exit's results as further variables
  pub ArmsAreWellFormed : GroupTree → ℕ → List Exit → ArmTrees → ℕ → ℕ → Type 0
  ArmsAreWellFormed g d [] NoArm words mems = Unit {0}
  ArmsAreWellFormed g d (x ∷ xs) (Arm b bs) words mems =
      BodyIsWellFormed g d b (words + exit_words g x) (mems + g.mems) × ArmsAreWellFormed g d xs bs words mems
  ArmsAreWellFormed g d _ _ words mems = ⊥

-- at its entry a definition's variables are its parameters: a word for each register, and the group's memories
abbrev pub DefIsWellFormed : GroupTree → ℕ → DefTree → Type 0
DefIsWellFormed g d def = BodyIsWellFormed g d def.body (length g.regs) g.mems

-- each definition of the group is well-formed
abbrev pub IsWellFormed : GroupTree → Type 0
IsWellFormed g = (d : ℕ) (def : DefTree) → slice_get g.defs d ≡ Some def → DefIsWellFormed g d def

-- the definition of that number isn't well-formed, and those before it are
pub record IsFirstIllFormed (g : GroupTree) (d : ℕ) : Type 0 where
  pub before : (k : ℕ) (def : DefTree) → k < d → slice_get g.defs k ≡ Some def → DefIsWellFormed g k def
  pub here : (def : DefTree) → slice_get g.defs d ≡ Some def → DefIsWellFormed g d def → ⊥
  pub there : d < length g.defs

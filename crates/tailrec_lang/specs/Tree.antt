-- Groups as trees: what contracts see of them, whatever their places in memory.
use Rattle.std.specs.Prelude.{ℕ, List, [], ◌∷◌, map, slice_get, option_map, unwrap_or, ◌-◌, length}
use Rattle.word_terms.specs.Tree.{WordTree, MemTree, CondTree, word_tree, mem_tree, cond_tree}
use Rattle.rv_words.specs.declared.range.Range.{Range}
use Rattle.tailrec_lang.specs.declared.group.Values.{Values}
use Rattle.tailrec_lang.specs.declared.group.Step.{Step}
use Rattle.tailrec_lang.specs.declared.group.Step.TheVariants as step
use Rattle.tailrec_lang.specs.declared.group.Body.{Body}
use Rattle.tailrec_lang.specs.declared.group.End.TheFolds.{fold-Body}
use Rattle.tailrec_lang.specs.declared.group.End.TheOpen.{End-F, Body-F}
use Rattle.tailrec_lang.specs.declared.group.Exit.{Exit}
use Rattle.tailrec_lang.specs.declared.group.Def.{Def}
use Rattle.tailrec_lang.specs.declared.group.Group.{Group}

-- the terms for what a definition is entered or left with
pub record ValuesTree : Type 0 where
  pub words : List WordTree
  pub mems : List MemTree

-- a step: the next word variable is t, the next memory variable is m, or a condition is needed
pub data StepTree : Type 0 where
  Bind : (t : WordTree) → StepTree
  BindMem : (m : MemTree) → StepTree
  Need : (c : CondTree) → StepTree

mutual
  -- a step and the rest of its body, or an end: one of two bodies, a call of a definition with a body for each of its
  -- exits, a new entry into the same definition, or an exit
  pub data BodyTree : Type 0 where
    Do : (step : StepTree) (rest : BodyTree) → BodyTree
    Branch : (c : CondTree) (a b : BodyTree) → BodyTree
    Call : (def : ℕ) (values : ValuesTree) (arms : ArmTrees) → BodyTree
    Again : (values : ValuesTree) → BodyTree
    Leave : (exit : ℕ) (values : ValuesTree) → BodyTree

  -- the arms of a call: the body that goes on where the called definition leaves by exit 0, by exit 1, and so on
  pub data ArmTrees : Type 0 where
    NoArm : ArmTrees
    Arm : (first : BodyTree) (others : ArmTrees) → ArmTrees

-- a definition: where it is entered, its exits, and its body
pub record DefTree : Type 0 where
  pub entry : ℕ
  pub exits : List Exit
  pub body : BodyTree

-- a group: its function's name, its registers, how many memories it has, its code and its definitions
pub record GroupTree : Type 0 where
  pub name : List ℕ
  pub regs : List ℕ
  pub mems : ℕ
  pub code : List Range
  pub defs : List DefTree

-- the exits of the definition of that number, if there is one
abbrev pub exits_at : GroupTree → ℕ → List Exit
exits_at g d = unwrap_or (option_map (λ (def : DefTree). def.exits) (slice_get g.defs d)) []

-- the trees of the values' terms
abbrev pub values_tree : Values → ValuesTree
values_tree v = record { words = map word_tree v.words; mems = map mem_tree v.mems }

-- the tree of a step
abbrev pub step_tree : Step → StepTree
step_tree (step.Bind t) = Bind (word_tree t)
step_tree (step.BindMem m) = BindMem (mem_tree m)
step_tree (step.Need c) = Need (cond_tree c)

-- the steps in front of the rest of a body
abbrev pub with_steps : List StepTree → BodyTree → BodyTree
with_steps [] rest = rest
with_steps (s ∷ ss) rest = Do s (with_steps ss rest)

-- the bodies as arms
abbrev pub arms_of : List BodyTree → ArmTrees
arms_of [] = NoArm
arms_of (b ∷ bs) = Arm b (arms_of bs)

-- the tree of an end, and that of a body, whose steps stand in front of its end, from the trees of the bodies in them
abbrev pub end_step : End-F BodyTree BodyTree → BodyTree
end_step (End-F.Branch c a b) = Branch (cond_tree c) a.value b.value
end_step (End-F.Call def values arms) = Call def (values_tree values) (arms_of arms)
end_step (End-F.Again values) = Again (values_tree values)
end_step (End-F.Leave exit values) = Leave exit (values_tree values)

abbrev pub body_step : Body-F BodyTree BodyTree → BodyTree
body_step b = with_steps (map step_tree b.steps) b.end

-- the tree of a body
abbrev pub body_tree : Body → BodyTree
body_tree = fold-Body BodyTree BodyTree end_step body_step

-- the tree of a definition
abbrev pub def_tree : Def → DefTree
def_tree d = record { entry = d.entry; exits = d.exits; body = body_tree d.body }

-- the tree of a group
abbrev pub group_tree : Group → GroupTree
group_tree g = record { name = g.name; regs = g.regs; mems = g.mems; code = g.code.ranges; defs = map def_tree g.defs }

-- the number of the group's last definition, which is the function that the group lists
abbrev pub listed_def : GroupTree → ℕ
listed_def g = length g.defs - 1

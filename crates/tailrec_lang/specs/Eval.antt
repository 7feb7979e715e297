-- Evaluation within a number of turns. Each entry into a body takes one turn.
use Rattle.std.specs.Prelude.{◌≡◌, ◌<◌, ◌^◌, ◌+◌, ℕ, zero, suc, Bool, true, if◌then◌else◌, List, map, length, drop, slice_get, slice_index, Option, Some, None, option_map, unwrap_or}
use Rattle.std.specs.FinMap.{get}
use Rattle.rv_words.specs.Bytes.{Bytes}
use Rattle.word_terms.specs.Environment.{Environment, no_variables, with_word, with_mem, with_words, with_mems, variables}
use Rattle.word_terms.specs.Value.{word_value, mem_value, cond_holds}
use Rattle.tailrec_lang.specs.declared.group.Exit.{Exit}
use Rattle.tailrec_lang.specs.declared.group.Exit.TheVariants.{At, Ret}
use Rattle.tailrec_lang.specs.declared.args.Args.{Args}
use Rattle.tailrec_lang.specs.declared.evaluator.Outcome.{Outcome as Answer}
use Rattle.tailrec_lang.specs.declared.evaluator.Outcome.TheVariants as answer
use Rattle.tailrec_lang.specs.WellFormed.{exit_words}
use Rattle.tailrec_lang.specs.Tree.{ValuesTree, StepTree, Bind, BindMem, Need, BodyTree, Do, Branch, Call, Again, Leave, ArmTrees, NoArm, Arm, DefTree, GroupTree, exits_at}

-- what a definition is entered or left with
pub record Arguments : Type 0 where
  pub words : List ℕ
  pub mems : List Bytes

-- the arguments as the next variables
abbrev pub with_arguments : Environment → Arguments → Environment
with_arguments e x = with_mems (with_words e x.words) x.mems

-- the values of the terms that a definition is entered or left with
abbrev pub arguments_of : ValuesTree → Environment → Arguments
arguments_of v e = record { words = map (λ t. word_value t e) v.words; mems = map (λ t. mem_value t e) v.mems }

-- ---- Needs have numbers in their definition, from 0 on, in the order of its text

-- 1 for a Need
abbrev pub step_needs : StepTree → ℕ
step_needs (Need c) = 1
step_needs _ = 0

-- how many Needs there are in a body, and in arms
abbrev mutual
  pub needs : BodyTree → ℕ
  needs (Do step rest) = step_needs step + needs rest
  needs (Branch c a b) = needs a + needs b
  needs (Call def v arms) = arm_needs arms
  needs _ = 0

  pub arm_needs : ArmTrees → ℕ
  arm_needs NoArm = 0
  arm_needs (Arm b bs) = needs b + arm_needs bs

-- ---- the ending of an entry

-- how an entry ends: by an exit, with results and some turns left; at a Need of a definition that is false, by its
-- number; or without turns
pub data Ending : Type 0 where
  Exited : (exit : ℕ) (results : Arguments) (left : ℕ) → Ending
  NeedFalse : (def ordinal : ℕ) → Ending
  NoTurns : Ending
  Nothing : Ending

-- how each entry ends: into which definition, with which arguments and turns
abbrev pub Meaning : Type 0
Meaning = ℕ → Arguments → ℕ → Ending

-- where an entry leaves by an exit, what comes of it then; any other ending stays
abbrev pub and_then : Ending → (ℕ → Arguments → ℕ → Ending) → Ending
and_then (Exited exit results left) go = go exit results left
and_then other go = other

-- whether evaluation goes on after a step
abbrev pub step_holds : StepTree → Environment → Bool
step_holds (Need c) e = cond_holds c e
step_holds _ e = true

-- the variables after a step
abbrev pub after_step : StepTree → Environment → Environment
after_step (Bind t) e = with_word e (word_value t e)
after_step (BindMem m) e = with_mem e (mem_value m e)
after_step (Need c) e = e

abbrev mutual
  -- how the rest of a body of definition d ends, where entries end as `call` says, and where `ordinal` Needs of d stand
  -- before it
  pub body_ending : Meaning → ℕ → BodyTree → Environment → ℕ → ℕ → Ending
  body_ending call d (Do step rest) e ordinal left =
      if step_holds step e then body_ending call d rest (after_step step e) (ordinal + step_needs step) left else NeedFalse d ordinal
  body_ending call d (Branch c a b) e ordinal left =
      if cond_holds c e then body_ending call d a e ordinal left else body_ending call d b e (ordinal + needs a) left
  body_ending call d (Call def v arms) e ordinal left =
      and_then (call def (arguments_of v e) left) (λ exit results more. arm_ending call d arms exit (with_arguments e results) ordinal more)
  body_ending call d (Again v) e ordinal left = call d (arguments_of v e) left
  body_ending call d (Leave exit v) e ordinal left = Exited exit (arguments_of v e) left

  -- how the arm of that number ends
  pub arm_ending : Meaning → ℕ → ArmTrees → ℕ → Environment → ℕ → ℕ → Ending
  arm_ending call d NoArm exit e ordinal left = Nothing
  arm_ending call d (Arm b bs) zero e ordinal left = body_ending call d b e ordinal left
  arm_ending call d (Arm b bs) (suc exit) e ordinal left = arm_ending call d bs exit e (ordinal + needs b) left

-- entries that are nested at most as deep as the first number: an entry takes one turn, and then its definition's body
-- ends it, if there is a definition of its number
abbrev pub ending_within : ℕ → GroupTree → Meaning
ending_within (suc depth) g d x (suc left) =
    unwrap_or (option_map (λ (def : DefTree).
    body_ending (ending_within depth g) d def.body (with_arguments no_variables x) 0 left) (slice_get g.defs d)) Nothing
ending_within depth g d x turns = NoTurns

-- each entry takes a turn, so none is nested deeper than there are turns
abbrev pub ending : GroupTree → Meaning
ending g d x turns = ending_within turns g d x turns

-- ---- the outcome of an evaluation

-- what evaluation gives: by which exit a definition is left, to which program counter, with which results, and
-- how many turns are left; which Need of which definition is false; or that the turns are used
pub data Outcome : Type 0 where
  Done : (exit pc : ℕ) (results : Arguments) (left : ℕ) → Outcome
  SideFalse : (def ordinal : ℕ) → Outcome
  Turns : Outcome
  NoOutcome : Outcome

-- done by an exit: its address is the program counter, or the first word for an exit to a returned address
abbrev pub done_by : Option Exit → ℕ → Arguments → ℕ → Outcome
done_by None exit x left = NoOutcome
done_by (Some (At a)) exit x left = Done exit a x left
done_by (Some Ret) exit x left = Done exit (slice_index x.words 0) (record { words = drop 1 x.words; mems = x.mems }) left

-- the ending with its exit's program counter
abbrev pub with_pc : List Exit → Ending → Outcome
with_pc exits (Exited exit results left) = done_by (slice_get exits exit) exit results left
with_pc exits (NeedFalse def ordinal) = SideFalse def ordinal
with_pc exits NoTurns = Turns
with_pc exits Nothing = NoOutcome

-- the outcome of definition d on arguments within turns
abbrev pub eval : GroupTree → ℕ → Arguments → ℕ → Outcome
eval g d x turns = with_pc (exits_at g d) (ending g d x turns)

-- the arguments of a call
abbrev pub arguments : Args → Arguments
arguments x = record { words = x.words; mems = map get x.mems }

-- these values as the variables from 0 on
abbrev pub variables_of : Args → Environment
variables_of x = variables x.words x.mems

-- the outcome that an answer of the evaluator is
abbrev pub outcome_of : Answer → Outcome
outcome_of (answer.Done exit pc args left) = Done exit pc (arguments args) left
outcome_of (answer.SideFalse def ordinal) = SideFalse def ordinal
outcome_of answer.Turns = Turns

-- an outcome of definition d leaves by an exit of d, with a word for each register, the group's memories, and with
-- fewer turns; or it tells a definition of the group
abbrev pub LeavesInScope : GroupTree → ℕ → ℕ → Outcome → Type 0
LeavesInScope g d turns (Done exit pc results left) =
    (exit < length (exits_at g d)) × (length results.words ≡ length g.regs) × (length results.mems ≡ g.mems) × (left < turns)
LeavesInScope g d turns (SideFalse def ordinal) = def < length g.defs
LeavesInScope g d turns Turns = Unit {0}
LeavesInScope g d turns NoOutcome = ⊥

-- there is such an exit, and there are as many results as it is left with
abbrev pub ExitFits : GroupTree → Option Exit → Arguments → Type 0
ExitFits g None x = ⊥
ExitFits g (Some exit) x = (length x.words ≡ exit_words g exit) × (length x.mems ≡ g.mems)

-- each definition has fewer than 2 ^ 64 Needs
abbrev pub HasFewNeeds : GroupTree → Type 0
HasFewNeeds g = (d : ℕ) (def : DefTree) → slice_get g.defs d ≡ Some def → needs def.body < 2 ^ 64

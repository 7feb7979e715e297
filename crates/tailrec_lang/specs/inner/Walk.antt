-- How the evaluator gets through a body, and which calls wait.
use Rattle.std.specs.Prelude.{◌≡◌, ◌+◌, ◌^◌, ◌<◌, ℕ, Option, Some, None, List, [], ◌∷◌, length, slice_get}
use Rattle.std.specs.List.{sum_by}
use Rattle.tailrec_lang.specs.declared.group.Exit.{Exit}
use Rattle.tailrec_lang.specs.declared.args.Args.{Args}
use Rattle.tailrec_lang.specs.declared.walk.Transfer.{Transfer}
use Rattle.tailrec_lang.specs.declared.walk.Transfer.TheVariants as stop
use Rattle.tailrec_lang.specs.declared.walk.Walk.{Walk}
use Rattle.tailrec_lang.specs.declared.evaluator.Frame.{Frame}
use Rattle.tailrec_lang.specs.declared.passed.Passed.{Passed}
use Rattle.tailrec_lang.specs.declared.passed.Skipped.{Skipped}
use Rattle.tailrec_lang.specs.declared.passed.Skipped.TheVariants as skipped
use Rattle.tailrec_lang.specs.Tree.{StepTree, GroupTree, body_tree, exits_at}
use Rattle.tailrec_lang.specs.inner.Tree.{arm_trees}
use Rattle.tailrec_lang.specs.WellFormed.{ArmsAreWellFormed, exit_words}
use Rattle.tailrec_lang.specs.Eval.{Meaning, Ending, Exited, NeedFalse, and_then, arguments, arm_ending, arm_needs, needs, step_needs, variables_of, with_arguments}

-- how many Needs there are among steps
abbrev pub steps_need : List StepTree → ℕ
steps_need [] = 0
steps_need (s ∷ ss) = step_needs s + steps_need ss

-- how many Needs there are in what was passed over, and before a place
abbrev pub needs_skipped : Skipped → ℕ
needs_skipped (skipped.First b) = needs (body_tree b.now)
needs_skipped (skipped.Arms arms) = arm_needs (arm_trees arms.now)

abbrev pub needs_passed : Passed → ℕ
needs_passed p = p.met + sum_by needs_skipped p.skipped

-- how a body of definition d ends from where it gives control on
abbrev pub stop_ending : Meaning → ℕ → Transfer → Walk → ℕ → Ending
stop_ending call d (stop.Left exit x) w left = Exited exit (arguments x) left
stop_ending call d (stop.Again x) w left = call d (arguments x) left
stop_ending call d (stop.Call def x arms) w left =
    and_then (call def (arguments x) left) (λ exit results more. arm_ending call d (arm_trees arms.now) exit (with_arguments (variables_of w.variables) results) (needs_passed w.passed) more)
stop_ending call d stop.False w left = NeedFalse d (needs_passed w.passed)

abbrev pub walk_ending : Meaning → ℕ → Walk → ℕ → Ending
walk_ending call d w left = stop_ending call d w.stop w left

-- the ending of the first entry, where that of the last one is given and calls wait, the longest first
abbrev pub unwound : Meaning → List Frame → Ending → Ending
unwound call [] o = o
unwound call (f ∷ fs) o =
    and_then (unwound call fs o) (λ exit results left. arm_ending call f.def (arm_trees f.arms.now) exit (with_arguments (variables_of f.variables) results) (needs_passed f.passed) left)

-- there are as many arguments as an entry takes
abbrev pub ArgsFit : GroupTree → Args → Type 0
ArgsFit g x = (length x.words ≡ length g.regs) × (length x.mems ≡ g.mems)

-- there is such an exit, and as many results as it is left with
abbrev pub ResultsFit : GroupTree → Option Exit → Args → Type 0
ResultsFit g None x = ⊥
ResultsFit g (Some exit) x = (length x.words ≡ exit_words g exit) × (length x.mems ≡ g.mems)

-- what is given on fits the group
abbrev pub StopFits : GroupTree → ℕ → Transfer → Walk → Type 0
StopFits g d (stop.Left exit x) w = ResultsFit g (slice_get (exits_at g d) exit) x
StopFits g d (stop.Again x) w = ArgsFit g x
StopFits g d (stop.Call def x arms) w =
    (def < d) × ArgsFit g x × ArmsAreWellFormed g d (exits_at g def) (arm_trees arms.now) (length w.variables.words) (length w.variables.mems)
    × (needs_passed w.passed + arm_needs (arm_trees arms.now) < 2 ^ 64)
StopFits g d stop.False w = needs_passed w.passed < 2 ^ 64

abbrev pub WalkFits : GroupTree → ℕ → Walk → Type 0
WalkFits g d w = StopFits g d w.stop w

-- the body leaves its definition
abbrev pub IsLeaving : Transfer → Type 0
IsLeaving (stop.Left exit x) = Unit {0}
IsLeaving (stop.Again x) = ⊥
IsLeaving (stop.Call def x arms) = ⊥
IsLeaving stop.False = ⊥

abbrev pub IsLeft : Walk → Type 0
IsLeft w = IsLeaving w.stop

-- the arms that wait fit the exits of the definition that was entered
abbrev pub FrameFits : GroupTree → Frame → Type 0
FrameFits g f =
    (f.def < length g.defs) × ArmsAreWellFormed g f.def (exits_at g f.callee) (arm_trees f.arms.now) (length f.variables.words) (length f.variables.mems)
    × (needs_passed f.passed + arm_needs (arm_trees f.arms.now) < 2 ^ 64)

-- the first call that waits stands in definition `first`, each other one in the one that the call before it entered,
-- and the last one entered definition d
abbrev pub Waits : GroupTree → ℕ → List Frame → ℕ → Type 0
Waits g first [] d = first ≡ d
Waits g first (f ∷ fs) d = (first ≡ f.def) × FrameFits g f × Waits g f.callee fs d

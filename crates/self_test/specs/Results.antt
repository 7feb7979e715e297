-- What a program comes to that is decompiled, run and evaluated.
use Rattle.std.specs.Prelude.{◌≡◌, ℕ, ◌+◌, ◌*◌, ◌==◌, if◌then◌else◌, List, [], ◌∷◌, length}
use Rattle.rv_machine.specs.State.{State}
use Rattle.rv_machine.specs.Run.{EndsIn}
use Rattle.rv_machine.specs.declared.running.RunEnd.TheVariants as end
use Rattle.tailrec_lang.specs.Tree.{GroupTree, group_tree, listed_def}
use Rattle.tailrec_lang.specs.Eval.{Arguments, Done, eval}
use Rattle.claims.specs.Headline.{held_in}
use Rattle.path_walk.specs.declared.item.Item.{Item}
use Rattle.decompiler.specs.Listing.{IsItemFor}
use Rattle.self_test.specs.Runs.{behind}
use Rattle.self_test.specs.Start.{file_of, function_name, begin, empty_regions}
use Rattle.self_test.specs.declared.outcome.Outcome.{Outcome}

-- the most steps of a run
abbrev pub most_steps : ℕ
most_steps = 1048575

-- The machine comes from where the program begins to where it is to return to, for the first time after so many steps. Then x10 holds
-- that word.
pub record Runs (number size steps word : ℕ) : Type 0 where
  pub last : State
  pub met : EndsIn behind most_steps (begin number size) last (end.Met steps)
  pub value : last.reg 10 ≡ word

-- what register r holds after an evaluation: the result in its place among the group's registers; what it held before, where it
-- isn't one of these
abbrev pub result_of : ℕ → List ℕ → List ℕ → ℕ → ℕ
result_of r [] words before = before
result_of r (q ∷ qs) [] before = before
result_of r (q ∷ qs) (w ∷ ws) before = if q == r then w else result_of r qs ws before

-- Evaluation of the group's function from where the program begins, within so many turns, is done, takes so many of them, and gives x10
-- that word.
pub record Evaluates (number size : ℕ) (g : GroupTree) (within taken word : ℕ) : Type 0 where
  pub exit : ℕ
  pub pc : ℕ
  pub results : Arguments
  pub left : ℕ
  pub done : eval g (listed_def g) (held_in (begin number size) g (empty_regions g)) within ≡ Done exit pc results left
  pub turns : taken + left ≡ within
  pub value : result_of 10 g.regs results.words number ≡ word

-- The program's function has an item, which has so many instructions and definitions. The program's run takes so many steps, and the
-- evaluation within twice as many turns takes so many of these. Both give x10 the same word.
pub record IsOutcome (number size : ℕ) (o : Outcome) : Type 0 where
  pub item : Item
  pub is_item : IsItemFor (file_of number size) function_name item
  pub instructions : o.instructions ≡ item.reached
  pub defs : o.defs ≡ length item.group.defs
  pub run : Runs number size o.steps o.value
  pub evaluation : Evaluates number size (group_tree item.group) (2 * o.steps) o.turns o.value

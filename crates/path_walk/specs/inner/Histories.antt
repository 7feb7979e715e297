-- Where a walk goes on after an exit, and lines that forget nothing.
use Rattle.std.specs.Prelude.{◌≡◌, ℕ, suc, ◌<◌, Some, true}
use Rattle.word_terms.specs.Tree.{WordTree, Const, Var}
use Rattle.tailrec_lang.specs.declared.group.Exit.{Exit}
use Rattle.tailrec_lang.specs.declared.group.Exit.TheVariants.{At, Ret}
use Rattle.triple_kernel.specs.Tree.{TripleTree}
use Rattle.verdicts.specs.Instance.{History}
use Rattle.code_parts.specs.Bodies.{Flow, VariableMap, fresh}

-- where a walk goes on after an exit
abbrev pub pc_of : Exit → ℕ → WordTree
pc_of (At a) words = Const a
pc_of Ret words = Var words

abbrev pub exit_place : Flow → Exit → ℕ → ℕ → VariableMap
exit_place f (At a) words mems = fresh f words mems
exit_place f Ret words mems = fresh f (suc words) mems

-- the numbers of theorems are below that of the next
abbrev pub IsCounted : History → Type 0
IsCounted h = (j : ℕ) (t : TripleTree) → h.theorem j ≡ Some t → j < h.next

-- what is there stays there
pub record Keeps (h k : History) : Type 0 where
  pub theorem : (j : ℕ) (t : TripleTree) → h.theorem j ≡ Some t → k.theorem j ≡ Some t
  pub closed : (d : ℕ) → h.closed d ≡ true → k.closed d ≡ true

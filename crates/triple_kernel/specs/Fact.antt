-- When a fact is true.
use Rattle.std.specs.Prelude.{◌≡◌, ℕ, List, length, IsTrue}
use Rattle.std.specs.List.{Contains}
use Rattle.word_terms.specs.Environment.{Environment}
use Rattle.word_terms.specs.Value.{word_value, mem_value, cond_holds}
use Rattle.tailrec_lang.specs.Tree.{GroupTree}
use Rattle.tailrec_lang.specs.WellFormed.{IsWellFormed}
use Rattle.tailrec_lang.specs.Eval.{Arguments, arguments_of, Exited, ending}
use Rattle.triple_kernel.specs.Tree.{FactTree, WordIs, MemIs, So, Gives}

-- The group is well-formed, there is an argument for each of its registers and memories, and for some number of turns
-- evaluation of the definition on them leaves by that exit with these results, the returned address first where there
-- is one. That there are such a definition and exit, and as many results as the exit has, follows.
pub record Leaves (g : GroupTree) (def exit : ℕ) (args results : Arguments) : Type 0 where
  pub well_formed : IsWellFormed g
  pub words : length args.words ≡ length g.regs
  pub mems : length args.mems ≡ g.mems
  pub turns : ℕ
  pub left : ℕ
  pub ends : ending g def args turns ≡ Exited exit results left

-- the fact is true of the group in that environment
abbrev pub Holds : GroupTree → Environment → FactTree → Type 0
Holds g e (WordIs a b) = word_value a e ≡ word_value b e
Holds g e (MemIs a b) = mem_value a e ≡ mem_value b e
Holds g e (So c) = IsTrue (cond_holds c e)
Holds g e (Gives def exit args results) = Leaves g def exit (arguments_of args e) (arguments_of results e)

-- all of the facts are true
abbrev pub AllHold : GroupTree → Environment → List FactTree → Type 0
AllHold g e facts = (f : FactTree) → Contains facts f → Holds g e f

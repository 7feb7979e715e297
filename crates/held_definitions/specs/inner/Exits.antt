-- The triple of an exit over numbers.
use Rattle.std.specs.Prelude.{◌≡◌, ℕ, List, Option, Some, None, zip}
use Rattle.tailrec_lang.specs.Tree.{GroupTree}
use Rattle.triple_kernel.specs.Tree.{TripleTree}
use Rattle.term_arena.specs.declared.node.Node.{Node}
use Rattle.held_terms.specs.declared.held.Held.{Held}
use Rattle.held_terms.specs.declared.held.HeldSide.{HeldSide}
use Rattle.held_terms.specs.Held.{triple_of, IsHeldAt}
use Rattle.loop_rule.specs.Rule.{IsExit}

-- the program counter, and each register beside its word, and the memories
abbrev pub IsHeldWith : HeldSide → ℕ → List ℕ → List ℕ → List ℕ → Type 0
IsHeldWith s pc regs words mems = (s.pc ≡ pc) × (s.regs ≡ zip regs words) × (s.mems ≡ mems)

-- it stands for the triple of that exit; or there is no such exit
abbrev pub IsExitPut : List Node → GroupTree → ℕ → ℕ → Option Held → Type 0
IsExitPut ns g d exit (Some h) = IsHeldAt ns h × IsExit g d exit (triple_of ns h)
IsExitPut ns g d exit None = (t : TripleTree) → IsExit g d exit t → ⊥

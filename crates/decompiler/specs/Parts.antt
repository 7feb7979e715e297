-- What is asked of a group that is made of a graph's parts, and what then holds of each part.
use Rattle.std.specs.Prelude.{◌≡◌, ◌⊎◌, ℕ, ◌+◌, ◌-◌, ◌*◌, ◌<◌, ◌≤◌, false, List, length, slice_get, Option, None, Some}
use Rattle.rv_machine.specs.State.{State}
use Rattle.rv_machine.specs.Run.{run}
use Rattle.rv_words.specs.Ranges.{range_bytes}
use Rattle.sep_assert.specs.Code.{IsWithin}
use Rattle.tailrec_lang.specs.declared.group.Exit.{Exit}
use Rattle.tailrec_lang.specs.declared.group.Exit.TheVariants.{At, Ret}
use Rattle.tailrec_lang.specs.Tree.{GroupTree, exits_at}
use Rattle.tailrec_lang.specs.Eval.{Done, eval}
use Rattle.code_parts.specs.declared.part.Part.{Part}
use Rattle.code_parts.specs.declared.part.Part.TheVariants.{Loop, Rest}
use Rattle.code_parts.specs.Bodies.{Flow, first, part_def}
use Rattle.code_parts.specs.Graph.{IsPart}
use Rattle.claims.specs.Headline.{Region, is_within, held_in, Ends}
use Rattle.claims.specs.Exact.{FirstReturns}

-- the group has a definition for each part, the last one for the rest of the whole function from its entry on
pub record HasParts (f : Flow) (entry : ℕ) (g : GroupTree) : Type 0 where
  pub regs : g.regs ≡ f.regs
  pub mems : g.mems ≡ f.mems
  pub defs : (p : Part) → IsPart f p → slice_get g.defs (f.number p) ≡ Some (part_def f p)
  pub whole : IsPart f (Rest None entry)
  pub last : length g.defs ≡ f.number (Rest None entry) + 1

-- ---- the law of a part

-- the state holds the group's code, and the regions are apart from it
pub record HoldsCode (g : GroupTree) (regions : List Region) (s : State) : Type 0 where
  pub count : length regions ≡ g.mems
  pub code : IsWithin (range_bytes g.code) s.mem
  pub beside_code : (a b : ℕ) → range_bytes g.code a ≡ Some b → is_within regions a ≡ false

-- evaluation of the definition from s leaves it by that exit as t, so many steps later, with everything else unchanged, and so many turns left;
-- each turn that it took is for at most 32 steps
pub record LeavesAs (g : GroupTree) (d : ℕ) (regions : List Region) (s : State) (turns : ℕ) (exit : Exit) (least steps : ℕ) (t : State) : Type 0 where
  pub number : ℕ
  pub there : slice_get (exits_at g d) number ≡ Some exit
  pub left : ℕ
  pub enough : least ≤ left
  pub few : steps + 32 * left ≤ 32 * turns
  pub done : eval g d (held_in s g regions) turns ≡ Done number t.pc (held_in t g regions) left
  pub ends : Ends g regions s t.pc (held_in t g regions) t

-- the run from s comes by step j, before step k, to an exit of the definition, and evaluation leaves there
pub record Meets (g : GroupTree) (d : ℕ) (regions : List Region) (s : State) (turns k : ℕ) : Type 0 where
  pub after : ℕ
  pub some : 0 < after
  pub fewer : after < k
  pub state : State
  pub met : run s after ≡ Some state
  pub leaves : LeavesAs g d regions s turns (At state.pc) (2 * (k - after)) after state

-- the turns for a run of k steps: before each step there are at most two entries into bodies, and before the first there are
-- two for the rest of a loop's head alone
abbrev pub turns_at : Option ℕ → ℕ → ℕ
turns_at None k = 2 * k - 1
turns_at (Some l) k = 2 * k

abbrev pub turns_for : Flow → Part → ℕ → ℕ
turns_for f (Loop l) k = 2 * k - 1
turns_for f (Rest r n) k = turns_at (f.loop_of n) k

-- Where the machine stands at the entry of the part and first returns after k steps, evaluation of the part's definition within
-- so many turns or more leaves by the return with the state after k steps, or by an exit that the run meets before.
abbrev pub LawOfPart : Flow → GroupTree → Part → Type 0
LawOfPart f g p =
    (regions : List Region) (s t : State) (k : ℕ) → HoldsCode g regions s → s.pc ≡ f.addr (first f p) → FirstReturns regions s k t
    → (turns : ℕ) → turns_for f p k ≤ turns → LeavesAs g (f.number p) regions s turns Ret 0 k t ⊎ Meets g (f.number p) regions s turns k

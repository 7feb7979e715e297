-- What a script tells of the machine: its functions, of what a state holds at the entry of a group's function.
use Rattle.std.specs.Prelude.{◌≡◌, ℕ, true, List, []}
use Rattle.rv_machine.specs.State.{State}
use Rattle.triple_kernel.specs.Valid.{Reaches}
use Rattle.tailrec_lang.specs.Tree.{GroupTree, listed_def}
use Rattle.tailrec_lang.specs.Eval.{Arguments, Done}
use Rattle.smt_terms.specs.Operators.{Value, Truth}
use Rattle.smt_terms.specs.Meaning.{FunTree, applied, functions_after, no_names}
use Rattle.smt_export.specs.declared.told.Told.{Told}
use Rattle.smt_export.specs.declared.told.Told.TheVariants.{Ok}
use Rattle.smt_export.specs.Told.{fun_name}
use Rattle.smt_export.specs.Telling.{AreArgumentValues, TellsOutcome}
use Rattle.elf_image.specs.Image.{code_of_file}
use Rattle.claims.specs.Headline.{Region, Starts, Ends, IsRight, held_in}
use Rattle.claims.specs.Exact.{Exact, FirstReturns}
use Rattle.claims.specs.LinkExact.{FirstReturnsIn, LinkExact}
use Rattle.claims.specs.Turns.{InFirstMemory, RunsBack}
use Rattle.stack_offsets.specs.SplitExact.{SplitExact, UsesSplit}

-- the values that the functions of the group's function have of these
abbrev pub told_by : List FunTree → GroupTree → List Value → Told → Value
told_by funs g vs t = applied (functions_after no_names funs) (fun_name (listed_def g) t) vs

-- After s the state t is that which the values tell: `ok` is true, and by their exit it stands at their program counter and holds their
-- words and memories, with everything else as in s.
pub record EndsAsTold (g : GroupTree) (regions : List Region) (s t : State) (told : Told → Value) : Type 0 where
  pub exit : ℕ
  pub pc : ℕ
  pub results : Arguments
  pub ends : Ends g regions s pc results t
  pub tells : TellsOutcome g (Done exit pc results 0) told

-- For each state at the entry of the group's function, and all regions: where `ok` is true of what it holds, the machine reaches the
-- state that the values tell.
abbrev pub IsRightScript : List ℕ → GroupTree → List FunTree → Type 0
IsRightScript file g funs =
    (s : State) (regions : List Region) → Starts file g s regions
    → (vs : List Value) → AreArgumentValues g (held_in s g regions) vs → told_by funs g vs Ok ≡ Truth true
    → (t : State) × Reaches s t × EndsAsTold g regions s t (told_by funs g vs)

-- .. and where the machine comes to t by such a run, t is the state that the values tell, `ok` among them
abbrev pub IsExactScript : (Runs : List Region → State → ℕ → State → Type 0) → List ℕ → GroupTree → List FunTree → Type 0
IsExactScript Runs file g funs =
    (s : State) (regions : List Region) → Starts file g s regions
    → (vs : List Value) → AreArgumentValues g (held_in s g regions) vs
    → (k : ℕ) (t : State) → Runs regions s k t → EndsAsTold g regions s t (told_by funs g vs)

-- what is claimed of the group's function, of whatever ELF file, is told by the script
pub record TellsClaims (g : GroupTree) (funs : List FunTree) : Type 0 where
  pub right : (elf : List ℕ) → IsRight elf g → IsRightScript elf g funs
  pub exact : (elf : List ℕ) → Exact elf g → IsExactScript FirstReturns elf g funs
  pub linked : (elf : List ℕ) → LinkExact InFirstMemory elf g → IsExactScript (RunsBack InFirstMemory) elf g funs
  pub split : (elf : List ℕ) (e : ℕ) → SplitExact elf e g → IsExactScript (FirstReturnsIn (UsesSplit (code_of_file elf) e)) elf g funs

-- When each answer to `eval` comes.
use Rattle.std.specs.Prelude.{◌≡◌, ℕ, ◌-◌, ◌<◌, ◌≤◌, List, [], ◌∷◌, ◌++◌, Option, Some, None, bytes_eq, find, length, map, take}
use Rattle.std.specs.List.{AllByRecursion}
use Rattle.rv_words.specs.Bytes.{Bytes}
use Rattle.mc_text.specs.Fault.{IsBadAt}
use Rattle.rv_words.specs.declared.range.Range.{Range}
use Rattle.tailrec_lang.specs.Tree.{GroupTree, listed_def}
use Rattle.tailrec_lang.specs.WellFormed.{IsWellFormed, IsFirstIllFormed}
use Rattle.tailrec_lang.specs.Eval.{Arguments, Done, SideFalse, Turns, eval}
use Rattle.proof_v2.specs.AnyText.{BeginsIn, ListsIn, any_texts}
use Rattle.proof_v2.specs.Titles.{named_version}
use Rattle.mcdec_answers.specs.declared.answer.EvalAnswer.{EvalAnswer}
use Rattle.mcdec_answers.specs.declared.answer.EvalAnswer.TheVariants as answer
use Rattle.mcdec_answers.specs.declared.command.Memory.TheVariants.{First, Second}
use Rattle.mcdec_answers.specs.Command.{Arg, value_of, givens, ranges}
use Rattle.mcdec_commands.specs.Memory.{placed, shown_at}

-- the most bytes of a proof file that are read
abbrev pub proof_limit : ℕ
proof_limit = 268435456

-- so many memories, each with the bytes of its words in an empty one
abbrev pub memories_given : ℕ → (memory stack : List Range) → List Bytes
memories_given n memory stack = take n (placed memory (λ a. None) ∷ placed stack (λ a. None) ∷ [])

-- the value of each register of the group, 0 where it is given none, and the bytes of its memories
abbrev pub arguments_given : List Arg → GroupTree → Arguments
arguments_given args g = record { words = map (value_of (givens args)) g.regs; mems = memories_given g.mems (ranges First args) (ranges Second args) }

-- the text, in the version that its first line names, is one of well-formed groups, and this is the first of the name, if any
pub record IsNamed (text name : List ℕ) (found : Option GroupTree) : Type 0 where
  pub groups : List GroupTree
  pub listed : ListsIn (named_version text) text groups
  pub well_formed : AllByRecursion IsWellFormed groups
  pub first : find (λ g. bytes_eq g.name name) groups ≡ found

-- the text, in that version, isn't one of groups with what may stand behind them, from this line on, and the groups before it are well-formed
abbrev pub HasBadLine : (text : List ℕ) (line : ℕ) → Type 0
HasBadLine text line =
    IsBadAt (any_texts (named_version text)) text line
    × ((gs : List GroupTree) → BeginsIn (named_version text) text gs → AllByRecursion IsWellFormed gs)

-- this definition of the group of that number is the text's first that isn't well-formed
abbrev pub HasBadDef : (text : List ℕ) (group def : ℕ) → Type 0
HasBadDef text group def =
    (gs : List GroupTree) × (g : GroupTree) × BeginsIn (named_version text) text (gs ++ g ∷ []) × AllByRecursion IsWellFormed gs
    × (group ≡ length gs) × IsFirstIllFormed g def

-- What `eval` of a name comes to, where the proof file has these bytes. Lines of proofs are read, and not judged. A group is judged
-- when its definitions are read: one that isn't well-formed is told before a bad line behind them, and after one among them.
abbrev pub EvalGives : (file name : List ℕ) (turns : ℕ) (args : List Arg) → EvalAnswer → Type 0
EvalGives file name turns args answer.OverLimit = proof_limit < length file
EvalGives file name turns args (answer.Unreadable line) = (length file ≤ proof_limit) × HasBadLine file line
EvalGives file name turns args (answer.IllFormed group def) = (length file ≤ proof_limit) × HasBadDef file group def
EvalGives file name turns args answer.NoFunction = (length file ≤ proof_limit) × IsNamed file name None
EvalGives file name turns args (answer.SideFalse def ordinal) =
    (length file ≤ proof_limit) × (g : GroupTree) × IsNamed file name (Some g) × (eval g (listed_def g) (arguments_given args g) turns ≡ SideFalse def ordinal)
EvalGives file name turns args answer.TurnsUsed =
    (length file ≤ proof_limit) × (g : GroupTree) × IsNamed file name (Some g) × (eval g (listed_def g) (arguments_given args g) turns ≡ Turns)
EvalGives file name turns args (answer.Done shown) =
    (length file ≤ proof_limit) × (g : GroupTree) × IsNamed file name (Some g) × (exit pc left : ℕ) × (results : Arguments)
    × (eval g (listed_def g) (arguments_given args g) turns ≡ Done exit pc results left)
    × (shown ≡ shown_at args (turns - left) pc g.regs results.words results.mems)

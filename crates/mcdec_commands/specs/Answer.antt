-- What is answered to a list of words, where the names hold these files.
use Rattle.std.specs.Prelude.{◌≡◌, ◌≢◌, ◌⊎◌, ℕ, List, [], All, Option, Some, None}
use Rattle.mc_shelf.specs.Shelf.{Contents, TellsName}
use Rattle.mcdec_answers.specs.declared.answer.Answer.{Answer}
use Rattle.mcdec_answers.specs.declared.answer.Answer.TheVariants as answer
use Rattle.mcdec_answers.specs.Command.{Command, Eval, Run, Check, Decompile, SelfTest, Simplify, Laws, Smt, Migrate, Arg, Words, IsNoCommand, inputs_of, output_of}
use Rattle.mcdec_answers.specs.declared.command.Form.{Form}
use Rattle.mcdec_commands.specs.Held.{HasFile}
use Rattle.mcdec_commands.specs.EvalAnswer.{EvalGives}
use Rattle.mcdec_commands.specs.CheckAnswer.{CheckGives}
use Rattle.mcdec_commands.specs.DecompileAnswer.{DecompileGives, without_walks}
use Rattle.mcdec_commands.specs.SelfTestAnswer.{SelfTestGives, without_turns}
use Rattle.mcdec_commands.specs.RunAnswer.{RunGives}
use Rattle.mcdec_commands.specs.SimplifyAnswer.{SimplifyGives, without_steps}
use Rattle.mcdec_commands.specs.LawsAnswer.{LawsGives}
use Rattle.mcdec_commands.specs.SmtAnswer.{SmtGives}
use Rattle.mcdec_commands.specs.MigrateAnswer.{MigrateGives}

-- the command reads a file
abbrev pub HasInputs : Command → Type 0
HasInputs c = inputs_of c ≢ []

-- the command writes a file
abbrev pub HasOutput : Command → Type 0
HasOutput c = output_of c ≢ None

-- An answer that is given to a list of words. `rose` says that the count of read faults rose, and `wrote` that of write faults. Where it
-- isn't told what the names hold, only the command is claimed.
abbrev pub Gives : Option Contents → List (List ℕ) → (rose wrote : Type 0) → Answer → Type 0
Gives told ws rose wrote answer.NotACommand = IsNoCommand ws
Gives told ws rose wrote answer.ReadFault = (c : Command) × Words ws c × HasInputs c × rose
Gives told ws rose wrote answer.WriteFault = (c : Command) × Words ws c × HasOutput c × wrote
Gives told ws rose wrote answer.NoMemory = Unit {0}
Gives told ws rose wrote (answer.Eval a) =
    (proof name : List ℕ) × (turns : ℕ) × (args : List Arg) × Words ws (Eval proof name turns args)
    × HasFile told proof (λ file. EvalGives file name turns args a)
Gives told ws rose wrote (answer.Run a) =
    (elf start : List ℕ) × (until steps : ℕ) × (args : List Arg) × Words ws (Run elf start until steps args)
    × HasFile told elf (λ file. RunGives file start until steps args a)
Gives told ws rose wrote (answer.Check a) = (elf proof : List ℕ) × Words ws (Check elf proof) × HasFile told elf (λ file. CheckGives told proof file a)
Gives told ws rose wrote (answer.Decompile a) =
    (form : Form) × (elf out : List ℕ) × (names : List (List ℕ)) × Words ws (Decompile form elf out names) × HasFile told elf (λ file. DecompileGives form file names a)
Gives told ws rose wrote (answer.SelfTest a) = (number size : ℕ) × Words ws (SelfTest number size) × SelfTestGives number size a
Gives told ws rose wrote (answer.Simplify a) =
    (proof name out : List ℕ) × Words ws (Simplify proof name out) × HasFile told proof (λ file. SimplifyGives file name a)
Gives told ws rose wrote (answer.Laws a) = (proof cert : List ℕ) × Words ws (Laws proof cert) × HasFile told proof (λ file. LawsGives told cert file a)
Gives told ws rose wrote (answer.Smt a) =
    (proof name : List ℕ) × (def : ℕ) × (out : List ℕ) × Words ws (Smt proof name def out) × HasFile told proof (λ file. SmtGives file name def a)
Gives told ws rose wrote (answer.Migrate a) =
    (elf proof out : List ℕ) × Words ws (Migrate elf proof out) × HasFile told elf (λ file. MigrateGives told proof file a)

-- ---- the contract of the top call

-- an answer without what the words and the files leave open in it
abbrev pub determined : Answer → Answer
determined (answer.Decompile a) = answer.Decompile (without_walks a)
determined (answer.SelfTest a) = answer.SelfTest (without_turns a)
determined (answer.Simplify a) = answer.Simplify (without_steps a)
determined a = a

-- two answers that differ in nothing else
abbrev pub Like : Answer → Answer → Type 0
Like a b = determined a ≡ determined b

-- the status of a fault of the outside or of lack of memory
abbrev pub IsHindered : ℕ → Type 0
IsHindered status = (status ≡ 4) ⊎ ((status ≡ 5) ⊎ (status ≡ 6))

-- each file that the words' command reads is there
abbrev pub ReadsAreTold : Option Contents → List (List ℕ) → Type 0
ReadsAreTold told ws = (c : Command) → Words ws c → All (TellsName told) (inputs_of c)

-- every name that the words' command doesn't write holds what it held
abbrev pub KeepsNames : List (List ℕ) → Contents → Contents → Type 0
KeepsNames ws old new = (name : List ℕ) → ((c : Command) → Words ws c → output_of c ≢ Some name) → new name ≡ old name

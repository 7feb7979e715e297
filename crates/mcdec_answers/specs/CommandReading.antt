-- What the reader of the command line's words gives.
use Rattle.std.specs.List.{AllByRecursion}
use Rattle.std.specs.Prelude.{◌≡◌, ◌≢◌, ℕ, ◌<◌, List, [], drop, map, Option, Some, None, slice_get, unwrap_or}
use Rattle.mcdec_answers.specs.declared.command.Command.{Command as Read}
use Rattle.mcdec_answers.specs.declared.command.Command.TheVariants as read
use Rattle.mcdec_answers.specs.declared.command.Eval.{Eval as ReadEval}
use Rattle.mcdec_answers.specs.declared.command.Run.{Run as ReadRun}
use Rattle.mcdec_answers.specs.declared.command.Check.{Check as ReadCheck}
use Rattle.mcdec_answers.specs.declared.command.Decompile.{Decompile as ReadDecompile}
use Rattle.mcdec_answers.specs.declared.command.SelfTest.{SelfTest as ReadSelfTest}
use Rattle.mcdec_answers.specs.declared.command.Simplify.{Simplify as ReadSimplify}
use Rattle.mcdec_answers.specs.declared.command.Laws.{Laws as ReadLaws}
use Rattle.mcdec_answers.specs.declared.command.Smt.{Smt as ReadSmt}
use Rattle.mcdec_answers.specs.declared.command.Migrate.{Migrate as ReadMigrate}
use Rattle.mcdec_answers.specs.declared.command.Argument.{Argument as ReadArg}
use Rattle.mcdec_answers.specs.declared.command.Argument.TheVariants as read_arg
use Rattle.mcdec_answers.specs.declared.command.Form.{Form}
use Rattle.mcdec_answers.specs.declared.command.Memory.TheVariants.{First, Second}
use Rattle.mcdec_answers.specs.declared.command.Unread.{Unread}
use Rattle.mcdec_answers.specs.declared.command.Unread.TheVariants as unread
use Rattle.rv_words.specs.declared.range.Range.{Range}
use Rattle.mcdec_answers.specs.Command.{Eval, Run, Check, Decompile, SelfTest, Simplify, Laws, Smt, Migrate, Arg, Value, Bytes, Given, IsGiven, IsMemory, IsCommand, AreArgs, Command, Words, given_to, arg_word, words_of, givens, ranges}

-- each register's value, or none
abbrev pub Holds : List Given → List (Option ℕ) → Type 0
Holds gs values = (n : ℕ) → n < 32 → slice_get values n ≡ Some (given_to gs n)

-- the value that a register has, if any
abbrev pub given_in : List (Option ℕ) → ℕ → Option ℕ
given_in values n = value_of (slice_get values n)
  where
    value_of : Option (Option ℕ) → Option ℕ
    value_of None = None
    value_of (Some value) = value

-- the value of a register; 0 where it has none
abbrev pub value_in : List (Option ℕ) → ℕ → ℕ
value_in values n = word_of (slice_get values n)
  where
    word_of : Option (Option ℕ) → ℕ
    word_of None = 0
    word_of (Some value) = unwrap_or value 0

-- none of the bytes is this one
abbrev pub Lacks : ℕ → List ℕ → Type 0
Lacks b bytes = AllByRecursion (λ c. c ≢ b) bytes

-- a word behind the others, seen by what was read
abbrev pub arg_of : ReadArg → Arg
arg_of (read_arg.Value register value) = Value (record { register = register; value = value })
arg_of (read_arg.Bytes memory range) = Bytes memory range

-- a word by itself
abbrev pub IsArg : Arg → Type 0
IsArg (Value g) = IsGiven g
IsArg (Bytes m r) = IsMemory r

-- what was read of words, or why nothing was
abbrev pub Unless : Type 0 → Unread → Type 0
Unless none unread.NotACommand = none
Unless none unread.NoMemory = Unit {0}

abbrev pub NoArgs : List (List ℕ) → Type 0
NoArgs ws = (args : List Arg) → AreArgs args → ws ≢ map arg_word args

-- the registers' values, and the ranges of each memory
abbrev pub HoldsArgs : List Arg → List (Option ℕ) → (memory stack : List Range) → Type 0
HoldsArgs args values memory stack = Holds (givens args) values × (memory ≡ ranges First args) × (stack ≡ ranges Second args)

abbrev pub AllArgs : List (List ℕ) → List (Option ℕ) → (memory stack : List Range) → Type 0
AllArgs ws values memory stack = (args : List Arg) × AreArgs args × (ws ≡ map arg_word args) × HoldsArgs args values memory stack

-- the words behind the command's name
abbrev pub operands_of : Command → List (List ℕ)
operands_of c = drop 1 (words_of c)

abbrev pub NoEval : List (List ℕ) → Type 0
NoEval ws = (proof name : List ℕ) (turns : ℕ) (args : List Arg) → IsCommand (Eval proof name turns args) → ws ≢ operands_of (Eval proof name turns args)

abbrev pub IsEval : List (List ℕ) → ReadEval → Type 0
IsEval ws e = (args : List Arg) × IsCommand (Eval e.proof.now e.name.now e.turns args) × (ws ≡ operands_of (Eval e.proof.now e.name.now e.turns args))
    × HoldsArgs args e.given.values e.memory e.stack

abbrev pub NoRun : List (List ℕ) → Type 0
NoRun ws = (elf start : List ℕ) (until steps : ℕ) (args : List Arg) → IsCommand (Run elf start until steps args) → ws ≢ operands_of (Run elf start until steps args)

abbrev pub IsRun : List (List ℕ) → ReadRun → Type 0
IsRun ws r = (args : List Arg) × IsCommand (Run r.elf.now r.start.now r.until r.steps args) × (ws ≡ operands_of (Run r.elf.now r.start.now r.until r.steps args))
    × HoldsArgs args r.given.values r.memory []

abbrev pub NoCheck : List (List ℕ) → Type 0
NoCheck ws = (elf proof : List ℕ) → IsCommand (Check elf proof) → ws ≢ operands_of (Check elf proof)

abbrev pub IsCheck : List (List ℕ) → ReadCheck → Type 0
IsCheck ws c = IsCommand (Check c.elf.now c.proof.now) × (ws ≡ operands_of (Check c.elf.now c.proof.now))

abbrev pub NoDecompile : Form → List (List ℕ) → Type 0
NoDecompile form ws = (elf out : List ℕ) (names : List (List ℕ)) → IsCommand (Decompile form elf out names) → ws ≢ operands_of (Decompile form elf out names)

abbrev pub IsDecompile : List (List ℕ) → ReadDecompile → Type 0
IsDecompile ws d = IsCommand (Decompile d.form d.elf.now d.out.now d.names) × (ws ≡ operands_of (Decompile d.form d.elf.now d.out.now d.names))

abbrev pub NoSelfTest : List (List ℕ) → Type 0
NoSelfTest ws = (number size : ℕ) → IsCommand (SelfTest number size) → ws ≢ operands_of (SelfTest number size)

abbrev pub IsSelfTest : List (List ℕ) → ReadSelfTest → Type 0
IsSelfTest ws t = IsCommand (SelfTest t.number t.size) × (ws ≡ operands_of (SelfTest t.number t.size))

abbrev pub NoSimplify : List (List ℕ) → Type 0
NoSimplify ws = (proof name out : List ℕ) → IsCommand (Simplify proof name out) → ws ≢ operands_of (Simplify proof name out)

abbrev pub IsSimplify : List (List ℕ) → ReadSimplify → Type 0
IsSimplify ws s = IsCommand (Simplify s.proof.now s.name.now s.out.now) × (ws ≡ operands_of (Simplify s.proof.now s.name.now s.out.now))

abbrev pub NoLaws : List (List ℕ) → Type 0
NoLaws ws = (proof cert : List ℕ) → IsCommand (Laws proof cert) → ws ≢ operands_of (Laws proof cert)

abbrev pub IsLaws : List (List ℕ) → ReadLaws → Type 0
IsLaws ws l = IsCommand (Laws l.proof.now l.cert.now) × (ws ≡ operands_of (Laws l.proof.now l.cert.now))

abbrev pub NoSmt : List (List ℕ) → Type 0
NoSmt ws = (proof name : List ℕ) (def : ℕ) (out : List ℕ) → IsCommand (Smt proof name def out) → ws ≢ operands_of (Smt proof name def out)

abbrev pub IsSmt : List (List ℕ) → ReadSmt → Type 0
IsSmt ws s = IsCommand (Smt s.proof.now s.name.now s.def s.out.now) × (ws ≡ operands_of (Smt s.proof.now s.name.now s.def s.out.now))

abbrev pub NoMigrate : List (List ℕ) → Type 0
NoMigrate ws = (elf proof out : List ℕ) → IsCommand (Migrate elf proof out) → ws ≢ operands_of (Migrate elf proof out)

abbrev pub IsMigrate : List (List ℕ) → ReadMigrate → Type 0
IsMigrate ws m = IsCommand (Migrate m.elf.now m.proof.now m.out.now) × (ws ≡ operands_of (Migrate m.elf.now m.proof.now m.out.now))

-- the command, seen by what was read
abbrev pub IsReadEval : List (List ℕ) → ReadEval → Type 0
IsReadEval ws e = (args : List Arg) × Words ws (Eval e.proof.now e.name.now e.turns args) × HoldsArgs args e.given.values e.memory e.stack

abbrev pub IsReadRun : List (List ℕ) → ReadRun → Type 0
IsReadRun ws r = (args : List Arg) × Words ws (Run r.elf.now r.start.now r.until r.steps args) × HoldsArgs args r.given.values r.memory []

abbrev pub IsReadCheck : List (List ℕ) → ReadCheck → Type 0
IsReadCheck ws c = Words ws (Check c.elf.now c.proof.now)

abbrev pub IsReadDecompile : List (List ℕ) → ReadDecompile → Type 0
IsReadDecompile ws d = Words ws (Decompile d.form d.elf.now d.out.now d.names)

abbrev pub IsReadSelfTest : List (List ℕ) → ReadSelfTest → Type 0
IsReadSelfTest ws t = Words ws (SelfTest t.number t.size)

abbrev pub IsReadSimplify : List (List ℕ) → ReadSimplify → Type 0
IsReadSimplify ws s = Words ws (Simplify s.proof.now s.name.now s.out.now)

abbrev pub IsReadLaws : List (List ℕ) → ReadLaws → Type 0
IsReadLaws ws l = Words ws (Laws l.proof.now l.cert.now)

abbrev pub IsReadSmt : List (List ℕ) → ReadSmt → Type 0
IsReadSmt ws s = Words ws (Smt s.proof.now s.name.now s.def s.out.now)

abbrev pub IsReadMigrate : List (List ℕ) → ReadMigrate → Type 0
IsReadMigrate ws m = Words ws (Migrate m.elf.now m.proof.now m.out.now)

abbrev pub IsRead : List (List ℕ) → Read → Type 0
IsRead ws (read.Eval e) = IsReadEval ws e
IsRead ws (read.Run r) = IsReadRun ws r
IsRead ws (read.Check c) = IsReadCheck ws c
IsRead ws (read.Decompile d) = IsReadDecompile ws d
IsRead ws (read.SelfTest t) = IsReadSelfTest ws t
IsRead ws (read.Simplify s) = IsReadSimplify ws s
IsRead ws (read.Laws l) = IsReadLaws ws l
IsRead ws (read.Smt s) = IsReadSmt ws s
IsRead ws (read.Migrate m) = IsReadMigrate ws m

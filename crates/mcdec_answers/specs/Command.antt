-- The lists of words that are commands, and no others.
--
--   eval PROOF NAME TURNS ARG*        ARG is xN=V, each N at most once, or mem=A:H, with two hexadecimal digits for each byte,
--   run ELF START UNTIL STEPS ARG*    any number of them; behind `eval` also stk=A:H, formed as mem=A:H
--   check ELF PROOF
--   decompile ELF OUT NAME+           link ELF OUT NAME+           split ELF OUT NAME+
--   selftest NUMBER SIZE
--   simplify PROOF NAME OUT
--   laws PROOF CERT
--   smt PROOF NAME DEF OUT
--   migrate ELF PROOF OUT
use Rattle.std.specs.Prelude.{◌≡◌, ◌≢◌, ℕ, ◌<◌, ◌≤◌, ◌^◌, ◌+◌, ◌==◌, if◌then◌else◌, List, [], ◌∷◌, ◌++◌, length, map, codes, Option, Some, None, unwrap_or, string_bytes}
use Rattle.std.specs.List.{All, AllByRecursion, AllPairs}
use Rattle.std.specs.Fmt.{decimal}
use Rattle.hex.specs.Hex.{encode_lower}
use Rattle.std.specs.declared.string.String.{String}
use Rattle.std.specs.declared.alloc.Global.{Global}
use Rattle.rv_words.specs.declared.range.Range.{Range}
use Rattle.mc_text.specs.Number.{hex}
use Rattle.group_text.specs.Limits.{IsName}
use Rattle.mcdec_answers.specs.declared.command.Form.{Form}
use Rattle.mcdec_answers.specs.declared.command.Form.TheVariants.{Alone, Linked, Split}
use Rattle.mcdec_answers.specs.declared.command.Memory.{Memory}
use Rattle.mcdec_answers.specs.declared.command.Memory.TheVariants.{First, Second}

-- a register that is given a value
pub record Given : Type 0 where
  pub register : ℕ
  pub value : ℕ

-- a register's value, or bytes of one of a function's memories
pub data Arg : Type 0 where
  Value : (given : Given) → Arg
  Bytes : (memory : Memory) (range : Range) → Arg

pub data Command : Type 0 where
  Eval : (proof name : List ℕ) (turns : ℕ) (args : List Arg) → Command
  Run : (elf start : List ℕ) (until steps : ℕ) (args : List Arg) → Command
  Check : (elf proof : List ℕ) → Command
  Decompile : (form : Form) (elf out : List ℕ) (names : List (List ℕ)) → Command
  SelfTest : (number size : ℕ) → Command
  Simplify : (proof name out : List ℕ) → Command
  Laws : (proof cert : List ℕ) → Command
  Smt : (proof name : List ℕ) (def : ℕ) (out : List ℕ) → Command
  Migrate : (elf proof out : List ℕ) → Command

-- xN=V
abbrev pub given_word : Given → List ℕ
given_word g = codes "x" ++ decimal g.register ++ codes "=" ++ hex g.value

-- the name of a function's memory; the second one is that of the stack
abbrev pub memory_name : Memory → List ℕ
memory_name First = codes "mem"
memory_name Second = codes "stk"

-- mem=A:H · stk=A:H
abbrev pub bytes_word : Memory → Range → List ℕ
bytes_word m r = memory_name m ++ (codes "=" ++ hex r.at ++ codes ":" ++ encode_lower r.bytes)

abbrev pub arg_word : Arg → List ℕ
arg_word (Value g) = given_word g
arg_word (Bytes m r) = bytes_word m r

-- the name of the command that decompiles functions so
abbrev pub form_word : Form → List ℕ
form_word Alone = codes "decompile"
form_word Linked = codes "link"
form_word Split = codes "split"

-- the words of a command: its name, and its operands
abbrev pub words_of : Command → List (List ℕ)
words_of (Eval proof name turns args) = codes "eval" ∷ proof ∷ name ∷ decimal turns ∷ map arg_word args
words_of (Run elf start until steps args) = codes "run" ∷ elf ∷ start ∷ hex until ∷ decimal steps ∷ map arg_word args
words_of (Check elf proof) = codes "check" ∷ elf ∷ proof ∷ []
words_of (Decompile form elf out names) = form_word form ∷ elf ∷ out ∷ names
words_of (SelfTest number size) = codes "selftest" ∷ decimal number ∷ decimal size ∷ []
words_of (Simplify proof name out) = codes "simplify" ∷ proof ∷ name ∷ out ∷ []
words_of (Laws proof cert) = codes "laws" ∷ proof ∷ cert ∷ []
words_of (Smt proof name def out) = codes "smt" ∷ proof ∷ name ∷ decimal def ∷ out ∷ []
words_of (Migrate elf proof out) = codes "migrate" ∷ elf ∷ proof ∷ out ∷ []

abbrev pub IsGiven : Given → Type 0
IsGiven g = (1 ≤ g.register) × (g.register ≤ 31) × (g.value < 2 ^ 64)

-- the value that a register is given, if any
abbrev pub given_to : List Given → ℕ → Option ℕ
given_to [] n = None
given_to (g ∷ gs) n = if g.register == n then Some g.value else given_to gs n

-- each register is given at most one value
abbrev pub AreGiven : List Given → Type 0
AreGiven [] = Unit {0}
AreGiven (g ∷ gs) = IsGiven g × (given_to gs g.register ≡ None) × AreGiven gs

-- at least one byte, and they end at most at 2 ^ 64
abbrev pub IsMemory : Range → Type 0
IsMemory r = (0 < length r.bytes) × (r.at + length r.bytes ≤ 2 ^ 64) × AllByRecursion (λ b. b < 256) r.bytes

-- the values of registers, in the words' order
abbrev pub givens : List Arg → List Given
givens [] = []
givens (Value g ∷ args) = g ∷ givens args
givens (Bytes m r ∷ args) = givens args

-- the ranges of that memory, in the words' order
abbrev pub ranges : Memory → List Arg → List Range
ranges m [] = []
ranges First (Bytes First r ∷ args) = r ∷ ranges First args
ranges Second (Bytes Second r ∷ args) = r ∷ ranges Second args
ranges m (other ∷ args) = ranges m args

abbrev pub AreArgs : List Arg → Type 0
AreArgs args = AreGiven (givens args) × AllByRecursion IsMemory (ranges First args) × AllByRecursion IsMemory (ranges Second args)

-- names, none of which stands twice
abbrev pub AreNames : List (List ℕ) → Type 0
AreNames names = All IsName names × AllPairs (λ a b. a ≢ b) names

-- what its words may be
abbrev pub IsCommand : Command → Type 0
IsCommand (Eval proof name turns args) = (proof ≢ []) × IsName name × (turns < 2 ^ 64) × AreArgs args
IsCommand (Run elf start until steps args) = (elf ≢ []) × IsName start × (until < 2 ^ 64) × (steps < 2 ^ 64) × AreArgs args × (ranges Second args ≡ [])
IsCommand (Check elf proof) = (elf ≢ []) × (proof ≢ [])
IsCommand (Decompile form elf out names) = (elf ≢ []) × (out ≢ []) × (elf ≢ out) × (names ≢ []) × AreNames names
IsCommand (SelfTest number size) = (number < 2 ^ 64) × (1 ≤ size) × (size ≤ 600)
IsCommand (Simplify proof name out) = (proof ≢ []) × IsName name × (out ≢ []) × (proof ≢ out)
IsCommand (Laws proof cert) = (proof ≢ []) × (cert ≢ [])
IsCommand (Smt proof name def out) = (proof ≢ []) × IsName name × (def < 2 ^ 64) × (out ≢ []) × (proof ≢ out)
IsCommand (Migrate elf proof out) = (elf ≢ []) × (proof ≢ []) × (out ≢ []) × (elf ≢ out) × (proof ≢ out)

-- the texts of the words
abbrev pub texts : List (String Global) → List (List ℕ)
texts ws = map (λ w. string_bytes w) ws

-- the command that a list of words is
abbrev pub Words : List (List ℕ) → Command → Type 0
Words ws c = IsCommand c × (ws ≡ words_of c)

abbrev pub IsNoCommand : List (List ℕ) → Type 0
IsNoCommand ws = (c : Command) → Words ws c → ⊥

-- the value that a register is given; 0 where it is given none
abbrev pub value_of : List Given → ℕ → ℕ
value_of gs n = unwrap_or (given_to gs n) 0

-- the files that a command reads
abbrev pub inputs_of : Command → List (List ℕ)
inputs_of (Eval proof name turns args) = proof ∷ []
inputs_of (Run elf start until steps args) = elf ∷ []
inputs_of (Check elf proof) = elf ∷ proof ∷ []
inputs_of (Decompile form elf out names) = elf ∷ []
inputs_of (SelfTest number size) = []
inputs_of (Simplify proof name out) = proof ∷ []
inputs_of (Laws proof cert) = proof ∷ cert ∷ []
inputs_of (Smt proof name def out) = proof ∷ []
inputs_of (Migrate elf proof out) = elf ∷ proof ∷ []

-- the file that a command writes
abbrev pub output_of : Command → Option (List ℕ)
output_of (Decompile form elf out names) = Some out
output_of (Simplify proof name out) = Some out
output_of (Smt proof name def out) = Some out
output_of (Migrate elf proof out) = Some out
output_of other = None

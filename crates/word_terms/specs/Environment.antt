-- What the variables stand for: the word of each word variable and the bytes of each memory variable, and how many
-- there are of both, which are numbered apart. Variables are levels: a new one takes the next number.
use Rattle.std.specs.Prelude.{ℕ, ◌≡◌, ◌+◌, ◌^◌, ◌<◌, ◌≤◌, ◌==◌, if◌then◌else◌, Some, None, List, fold, slice_index, slice_index_or, length}
use Rattle.std.specs.Ordering.{nat_cmp}
use Rattle.std.specs.FinMap.{FinMap, empty, get}
use Rattle.rv_words.specs.Bytes.{Bytes}
use Rattle.word_terms.specs.declared.evaluation.Env.{Env}

pub record Environment : Type 0 where
  pub word : ℕ → ℕ
  pub words : ℕ
  pub mem : ℕ → Bytes
  pub mems : ℕ

-- one more word variable
abbrev pub with_word : Environment → ℕ → Environment
with_word e n = record { word = λ i. if i == e.words then n else e.word i; words = e.words + 1; mem = e.mem; mems = e.mems }

-- one more memory variable
abbrev pub with_mem : Environment → Bytes → Environment
with_mem e m = record { word = e.word; words = e.words; mem = λ i. if i == e.mems then m else e.mem i; mems = e.mems + 1 }

-- one more word variable for each number, in order
abbrev pub with_words : Environment → List ℕ → Environment
with_words e ns = fold with_word e ns

-- one more memory variable for each memory, in order
abbrev pub with_mems : Environment → List Bytes → Environment
with_mems e ms = fold with_mem e ms

-- the words and the memories as the variables from 0 on
abbrev pub variables : List ℕ → List (FinMap nat_cmp ℕ) → Environment
variables ns ms = record { word = λ i. slice_index ns i; words = length ns; mem = λ i. get (slice_index_or ms i empty); mems = length ms }

-- no variables
abbrev pub no_variables : Environment
no_variables = record { word = λ i. 0; words = 0; mem = λ i a. None; mems = 0 }

-- the environment of a call
abbrev pub environment_of : Env → Environment
environment_of e = variables e.words.now e.mems.now

-- f has the variables of e, and maybe more
pub record Extends (e f : Environment) : Type 0 where
  pub words : e.words ≤ f.words
  pub mems : e.mems ≤ f.mems
  pub word : (i : ℕ) → i < e.words → e.word i ≡ f.word i
  pub mem : (i : ℕ) → i < e.mems → e.mem i ≡ f.mem i

-- variables stand for 64-bit words and for bytes at 64-bit addresses
pub record IsInRange (e : Environment) : Type 0 where
  pub word : (i : ℕ) → e.word i < 2 ^ 64
  pub address : (i a b : ℕ) → e.mem i a ≡ Some b → a < 2 ^ 64
  pub byte : (i a b : ℕ) → e.mem i a ≡ Some b → b < 2 ^ 8

-- `sb x10, 0(x11)` and a return, with functions that tell the store and that don't.
use Rattle.std.specs.Prelude.{ℕ, ◌==◌, if◌then◌else◌, List, [], ◌∷◌, codes, Some}
use Rattle.rv_words.specs.Bytes.{Bytes}
use Rattle.rv_words.specs.Ranges.{range_bytes}
use Rattle.rv_words.specs.declared.operation.Op.TheVariants.{Add}
use Rattle.rv_words.specs.declared.width.Width.TheVariants.{B1}
use Rattle.word_terms.specs.Tree.{MemTree, Const, Var, Bin, MemVar, Store}
use Rattle.tailrec_lang.specs.declared.group.Exit.TheVariants.{Ret}
use Rattle.tailrec_lang.specs.Tree.{BindMem, Do, Leave, BodyTree, GroupTree}
use Rattle.code_gen.specs.ElfFile.{elf_of}
use Rattle.rv_machine.specs.State.{State}
use Rattle.claims.specs.Headline.{Region}
use Rattle.claim_examples.specs.Sum.{returned_to}

abbrev pub store_file : List ℕ
store_file = elf_of (0x00a5_8023 ∷ 0x0000_8067 ∷ [])

-- a function over this code: how many memories it has, and its body
abbrev pub storing : ℕ → BodyTree → GroupTree
storing mems body = record {
  name = codes "f";
  regs = 1 ∷ 10 ∷ 11 ∷ [];
  mems = mems;
  code = record { at = 0x10000; bytes = 0x23 ∷ 0x80 ∷ 0xa5 ∷ 0x00 ∷ 0x67 ∷ 0x80 ∷ 0x00 ∷ 0x00 ∷ [] } ∷ [];
  defs = record { entry = 0x10000; exits = Ret ∷ []; body = body } ∷ [];
}

-- a return with the registers as they are, and these memories
abbrev pub returning : List MemTree → BodyTree
returning mems = Leave 0 (record { words = returned_to ∷ Var 0 ∷ Var 1 ∷ Var 2 ∷ []; mems = mems })

-- what the code does; that the memory stays as it is; without a memory
abbrev pub stores : GroupTree
stores = storing 1 (Do (BindMem (Store B1 (MemVar 0) (Bin Add (Var 2) (Const 0)) (Var 1))) (returning (MemVar 1 ∷ [])))

abbrev pub keeps : GroupTree
keeps = storing 1 (returning (MemVar 0 ∷ []))

abbrev pub quiet : GroupTree
quiet = storing 0 (returning [])

-- the byte at which x11 points
abbrev pub place : ℕ
place = 0x30000

abbrev pub at_place : Region
at_place a = a == place

abbrev pub store_registers : ℕ → ℕ
store_registers r = if r == 1 then 0x2000 else (if r == 10 then 2 else (if r == 11 then place else 0))

-- that byte beside the code
abbrev pub memory_with : ℕ → Bytes
memory_with b a = if a == place then Some b else range_bytes stores.code a

abbrev pub store_start : State
store_start = record { pc = 0x10000; reg = store_registers; mem = memory_with 7 }

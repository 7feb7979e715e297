-- `sb x10, -8(x2)`, `sb x10, 0(x11)` and a return: a stack access, and one that is none.
use Rattle.std.specs.Prelude.{ℕ, ◌==◌, if◌then◌else◌, List, [], ◌∷◌, codes, Some}
use Rattle.rv_words.specs.Bytes.{Bytes}
use Rattle.rv_words.specs.Ranges.{range_bytes}
use Rattle.rv_words.specs.declared.operation.Op.TheVariants.{Add}
use Rattle.rv_words.specs.declared.width.Width.TheVariants.{B1}
use Rattle.word_terms.specs.Tree.{MemTree, Const, Var, Bin, MemVar, Store}
use Rattle.tailrec_lang.specs.declared.group.Exit.TheVariants.{Ret}
use Rattle.tailrec_lang.specs.Tree.{BindMem, Do, Leave, BodyTree, GroupTree}
use Rattle.code_gen.specs.ElfFile.{elf_of}
use Rattle.rv_machine.specs.State.{State}
use Rattle.claims.specs.Headline.{Region}
use Rattle.claim_examples.specs.Sum.{returned_to}
use Rattle.claim_examples.specs.Store.{at_place, place}

abbrev pub split_file : List ℕ
split_file = elf_of (0xfea1_0c23 ∷ 0x00a5_8023 ∷ 0x0000_8067 ∷ [])

-- a function over this code, with a memory for other accesses and one for stack accesses
abbrev pub splitting : BodyTree → GroupTree
splitting body = record {
  name = codes "f";
  regs = 1 ∷ 2 ∷ 10 ∷ 11 ∷ [];
  mems = 2;
  code = record { at = 0x10000; bytes = 0x23 ∷ 0x0c ∷ 0xa1 ∷ 0xfe ∷ 0x23 ∷ 0x80 ∷ 0xa5 ∷ 0x00 ∷ 0x67 ∷ 0x80 ∷ 0x00 ∷ 0x00 ∷ [] } ∷ [];
  defs = record { entry = 0x10000; exits = Ret ∷ []; body = body } ∷ [];
}

-- its body, which stores into these memories one after the other, and leaves with those
abbrev pub storing_into : (stack other : MemTree) → List MemTree → BodyTree
storing_into stack other mems =
    Do (BindMem (Store B1 stack (Bin Add (Var 1) (Const 0xffff_ffff_ffff_fff8)) (Var 2)))
    (Do (BindMem (Store B1 other (Bin Add (Var 3) (Const 0)) (Var 2)))
    (Leave 0 (record { words = returned_to ∷ Var 0 ∷ Var 1 ∷ Var 2 ∷ Var 3 ∷ []; mems = mems })))

-- what the code does; that both stores are into the first memory
abbrev pub stores_apart : GroupTree
stores_apart = splitting (storing_into (MemVar 1) (MemVar 0) (MemVar 3 ∷ MemVar 2 ∷ []))

abbrev pub all_in_first : GroupTree
all_in_first = splitting (storing_into (MemVar 0) (MemVar 2) (MemVar 3 ∷ MemVar 1 ∷ []))

-- the byte on the stack
abbrev pub stack_place : ℕ
stack_place = 0x40000

abbrev pub at_stack : Region
at_stack a = a == stack_place

-- of the first memory and of the second
abbrev pub two_regions : List Region
two_regions = at_place ∷ at_stack ∷ []

abbrev pub split_registers : ℕ → ℕ
split_registers r = if r == 1 then 0x2000 else (if r == 2 then 0x40008 else (if r == 10 then 2 else (if r == 11 then place else 0)))

-- 7 at both places, beside the code
abbrev pub split_memory : Bytes
split_memory a = if a == place then Some 7 else (if a == stack_place then Some 7 else range_bytes stores_apart.code a)

abbrev pub split_start : State
split_start = record { pc = 0x10000; reg = split_registers; mem = split_memory }

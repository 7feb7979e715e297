-- `add x10, x10, x11` and a return, with functions that tell what it does and what it doesn't.
use Rattle.std.specs.Prelude.{ℕ, ◌==◌, if◌then◌else◌, List, [], ◌∷◌, codes}
use Rattle.rv_words.specs.Ranges.{range_bytes}
use Rattle.rv_words.specs.declared.operation.Op.TheVariants.{Add, And}
use Rattle.rv_words.specs.declared.comparison.Cmp.TheVariants.{Eq}
use Rattle.word_terms.specs.Tree.{WordTree, Const, Var, Bin, Compare}
use Rattle.tailrec_lang.specs.declared.group.Exit.TheVariants.{Ret}
use Rattle.tailrec_lang.specs.Tree.{Bind, Need, Do, Leave, BodyTree, GroupTree}
use Rattle.tailrec_lang.specs.Eval.{Arguments}
use Rattle.code_gen.specs.ElfFile.{elf_of}
use Rattle.rv_machine.specs.State.{State}

abbrev pub sum_file : List ℕ
sum_file = elf_of (0x00b5_0533 ∷ 0x0000_8067 ∷ [])

-- where a return goes that x1 tells
abbrev pub returned_to : WordTree
returned_to = Bin And (Bin Add (Var 0) (Const 0)) (Const 0xffff_ffff_ffff_fffe)

-- a function over this code: its registers and its body
abbrev pub adding : List ℕ → BodyTree → GroupTree
adding regs body = record {
  name = codes "f";
  regs = regs;
  mems = 0;
  code = record { at = 0x10000; bytes = 0x33 ∷ 0x05 ∷ 0xb5 ∷ 0x00 ∷ 0x67 ∷ 0x80 ∷ 0x00 ∷ 0x00 ∷ [] } ∷ [];
  defs = record { entry = 0x10000; exits = Ret ∷ []; body = body } ∷ [];
}

-- its body over x1, x10 and x11, which leaves that word in x10
abbrev pub leaving : WordTree → BodyTree
leaving x10 = Do (Bind (Bin Add (Var 1) (Var 2))) (Leave 0 (record { words = returned_to ∷ Var 0 ∷ x10 ∷ Var 2 ∷ []; mems = [] }))

-- what the code does; with the word of x11 in x10; with x1 as its one register
abbrev pub sum : GroupTree
sum = adding (1 ∷ 10 ∷ 11 ∷ []) (leaving (Var 3))

abbrev pub wrong : GroupTree
wrong = adding (1 ∷ 10 ∷ 11 ∷ []) (leaving (Var 2))

abbrev pub narrow : GroupTree
narrow = adding (1 ∷ []) (Leave 0 (record { words = returned_to ∷ Var 0 ∷ []; mems = [] }))

-- what the code does, with a need that is never true
abbrev pub needing : GroupTree
needing = adding (1 ∷ 10 ∷ 11 ∷ []) (Do (Need (Compare Eq (Const 0) (Const 1))) (leaving (Var 3)))

-- 2 in x10 and 3 in x11, a return to 0x2000, and no memory but the code
abbrev pub sum_registers : ℕ → ℕ
sum_registers r = if r == 1 then 0x2000 else (if r == 10 then 2 else (if r == 11 then 3 else 0))

abbrev pub sum_start : State
sum_start = record { pc = 0x10000; reg = sum_registers; mem = range_bytes sum.code }

-- what is left in x1, x10 and x11
abbrev pub sum_results : ℕ → Arguments
sum_results x10 = record { words = 0x2000 ∷ x10 ∷ 3 ∷ []; mems = [] }

-- `add x5, x1, x0`, a call by `jal x1`, `add x1, x5, x0` and a return; the function that is called is
-- `add x10, x10, x11` and a return.
use Rattle.std.specs.Prelude.{ℕ, List, [], ◌∷◌, codes}
use Rattle.rv_words.specs.Ranges.{range_bytes}
use Rattle.rv_words.specs.declared.operation.Op.TheVariants.{Add, And}
use Rattle.word_terms.specs.Tree.{WordTree, Const, Var, Bin}
use Rattle.tailrec_lang.specs.declared.group.Exit.TheVariants.{Ret}
use Rattle.tailrec_lang.specs.Tree.{Call, Leave, NoArm, Arm, DefTree, GroupTree}
use Rattle.code_gen.specs.ElfFile.{elf_of}
use Rattle.rv_machine.specs.State.{State}
use Rattle.claim_examples.specs.Sum.{sum_registers}

abbrev pub call_file : List ℕ
call_file = elf_of (0x0000_82b3 ∷ 0x00c0_00ef ∷ 0x0002_80b3 ∷ 0x0000_8067 ∷ 0x00b5_0533 ∷ 0x0000_8067 ∷ [])

-- where a jump to a word goes
abbrev pub jumped_to : WordTree → WordTree
jumped_to x = Bin And x (Const 0xffff_ffff_ffff_fffe)

-- the function that is called, over x1, x5, x10 and x11, which leaves that word in x10
abbrev pub called_def : WordTree → DefTree
called_def x10 = record {
  entry = 0x10010;
  exits = Ret ∷ [];
  body = Leave 0 (record { words = jumped_to (Var 0) ∷ Var 0 ∷ Var 1 ∷ x10 ∷ Var 3 ∷ []; mems = [] });
}

-- the one that calls: words 4 to 8 are what the call leaves with, the address of the return first
abbrev pub calling_def : DefTree
calling_def = record {
  entry = 0x10000;
  exits = Ret ∷ [];
  body = Call 0 (record { words = Const 0x10008 ∷ Var 0 ∷ Var 2 ∷ Var 3 ∷ []; mems = [] })
      (Arm (Leave 0 (record { words = jumped_to (Var 6) ∷ Var 6 ∷ Var 6 ∷ Var 7 ∷ Var 8 ∷ []; mems = [] })) NoArm);
}

abbrev pub call_group : WordTree → GroupTree
call_group x10 = record {
  name = codes "f";
  regs = 1 ∷ 5 ∷ 10 ∷ 11 ∷ [];
  mems = 0;
  code = record {
    at = 0x10000;
    bytes = 0xb3 ∷ 0x82 ∷ 0x00 ∷ 0x00 ∷ 0xef ∷ 0x00 ∷ 0xc0 ∷ 0x00 ∷ 0xb3 ∷ 0x80 ∷ 0x02 ∷ 0x00
        ∷ 0x67 ∷ 0x80 ∷ 0x00 ∷ 0x00 ∷ 0x33 ∷ 0x05 ∷ 0xb5 ∷ 0x00 ∷ 0x67 ∷ 0x80 ∷ 0x00 ∷ 0x00 ∷ [];
  } ∷ [];
  defs = called_def x10 ∷ calling_def ∷ [];
}

-- what the code does; that the function that is called leaves x10 as it is
abbrev pub sum_called : GroupTree
sum_called = call_group (Bin Add (Var 2) (Var 3))

abbrev pub nothing_called : GroupTree
nothing_called = call_group (Var 2)

-- at the entry, with the same registers, and no memory but the code
abbrev pub call_start : State
call_start = record { pc = 0x10000; reg = sum_registers; mem = range_bytes sum_called.code }

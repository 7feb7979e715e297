-- What is asked of a group that is made of the parts of functions.
use Rattle.std.specs.Prelude.{◌≡◌, ℕ, ◌+◌, ◌<◌, List, length, slice_get, ℤ, None, Some, Contains}
use Rattle.rv_decode.specs.declared.instruction.Instr.TheVariants.{Jal}
use Rattle.tailrec_lang.specs.Tree.{GroupTree}
use Rattle.code_parts.specs.declared.part.Part.{Part}
use Rattle.code_parts.specs.declared.part.Part.TheVariants.{Rest}
use Rattle.code_parts.specs.Bodies.{Flow, part_def}
use Rattle.code_parts.specs.declared.callee.Callee.{Callee}
use Rattle.code_parts.specs.Graph.{IsPart, IsGraph, IsCode}

-- a function of a group: its flow, and the node of its entry
pub record Function : Type 0 where
  pub flow : Flow
  pub entry : ℕ

-- a call goes to the function: to the rest of the whole from its entry on
pub record IsOf (x : Function) (c : Callee) : Type 0 where
  pub entry : c.entry ≡ x.flow.addr x.entry
  pub def : c.def ≡ x.flow.number (Rest None x.entry)
  pub returns : c.returns ≡ x.flow.returns

-- the group has a definition for each part of each function, and the last one is for the rest of this function from its entry on
pub record HasFunctions (fs : List Function) (main : Function) (g : GroupTree) : Type 0 where
  pub listed : Contains fs main
  pub regs : (x : Function) → Contains fs x → x.flow.regs ≡ g.regs
  pub mems : (x : Function) → Contains fs x → x.flow.mems ≡ g.mems
  pub defs : (x : Function) (p : Part) → Contains fs x → IsPart x.flow p → slice_get g.defs (x.flow.number p) ≡ Some (part_def x.flow p)
  pub whole : (x : Function) → Contains fs x → IsPart x.flow (Rest None x.entry)
  pub called : (x : Function) (n : ℕ) (c : Callee) → Contains fs x → n < x.flow.nodes → x.flow.callee n ≡ Some c → (y : Function) × Contains fs y × IsOf y c
  pub last : length g.defs ≡ main.flow.number (Rest None main.entry) + 1

-- the functions' graphs and their code, in which each access has its memory, and each call a callee
pub record HaveGraphs (Uses : ℕ → ℕ → Type 0) (fs : List Function) (g : GroupTree) : Type 0 where
  pub graph : (x : Function) → Contains fs x → IsGraph x.flow
  pub code : (x : Function) → Contains fs x → IsCode x.flow g.code
  pub uses : (x : Function) (n : ℕ) → Contains fs x → n < x.flow.nodes → Uses (x.flow.addr n) (x.flow.uses n)
  pub no_call : (x : Function) (n : ℕ) (offset : ℤ) → Contains fs x → n < x.flow.nodes → x.flow.callee n ≡ None → x.flow.instr n ≡ Jal 1 offset → ⊥

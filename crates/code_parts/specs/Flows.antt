-- What a graph and its forest tell of a function, in the form from which definitions of parts are made.
use Rattle.std.specs.Prelude.{◌≡◌, ℕ, suc, ◌+◌, ◌==◌, ◌<◌, nat_lt, Bool, true, false, ◌&&◌, if◌then◌else◌, Option, Some, None, option_map, List, [], ◌∷◌, map, length, slice_index, slice_index_or}
use Rattle.std.specs.List.{list_any, Contains}
use Rattle.tailrec_lang.specs.Registers.{AreRegistersFrom}
use Rattle.rv_words.specs.Bytes.{Bytes, AreBytes}
use Rattle.rv_words.specs.declared.range.Range.{Range}
use Rattle.rv_words.specs.Ranges.{AreRanges, range_bytes}
use Rattle.sep_assert.specs.Code.{IsWithin}
use Rattle.rvc.specs.Number.{length_of}
use Rattle.rv_decode.specs.declared.instruction.Instr.{Instr}
use Rattle.rv_decode.specs.declared.instruction.Instr.TheVariants.{Ebreak}
use Rattle.rv_decode.specs.Registers.{registers_where}
use Rattle.tailrec_lang.specs.Tree.{GroupTree, DefTree}
use Rattle.triple_kernel.specs.declared.form.Form.{Form}
use Rattle.triple_kernel.specs.declared.form.Form.TheVariants.{Next, Taken}
use Rattle.instr_axioms.specs.Terms.{has_memory}
use Rattle.instr_axioms.specs.Axiom.{is_own, word_code}
use Rattle.flow_graph.specs.Graph.{GraphOf, IsGraphOf, succs_of}
use Rattle.flow_graph.specs.Flow.{called_by}
use Rattle.loop_forest.specs.Forest.{ForestOf, exits_of, head_of, place_of, region_of}
use Rattle.loop_forest.specs.Walking.{loop_of}
use Rattle.code_parts.specs.declared.part.Part.{Part}
use Rattle.code_parts.specs.declared.part.Part.TheVariants.{Loop, Rest}
use Rattle.code_parts.specs.Bodies.{Flow, part_def}
use Rattle.code_parts.specs.declared.callee.Callee.{Callee}
use Rattle.code_parts.specs.Graph.{is_jump_through}

-- ---- numbers of parts

abbrev pub same_region : Option ℕ → Option ℕ → Bool
same_region None None = true
same_region (Some l) (Some k) = l == k
same_region r q = false

abbrev pub same_part : Part → Part → Bool
same_part (Loop l) (Loop k) = l == k
same_part (Rest r n) (Rest q m) = same_region r q && n == m
same_part p q = false

-- the place of a part in a list
abbrev pub place_in : List Part → Part → ℕ
place_in [] p = 0
place_in (q ∷ qs) p = if same_part q p then 0 else suc (place_in qs p)

-- ---- the flow of a graph

-- which of a node's edges an instruction takes in that form
abbrev pub edge_number : Form → ℕ
edge_number Next = 0
edge_number Taken = 1

-- the registers but x0 that stand in the instructions, rising
abbrev pub registers_of : List Instr → List ℕ
registers_of instrs = registers_where (λ r. list_any (λ i. is_own i r) instrs)

-- what a flow has beside its graph: how many definitions stand before its own, and its parts in their order; the group's registers and
-- memories; the memory of each access, by its address; and the functions, by their addresses
pub record Context : Type 0 where
  pub base : ℕ
  pub parts : List Part
  pub regs : List ℕ
  pub mems : ℕ
  pub uses : ℕ → ℕ
  pub functions : ℕ → Callee

-- no function, which stands for what is called where nothing is
abbrev pub unlinked : ℕ → Callee
unlinked a = record { entry = a; def = 0; returns = false }

-- what a function alone has: its own definitions, its registers, and one memory if it has an access
abbrev pub alone : GraphOf → List Part → Context
alone g parts = record {
  base = 0;
  parts = parts;
  regs = registers_of g.instrs;
  mems = if list_any has_memory g.instrs then 1 else 0;
  uses = λ a. 0;
  functions = unlinked;
}

-- the first of these functions that is entered at the address, or none
abbrev pub function_at : List Callee → ℕ → Callee
function_at [] a = unlinked a
function_at (c ∷ cs) a = if c.entry == a then c else function_at cs a

-- a context as the code has it: the accesses at the addresses of `second` use the second memory, and any other the first
pub record ContextOf : Type 0 where
  pub base : ℕ
  pub parts : List Part
  pub regs : List ℕ
  pub mems : ℕ
  pub second : List ℕ
  pub functions : List Callee

abbrev pub context_of : ContextOf → Context
context_of s = record {
  base = s.base;
  parts = s.parts;
  regs = s.regs;
  mems = s.mems;
  uses = λ a. if list_any (λ b. b == a) s.second then 1 else 0;
  functions = λ a. function_at s.functions a;
}

-- The nodes and loops have the numbers that they have in the graph and in the forest, and a part that of its place in the list of parts.
abbrev pub flow_of : GraphOf → ForestOf → Context → Flow
flow_of g f s = record {
  nodes = length g.addrs;
  loops = length f.heads;
  addr = λ n. slice_index g.addrs n;
  word = λ n. slice_index g.numbers n;
  instr = λ n. slice_index_or g.instrs n Ebreak;
  to = λ n form. slice_index (succs_of g.edges n) (edge_number form);
  is_cut = λ n. place_of f n == 0;
  loop_of = loop_of f;
  around = region_of f;
  head = head_of f;
  exits = λ l. if nat_lt l (length f.heads) then exits_of f l else [];
  returns = list_any is_jump_through g.instrs;
  number = λ p. s.base + place_in s.parts p;
  regs = s.regs;
  mems = s.mems;
  uses = λ n. s.uses (slice_index g.addrs n);
  callee = λ n. option_map s.functions (called_by (slice_index g.addrs n) (slice_index_or g.instrs n Ebreak));
}

-- a group over the graph's registers and memory
abbrev pub group_over : Flow → List ℕ → List Range → List DefTree → GroupTree
group_over f name code defs = record { name = name; regs = f.regs; mems = f.mems; code = code; defs = defs }

-- .. that has the definition of each of the parts
abbrev pub group_of : Flow → List ℕ → List Range → List Part → GroupTree
group_of f name ranges parts = record { name = name; regs = f.regs; mems = f.mems; code = ranges; defs = map (part_def f) parts }

-- the bytes of each node's instruction are in the ranges
abbrev pub HaveCode : GraphOf → Bytes → List Range → Type 0
HaveCode g code ranges = (n k b : ℕ) → n < length g.addrs → k < length_of (slice_index g.numbers n) → code (slice_index g.addrs n + k) ≡ Some b → range_bytes ranges (slice_index g.addrs n + k) ≡ Some b

-- The registers rise, and those of the instructions are among them; the memory of each access is one of the group's; and functions stand under
-- their addresses.
pub record IsSetFor (g : GraphOf) (s : Context) : Type 0 where
  pub rise : AreRegistersFrom 1 s.regs
  pub regs : (r : ℕ) → Contains (registers_of g.instrs) r → Contains s.regs r
  pub uses : (n : ℕ) → n < length g.addrs → has_memory (slice_index_or g.instrs n Ebreak) ≡ true → s.uses (slice_index g.addrs n) < s.mems
  pub functions : (a : ℕ) → (s.functions a).entry ≡ a

-- the graph of some code that is reached
pub record IsReached (linked : Bool) (g : GraphOf) : Type 0 where
  pub code : Bytes
  pub entry : ℕ
  pub bytes : AreBytes code
  pub is : IsGraphOf linked code entry g

-- the bytes of a node's instruction
abbrev pub node_code : GraphOf → ℕ → Bytes
node_code g n = range_bytes (word_code (slice_index g.addrs n) (slice_index g.numbers n))

-- ranges in order that have the bytes of the nodes' instructions
pub record HaveInstructions (g : GraphOf) (ranges : List Range) : Type 0 where
  pub order : AreRanges ranges
  pub each : (n : ℕ) → n < length g.addrs → IsWithin (node_code g n) (range_bytes ranges)

-- exactly the bytes of the nodes' instructions, in order
pub record AreCodeOf (g : GraphOf) (ranges : List Range) : Type 0 where
  pub order : AreRanges ranges
  pub each : (n : ℕ) → n < length g.addrs → IsWithin (node_code g n) (range_bytes ranges)
  pub only : (a b : ℕ) → range_bytes ranges a ≡ Some b → (n : ℕ) × (n < length g.addrs) × (node_code g n a ≡ Some b)

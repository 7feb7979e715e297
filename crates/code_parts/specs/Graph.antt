-- What graphs and loops are like: laws that the bodies of parts rest on.
use Rattle.std.specs.Prelude.{◌≡◌, ◌⊎◌, ℕ, ◌+◌, ◌<◌, ◌≤◌, ◌^◌, Bool, true, false, if◌then◌else◌, Option, Some, None, List, [], ◌∷◌, map, length, slice_get, ℤ, pos}
use Rattle.std.specs.List.{Contains}
use Rattle.rv_decode.specs.declared.instruction.Instr.{Instr}
use Rattle.rv_decode.specs.declared.instruction.Instr.TheVariants as instr
use Rattle.rvc.specs.Number.{instruction_of}
use Rattle.rv_machine.specs.Step.{is_even, plus}
use Rattle.word_terms.specs.Tree.{Const}
use Rattle.rv_words.specs.declared.range.Range.{Range}
use Rattle.rv_words.specs.Ranges.{range_bytes}
use Rattle.sep_assert.specs.Code.{IsWithin}
use Rattle.tailrec_lang.specs.Registers.{AreRegistersFrom}
use Rattle.tailrec_lang.specs.Tree.{BodyTree, Do, Branch, Call, Again, Leave, ArmTrees, NoArm, Arm, DefTree, GroupTree}
use Rattle.tailrec_lang.specs.declared.group.Exit.TheVariants.{Ret}
use Rattle.triple_kernel.specs.declared.form.Form.{Form}
use Rattle.triple_kernel.specs.declared.form.Form.TheVariants.{Next, Taken}
use Rattle.rv_decode.specs.Registers.{sources, destination}
use Rattle.rv_words.specs.Bytes.{away}
use Rattle.instr_axioms.specs.Terms.{Names, has_memory, pc_after, has_form}
use Rattle.instr_axioms.specs.Axiom.{word_code}
use Rattle.code_parts.specs.declared.part.Part.{Part}
use Rattle.code_parts.specs.declared.part.Part.TheVariants.{Loop, Rest}
use Rattle.code_parts.specs.Bodies.{Flow, size, first, exits_of, part_body, part_def, rest_targets, index_of}
use Rattle.code_parts.specs.declared.callee.Callee.{Callee}

-- whether there is an edge from the instruction in that form: from a branch in both, from a return in none
abbrev pub has_edge : Instr → Form → Bool
has_edge (instr.Branch c rs1 rs2 offset) form = true
has_edge (instr.Jalr rd rs1 imm) form = false
has_edge i Next = true
has_edge i Taken = false

abbrev pub is_jump_through : Instr → Bool
is_jump_through (instr.Jalr rd rs1 imm) = true
is_jump_through i = false

-- there is an edge from n to m
abbrev pub IsEdge : Flow → ℕ → ℕ → Type 0
IsEdge f n m = (form : Form) × (has_edge (f.instr n) form ≡ true) × (f.to n form ≡ m)

-- there is such a part
abbrev pub IsPart : Flow → Part → Type 0
IsPart f (Loop l) = l < f.loops
IsPart f (Rest r n) = (n < f.nodes) × (f.is_cut n ≡ true) × (f.around n ≡ r)

-- the node is where the rest of the region ends, or where a rest of it begins
abbrev pub IsPlaced : Flow → Option ℕ → ℕ → Type 0
IsPlaced f r n = ((k : ℕ) × (index_of (rest_targets f r) n ≡ Some k)) ⊎ (f.around n ≡ r)

-- The loops and cuts of a graph: `inner` is the smallest region that has a node, where a head counts as a node of its own
-- loop, and `rank` falls along each edge that leads to no cut.
pub record IsGraph (f : Flow) : Type 0 where
  pub inner : ℕ → Option ℕ
  pub rank : ℕ → ℕ
  pub stays : (n m : ℕ) → n < f.nodes → IsEdge f n m → f.is_cut m ≡ false → (m < f.nodes) × (inner m ≡ inner n) × (rank m < rank n)
  pub placed : (n m : ℕ) → n < f.nodes → IsEdge f n m → f.is_cut m ≡ true → (m < f.nodes) × IsPlaced f (inner n) m
  pub near : (n : ℕ) → n < f.nodes → rank n < 32
  pub returned : (n : ℕ) → n < f.nodes → is_jump_through (f.instr n) ≡ true → (inner n ≡ None) × (f.returns ≡ true)
  pub cut_inner : (n : ℕ) → n < f.nodes → f.is_cut n ≡ true → f.loop_of n ≡ None → inner n ≡ f.around n
  pub head_is : (n l : ℕ) → n < f.nodes → f.loop_of n ≡ Some l → (l < f.loops) × (f.head l ≡ n)
  pub loop_head : (l : ℕ) → l < f.loops → (f.head l < f.nodes) × (inner (f.head l) ≡ Some l)
  pub calls : (n : ℕ) (c : Callee) → n < f.nodes → f.callee n ≡ Some c → has_edge (f.instr n) Next ≡ true
  pub loop_exit : (l k x : ℕ) → l < f.loops → slice_get (f.exits l) k ≡ Some x → (x < f.nodes) × (f.is_cut x ≡ true) × IsPlaced f (f.around (f.head l)) x

-- the node's instruction calls that function by the link register x1, and the edge leads to where it is to return
pub record IsCallTo (f : Flow) (c : Callee) (n : ℕ) : Type 0 where
  pub offset : ℤ
  pub instr : f.instr n ≡ instr.Jal 1 offset
  pub entry : c.entry ≡ plus (f.addr n) offset
  pub back : f.addr (f.to n Next) ≡ away (f.addr n) (size f n)

-- The instruction of the node stands in the code, as its parcel or word, and goes on as the graph says. Among jumps through a register
-- there is the return alone.
pub record StandsAt (f : Flow) (code : List Range) (n : ℕ) : Type 0 where
  pub address : f.addr n < 2 ^ 64
  pub even : is_even (f.addr n) ≡ true
  pub room : f.addr n + size f n ≤ 2 ^ 64
  pub small : f.word n < 2 ^ 32
  pub is : instruction_of (f.word n) ≡ Some (f.instr n)
  pub bytes : IsWithin (range_bytes (word_code (f.addr n) (f.word n))) (range_bytes code)
  pub reads : (r : ℕ) → Contains (sources (f.instr n)) r → (r ≡ 0 → ⊥) → Contains f.regs r
  pub writes : (destination (f.instr n) ≡ 0 → ⊥) → Contains f.regs (destination (f.instr n))
  pub memory : has_memory (f.instr n) ≡ true → f.uses n < f.mems
  pub form : (form : Form) → has_edge (f.instr n) form ≡ true → has_form (f.instr n) form ≡ true
  pub goes : (form : Form) (v : Names) → f.callee n ≡ None → has_edge (f.instr n) form ≡ true → pc_after (f.instr n) form (f.addr n) (size f n) v ≡ Const (f.addr (f.to n form))
  pub calls : (c : Callee) → f.callee n ≡ Some c → IsCallTo f c n
  pub return_is : is_jump_through (f.instr n) ≡ true → f.instr n ≡ instr.Jalr 0 1 (pos 0)

-- each instruction of the graph stands in the code, and its registers rise
pub record IsCode (f : Flow) (code : List Range) : Type 0 where
  pub each : (n : ℕ) → n < f.nodes → StandsAt f code n
  pub registers : AreRegistersFrom 1 f.regs

-- the group has the definition of a part under its number, as far as a call of it tells: where it is entered and its exits
pub record HasPart (f : Flow) (g : GroupTree) (q : Part) : Type 0 where
  pub def : DefTree
  pub is : slice_get g.defs (f.number q) ≡ Some def
  pub entry : def.entry ≡ f.addr (first f q)
  pub exits : def.exits ≡ exits_of f q

-- the group has the definition of a function under its number, as far as a call of it tells
pub record HasCallee (defs : List DefTree) (c : Callee) : Type 0 where
  pub def : DefTree
  pub is : slice_get defs c.def ≡ Some def
  pub entry : def.entry ≡ c.entry
  pub exits : def.exits ≡ (if c.returns then Ret ∷ [] else [])

-- a group for this graph, as far as definitions before d ask: its registers, memories and code are the graph's, and each part and each function
-- that is one of these has its number
pub record IsFor (f : Flow) (d : ℕ) (g : GroupTree) : Type 0 where
  pub regs : g.regs ≡ f.regs
  pub mems : g.mems ≡ f.mems
  pub code : IsCode f g.code
  pub has : (q : Part) → IsPart f q → f.number q < d → HasPart f g q
  pub callees : (n : ℕ) (c : Callee) → n < f.nodes → f.callee n ≡ Some c → c.def < d → HasCallee g.defs c

abbrev mutual
  -- the body calls definitions before d alone
  pub CallsBelow : ℕ → BodyTree → Type 0
  CallsBelow d (Do s rest) = CallsBelow d rest
  CallsBelow d (Branch c a b) = CallsBelow d a × CallsBelow d b
  CallsBelow d (Call k v arms) = (k < d) × ArmsBelow d arms
  CallsBelow d (Again v) = Unit {0}
  CallsBelow d (Leave k v) = Unit {0}

  pub ArmsBelow : ℕ → ArmTrees → Type 0
  ArmsBelow d NoArm = Unit {0}
  ArmsBelow d (Arm b bs) = CallsBelow d b × ArmsBelow d bs

-- a group for this graph that has the definition of each of its parts, in this order, each after those that it calls
pub record IsMade (f : Flow) (g : GroupTree) (parts : List Part) : Type 0 where
  pub regs : g.regs ≡ f.regs
  pub mems : g.mems ≡ f.mems
  pub code : IsCode f g.code
  pub defs : g.defs ≡ map (part_def f) parts
  pub listed : (q : Part) → IsPart f q → slice_get parts (f.number q) ≡ Some q
  pub part : (k : ℕ) (q : Part) → slice_get parts k ≡ Some q → IsPart f q × (f.number q ≡ k)
  pub below : (k : ℕ) (q : Part) → slice_get parts k ≡ Some q → CallsBelow k (part_body f q)
  pub callees : (n : ℕ) (c : Callee) → n < f.nodes → f.callee n ≡ Some c → HasCallee g.defs c

-- it calls no function, and has at most one memory
pub record IsAlone (f : Flow) : Type 0 where
  pub mems : f.mems ≤ 1
  pub uses : (n : ℕ) → n < f.nodes → f.uses n ≡ 0
  pub calls : (n : ℕ) → n < f.nodes → f.callee n ≡ None

-- the numbers of a graph are small enough for the grammar
pub record IsSmall (f : Flow) : Type 0 where
  pub regs : length f.regs ≤ 31
  pub exits : (l : ℕ) → length (f.exits l) ≤ 8
  pub addr : (n : ℕ) → f.addr n < 2 ^ 64
  pub number : (q : Part) → f.number q < 2 ^ 32
  pub mems : f.mems ≤ 2
  pub uses : (n : ℕ) → has_memory (f.instr n) ≡ true → f.uses n < f.mems
  pub callee : (n : ℕ) (c : Callee) → f.callee n ≡ Some c → c.def < 2 ^ 32

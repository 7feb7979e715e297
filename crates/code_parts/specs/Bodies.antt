-- The parts of a graph and their definitions: what the decompiler makes of a function.
use Rattle.std.specs.Prelude.{ℕ, zero, suc, ◌+◌, ◌==◌, Bool, true, false, if◌then◌else◌, Option, Some, None, option_map, unwrap_or, List, [], ◌∷◌, ◌++◌, map, length}
use Rattle.std.specs.List.{position_or_len, range_with_len}
use Rattle.rv_words.specs.declared.comparison.Cmp.TheVariants.{Eq}
use Rattle.rv_decode.specs.declared.instruction.Instr.{Instr}
use Rattle.rv_decode.specs.declared.instruction.Instr.TheVariants as instr
use Rattle.word_terms.specs.Tree.{WordTree, CondTree, Const, Var, MemVar, Compare}
use Rattle.tailrec_lang.specs.declared.group.Exit.{Exit}
use Rattle.tailrec_lang.specs.declared.group.Exit.TheVariants.{At, Ret}
use Rattle.tailrec_lang.specs.Tree.{ValuesTree, StepTree, Bind, BindMem, Need, BodyTree, Do, Branch, Call, Again, Leave, ArmTrees, NoArm, Arm, DefTree, with_steps}
use Rattle.triple_kernel.specs.declared.form.Form.{Form}
use Rattle.triple_kernel.specs.declared.form.Form.TheVariants.{Next, Taken}
use Rattle.rv_decode.specs.Registers.{destination}
use Rattle.rvc.specs.Number.{length_of}
use Rattle.rv_words.specs.Bytes.{away}
use Rattle.instr_axioms.specs.Terms.{Names, word_in, conditions, result, memory_after, pc_after}
use Rattle.code_parts.specs.declared.callee.Callee.{Callee}
use Rattle.code_parts.specs.declared.part.Part.{Part}
use Rattle.code_parts.specs.declared.part.Part.TheVariants.{Loop, Rest}

-- ---- what a graph and its loops tell

-- The nodes and the loops have numbers from 0 on. A node has an address, a parcel or word, its instruction, and a node where it
-- goes on in each form. `loop_of` is the loop whose head a node is, and `around` the smallest loop that has it, where a head counts
-- as a node of the region around its loop; `None` is the whole function. A loop has a head and exit targets, which rise.
-- `returns` tells whether an instruction returns, and `number` which definition each part has. The group's registers
-- rise, and it has so many memories. `uses` tells which of them a node loads from or stores to, and `callee` what a node calls.
pub record Flow : Type 0 where
  pub nodes : ℕ
  pub loops : ℕ
  pub addr : ℕ → ℕ
  pub word : ℕ → ℕ
  pub instr : ℕ → Instr
  pub to : ℕ → Form → ℕ
  pub is_cut : ℕ → Bool
  pub loop_of : ℕ → Option ℕ
  pub around : ℕ → Option ℕ
  pub head : ℕ → ℕ
  pub exits : ℕ → List ℕ
  pub returns : Bool
  pub number : Part → ℕ
  pub regs : List ℕ
  pub mems : ℕ
  pub uses : ℕ → ℕ
  pub callee : ℕ → Option Callee

-- ---- variables

-- how many variables are in scope, and which of them the registers and the memories are
pub record VariableMap : Type 0 where
  pub words : ℕ
  pub mems : ℕ
  pub reg : ℕ → ℕ
  pub memory : ℕ → ℕ

-- these variables as names, those of memory q
abbrev pub names : VariableMap → ℕ → Names
names v q = record { word = λ r. Var (v.reg r); memory = MemVar (v.memory q) }

-- the next variables after the first `words` and the first `mems`, one for each register in order, and one for each memory
abbrev pub fresh : Flow → ℕ → ℕ → VariableMap
fresh f words mems = record {
  words = words + length f.regs;
  mems = mems + f.mems;
  reg = λ r. words + position_or_len (λ q. q == r) f.regs;
  memory = λ q. mems + q;
}

-- a definition begins with its parameters
abbrev pub start : Flow → VariableMap
start f = fresh f 0 0

-- the group's registers and its memories, as values
abbrev pub current : Flow → VariableMap → ValuesTree
current f v = record { words = map (λ r. Var (v.reg r)) f.regs; mems = map (λ q. MemVar (v.memory q)) (range_with_len 0 f.mems) }

-- .. with a program counter in front
abbrev pub with_pc : WordTree → ValuesTree → ValuesTree
with_pc t x = record { words = t ∷ x.words; mems = x.mems }

-- ---- what a definition has for an instruction

abbrev pub is_store : Instr → Bool
is_store (instr.Store w rs1 rs2 imm) = true
is_store i = false

-- after the register was written it is the next variable; x0 is never written
abbrev pub wrote : ℕ → VariableMap → VariableMap
wrote d v = if d == 0 then v else record { words = suc v.words; mems = v.mems; reg = λ r. if r == d then v.words else v.reg r; memory = v.memory }

-- after a store to memory q that is the next memory variable
abbrev pub stored : ℕ → VariableMap → VariableMap
stored q v = record { words = v.words; mems = suc v.mems; reg = v.reg; memory = λ p. if p == q then v.mems else v.memory p }

-- q is the memory that the instruction loads from or stores to, if it does
abbrev pub place_after : Instr → ℕ → VariableMap → VariableMap
place_after i q v = if is_store i then stored q v else wrote (destination i) v

-- the conditions of its access
abbrev pub needs : Instr → ℕ → VariableMap → List StepTree
needs i q v = map Need (conditions i Next (names v q))

-- what it writes
abbrev pub writes : Instr → ℕ → ℕ → ℕ → VariableMap → List StepTree
writes i a k q v =
    if is_store i then BindMem (memory_after i (names v q)) ∷ []
    else (if destination i == 0 then [] else Bind (result i a k (names v q)) ∷ [])

-- What a definition has for an instruction: steps, and the node where it goes on; two nodes, the first where the condition
-- holds; steps, and the address to which it returns; or steps, a function that is called, the address to which that has to return, and
-- the node there.
pub data Action : Type 0 where
  Straight : (steps : List StepTree) (after : VariableMap) (to : ℕ) → Action
  Fork : (c : CondTree) (taken next : ℕ) → Action
  Return : (steps : List StepTree) (pc : WordTree) → Action
  Enter : (steps : List StepTree) (after : VariableMap) (callee : Callee) (back to : ℕ) → Action

-- the instruction of k bytes at a, which goes on to these nodes. Among jumps through a register there is the return alone.
abbrev pub action_of : Instr → ℕ → ℕ → ℕ → (Form → ℕ) → VariableMap → Action
action_of (instr.Branch c rs1 rs2 offset) a k q to v = Fork (Compare c (word_in (names v q) rs1) (word_in (names v q) rs2)) (to Taken) (to Next)
action_of (instr.Jalr rd rs1 imm) a k q to v =
    Return (needs (instr.Jalr rd rs1 imm) q v) (pc_after (instr.Jalr rd rs1 imm) Next a k (names v q))
action_of i a k q to v = Straight (needs i q v ++ writes i a k q v) (place_after i q v) (to Next)

-- .. where it calls that function, or none
abbrev pub action_calling : Option Callee → Instr → ℕ → ℕ → ℕ → (Form → ℕ) → VariableMap → Action
action_calling None i a k q to v = action_of i a k q to v
action_calling (Some c) i a k q to v = Enter (needs i q v ++ writes i a k q v) (place_after i q v) c (away a k) (to Next)

-- how many bytes the instruction of a node has
abbrev pub size : Flow → ℕ → ℕ
size f n = length_of (f.word n)

abbrev pub action : Flow → ℕ → VariableMap → Action
action f n v = action_calling (f.callee n) (f.instr n) (f.addr n) (size f n) (f.uses n) (f.to n) v

-- ---- parts

-- the region whose code a part is of
abbrev pub own : Part → Option ℕ
own (Loop l) = Some l
own (Rest r n) = r

-- its first node
abbrev pub first : Flow → Part → ℕ
first f (Loop l) = f.head l
first f (Rest r n) = n

-- where the rest of a region ends: at the loop's head and at the loop's exit targets
abbrev pub rest_targets : Flow → Option ℕ → List ℕ
rest_targets f None = []
rest_targets f (Some l) = f.head l ∷ f.exits l

-- the nodes that a part's exits are at
abbrev pub targets : Flow → Part → List ℕ
targets f (Loop l) = f.exits l
targets f (Rest r n) = rest_targets f r

-- the rest of the whole function has the exit to a returned address, if there is a return
abbrev pub returned : Flow → Part → List Exit
returned f (Rest None n) = if f.returns then Ret ∷ [] else []
returned f p = []

-- the exits of a part
abbrev pub exits_of : Flow → Part → List Exit
exits_of f p = map (λ n. At (f.addr n)) (targets f p) ++ returned f p

-- the rest from a cut on
abbrev pub rest_from : Flow → ℕ → Part
rest_from f n = Rest (f.around n) n

-- ---- bodies

-- where the node stands in the list
abbrev pub index_of : List ℕ → ℕ → Option ℕ
index_of [] n = None
index_of (x ∷ xs) n = if n == x then Some 0 else option_map suc (index_of xs n)

-- by itself a part ends at the head of its own loop and at its exits
abbrev pub end_of : Flow → Part → ℕ → ValuesTree → Option BodyTree
end_of f (Loop l) n x = if n == f.head l then Some (Again x) else option_map (λ k. Leave k x) (index_of (f.exits l) n)
end_of f (Rest r c) n x = option_map (λ k. Leave k x) (index_of (rest_targets f r) n)

-- a body for each of the nodes
abbrev pub arms_over : List ℕ → (ℕ → BodyTree) → ArmTrees
arms_over [] go = NoArm
arms_over (x ∷ xs) go = Arm (go x) (arms_over xs go)

-- the part ends at the node by itself
abbrev pub last_at : Flow → Part → ℕ → VariableMap → BodyTree
last_at f p n v = unwrap_or (end_of f p n (current f v)) (Leave 0 (current f v))

-- The arms of a call of the rest of a region. The part ends at each of its exits by itself, since it is of the same region.
abbrev pub rest_arms : Flow → Part → Option ℕ → VariableMap → ArmTrees
rest_arms f p None v = if f.returns then Arm (Leave 0 (with_pc (Var v.words) (current f (fresh f (suc v.words) v.mems)))) NoArm else NoArm
rest_arms f p (Some l) v = arms_over (rest_targets f (Some l)) (λ x. last_at f p x (fresh f v.words v.mems))

-- at a cut: the part ends by itself, or it calls the rest from there on
abbrev pub end_at : Flow → Part → ℕ → VariableMap → BodyTree
end_at f p n v = unwrap_or (end_of f p n (current f v)) (Call (f.number (rest_from f n)) (current f v) (rest_arms f p (f.around n) v))

-- what a call of a function goes on with: a check that it returned to that address, and then the body from there on
abbrev pub return_arm : Flow → Bool → ℕ → VariableMap → (VariableMap → BodyTree) → ArmTrees
return_arm f returns back v go =
    if returns then Arm (Do (Need (Compare Eq (Var v.words) (Const back))) (go (fresh f (suc v.words) v.mems))) NoArm else NoArm

-- the body for an instruction, where `go` is the body from each node that is no cut
abbrev pub action_body : Flow → Part → Action → VariableMap → (ℕ → VariableMap → BodyTree) → BodyTree
action_body f p (Straight ss u to) v go = with_steps ss (if f.is_cut to then end_at f p to u else go to u)
action_body f p (Fork c a b) v go = Branch c (if f.is_cut a then end_at f p a v else go a v) (if f.is_cut b then end_at f p b v else go b v)
action_body f p (Return ss t) v go = with_steps ss (Leave 0 (with_pc t (current f v)))
action_body f p (Enter ss u c back to) v go =
    with_steps ss (Call c.def (current f u) (return_arm f c.returns back u (λ w. if f.is_cut to then end_at f p to w else go to w)))

-- the body from a node on, which follows the branches to the next cuts. Fewer instructions than the first number stand
-- between, so the first line of this is never met.
abbrev pub body_at : ℕ → Flow → Part → ℕ → VariableMap → BodyTree
body_at zero f p n v = Leave 0 (current f v)
body_at (suc room) f p n v = action_body f p (action f n v) v (body_at room f p)

-- the rest from the head of a loop on is a call of the loop
abbrev pub rest_body : ℕ → Flow → Part → ℕ → Option ℕ → BodyTree
rest_body room f p n None = body_at room f p n (start f)
rest_body room f p n (Some l) =
    Call (f.number (Loop l)) (current f (start f)) (arms_over (f.exits l) (λ x. end_at f p x (fresh f (start f).words (start f).mems)))

-- the body of a part, where cuts are nearer to each other than `room` instructions
abbrev pub body_within : ℕ → Flow → Part → BodyTree
body_within room f (Loop l) = body_at room f (Loop l) (f.head l) (start f)
body_within room f (Rest r n) = rest_body room f (Rest r n) n (f.loop_of n)

-- from a cut there are at most 32 instructions to the next
abbrev pub part_body : Flow → Part → BodyTree
part_body f p = body_within 32 f p

-- the definition of a part
abbrev pub part_def : Flow → Part → DefTree
part_def f p = record { entry = f.addr (first f p); exits = exits_of f p; body = part_body f p }

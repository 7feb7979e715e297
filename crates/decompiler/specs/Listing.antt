-- What the decompiler makes of a name of a file.
use Rattle.std.specs.Prelude.{◌≡◌, ◌↔◌, ◌⊎◌, ℕ, ◌+◌, ◌-◌, ◌<◌, ◌≤◌, Bool, if◌then◌else◌, Option, Some, None, Ok, List, [], ◌∷◌, map, length, slice_index, slice_index_or, slice_get, true, false}
use Rattle.std.specs.List.{Contains, AllZip, flat_map, list_any, sum_by}
use Rattle.rv_words.specs.Bytes.{Bytes}
use Rattle.rv_words.specs.Ranges.{range_bytes}
use Rattle.elf_image.specs.Image.{code_of_file}
use Rattle.rv_decode.specs.declared.instruction.Instr.{Instr}
use Rattle.rv_decode.specs.declared.instruction.Instr.TheVariants.{Ebreak}
use Rattle.rv_decode.specs.Registers.{sources, destination}
use Rattle.rv_machine.specs.State.{State}
use Rattle.tailrec_lang.specs.declared.group.Exit.{Exit}
use Rattle.tailrec_lang.specs.declared.group.Exit.TheVariants.{At, Ret}
use Rattle.tailrec_lang.specs.Tree.{DefTree, GroupTree, group_tree, listed_def}
use Rattle.instr_axioms.specs.Terms.{has_memory}
use Rattle.proof_text.specs.Line.{ProofTree, line_tree}
use Rattle.group_text.specs.Version.{Version, version_1}
use Rattle.proof_text.specs.Proofs.{IsProofIn}
use Rattle.verdicts.specs.Accepts.{IsAcceptedBy}
use Rattle.verdicts.specs.Instance.{FurtherRule, no_rule}
use Rattle.claims.specs.Headline.{Region, entry_at}
use Rattle.claims.specs.Exact.{Exact, FirstReturns}
use Rattle.claims.specs.Turns.{CountsSteps, InFirstMemory}
use Rattle.flow_graph.specs.Flow.{Next, called_by, length_in, look, is_return}
use Rattle.flow_graph.specs.Reach.{IsReach}
use Rattle.flow_graph.specs.Walks.{Reaches}
use Rattle.flow_graph.specs.Graph.{GraphOf, HasEdge, IsGraphOf, IsRising}
use Rattle.loop_forest.specs.Loops.{IsHead, IsExit}
use Rattle.loop_forest.specs.Regions.{IsAround}
use Rattle.loop_forest.specs.Cuts.{IsCut}
use Rattle.loop_forest.specs.Forest.{IsForestOf, incoming}
use Rattle.code_parts.specs.declared.call_fault.LinkWhy.{LinkWhy}
use Rattle.code_parts.specs.declared.part.Part.{Part}
use Rattle.code_parts.specs.Graph.{IsPart}
use Rattle.code_parts.specs.Members.{AreBased, Member, callee_at, defs_of, flow_at}
use Rattle.path_walk.specs.declared.item.Item.{Item}
use Rattle.decompiler.specs.Names.{StandsFor}
use Rattle.decompiler.specs.Faults.{IsCauseAlone, IsFirst}
use Rattle.path_walk.specs.declared.proof.Proof.{Proof}

-- an item as a group with the lines of its proof
abbrev pub proof_of : Item → ProofTree
proof_of item = record { group = group_tree item.group; lines = map line_tree item.lines }

-- those of a proof, in order
abbrev pub proofs_of : Proof → List ProofTree
proofs_of p = map proof_of p.items

-- ---- the code at some addresses

-- the instruction stands at one of these addresses
pub record IsInstructionIn (linked : Bool) (code : Bytes) (In : ℕ → Type 0) (i : Instr) : Type 0 where
  pub at : ℕ
  pub reached : In at
  pub is : look linked code at ≡ Ok i

-- one of the bytes of an instruction at one of these addresses
pub record IsCodeIn (code : Bytes) (In : ℕ → Type 0) (a : ℕ) : Type 0 where
  pub from : ℕ
  pub place : ℕ
  pub reached : In from
  pub within : place < length_in code from
  pub is : a ≡ from + place

-- an instruction reads or writes the register
pub record IsUsedIn (linked : Bool) (code : Bytes) (In : ℕ → Type 0) (r : ℕ) : Type 0 where
  pub instr : Instr
  pub reached : IsInstructionIn linked code In instr
  pub stands : Contains (sources instr) r ⊎ (destination instr ≡ r)

-- an instruction loads or stores
pub record UsesMemoryIn (linked : Bool) (code : Bytes) (In : ℕ → Type 0) : Type 0 where
  pub instr : Instr
  pub reached : IsInstructionIn linked code In instr
  pub uses : has_memory instr ≡ true

-- ---- its parts

-- A part of the code: a loop, by the node of its head; or what is done from a cut on in a region, which is a loop by its head, or the
-- whole function.
pub data CodePart : Type 0 where
  LoopOf : (head : ℕ) → CodePart
  RestFrom : (region : Option ℕ) (cut : ℕ) → CodePart

-- a loop is a part, and the rest from each cut on in the smallest region that has it, where a head counts as a node of the region
-- around its loop
abbrev pub IsPartOf : GraphOf → CodePart → Type 0
IsPartOf g (LoopOf h) = IsHead (HasEdge g) g.entry h
IsPartOf g (RestFrom region c) = IsCut (HasEdge g) g.entry (incoming g) c × IsAround (HasEdge g) g.entry c region

abbrev pub first_of : CodePart → ℕ
first_of (LoopOf h) = h
first_of (RestFrom region c) = c

-- the nodes outside the loop of h to which edges from inside it lead, rising
pub record AreTargets (g : GraphOf) (h : ℕ) (targets : List ℕ) : Type 0 where
  pub rising : IsRising targets
  pub each : (n : ℕ) → Contains targets n ↔ IsExit (HasEdge g) g.entry h n

-- exits at the addresses of these nodes
abbrev pub exits_to : GraphOf → List ℕ → List Exit
exits_to g nodes = map (λ n. At (slice_index g.addrs n)) nodes

-- The exits of a part: a loop has its targets; a rest in a loop the head, then the targets; a rest of the whole function the return,
-- if there is one.
abbrev pub HasExits : GraphOf → CodePart → List Exit → Type 0
HasExits g (LoopOf h) exits = (targets : List ℕ) × AreTargets g h targets × (exits ≡ exits_to g targets)
HasExits g (RestFrom (Some h) c) exits = (targets : List ℕ) × AreTargets g h targets × (exits ≡ exits_to g (h ∷ targets))
HasExits g (RestFrom None c) exits = exits ≡ (if list_any is_return g.instrs then Ret ∷ [] else [])

-- a definition of the part: it is entered at its first node and has its exits
pub record IsDefOf (g : GraphOf) (p : CodePart) (d : DefTree) : Type 0 where
  pub entry : d.entry ≡ slice_index g.addrs (first_of p)
  pub exits : HasExits g p d.exits

-- one definition for each part
pub record HasDefs (g : GraphOf) (defs : List DefTree) : Type 0 where
  pub parts : List CodePart
  pub all : (p : CodePart) → Contains parts p ↔ IsPartOf g p
  pub once : (j k : ℕ) (p : CodePart) → slice_get parts j ≡ Some p → slice_get parts k ≡ Some p → j ≡ k
  pub each : AllZip (IsDefOf g) parts defs

-- ---- what each definition is

-- A function at an address of the code: its graph, the loops of that, and its parts, each once, in some order; over the registers and the
-- memories of the group. Uses tells the memory of each of its instructions, by their addresses.
pub record IsMemberOf (linked : Bool) (Uses : ℕ → ℕ → Type 0) (code : Bytes) (g : GroupTree) (m : Member) : Type 0 where
  pub graph : IsGraphOf linked code m.at m.graph
  pub forest : IsForestOf m.graph m.forest
  pub parts : (p : Part) → Contains m.context.parts p ↔ IsPart (flow_at m) p
  pub once : (j k : ℕ) (p : Part) → slice_get m.context.parts j ≡ Some p → slice_get m.context.parts k ≡ Some p → j ≡ k
  pub regs : m.context.regs ≡ g.regs
  pub mems : m.context.mems ≡ g.mems
  pub uses : (n : ℕ) → n < length m.graph.addrs → Uses (slice_index m.graph.addrs n) (m.context.uses (slice_index m.graph.addrs n))

-- The group has the definition of each part of these functions, those of one function behind those of another. What is called is one of the
-- functions, by the definition of the rest from its entry on.
pub record AreDefsOf (linked : Bool) (Uses : ℕ → ℕ → Type 0) (code : Bytes) (ms : List Member) (g : GroupTree) : Type 0 where
  pub each : (m : Member) → Contains ms m → IsMemberOf linked Uses code g m
  pub based : AreBased 0 ms
  pub called : (m : Member) (n t : ℕ) → Contains ms m → n < length m.graph.addrs → called_by (slice_index m.graph.addrs n) (slice_index_or m.graph.instrs n Ebreak) ≡ Some t
      → (y : Member) × Contains ms y × (y.at ≡ t) × (m.context.functions t ≡ callee_at y)
  pub defs : g.defs ≡ defs_of ms

-- one definition for each part of each of these functions, those of one function after those of another
pub record HaveDefs (ms : List Member) (defs : List DefTree) : Type 0 where
  pub rows : List (List DefTree)
  pub each : AllZip (λ m row. HasDefs m.graph row) ms rows
  pub all : defs ≡ flat_map (λ (row : List DefTree). row) rows

-- The entries of the functions to which calls lead from the one at e, each once. What a function calls stands before it, and the one at e last.
pub record AreEntries (Calls : ℕ → ℕ → Type 0) (e : ℕ) (entries : List ℕ) : Type 0 where
  pub functions : IsReach Calls e entries
  pub before : (j k : ℕ) → j < length entries → k < length entries → Calls (slice_index entries k) (slice_index entries j) → j < k
  pub last : slice_index entries (length entries - 1) ≡ e

-- ---- items

-- In which form functions are decompiled: alone, with those that they call, or with a memory for the stack.
pub record ItemForm : Type 1 where
  -- whether a function goes on behind its calls, and which function, by its entry, calls which
  pub linked : Bool
  pub Calls : Bytes → ℕ → ℕ → Type 0
  -- the first reason for which the function entered at e is refused
  pub Causes : Bytes → ℕ → LinkWhy → Type 0
  -- the code of the function entered at e: the addresses that are reached
  pub Reached : Bytes → ℕ → ℕ → Type 0
  -- how many memories there are, where this says whether an instruction loads or stores; and which of them the instruction at an address has
  pub HasMemories : Type 0 → ℕ → Type 0
  pub Uses : Bytes → ℕ → ℕ → ℕ → Type 0
  -- the version of the text, and the rule that its lines have beside those of version 1
  pub version : Version
  pub rule : FurtherRule
  -- that nothing is lost of the group's function, and the runs of the machine of which that is so
  pub Exact : List ℕ → ℕ → GroupTree → Type 0
  pub Runs : Bytes → ℕ → List Region → State → ℕ → State → Type 0

-- What the group lists: the function under the name, entered at e; exactly the bytes of the reached code; the registers but x0 that it
-- reads or writes; the form's memories; and one definition for each part of each of the functions.
pub record Lists (form : ItemForm) (code : Bytes) (e : ℕ) (ms : List Member) (name : List ℕ) (g : GroupTree) : Type 0 where
  pub named : g.name ≡ name
  pub entry : entry_at g (listed_def g) ≡ Some e
  pub bytes : (a b : ℕ) → (range_bytes g.code a ≡ Some b) ↔ (IsCodeIn code (form.Reached code e) a × (code a ≡ Some b))
  pub registers : (r : ℕ) → Contains g.regs r ↔ ((1 ≤ r) × (r ≤ 31) × IsUsedIn form.linked code (form.Reached code e) r)
  pub memory : form.HasMemories (UsesMemoryIn form.linked code (form.Reached code e)) g.mems
  pub defs : HaveDefs ms g.defs

-- The item of a name, which has no fault: what it lists is of the functions to which calls lead from the name's address, and it tells the sum of
-- their sizes; each definition is that of its part; it is accepted for the file by the rules of the form's version, nothing is lost of the
-- function, its turns count steps, and it has a text of that version.
pub record IsItemBy (form : ItemForm) (file name : List ℕ) (item : Item) : Type 0 where
  pub entry : ℕ
  pub stands : StandsFor file name (Ok entry)
  pub inside : (why : LinkWhy) → IsFirst form.Causes file name why → ⊥
  pub functions : List Member
  pub are : AreEntries (form.Calls (code_of_file file)) entry (map (λ m. m.at) functions)
  pub reached : item.reached ≡ sum_by (λ m. length m.graph.addrs) functions
  pub lists : Lists form (code_of_file file) entry functions name (group_tree item.group)
  pub made : AreDefsOf form.linked (form.Uses (code_of_file file) entry) (code_of_file file) functions (group_tree item.group)
  pub accepted : IsAcceptedBy form.rule file (proof_of item)
  pub exact : form.Exact file entry (group_tree item.group)
  pub steps : CountsSteps 32 (form.Runs (code_of_file file) entry) file (group_tree item.group)
  pub text : IsProofIn form.version (proof_of item)

-- an item for each of the names, in order
abbrev pub AreItemsBy : ItemForm → List ℕ → List (List ℕ) → Proof → Type 0
AreItemsBy form file names p = AllZip (IsItemBy form file) names p.items

-- the first of the names with a fault is the one of that number, and this is its fault; the names before it have items
pub record IsRefusedBy (form : ItemForm) (file : List ℕ) (names : List (List ℕ)) (number : ℕ) (why : LinkWhy) : Type 0 where
  pub name : List ℕ
  pub at : slice_get names number ≡ Some name
  pub first : IsFirst form.Causes file name why
  pub before : (k : ℕ) (other : List ℕ) → k < number → slice_get names k ≡ Some other → (item : Item) × IsItemBy form file other item

-- ---- alone

-- a memory exactly where an instruction loads or stores
abbrev pub HasMemory : Type 0 → ℕ → Type 0
HasMemory Uses mems = ((mems ≡ 1) × Uses) ⊎ ((mems ≡ 0) × (Uses → ⊥))

-- a function that calls none, as a text of version 1
abbrev pub alone_form : ItemForm
alone_form = record {
  linked = false;
  Calls = λ code a b. ⊥;
  Causes = IsCauseAlone;
  Reached = λ code e. Reaches (Next false code) e;
  HasMemories = HasMemory;
  Uses = λ code e. InFirstMemory;
  version = version_1;
  rule = no_rule;
  Exact = λ file e. Exact file;
  Runs = λ code e. FirstReturns;
}

abbrev pub IsItemFor : List ℕ → List ℕ → Item → Type 0
IsItemFor file name item = IsItemBy alone_form file name item

-- The functions of linked code, and a group that has the definitions of all of them.
use Rattle.std.specs.Prelude.{◌≡◌, ℕ, ◌+◌, ◌<◌, Bool, Some, None, List, [], ◌∷◌, ◌++◌, map, length, slice_get, slice_index, slice_index_or}
use Rattle.std.specs.List.{Contains}
use Rattle.rv_words.specs.Bytes.{Bytes}
use Rattle.rv_words.specs.declared.range.Range.{Range}
use Rattle.rv_decode.specs.declared.instruction.Instr.TheVariants.{Ebreak}
use Rattle.tailrec_lang.specs.Tree.{DefTree, GroupTree}
use Rattle.flow_graph.specs.Graph.{GraphOf, IsGraphOf}
use Rattle.loop_forest.specs.Forest.{ForestOf, IsForestOf, number_of}
use Rattle.flow_graph.specs.Flow.{called_by}
use Rattle.code_parts.specs.declared.part.Part.{Part}
use Rattle.code_parts.specs.declared.part.Part.TheVariants.{Rest}
use Rattle.code_parts.specs.Bodies.{Flow, part_def}
use Rattle.code_parts.specs.declared.callee.Callee.{Callee}
use Rattle.code_parts.specs.Flows.{HaveCode, IsSetFor, Context, flow_of}
use Rattle.code_parts.specs.Order.{AreParts}

-- a function by its address, with its graph, the loops of that, and what its flow has beside
pub record Member : Type 0 where
  pub at : ℕ
  pub graph : GraphOf
  pub forest : ForestOf
  pub context : Context

abbrev pub flow_at : Member → Flow
flow_at m = flow_of m.graph m.forest m.context

-- how it is called: by the rest of the whole from its entry on
abbrev pub callee_at : Member → Callee
callee_at m = record { entry = m.at; def = (flow_at m).number (Rest None m.graph.entry); returns = (flow_at m).returns }

-- its graph is that of the code, its parts stand in their order, and the ranges have its code
pub record IsMember (linked : Bool) (code : Bytes) (ranges : List Range) (m : Member) : Type 0 where
  pub graph : IsGraphOf linked code m.at m.graph
  pub forest : IsForestOf m.graph m.forest
  pub order : AreParts (flow_at m) (number_of m.forest) m.context.parts
  pub fits : IsSetFor m.graph m.context
  pub bytes : HaveCode m.graph code ranges

-- The group has a definition for each part of each function; of one function they stand in a row. What is called is one of the functions,
-- and the parts of the main one are the last.
pub record AreMembers (linked : Bool) (code : Bytes) (ms : List Member) (main : Member) (g : GroupTree) : Type 0 where
  pub listed : Contains ms main
  pub each : (m : Member) → Contains ms m → IsMember linked code g.code m
  pub regs : (m : Member) → Contains ms m → m.context.regs ≡ g.regs
  pub mems : (m : Member) → Contains ms m → m.context.mems ≡ g.mems
  pub defs : (m : Member) (k : ℕ) (p : Part) → Contains ms m → slice_get m.context.parts k ≡ Some p → slice_get g.defs (m.context.base + k) ≡ Some (part_def (flow_at m) p)
  pub called : (m : Member) (n t : ℕ) → Contains ms m → n < length m.graph.addrs → called_by (slice_index m.graph.addrs n) (slice_index_or m.graph.instrs n Ebreak) ≡ Some t
      → (y : Member) × Contains ms y × (m.context.functions t ≡ callee_at y)
  pub last : length g.defs ≡ main.context.base + length main.context.parts

-- ---- functions one after the other

-- the definitions of the parts of each function
abbrev pub defs_of : List Member → List DefTree
defs_of [] = []
defs_of (m ∷ ms) = map (part_def (flow_at m)) m.context.parts ++ defs_of ms

-- as many definitions stand before a function's as those before it have, and `base` more
abbrev pub AreBased : ℕ → List Member → Type 0
AreBased base [] = Unit {0}
AreBased base (m ∷ ms) = (m.context.base ≡ base) × AreBased (base + length m.context.parts) ms

-- what a function calls is one of those before it
abbrev pub CallsBefore : List Member → List Member → Type 0
CallsBefore known [] = Unit {0}
CallsBefore known (m ∷ ms) =
    ((n t : ℕ) → n < length m.graph.addrs → called_by (slice_index m.graph.addrs n) (slice_index_or m.graph.instrs n Ebreak) ≡ Some t
    → (y : Member) × Contains known y × (m.context.functions t ≡ callee_at y))
    × CallsBefore (known ++ m ∷ []) ms

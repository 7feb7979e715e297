-- What the parts of a graph are while it is built.
use Rattle.std.specs.Prelude.{◌≡◌, ℕ, ◌<◌, Bool, List, length, map, take, slice_index, Some, Ok, Err}
use Rattle.std.specs.List.{Contains}
use Rattle.rv_words.specs.Bytes.{Bytes}
use Rattle.rv_decode.specs.declared.instruction.Instr.{Instr}
use Rattle.flow_graph.specs.declared.outside.Outside.{Outside as Fault}
use Rattle.flow_graph.specs.declared.outside.FlowFault.{FlowFault}
use Rattle.flow_graph.specs.declared.outside.FlowFault.TheVariants.{Outside, NoMemory}
use Rattle.rvc.specs.Number.{number_in}
use Rattle.flow_graph.specs.Flow.{look, Next}

-- the numbers and instructions at these addresses, none of which has a fault and which lead to each other alone
pub record AreOf (linked : Bool) (code : Bytes) (nodes numbers : List ℕ) (instrs : List Instr) : Type 0 where
  pub numbers_are : map (λ w. Some w) numbers ≡ map (number_in code) nodes
  pub same : map (λ i. Ok i) instrs ≡ map (look linked code) nodes
  pub closed : (a b : ℕ) → Contains nodes a → Next linked code a b → Contains nodes b

-- the first of these addresses that has a fault has this one
pub record IsFirst (linked : Bool) (code : Bytes) (nodes : List ℕ) (why : Fault) : Type 0 where
  pub place : ℕ
  pub within : place < length nodes
  pub fault : look linked code (slice_index nodes place) ≡ Err why
  pub before : List Instr
  pub fine : map (λ i. Ok i) before ≡ map (look linked code) (take place nodes)

abbrev pub HasFault : Bool → Bytes → List ℕ → FlowFault → Type 0
HasFault linked code nodes (Outside why) = IsFirst linked code nodes why
HasFault linked code nodes NoMemory = Unit {0}

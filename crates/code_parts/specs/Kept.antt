-- A graph with its forest and the context of its flow, and what is kept beside them.
use Rattle.std.specs.Prelude.{◌≡◌, ◌+◌, ◌<◌, ◌≤◌, ◌^◌, Bool, List, length}
use Rattle.std.specs.List.{list_any}
use Rattle.rv_words.specs.declared.range.Range.{Range}
use Rattle.flow_graph.specs.Graph.{GraphOf}
use Rattle.loop_forest.specs.Forest.{ForestOf, IsForestOf}
use Rattle.code_parts.specs.Graph.{is_jump_through}
use Rattle.code_parts.specs.Bodies.{Flow}
use Rattle.code_parts.specs.Flows.{HaveInstructions, IsReached, IsSetFor, ContextOf, flow_of, context_of}

pub record FlowOf : Type 0 where
  pub graph : GraphOf
  pub forest : ForestOf
  pub context : ContextOf
  pub code : List Range

abbrev pub flow_in : FlowOf → Flow
flow_in s = flow_of s.graph s.forest (context_of s.context)

-- the graph is reached, of a function alone or of one that is linked
abbrev pub IsReachedBy : GraphOf → Type 0
IsReachedBy g = (linked : Bool) × IsReached linked g

-- the context fits the graph, with numbers that are small enough, and the code has the instructions
pub record IsKept (g : GraphOf) (f : ForestOf) (s : ContextOf) (returns : Bool) (code : List Range) : Type 0 where
  pub reached : IsReachedBy g
  pub forest : IsForestOf g f
  pub few : s.base + length s.parts < 2 ^ 32
  pub few_mems : s.mems ≤ 2
  pub fits : IsSetFor g (context_of s)
  pub returns_is : returns ≡ list_any is_jump_through g.instrs
  pub code_has : HaveInstructions g code

-- The group of a function alone with two memories, with the lines of its proof, as a text of version 4.
use Rattle.std.specs.Prelude.{ℕ, List, []}
use Rattle.group_text.specs.declared.version.Version.TheVariants.{Four}
use Rattle.flow_graph.specs.Graph.{GraphOf}
use Rattle.loop_forest.specs.Forest.{ForestOf}
use Rattle.code_parts.specs.declared.part.Part.{Part}
use Rattle.code_parts.specs.Flows.{ContextOf, registers_of, context_of}
use Rattle.path_walk.specs.declared.item.Item.{Item}
use Rattle.path_walk.specs.Item.{IsItemWith}

-- what a function alone has, with two memories: the accesses at the addresses of `second` use the second one, and any other the first
abbrev pub split : GraphOf → List ℕ → List Part → ContextOf
split g second parts = record { base = 0; parts = parts; regs = registers_of g.instrs; mems = 2; second = second; functions = [] }

-- The group of a graph's parts in their order, with two memories, and lines in a text of version 4 that close each of its definitions.
abbrev pub IsSplitItem : GraphOf → ForestOf → List ℕ → List ℕ → Item → Type 0
IsSplitItem g f second name item = IsItemWith Four (λ parts. context_of (split g second parts)) g f name item

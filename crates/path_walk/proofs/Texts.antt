-- The group of a graph's parts has a text.
use Rattle.std.proofs.Common.{ℕ, List, [], ◌∷◌, map, Bool, true, false, cond, arith, ◌<◌, ◌≤◌}
use Rattle.std.specs.List.{AllByRecursion, list_any}
use Rattle.rv_words.specs.Bytes.{Bytes}
use Rattle.rv_words.specs.declared.range.Range.{Range}
use Rattle.rv_words.specs.Ranges.{AreRanges}
use Rattle.group_text.specs.Limits.{IsDef, IsGroup, IsName}
use Rattle.instr_axioms.specs.Terms.{has_memory}
use Rattle.flow_graph.specs.Graph.{GraphOf, IsGraphOf}
use Rattle.loop_forest.specs.Forest.{ForestOf, IsForestOf, number_of}
use Rattle.code_parts.specs.declared.part.Part.{Part}
use Rattle.code_parts.specs.Bodies.{part_def}
use Rattle.code_parts.specs.Flows.{alone, flow_of, group_of}
use Rattle.code_parts.specs.Order.{AreParts}
use Rattle.code_parts.proofs.FlowCode.{registers-rise}
use Rattle.code_parts.proofs.FlowEntry.{last-is}
use Rattle.code_parts.proofs.FlowSize.{small-alone, parts-fit}
use Rattle.code_parts.proofs.Lists.{length-map}
use Rattle.path_walk.proofs.PartLimits.{part-printed}

module _ (code : Bytes) (entry : ℕ) (g : GraphOf) (f : ForestOf) (parts : List Part) (graph : IsGraphOf false code entry g) (forest : IsForestOf g f)
    (order : AreParts (flow_of g f (alone g parts)) (number_of f) parts) where
  -- the group has a text
  pub is-group : (name : List ℕ) (ranges : List Range) → IsName name → AreRanges ranges → AllByRecursion (λ r. AllByRecursion (λ b. b < 256) r.bytes) ranges → IsGroup (group_of (flow_of g f (alone g parts)) name ranges parts)
  is-group name ranges named are bytes = record {
    name = named;
    registers = registers-rise g.instrs;
    memories = (omega arith, one (list_any has_memory g.instrs));
    code = are;
    bytes = bytes;
    defs = all parts;
    some = (let last = last-is false code entry g f (alone g parts) graph forest order in let long = length-map (part_def (flow_of g f (alone g parts))) parts in omega (arith, last, long));
    few = (let fit = parts-fit false code entry g f (alone g parts) graph forest order in let long = length-map (part_def (flow_of g f (alone g parts))) parts in omega (arith, fit, long));
  }
    where
      one : (b : Bool) → cond b 1 0 ≤ 1
      one true = omega arith
      one false = omega arith

      all : (ps : List Part) → AllByRecursion IsDef (map (part_def (flow_of g f (alone g parts))) ps)
      all [] = tt
      all (p ∷ ps) = (part-printed (flow_of g f (alone g parts)) (small-alone code entry g f parts graph forest order) p, all ps)

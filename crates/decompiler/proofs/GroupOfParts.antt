-- A group that is made of a graph's parts in order has a definition for each part.
use Rattle.std.proofs.Common.{◌≡◌, ℕ, ◌+◌, false, None, List, length, sym, ap, ◌∙◌, zero-add}
use Rattle.std.specs.Prelude.{slice_get}
use Rattle.std.proofs.lemmas.List.{length-map}
use Rattle.rv_words.specs.Bytes.{AreBytes}
use Rattle.rv_words.specs.declared.range.Range.{Range}
use Rattle.rv_words.specs.Ranges.{range_bytes}
use Rattle.elf_image.specs.Image.{code_of_file}
use Rattle.sep_assert.specs.Code.{IsWithin}
use Rattle.flow_graph.specs.Graph.{GraphOf, IsGraphOf}
use Rattle.loop_forest.specs.Forest.{ForestOf, IsForestOf, number_of}
use Rattle.tailrec_lang.specs.Tree.{DefTree, GroupTree}
use Rattle.code_parts.specs.declared.part.Part.{Part}
use Rattle.code_parts.specs.declared.part.Part.TheVariants.{Rest}
use Rattle.code_parts.specs.Bodies.{Flow, part_def}
use Rattle.code_parts.specs.Graph.{IsPart, IsMade}
use Rattle.code_parts.specs.Flows.{HaveCode, alone, flow_of, group_of, place_in}
use Rattle.code_parts.specs.Order.{AreParts}
use Rattle.code_parts.proofs.FlowEntry.{last-is, whole-is}
use Rattle.code_parts.proofs.FlowGraph.{is-graph}
use Rattle.code_parts.proofs.FlowMade.{is-alone, is-made}
use Rattle.code_parts.proofs.Lists.{slice-mapped}
use Rattle.claims.specs.Exact.{FirstReturns}
use Rattle.decompiler.specs.Parts.{HasParts}
use Rattle.decompiler.proofs.Counts.{Returning}
use Rattle.decompiler.proofs.Runs.{gains}

-- the group of a graph whose last part is the rest of the whole function from the entry on
pub has-parts : (f : Flow) (g : GroupTree) (parts : List Part) (entry : ℕ) → IsMade f g parts → IsPart f (Rest None entry) → length parts ≡ f.number (Rest None entry) + 1 → HasParts f entry g
has-parts f g parts entry made whole last = record {
  regs = made.regs;
  mems = made.mems;
  defs = λ p there. ap (λ ds. slice_get ds (f.number p)) made.defs ∙ slice-mapped (part_def f) parts (f.number p) p (made.listed p there);
  whole = whole;
  last = ap (λ (ds : List DefTree). length ds) made.defs ∙ length-map parts (part_def f) ∙ last;
}

-- what is made of a function of a file loses nothing, and counts steps
pub flow-gains : (file : List ℕ) (entry : ℕ) (g : GraphOf) (f : ForestOf) (parts : List Part) (name : List ℕ) (ranges : List Range) → IsGraphOf false (code_of_file file) entry g → IsForestOf g f → AreBytes (code_of_file file) →
    HaveCode g (code_of_file file) ranges → AreParts (flow_of g f (alone g parts)) (number_of f) parts → IsWithin (range_bytes ranges) (code_of_file file) → Returning FirstReturns file (group_of (flow_of g f (alone g parts)) name ranges parts)
flow-gains file entry g f parts name ranges graph forest bytes have order within =
    let code = code_of_file file in
    let made = is-made code entry g f parts name ranges graph forest bytes have order in
    gains file (group_of (flow_of g f (alone g parts)) name ranges parts) (flow_of g f (alone g parts)) g.entry (is-graph false code entry g f (alone g parts) graph forest) made.code (is-alone code entry g f parts graph)
    (has-parts (flow_of g f (alone g parts)) (group_of (flow_of g f (alone g parts)) name ranges parts) parts g.entry made (whole-is false code entry g f (alone g parts) graph forest order) (last-is false code entry g f (alone g parts) graph forest order ∙ ap (λ k. k + 1) (sym (zero-add (place_in parts (Rest None g.entry)))))) within

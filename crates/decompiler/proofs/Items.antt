-- The item of a name: what the group and the lines of a function are for its file.
use Rattle.std.proofs.Common.{◌≡◌, ℕ, ◌-◌, List, [], ◌∷◌, map, length, Ok, refl, sym, subst, ◌∙◌, arith, false, zero-add}
use Rattle.rv_words.specs.Bytes.{AreBytes}
use Rattle.rv_words.specs.declared.range.Range.{Range}
use Rattle.rv_words.specs.Ranges.{range_bytes}
use Rattle.sep_assert.specs.Code.{IsWithin}
use Rattle.elf_image.specs.Image.{code_of_file}
use Rattle.tailrec_lang.specs.Tree.{GroupTree, group_tree}
use Rattle.group_text.specs.Limits.{IsGroup, IsName}
use Rattle.proof_text.specs.Line.{LineTree, line_tree}
use Rattle.verdicts.specs.Accepts.{IsAccepted}
use Rattle.verdicts.specs.Instance.{no_rule}
use Rattle.verdicts.proofs.WholeLemmas.{accepted-by}
use Rattle.claims.specs.Exact.{FirstReturns}
use Rattle.claims.specs.Turns.{InFirstMemory}
use Rattle.decompiler.proofs.Counts.{Returning, counts-of, exact-of}
use Rattle.decompiler.proofs.GroupOfParts.{flow-gains}
use Rattle.flow_graph.specs.Graph.{GraphOf, IsGraphOf}
use Rattle.loop_forest.specs.Forest.{ForestOf, IsForestOf, number_of}
use Rattle.code_parts.specs.declared.part.Part.{Part}
use Rattle.path_walk.specs.declared.item.Item.{Item}
use Rattle.code_parts.specs.Bodies.{part_def}
use Rattle.code_parts.specs.Flows.{AreCodeOf, HaveCode, alone, flow_of, group_of}
use Rattle.code_parts.specs.Flows as flows
use Rattle.path_walk.specs.Closed.{AreClosedBy}
use Rattle.code_parts.specs.Graph.{IsMade}
use Rattle.code_parts.specs.Members.{Member}
use Rattle.path_walk.specs.Item.{IsItemOf}
use Rattle.code_parts.specs.Order.{AreParts}
use Rattle.code_parts.proofs.CodeOf.{have_code}
use Rattle.code_parts.proofs.GraphCode.{code_in}
use Rattle.code_parts.proofs.FlowEntry.{last-is, lists-entry}
use Rattle.code_parts.proofs.FlowGraph.{is-graph}
use Rattle.code_parts.proofs.FlowMade.{is-made}
use Rattle.path_walk.proofs.Texts.{is-group}
use Rattle.code_parts.proofs.Groups.{group-formed}
use Rattle.code_parts.proofs.Lists.{length-map}
use Rattle.decompiler.specs.Names.{StandsFor}
use Rattle.decompiler.specs.Listing.{AreDefsOf, IsItemFor, Lists, alone_form}
use Rattle.decompiler.proofs.CodeListed.{bytes_are, memory_is, ranges_small, registers_are}
use Rattle.decompiler.proofs.Definitions.{defs-of-one, defs_alone, entry-alone}
use Rattle.decompiler.proofs.Fragment.{alone-inside, none-first}
use Rattle.decompiler.proofs.PartsListed.{defs_are}

module _ (file name : List ℕ) (e : ℕ) (g : GraphOf) (f : ForestOf) (bytes : AreBytes (code_of_file file)) (graph : IsGraphOf false (code_of_file file) e g) (forest : IsForestOf g f)
    (parts : List Part) (order : AreParts (flow_of g f (alone g parts)) (number_of f) parts) (ranges : List Range) (whole : AreCodeOf g ranges)
  where
    abbrev the_group : GroupTree
    the_group = group_of (flow_of g f (alone g parts)) name ranges parts

    reached : flows.IsReached false g
    reached = record { code = code_of_file file; entry = e; bytes = bytes; is = graph }

    have : HaveCode g (code_of_file file) ranges
    have = have_code false g (record { code = code_of_file file; entry = e; bytes = bytes; is = graph }) ranges whole

    within : IsWithin (range_bytes ranges) (code_of_file file)
    within = code_in false g (record { code = code_of_file file; entry = e; bytes = bytes; is = graph }) ranges whole

    made : IsMade (flow_of g f (alone g parts)) (group_of (flow_of g f (alone g parts)) name ranges parts) parts
    made = is-made (code_of_file file) e g f parts name ranges graph forest bytes have order

    abbrev pub the_functions : List Member
    the_functions = record { at = e; graph = g; forest = f; context = alone g parts } ∷ []

    pub lists_it : Lists alone_form (code_of_file file) e the_functions name (group_of (flow_of g f (alone g parts)) name ranges parts)
    lists_it = record {
      named = refl;
      entry = lists-entry false (code_of_file file) e g f (alone g parts) graph forest order name ranges;
      bytes = bytes_are false g (record { code = code_of_file file; entry = e; bytes = bytes; is = graph }) ranges whole;
      registers = registers_are false g (record { code = code_of_file file; entry = e; bytes = bytes; is = graph });
      memory = memory_is false g (record { code = code_of_file file; entry = e; bytes = bytes; is = graph });
      defs = defs-of-one (record { at = e; graph = g; forest = f; context = alone g parts }) (map (part_def (flow_of g f (alone g parts))) parts)
          (defs_are false g (record { code = code_of_file file; entry = e; bytes = bytes; is = graph }) f forest (alone g parts) order);
    }

    pub made_it : AreDefsOf false InFirstMemory (code_of_file file) the_functions (group_of (flow_of g f (alone g parts)) name ranges parts)
    made_it = defs_alone InFirstMemory (code_of_file file) e g f (alone g parts) (group_of (flow_of g f (alone g parts)) name ranges parts) graph forest order refl refl refl (λ n lt. refl) refl

    pub accepted_it : (lines : List LineTree) → AreClosedBy (group_of (flow_of g f (alone g parts)) name ranges parts) lines → IsAccepted file (record { group = group_of (flow_of g f (alone g parts)) name ranges parts; lines = lines })
    accepted_it lines closed =
        let last = last-is false (code_of_file file) e g f (alone g parts) graph forest order in
        let count : length (map (part_def (flow_of g f (alone g parts))) parts) ≡ length parts = length-map (part_def (flow_of g f (alone g parts))) parts in
        accepted-by no_rule file (record { group = group_of (flow_of g f (alone g parts)) name ranges parts; lines = lines })
        (group-formed (flow_of g f (alone g parts)) (group_of (flow_of g f (alone g parts)) name ranges parts) parts (is-graph false (code_of_file file) e g f (alone g parts) graph forest) made)
        closed.right (closed.closed (length (map (part_def (flow_of g f (alone g parts))) parts) - 1) (omega (arith, last, count))) within

    pub gains_it : Returning FirstReturns file (group_of (flow_of g f (alone g parts)) name ranges parts)
    gains_it = flow-gains file e g f parts name ranges graph forest bytes have order within

    pub printed_it : IsName name → IsGroup (group_of (flow_of g f (alone g parts)) name ranges parts)
    printed_it named =
        is-group (code_of_file file) e g f parts graph forest order name ranges named whole.order
        (ranges_small 0 ranges whole.order (λ a b le at. bytes a b (within a b at)))

pub item_is : (file name : List ℕ) (e : ℕ) (g : GraphOf) (f : ForestOf) (item : Item) → StandsFor file name (Ok e) → IsName name → AreBytes (code_of_file file) → IsGraphOf false (code_of_file file) e g → IsForestOf g f →
    IsItemOf g f name item → IsItemFor file name item
item_is file name e g f item stands named bytes graph forest is = record {
  entry = e;
  stands = stands;
  inside = none-first alone_form file name e stands (alone-inside (code_of_file file) e g f graph forest);
  functions = the_functions file name e g f bytes graph forest is.parts is.ordered item.group.code.ranges is.code;
  are = entry-alone e;
  reached = is.reached ∙ sym (zero-add (length g.addrs));
  lists = subst (Lists alone_form (code_of_file file) e (the_functions file name e g f bytes graph forest is.parts is.ordered item.group.code.ranges is.code) name) (sym is.group) (lists_it file name e g f bytes graph forest is.parts is.ordered item.group.code.ranges is.code);
  made = subst (AreDefsOf false InFirstMemory (code_of_file file) (the_functions file name e g f bytes graph forest is.parts is.ordered item.group.code.ranges is.code)) (sym is.group) (made_it file name e g f bytes graph forest is.parts is.ordered item.group.code.ranges is.code);
  accepted = subst (λ (t : GroupTree). IsAccepted file (record { group = t; lines = map line_tree item.lines })) (sym is.group)
      (accepted_it file name e g f bytes graph forest is.parts is.ordered item.group.code.ranges is.code (map line_tree item.lines) (subst (λ (t : GroupTree). AreClosedBy t (map line_tree item.lines)) is.group is.lines));
  exact = exact-of FirstReturns file (group_tree item.group) gains;
  steps = counts-of FirstReturns file (group_tree item.group) gains;
  text = record { group = subst IsGroup (sym is.group) (printed_it file name e g f bytes graph forest is.parts is.ordered item.group.code.ranges is.code named); lines = is.fine };
}
  where
    gains : Returning FirstReturns file (group_tree item.group)
    gains = subst (Returning FirstReturns file) (sym is.group) (gains_it file name e g f bytes graph forest is.parts is.ordered item.group.code.ranges is.code)

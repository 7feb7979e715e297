-- The item of a name: what the group with two memories and its lines are for their file.
use Rattle.std.proofs.Common.{◌≡◌, ℕ, zero, suc, ◌+◌, ◌-◌, ◌^◌, ◌<◌, inl, inr, Bool, true, false, cond, eqb, List, [], ◌∷◌, map, length, get_or, Ok, Option, None, Some, refl, sym, ap, subst, ◌∙◌, arith, zero-add}
use Rattle.std.specs.Prelude.{option_map, slice_get}
use Rattle.std.specs.List.{AllByRecursion, Contains, list_any}
use Rattle.std.proofs.lemmas.Option.{slice_get-get_or}
use Rattle.rv_words.specs.Bytes.{AreBytes, Bytes}
use Rattle.rv_words.specs.declared.range.Range.{Range}
use Rattle.rv_words.specs.Ranges.{range_bytes}
use Rattle.rv_decode.specs.declared.instruction.Instr.TheVariants as instr
use Rattle.sep_assert.specs.Code.{IsWithin}
use Rattle.elf_image.specs.Image.{code_of_file}
use Rattle.tailrec_lang.specs.Tree.{GroupTree, group_tree}
use Rattle.group_text.specs.Limits.{IsDef, IsGroupIn, IsName}
use Rattle.group_text.specs.Version.{version_4}
use Rattle.group_text.specs.declared.version.Version.TheVariants.{Four}
use Rattle.proof_text.specs.Line.{LineTree, line_tree}
use Rattle.frame_compose.specs.Rules.{IsExchanged}
use Rattle.verdicts.specs.Accepts.{IsAcceptedBy}
use Rattle.verdicts.proofs.WholeLemmas.{accepted-by}
use Rattle.flow_graph.specs.Flow.{called_by}
use Rattle.flow_graph.specs.Graph.{GraphOf, IsGraphOf}
use Rattle.flow_graph.proofs.FlowLemmas.{is_flow}
use Rattle.flow_graph.proofs.InstructionLemmas.{graph_stands}
use Rattle.flow_graph.proofs.Ways.{node_at}
use Rattle.loop_forest.specs.Forest.{ForestOf, IsForestOf, number_of}
use Rattle.code_parts.specs.declared.callee.Callee.{Callee}
use Rattle.code_parts.specs.declared.part.Part.{Part}
use Rattle.code_parts.specs.Bodies.{Flow, part_def}
use Rattle.code_parts.specs.Flows.{AreCodeOf, HaveCode, flow_of, function_at, group_of, context_of}
use Rattle.code_parts.specs.Graph.{IsMade, IsSmall}
use Rattle.code_parts.specs.Members.{AreMembers, IsMember, Member, callee_at, flow_at}
use Rattle.code_parts.specs.Order.{AreParts}
use Rattle.code_parts.proofs.CodeOf.{have_code}
use Rattle.code_parts.proofs.FlowCode.{is-code, registers-rise}
use Rattle.code_parts.proofs.FlowEntry.{last-is, lists-entry}
use Rattle.code_parts.proofs.FlowGraph.{is-graph}
use Rattle.code_parts.proofs.FlowMade.{uncalled-of}
use Rattle.code_parts.proofs.FlowSize.{is-small, parts-fit}
use Rattle.code_parts.proofs.GraphCode.{code_in}
use Rattle.code_parts.proofs.Groups.{group-formed}
use Rattle.code_parts.proofs.Lists.{in-contains, in-true, length-map, slice-mapped}
use Rattle.claims.specs.LinkExact.{FirstReturnsIn}
use Rattle.decompiler.proofs.Counts.{Returning, counts-of, exact-of}
use Rattle.decompiler.proofs.Members.{member-gains}
use Rattle.path_walk.specs.Closed.{AreClosedIn}
use Rattle.path_walk.specs.Split.{IsSplitItem, split}
use Rattle.path_walk.specs.declared.item.Item.{Item}
use Rattle.path_walk.proofs.PartLimits.{part-printed}
use Rattle.path_walk.proofs.SplitParts.{made-split, set-split}
use Rattle.decompiler.specs.Listing.{AreDefsOf, Lists}
use Rattle.decompiler.specs.Names.{StandsFor}
use Rattle.decompiler.proofs.CodeListed.{bytes_are, ranges_small, registers_are}
use Rattle.decompiler.proofs.Definitions.{defs-of-one, defs_alone, entry-alone}
use Rattle.decompiler.proofs.Fragment.{alone-inside, none-first}
use Rattle.decompiler.proofs.PartsListed.{defs_are}
use Rattle.stack_split.specs.Listing.{IsSplitItemFor, split_form}
use Rattle.stack_offsets.specs.SplitExact.{UsesSplit}
use Rattle.stack_split.specs.inner.Accesses.{AreStackAccesses}

-- ---- which memory an access has

-- where the list has exactly the stack accesses among the nodes
uses-split : (code : Bytes) (e : ℕ) (addrs second : List ℕ) → AreStackAccesses code e addrs second → (a : ℕ) → Contains addrs a → (t : Bool) → list_any (λ b. eqb b a) second ≡ t → UsesSplit code e a (cond t 1 0)
uses-split code e addrs second are a node true is = inl (refl, ((are a).0 (in-contains second a is)).1)
uses-split code e addrs second are a node false is = inr (refl, λ access. let there = sym is ∙ in-true second a ((are a).1 (node, access)) in cc)

-- ---- the function in its context

abbrev function_in : ℕ → GraphOf → ForestOf → List ℕ → List Part → Member
function_in e g f second parts = record { at = e; graph = g; forest = f; context = context_of (split g second parts) }

module _ (code : Bytes) (e : ℕ) (g : GraphOf) (f : ForestOf) (second : List ℕ) (parts : List Part) (bytes : AreBytes code) (graph : IsGraphOf false code e g) (forest : IsForestOf g f)
    (order : AreParts (flow_of g f (context_of (split g second parts))) (number_of f) parts) (ranges : List Range) (whole : AreCodeOf g ranges) (name : List ℕ)
  where
    abbrev the_flow : Flow
    the_flow = flow_of g f (context_of (split g second parts))

    abbrev the_group : GroupTree
    the_group = group_of (flow_of g f (context_of (split g second parts))) name ranges parts

    have : HaveCode g code ranges
    have = have_code false g (record { code = code; entry = e; bytes = bytes; is = graph }) ranges whole

    -- it calls no function
    uncalled : (n : ℕ) → n < length g.addrs → called_by (get_or g.addrs n 0) (get_or g.instrs n instr.Ebreak) ≡ None
    uncalled n node =
        let long = (is_flow false code e g graph).as_long in
        let stands = graph_stands false code e g n (get_or g.instrs n instr.Ebreak) graph node (slice_get-get_or g.instrs n instr.Ebreak (omega (arith, node, long))) in
        uncalled-of (get_or g.addrs n 0) (get_or g.instrs n instr.Ebreak) stands.fine

    made : IsMade (flow_of g f (context_of (split g second parts))) (group_of (flow_of g f (context_of (split g second parts))) name ranges parts) parts
    made = made-split code e g f second parts graph name ranges forest (is-code false code e g f (context_of (split g second parts)) ranges graph forest bytes have (set-split g second parts)) order

    small : IsSmall (flow_of g f (context_of (split g second parts)))
    small = is-small false code e g f (context_of (split g second parts)) graph forest order (set-split g second parts) (omega arith) (omega arith) (λ n c own. called (called_by (get_or g.addrs n 0) (get_or g.instrs n instr.Ebreak)) c own)
      where
        called : (o : Option ℕ) (c : Callee) → option_map (λ a. function_at [] a) o ≡ Some c → c.def < 2 ^ 32
        called None c own = absurd (cc)
        called (Some t) c own = let same : function_at [] t ≡ c = cc in subst (λ (z : Callee). z.def < 2 ^ 32) same (omega arith)

    within : IsWithin (range_bytes ranges) code
    within = code_in false g (record { code = code; entry = e; bytes = bytes; is = graph }) ranges whole

    abbrev the_member : Member
    the_member = function_in e g f second parts

    -- the function is the one of the group
    member : AreMembers false code (the_member ∷ []) the_member the_group
    member = record {
      listed = (0, omega arith, refl);
      each = λ m c. subst (λ (m : Member). IsMember false code ranges m) (only m c) (record { graph = graph; forest = forest; order = order; fits = set-split g second parts; bytes = have });
      regs = λ m c. subst (λ (m : Member). m.context.regs ≡ the_group.regs) (only m c) refl;
      mems = λ m c. subst (λ (m : Member). m.context.mems ≡ the_group.mems) (only m c) refl;
      defs = λ m k p c. subst (λ (m : Member). slice_get m.context.parts k ≡ Some p → slice_get the_group.defs (m.context.base + k) ≡ Some (part_def (flow_at m) p)) (only m c)
          (λ at. ap (slice_get the_group.defs) (zero-add k) ∙ slice-mapped (part_def the_flow) parts k p at);
      called = λ m n t c. subst (λ (m : Member). n < length m.graph.addrs → called_by (get_or m.graph.addrs n 0) (get_or m.graph.instrs n instr.Ebreak) ≡ Some t
          → (y : Member) × Contains (the_member ∷ []) y × (m.context.functions t ≡ callee_at y)) (only m c) (λ node own. absurd (let none = sym (uncalled n node) ∙ own in cc));
      last = (let long = length-map (part_def the_flow) parts in omega (arith, long));
    }
      where
        only : (m : Member) → Contains (the_member ∷ []) m → the_member ≡ m
        only m (zero, lt, at) = at
        only m (suc k, lt, at) = absurd (omega (arith, lt))

    -- ---- what is told of the group

    pub lists-split : Lists split_form code e (the_member ∷ []) name the_group
    lists-split = record {
      named = refl;
      entry = lists-entry false code e g f (context_of (split g second parts)) graph forest order name ranges;
      bytes = bytes_are false g (record { code = code; entry = e; bytes = bytes; is = graph }) ranges whole;
      registers = registers_are false g (record { code = code; entry = e; bytes = bytes; is = graph });
      memory = refl;
      defs = defs-of-one the_member (map (part_def the_flow) parts) (defs_are false g (record { code = code; entry = e; bytes = bytes; is = graph }) f forest (context_of (split g second parts)) order);
    }

    pub printed-split : IsName name → IsGroupIn version_4 the_group
    printed-split named = record {
      name = named;
      registers = registers-rise g.instrs;
      memories = (omega arith, omega arith);
      code = whole.order;
      bytes = ranges_small 0 ranges whole.order (λ a b le at. bytes a b (within a b at));
      defs = all parts;
      some = (let last = last-is false code e g f (context_of (split g second parts)) graph forest order in let long = length-map (part_def the_flow) parts in omega (arith, last, long));
      few = (let fit = parts-fit false code e g f (context_of (split g second parts)) graph forest order in let long = length-map (part_def the_flow) parts in omega (arith, fit, long));
    }
      where
        all : (ps : List Part) → AllByRecursion IsDef (map (part_def (flow_of g f (context_of (split g second parts)))) ps)
        all [] = tt
        all (p ∷ ps) = (part-printed (flow_of g f (context_of (split g second parts))) small p, all ps)

module _ (file name : List ℕ) (e : ℕ) (g : GraphOf) (f : ForestOf) (second : List ℕ) (parts : List Part) (bytes : AreBytes (code_of_file file)) (graph : IsGraphOf false (code_of_file file) e g) (forest : IsForestOf g f)
    (order : AreParts (flow_of g f (context_of (split g second parts))) (number_of f) parts) (ranges : List Range) (whole : AreCodeOf g ranges)
  where
    pub accepted-split : (lines : List LineTree) → AreClosedIn Four (group_of (flow_of g f (context_of (split g second parts))) name ranges parts) lines
        → IsAcceptedBy IsExchanged file (record { group = group_of (flow_of g f (context_of (split g second parts))) name ranges parts; lines = lines })
    accepted-split lines closed =
        let last = last-is false (code_of_file file) e g f (context_of (split g second parts)) graph forest order in
        let count : length (map (part_def (flow_of g f (context_of (split g second parts)))) parts) ≡ length parts = length-map (part_def (flow_of g f (context_of (split g second parts)))) parts in
        accepted-by IsExchanged file (record { group = group_of (flow_of g f (context_of (split g second parts))) name ranges parts; lines = lines })
        (group-formed (flow_of g f (context_of (split g second parts))) (group_of (flow_of g f (context_of (split g second parts))) name ranges parts) parts
        (is-graph false (code_of_file file) e g f (context_of (split g second parts)) graph forest) (made (code_of_file file) e g f second parts bytes graph forest order ranges whole name))
        closed.right (closed.closed (length (map (part_def (flow_of g f (context_of (split g second parts)))) parts) - 1) (omega (arith, last, count)))
        (within (code_of_file file) e g f second parts bytes graph forest order ranges whole name)

    pub made-alone : AreStackAccesses (code_of_file file) e g.addrs second
        → AreDefsOf false (UsesSplit (code_of_file file) e) (code_of_file file) (function_in e g f second parts ∷ []) (group_of (flow_of g f (context_of (split g second parts))) name ranges parts)
    made-alone are =
        defs_alone (UsesSplit (code_of_file file) e) (code_of_file file) e g f (context_of (split g second parts)) (group_of (flow_of g f (context_of (split g second parts))) name ranges parts) graph forest order refl refl refl
        (λ n lt. uses-split (code_of_file file) e g.addrs second are (get_or g.addrs n 0) (node_at g.addrs n lt) (list_any (λ b. eqb b (get_or g.addrs n 0)) second) refl) refl

    pub gains-split : AreStackAccesses (code_of_file file) e g.addrs second → Returning (FirstReturnsIn (UsesSplit (code_of_file file) e)) file (group_of (flow_of g f (context_of (split g second parts))) name ranges parts)
    gains-split are =
        member-gains file bytes (function_in e g f second parts) (group_of (flow_of g f (context_of (split g second parts))) name ranges parts)
        (member (code_of_file file) e g f second parts bytes graph forest order ranges whole name) (UsesSplit (code_of_file file) e)
        (λ n lt. uses-split (code_of_file file) e g.addrs second are (get_or g.addrs n 0) (node_at g.addrs n lt) (list_any (λ b. eqb b (get_or g.addrs n 0)) second) refl)
        (within (code_of_file file) e g f second parts bytes graph forest order ranges whole name)

pub split-is : (file name : List ℕ) (e : ℕ) (g : GraphOf) (f : ForestOf) (second : List ℕ) (item : Item) → StandsFor file name (Ok e) → IsName name → AreBytes (code_of_file file) → IsGraphOf false (code_of_file file) e g
    → IsForestOf g f → AreStackAccesses (code_of_file file) e g.addrs second → IsSplitItem g f second name item → IsSplitItemFor file name item
split-is file name e g f second item stands named bytes graph forest are is = record {
  entry = e;
  stands = stands;
  inside = none-first split_form file name e stands (alone-inside (code_of_file file) e g f graph forest);
  functions = function_in e g f second is.parts ∷ [];
  are = entry-alone e;
  reached = is.reached ∙ sym (zero-add (length g.addrs));
  lists = subst (Lists split_form (code_of_file file) e (function_in e g f second is.parts ∷ []) name) (sym is.group) (lists-split (code_of_file file) e g f second is.parts bytes graph forest is.ordered item.group.code.ranges is.code name);
  made = subst (AreDefsOf false (UsesSplit (code_of_file file) e) (code_of_file file) (function_in e g f second is.parts ∷ [])) (sym is.group) (made-alone file name e g f second is.parts bytes graph forest is.ordered item.group.code.ranges is.code are);
  accepted = subst (λ (t : GroupTree). IsAcceptedBy IsExchanged file (record { group = t; lines = map line_tree item.lines })) (sym is.group)
      (accepted-split file name e g f second is.parts bytes graph forest is.ordered item.group.code.ranges is.code (map line_tree item.lines) (subst (λ (t : GroupTree). AreClosedIn Four t (map line_tree item.lines)) is.group is.lines));
  exact = exact-of (FirstReturnsIn (UsesSplit (code_of_file file) e)) file (group_tree item.group) gains;
  steps = counts-of (FirstReturnsIn (UsesSplit (code_of_file file) e)) file (group_tree item.group) gains;
  text = record { group = subst (IsGroupIn version_4) (sym is.group) (printed-split (code_of_file file) e g f second is.parts bytes graph forest is.ordered item.group.code.ranges is.code name named); lines = is.fine };
}
  where
    gains : Returning (FirstReturnsIn (UsesSplit (code_of_file file) e)) file (group_tree item.group)
    gains = subst (Returning (FirstReturnsIn (UsesSplit (code_of_file file) e)) file) (sym is.group)
        (gains-split file name e g f second is.parts bytes graph forest is.ordered item.group.code.ranges is.code are)

-- The item of a name, of all functions that calls lead to from its address.
use Rattle.std.proofs.Common.{◌≡◌, ℕ, suc, ◌-◌, ◌≤◌, Bool, true, false, cond, List, [], ◌∷◌, ◌++◌, map, length, get_or, Ok, refl, sym, arith, subst, ◌∙◌}
use Rattle.std.specs.List.{AllByRecursion, Contains}
use Rattle.rv_words.specs.Bytes.{AreBytes, Bytes}
use Rattle.elf_image.specs.Image.{code_of_file}
use Rattle.tailrec_lang.specs.Registers.{AreRegistersFrom}
use Rattle.tailrec_lang.specs.Tree.{DefTree, GroupTree, group_tree}
use Rattle.group_text.specs.Limits.{IsDef, IsGroupIn, IsName}
use Rattle.group_text.specs.Version.{version_3}
use Rattle.proof_text.specs.Line.{LineTree, line_tree}
use Rattle.frame_compose.specs.Rules.{IsSteered}
use Rattle.verdicts.specs.Accepts.{IsAcceptedBy}
use Rattle.verdicts.proofs.WholeLemmas.{accepted-by}
use Rattle.claims.specs.Turns.{InFirstMemory, RunsBack}
use Rattle.decompiler.proofs.Counts.{Returning, counts-of, exact-of}
use Rattle.decompiler.proofs.Members.{members-gain}
use Rattle.code_parts.specs.Causes.{IsCallGraphFault}
use Rattle.code_parts.specs.Functions.{AreFunctions}
use Rattle.code_parts.specs.declared.call_fault.CallGraphFault.{CallGraphFault}
use Rattle.code_parts.specs.declared.call_fault.CallGraphFault.TheVariants as graph
use Rattle.code_parts.proofs.OneAnswer.{no_cause}
use Rattle.code_parts.specs.Bodies.{part_def}
use Rattle.code_parts.specs.declared.part.Part.{Part}
use Rattle.code_parts.specs.Graph.{IsSmall}
use Rattle.code_parts.specs.Members.{Member, defs_of, flow_at}
use Rattle.code_parts.specs.Groups.{IsLinkedGroup, functions_of, group_in, load_or_store, member_in, members_of}
use Rattle.code_parts.specs.declared.linked.LinkedFunction.{LinkedFunction}
use Rattle.code_parts.specs.declared.linked.LinkedGroup.{LinkedGroup}
use Rattle.code_parts.proofs.ListItems.{out-map}
use Rattle.code_parts.proofs.LinkedContexts.{small-of, within-code}
use Rattle.code_parts.proofs.Together.{defs-few, defs-some, formed, members-are}
use Rattle.path_walk.specs.declared.item.Item.{Item}
use Rattle.path_walk.specs.Closed.{AreClosedIn}
use Rattle.path_walk.specs.Linked.{IsLinkedItem}
use Rattle.path_walk.proofs.PartLimits.{part-printed}
use Rattle.decompiler.specs.Listing.{AreDefsOf, Lists}
use Rattle.decompiler.specs.Names.{StandsFor}
use Rattle.decompiler.specs.inner.Functions.{IsRefusedAt}
use Rattle.decompiler.proofs.CodeListed.{ranges_small}
use Rattle.decompiler.proofs.Fragment.{none-first}
use Rattle.call_link.specs.Listing.{IsLinkedItemFor, linked_form}
use Rattle.call_link.proofs.InFunctions.{defs-made, entries-listed, lists-linked, sizes-listed}
use Rattle.group_text.specs.declared.version.Version.TheVariants.{Three}

-- what has no linked functions is refused
pub refused-linked : (code : Bytes) (e : ℕ) (why : CallGraphFault) → IsCallGraphFault code e why → IsRefusedAt linked_form code e why
refused-linked code e (graph.Refused why) h = h
refused-linked code e graph.NoMemory h = tt

-- ---- the item

defs-printed : (s : LinkedGroup) (fs : List LinkedFunction) → ((f : LinkedFunction) → Contains fs f → IsSmall (flow_at (member_in s f))) → AllByRecursion IsDef (defs_of (map (member_in s) fs))
defs-printed s [] small = tt
defs-printed s (f ∷ fs) small = append (map (part_def (flow_at (member_in s f))) f.parts) (defs_of (map (member_in s) fs)) (own f.parts) (defs-printed s fs (λ g c. small g (suc c.0, (let lt = c.1 in omega (arith, lt)), c.2)))
  where
    own : (ps : List Part) → AllByRecursion IsDef (map (part_def (flow_at (member_in s f))) ps)
    own [] = tt
    own (p ∷ ps) = (part-printed (flow_at (member_in s f)) (small f (0, omega arith, refl)) p, own ps)

    append : (xs ys : List DefTree) → AllByRecursion IsDef xs → AllByRecursion IsDef ys → AllByRecursion IsDef (xs ++ ys)
    append [] ys a b = b
    append (x ∷ xs) ys a b = (a.0, append xs ys a.1 b)

module _ (file name : List ℕ) (e : ℕ) (bytes : AreBytes (code_of_file file)) (s : LinkedGroup) (are : AreFunctions (code_of_file file) e (functions_of s)) (is : IsLinkedGroup s) where
  pub accepted-linked : (lines : List LineTree) → AreClosedIn Three (group_in s name) lines → IsAcceptedBy IsSteered file (record { group = group_in s name; lines = lines })
  accepted-linked lines closed =
      let some = defs-some (code_of_file file) e bytes s are is name in
      accepted-by IsSteered file (record { group = group_in s name; lines = lines }) (formed (code_of_file file) e bytes s are is name) closed.right
      (closed.closed (length (defs_of (members_of s)) - 1) (omega (arith, some))) (within-code (code_of_file file) e bytes s are is)

  pub gains-linked : Returning (RunsBack InFirstMemory) file (group_in s name)
  gains-linked =
      let all = members-are (code_of_file file) e bytes s are is name in
      members-gain true file bytes (members_of s) all.0 (group_in s name) all.2 InFirstMemory
      (λ m n c lt. let r = out-map (member_in s) s.functions m c in subst (λ (z : Member). z.context.uses (get_or z.graph.addrs n 0) ≡ 0) r.2 refl)
      (within-code (code_of_file file) e bytes s are is)

  pub printed-linked : IsName name → IsGroupIn version_3 (group_in s name)
  printed-linked named =
      let all = members-are (code_of_file file) e bytes s are is name in
      record {
        name = named;
        registers = subst (λ (rs : List ℕ). AreRegistersFrom 1 rs) (all.2.regs all.0 all.2.listed) (all.2.each all.0 all.2.listed).fits.rise;
        memories = (omega arith, one (load_or_store (functions_of s)) is.mems);
        code = is.code.order;
        bytes = ranges_small 0 s.code.ranges is.code.order (λ a b le at. bytes a b (within-code (code_of_file file) e bytes s are is a b at));
        defs = defs-printed s s.functions (small-of (code_of_file file) e bytes s are is);
        some = defs-some (code_of_file file) e bytes s are is name;
        few = (let few = defs-few (code_of_file file) e bytes s are is name in omega (arith, few));
      }
    where
      one : (t : Bool) → s.mems ≡ cond t 1 0 → s.mems ≤ 1
      one true m = omega (arith, m)
      one false m = omega (arith, m)

pub linked-is : (file name : List ℕ) (e : ℕ) (s : LinkedGroup) (item : Item) → StandsFor file name (Ok e) → IsName name → AreBytes (code_of_file file) → AreFunctions (code_of_file file) e (functions_of s) → IsLinkedGroup s → IsLinkedItem s name item
    → IsLinkedItemFor file name item
linked-is file name e s item stands named bytes are group is = record {
  entry = e;
  stands = stands;
  inside = none-first linked_form file name e stands (λ why cause. no_cause (code_of_file file) e (functions_of s) why are cause);
  functions = members_of s;
  are = entries-listed (code_of_file file) e bytes s are group;
  reached = is.reached ∙ sizes-listed (code_of_file file) e bytes s are group;
  lists = subst (Lists linked_form (code_of_file file) e (members_of s) name) (sym is.group) (lists-linked (code_of_file file) e bytes s are group name);
  made = subst (AreDefsOf true InFirstMemory (code_of_file file) (members_of s)) (sym is.group) (defs-made (code_of_file file) e bytes s are group name);
  accepted = subst (λ (t : GroupTree). IsAcceptedBy IsSteered file (record { group = t; lines = map line_tree item.lines })) (sym is.group)
      (accepted-linked file name e bytes s are group (map line_tree item.lines) (subst (λ (t : GroupTree). AreClosedIn Three t (map line_tree item.lines)) is.group is.lines));
  exact = exact-of (RunsBack InFirstMemory) file (group_tree item.group) gains;
  steps = counts-of (RunsBack InFirstMemory) file (group_tree item.group) gains;
  text = record { group = subst (IsGroupIn version_3) (sym is.group) (printed-linked file name e bytes s are group named); lines = is.fine };
}
  where
    gains : Returning (RunsBack InFirstMemory) file (group_tree item.group)
    gains = subst (Returning (RunsBack InFirstMemory) file) (sym is.group) (gains-linked file name e bytes s are group)

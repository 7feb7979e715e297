-- What a group of linked functions lists.
use Rattle.std.proofs.Common.{◌≡◌, ℕ, suc, ◌+◌, ◌≤◌, Bool, true, false, ◌||◌, List, [], ◌∷◌, ◌++◌, map, length, get_or, refl, sym, ap, arith, subst, Some, ◌-◌, ◌∙◌}
use Rattle.std.specs.Prelude.{◌↔◌}
use Rattle.std.specs.List.{AllZip, Contains, flat_map, list_any, sum_by}
use Rattle.std.proofs.lemmas.List.Sums.{sum_by-cons}
use Rattle.rv_words.specs.Bytes.{AreBytes, Bytes}
use Rattle.rv_words.specs.Ranges.{range_bytes}
use Rattle.rv_decode.specs.declared.instruction.Instr.{Instr}
use Rattle.tailrec_lang.specs.Tree.{DefTree}
use Rattle.instr_axioms.specs.Axiom.{is_own}
use Rattle.instr_axioms.specs.Terms.{has_memory}
use Rattle.flow_graph.specs.Flow.{Next}
use Rattle.flow_graph.specs.Walks.{Reaches}
use Rattle.loop_forest.specs.Forest.{number_of}
use Rattle.code_parts.specs.Calls.{CallsTo}
use Rattle.code_parts.specs.Functions.{AreFunctions, entries_of, size_of}
use Rattle.code_parts.specs.declared.linked_function.Function.{Function}
use Rattle.code_parts.specs.declared.callee.Callee.{Callee}
use Rattle.code_parts.specs.Bodies.{part_def}
use Rattle.code_parts.specs.Flows.{HaveCode, context_of}
use Rattle.code_parts.specs.Members.{Member, defs_of, flow_at}
use Rattle.code_parts.proofs.CodeOf.{have_bytes}
use Rattle.code_parts.proofs.Lists.{length-map}
use Rattle.code_parts.specs.Groups.{AreSomeFunctions, IsLinkedGroup, functions_of, group_in, is_register_of, load_or_store, member_in, members_of, context_in}
use Rattle.code_parts.specs.declared.linked.LinkedFunction.{LinkedFunction}
use Rattle.code_parts.specs.declared.linked.LinkedGroup.{LinkedGroup}
use Rattle.code_parts.proofs.Joining.{reached-by}
use Rattle.code_parts.proofs.ListItems.{any-of, in-map, out-map}
use Rattle.code_parts.proofs.LinkedContexts.{order-of, reached-of, linked-of, within-code}
use Rattle.code_parts.proofs.Together.{entered-at-entry, members-are}
use Rattle.decompiler.specs.Listing.{AreDefsOf, AreEntries, HasDefs, HasMemory, HaveDefs, IsCodeIn, IsInstructionIn, IsMemberOf, IsUsedIn, Lists, UsesMemoryIn}
use Rattle.decompiler.proofs.CodeListed.{access_back, access_there, byte_back, byte_there, memory_by, registers_by, used_back, used_there}
use Rattle.decompiler.proofs.Definitions.{parts-once}
use Rattle.decompiler.proofs.PartsListed.{defs_are}
use Rattle.call_link.specs.Listing.{IsLinkedCode, linked_form}
use Rattle.claims.specs.Turns.{InFirstMemory}

any-in : {A : Type 0} (p : A → Bool) (xs : List A) → list_any p xs ≡ true → (x : A) × Contains xs x × (p x ≡ true)
any-in p [] e = absurd (cc)
any-in p (x ∷ xs) e = go (p x) refl e (λ h. any-in p xs h)
  where
    go : (b : Bool) → p x ≡ b → (b || list_any p xs) ≡ true → (list_any p xs ≡ true → (y : _) × Contains xs y × (p y ≡ true)) → (y : _) × Contains (x ∷ xs) y × (p y ≡ true)
    go true is e on = (x, (0, omega arith, refl), is)
    go false is e on = let r = on e in (r.0, (suc r.1.0, (let lt = r.1.1 in omega (arith, lt)), r.1.2), r.2)

-- ---- among more addresses

code-in : (code : Bytes) (In Out : ℕ → Type 0) → ((x : ℕ) → In x → Out x) → (a : ℕ) → IsCodeIn code In a → IsCodeIn code Out a
code-in code In Out on a c = record { from = c.from; place = c.place; reached = on c.from c.reached; within = c.within; is = c.is }

instruction-in : (code : Bytes) (In Out : ℕ → Type 0) → ((x : ℕ) → In x → Out x) → (i : Instr) → IsInstructionIn true code In i → IsInstructionIn true code Out i
instruction-in code In Out on i c = record { at = c.at; reached = on c.at c.reached; is = c.is }

module _ (code : Bytes) (e : ℕ) (bytes : AreBytes code) (s : LinkedGroup) (are : AreFunctions code e (functions_of s)) (is : IsLinkedGroup s) where
  abbrev pub some_functions : AreSomeFunctions (functions_of s)
  some_functions = record { code = code; entry = e; bytes = bytes; are = are }

  abbrev Own : Function → ℕ → Type 0
  Own f = Reaches (Next true code) f.entry

  -- what one of the functions reaches
  inside : (f : Function) → Contains (functions_of s) f → (x : ℕ) → Reaches (Next true code) f.entry x → IsLinkedCode code e x
  inside f c x r = (f.entry, are.functions.reached f.entry (in-map (λ z. z.entry) (functions_of s) f c), r)

  -- .. and which reaches it
  pub record IsReachedIn (x : ℕ) : Type 0 where
    pub function : Function
    pub listed : Contains (functions_of s) function
    pub reaches : Reaches (Next true code) function.entry x

  outside : (x : ℕ) → IsLinkedCode code e x → IsReachedIn x
  outside x (f, w, r) =
      let own = out-map (λ z. z.entry) (functions_of s) f (are.functions.all f w) in
      record { function = own.0; listed = own.1; reaches = subst (λ (z : ℕ). Reaches (Next true code) z x) (sym own.2) r }

  have-code : (f : Function) → (c : Contains (functions_of s) f) → HaveCode f.graph code s.code.ranges
  have-code f c = have_bytes true f.graph (reached-by (functions_of s) (some_functions) f c) s.code.ranges (record { order = is.code.order; each = λ n lt. is.code.each f n c lt })

  pub bytes-listed : (a b : ℕ) → (range_bytes s.code.ranges a ≡ Some b) ↔ (IsCodeIn code (IsLinkedCode code e) a × (code a ≡ Some b))
  bytes-listed a b = (
    λ h.
        let at = is.code.only a b h in
        (code-in code (Reaches (Next true code) at.0.entry) (IsLinkedCode code e) (inside at.0 at.1) a (byte_there true at.0.graph (reached-by (functions_of s) (some_functions) at.0 at.1) a b at.2.0 at.2.1 at.2.2), within-code code e bytes s are is a b h),
    λ h.
        let c = h.0 in
        let r = outside c.from c.reached in
        byte_back true r.function.graph (reached-by (functions_of s) (some_functions) r.function r.listed) s.code.ranges (have-code r.function r.listed) a b
        (record { from = c.from; place = c.place; reached = r.reaches; within = c.within; is = c.is }) h.1,
  )

  pub registers-listed : (r : ℕ) → Contains s.regs r ↔ ((1 ≤ r) × (r ≤ 31) × IsUsedIn true code (IsLinkedCode code e) r)
  registers-listed r = subst (λ (rs : List ℕ). Contains rs r ↔ ((1 ≤ r) × (r ≤ 31) × IsUsedIn true code (IsLinkedCode code e) r)) (sym is.regs) (registers_by (is_register_of (functions_of s)) r (IsUsedIn true code (IsLinkedCode code e) r) there back)
    where
      there : is_register_of (functions_of s) r ≡ true → IsUsedIn true code (IsLinkedCode code e) r
      there h =
          let at = any-in (λ f. list_any (λ i. is_own i r) f.graph.instrs) (functions_of s) h in
          let used = used_there true at.0.graph (reached-by (functions_of s) (some_functions) at.0 at.1) r at.2 in
          record { instr = used.instr; reached = instruction-in code (Reaches (Next true code) at.0.entry) (IsLinkedCode code e) (inside at.0 at.1) used.instr used.reached; stands = used.stands }

      back : IsUsedIn true code (IsLinkedCode code e) r → is_register_of (functions_of s) r ≡ true
      back u =
          let own = outside u.reached.at u.reached.reached in
          any-of (λ f. list_any (λ i. is_own i r) f.graph.instrs) (functions_of s) own.function own.listed
          (used_back true own.function.graph (reached-by (functions_of s) (some_functions) own.function own.listed) r
          (record { instr = u.instr; reached = record { at = u.reached.at; reached = own.reaches; is = u.reached.is }; stands = u.stands }))

  pub memory-listed : HasMemory (UsesMemoryIn true code (IsLinkedCode code e)) s.mems
  memory-listed =
      subst (HasMemory (UsesMemoryIn true code (IsLinkedCode code e))) (sym is.mems)
      (memory_by (load_or_store (functions_of s)) (UsesMemoryIn true code (IsLinkedCode code e)) there back)
    where
      there : load_or_store (functions_of s) ≡ true → UsesMemoryIn true code (IsLinkedCode code e)
      there h =
          let at = any-in (λ f. list_any has_memory f.graph.instrs) (functions_of s) h in
          let used = access_there true at.0.graph (reached-by (functions_of s) (some_functions) at.0 at.1) at.2 in
          record { instr = used.instr; reached = instruction-in code (Reaches (Next true code) at.0.entry) (IsLinkedCode code e) (inside at.0 at.1) used.instr used.reached; uses = used.uses }

      back : UsesMemoryIn true code (IsLinkedCode code e) → load_or_store (functions_of s) ≡ true
      back u =
          let own = outside u.reached.at u.reached.reached in
          any-of (λ f. list_any has_memory f.graph.instrs) (functions_of s) own.function own.listed
          (access_back true own.function.graph (reached-by (functions_of s) (some_functions) own.function own.listed)
          (record { instr = u.instr; reached = record { at = u.reached.at; reached = own.reaches; is = u.reached.is }; uses = u.uses }))

  -- ---- definitions

  abbrev row_of : LinkedFunction → List DefTree
  row_of f = map (part_def (flow_at (member_in s f))) f.parts

  rows-each : (fs : List LinkedFunction) → ((f : LinkedFunction) → Contains fs f → HasDefs f.function.now.graph (row_of f)) → AllZip (λ (m : Member) (row : List DefTree). HasDefs m.graph row) (map (member_in s) fs) (map row_of fs)
  rows-each [] each = tt
  rows-each (f ∷ fs) each = (each f (0, omega arith, refl), rows-each fs (λ g c. each g (suc c.0, (let lt = c.1 in omega (arith, lt)), c.2)))

  rows-all : (fs : List LinkedFunction) → defs_of (map (member_in s) fs) ≡ flat_map (λ (row : List DefTree). row) (map row_of fs)
  rows-all [] = refl
  rows-all (f ∷ fs) = ap (λ (ds : List DefTree). row_of f ++ ds) (rows-all fs)

  pub defs-listed : HaveDefs (members_of s) (defs_of (members_of s))
  defs-listed = record {
    rows = map row_of s.functions;
    each = rows-each s.functions (λ f c. defs_are true f.function.now.graph (reached-of code e bytes s are is f c) f.function.now.forest (linked-of code e bytes s are is f c).forest (context_of (context_in s f)) (order-of code e bytes s are is f c));
    all = rows-all s.functions;
  }

  pub lists-linked : (name : List ℕ) → Lists linked_form code e (members_of s) name (group_in s name)
  lists-linked name = record {
    named = refl;
    entry = entered-at-entry code e bytes s are is name;
    bytes = bytes-listed;
    registers = registers-listed;
    memory = memory-listed;
    defs = defs-listed;
  }

  -- ---- each function by its entry, its graph and its definitions

  entries-in : (fs : List LinkedFunction) → map (λ (m : Member). m.at) (map (member_in s) fs) ≡ entries_of (map (λ f. f.function.now) fs)
  entries-in [] = refl
  entries-in (f ∷ fs) = ap (λ (xs : List ℕ). f.function.now.entry ∷ xs) (entries-in fs)

  pub entries-listed : AreEntries (CallsTo code) e (map (λ (m : Member). m.at) (members_of s))
  entries-listed = subst (AreEntries (CallsTo code) e) (sym (entries-in s.functions)) (record {
    functions = are.functions;
    before = λ j k l m calls. let long = length-map (λ (f : Function). f.entry) (functions_of s) in are.before j k (omega (arith, l, long)) (omega (arith, m, long)) calls;
    last = ap (λ (n : ℕ). get_or (entries_of (functions_of s)) (n - 1) 0) (length-map (λ (f : Function). f.entry) (functions_of s)) ∙ are.last;
  })

  sizes-in : (fs : List LinkedFunction) → sum_by size_of (map (λ f. f.function.now) fs) ≡ sum_by (λ (m : Member). length m.graph.addrs) (map (member_in s) fs)
  sizes-in [] = refl
  sizes-in (f ∷ fs) =
      sum_by-cons size_of f.function.now (map (λ (f : LinkedFunction). f.function.now) fs) ∙ ap (λ (n : ℕ). length f.function.now.graph.addrs + n) (sizes-in fs)
      ∙ sym (sum_by-cons (λ (m : Member). length m.graph.addrs) (member_in s f) (map (member_in s) fs))

  pub sizes-listed : sum_by size_of (functions_of s) ≡ sum_by (λ (m : Member). length m.graph.addrs) (members_of s)
  sizes-listed = sizes-in s.functions

  member-listed : (name : List ℕ) (f : LinkedFunction) → Contains s.functions f → IsMemberOf true InFirstMemory code (group_in s name) (member_in s f)
  member-listed name f c =
      let linked = linked-of code e bytes s are is f c in
      let order = order-of code e bytes s are is f c in
      record {
        graph = linked.graph;
        forest = linked.forest;
        parts = order.all;
        once = parts-once (flow_at (member_in s f)) (number_of f.function.now.forest) f.parts order;
        regs = refl;
        mems = refl;
        uses = λ n lt. refl;
      }

  pub defs-made : (name : List ℕ) → AreDefsOf true InFirstMemory code (members_of s) (group_in s name)
  defs-made name =
      let all = members-are code e bytes s are is name in
      record {
        each = λ m c. let r = out-map (member_in s) s.functions m c in subst (IsMemberOf true InFirstMemory code (group_in s name)) r.2 (member-listed name r.0 r.1);
        based = is.based;
        called = λ m n t c node calls.
            let y = all.2.called m n t c node calls in
            (y.0, y.1, ap (λ (z : Callee). z.entry) (sym y.2) ∙ (all.2.each m c).fits.functions t, y.2);
        defs = refl;
      }

-- The group of the definitions of linked functions.
use Rattle.std.proofs.Common.{◌≡◌, ◌⊎◌, ℕ, suc, ◌+◌, ◌-◌, ◌<◌, ◌≤◌, true, cond, List, [], ◌∷◌, ◌++◌, map, length, get_or, refl, sym, ap, ◌∙◌, arith, subst, Some, None, inl, inr}
use Rattle.std.specs.Prelude.{slice_get, option_map}
use Rattle.std.specs.List.{Contains}
use Rattle.std.proofs.lemmas.List.{map_push}
use Rattle.std.proofs.lemmas.List.Sums.{sum_by-cons}
use Rattle.rv_words.specs.Bytes.{AreBytes, Bytes}
use Rattle.tailrec_lang.specs.declared.group.Exit.TheVariants.{Ret}
use Rattle.tailrec_lang.specs.Tree.{DefTree, exits_at, listed_def}
use Rattle.tailrec_lang.specs.WellFormed.{DefIsWellFormed, IsWellFormed}
use Rattle.tailrec_lang.proofs.Definitions.{exits_there}
use Rattle.flow_graph.specs.Walks.{Stop}
use Rattle.flow_graph.proofs.NumberLemmas.{number_within}
use Rattle.loop_forest.specs.Forest.{number_of}
use Rattle.code_parts.specs.Functions.{AreFunctions, entries_of}
use Rattle.code_parts.specs.declared.callee.Callee.{Callee}
use Rattle.code_parts.specs.declared.part.Part.{Part}
use Rattle.code_parts.specs.declared.part.Part.TheVariants.{Rest}
use Rattle.code_parts.specs.Bodies.{Flow, part_body, part_def}
use Rattle.code_parts.specs.Graph.{CallsBelow, HasPart, IsPart}
use Rattle.code_parts.specs.Flows.{Context, place_in, context_of}
use Rattle.code_parts.specs.Members.{AreBased, AreMembers, CallsBefore, IsMember, Member, defs_of, flow_at}
use Rattle.code_parts.proofs.FlowCode.{is-code}
use Rattle.code_parts.proofs.FlowEntry.{whole-is}
use Rattle.code_parts.proofs.FlowGraph.{is-graph}
use Rattle.code_parts.proofs.FlowOrder.{calls-below, le_or, part-at, there-at}
use Rattle.code_parts.proofs.Lists.{length-map}
use Rattle.code_parts.proofs.Members.{are-members, defs-there}
use Rattle.code_parts.proofs.WellFormed.{part-formed}
use Rattle.code_parts.proofs.Calls.{IsCallee, calls-before, entry-at, flow-callee}
use Rattle.code_parts.proofs.ListItems.{contains-slice, in-map, out-map, slice-behind, slice-contains, slice-front, slice-middle, slice-unmapped, split-last}
use Rattle.code_parts.proofs.LinkedContexts.{all-low, have-of, last-of, linked-of, member-of, order-of, parts_of_all, set-of}
use Rattle.code_parts.specs.Groups.{IsLinkedGroup, called_as, functions_of, group_in, member_in, members_of, context_in}
use Rattle.code_parts.specs.declared.linked.LinkedFunction.{LinkedFunction}
use Rattle.code_parts.specs.declared.linked.LinkedGroup.{LinkedGroup}

length-append : {A : Type 0} (xs ys : List A) → length (xs ++ ys) ≡ length xs + length ys
length-append [] ys = omega arith
length-append (x ∷ xs) ys = let rest = length-append xs ys in omega (arith, rest)

defs-long : (s : LinkedGroup) (fs : List LinkedFunction) → length (defs_of (map (member_in s) fs)) ≡ parts_of_all fs
defs-long s [] = refl
defs-long s (x ∷ fs) =
    let own : List DefTree = map (part_def (flow_at (member_in s x))) x.parts in
    let both = length-append own (defs_of (map (member_in s) fs)) in
    let one = length-map (part_def (flow_at (member_in s x))) x.parts in
    let rest = defs-long s fs in
    let sum = sum_by-cons (λ (f : LinkedFunction). length f.parts) x fs in
    omega (arith, both, one, rest, sum)

-- the definition of a part of one of the functions
record IsPlacedDef (s : LinkedGroup) (fs : List LinkedFunction) (d : ℕ) (def : DefTree) : Type 0 where
  function : LinkedFunction
  listed : Contains fs function
  place : ℕ
  part : Part
  at : slice_get function.parts place ≡ Some part
  number : d ≡ function.base + place
  is : part_def (flow_at (member_in s function)) part ≡ def

placed-def : (s : LinkedGroup) (base : ℕ) (fs : List LinkedFunction) → AreBased base (map (member_in s) fs) → (d : ℕ) (def : DefTree) → slice_get (defs_of (map (member_in s) fs)) d ≡ Some def → IsPlacedDef s fs (base + d) def
placed-def s base [] based d def e = absurd (cc)
placed-def s base (x ∷ fs) based d def e = by (le_or (length own) d) (λ base based d e. placed-def s base fs based d def e)
  where
    own : List DefTree
    own = map (part_def (flow_at (member_in s x))) x.parts

    long : length own ≡ length x.parts
    long = length-map (part_def (flow_at (member_in s x))) x.parts

    rest : List DefTree
    rest = defs_of (map (member_in s) fs)

    later : IsPlacedDef s fs (base + length x.parts + (d - length own)) def → length own ≤ d → IsPlacedDef s (x ∷ fs) (base + d) def
    later r le = record {
      function = r.function;
      listed = (suc r.listed.0, (let lt = r.listed.1 in omega (arith, lt)), r.listed.2);
      place = r.place;
      part = r.part;
      at = r.at;
      number = (let n = r.number in omega (arith, n, le, long));
      is = r.is;
    }

    by : (length own ≤ d) ⊎ (d < length own) → ((base : ℕ) → AreBased base (map (member_in s) fs) → (d : ℕ) → slice_get (defs_of (map (member_in s) fs)) d ≡ Some def → IsPlacedDef s fs (base + d) def) → IsPlacedDef s (x ∷ fs) (base + d) def
    by (inl le) on =
        let there : length own + (d - length own) ≡ d = omega (arith, le) in
        later (on (base + length x.parts) based.1 (d - length own) (sym (slice-behind own rest (d - length own)) ∙ ap (slice_get (own ++ rest)) there ∙ e)) le
    by (inr lt) on =
        let p = slice-unmapped (part_def (flow_at (member_in s x))) x.parts d def (sym (slice-front own rest d lt) ∙ e) in
        record { function = x; listed = (0, omega arith, refl); place = d; part = p.0; at = p.1; number = (let b = based.0 in omega (arith, b)); is = p.2 }

module _ (code : Bytes) (e : ℕ) (bytes : AreBytes code) (s : LinkedGroup) (are : AreFunctions code e (functions_of s)) (is : IsLinkedGroup s) (name : List ℕ) where
  -- ---- the function at the entry is the last

  pub record IsSplit : Type 0 where
    pub front : List LinkedFunction
    pub last : LinkedFunction
    pub all : s.functions ≡ front ++ last ∷ []

  pub split : IsSplit
  split = go s.functions refl
    where
      some : 0 < length (entries_of (functions_of s))
      some = let c = are.functions.all e Stop in let lt = c.1 in omega (arith, lt)

      go : (fs : List LinkedFunction) → s.functions ≡ fs → IsSplit
      go [] none = absurd (let zero_long : length (entries_of (functions_of s)) ≡ 0 = ap (λ (fs : List LinkedFunction). length (entries_of (map (λ f. f.function.now) fs))) none in omega (arith, some, zero_long))
      go (x ∷ fs) all = let r = split-last x fs in record { front = r.0; last = r.1; all = all ∙ r.2 }

  main-at : slice_get s.functions (length split.front) ≡ Some split.last
  main-at = ap (λ fs. slice_get fs (length split.front)) split.all ∙ slice-middle split.front split.last []

  main-listed : Contains s.functions split.last
  main-listed = slice-contains s.functions (length split.front) split.last main-at

  main-entry : split.last.function.now.entry ≡ e
  main-entry =
      let long : length (functions_of s) - 1 ≡ length split.front =
      (let a = length-map (λ (f : LinkedFunction). f.function.now) s.functions in let b = ap (λ (fs : List LinkedFunction). length fs) split.all in let c = length-append split.front (split.last ∷ []) in omega (arith, a, b, c)) in
      sym (entry-at code e s are is (length split.front) split.last main-at) ∙ ap (λ k. get_or (entries_of (functions_of s)) k 0) (sym long) ∙ are.last

  members-split : members_of s ≡ map (member_in s) split.front ++ member_in s split.last ∷ []
  members-split = ap (map (member_in s)) split.all ∙ map_push (member_in s) split.front split.last

  -- ---- members

  by : (P : Member → Type 0) → ((f : LinkedFunction) → Contains s.functions f → P (member_in s f)) → (m : Member) → Contains (members_of s) m → P m
  by P each m c = let r = out-map (member_in s) s.functions m c in subst P r.2 (each r.0 r.1)

  pub all-members : AreMembers true code (members_of s) (member_in s split.last) (group_in s name)
  all-members =
      subst (λ (ms : List Member). AreMembers true code ms (member_in s split.last) (group_in s name)) (sym members-split)
      (are-members true code (map (member_in s) split.front) (member_in s split.last) (group_in s name) (ap defs_of members-split) (subst (AreBased 0) members-split is.based) (subst (CallsBefore []) members-split (calls-before code e s are is))
      (λ m c. by (λ m. IsMember true code s.code.ranges m × (m.context.regs ≡ s.regs) × (m.context.mems ≡ s.mems)) (λ f d. (member-of code e bytes s are is f d, refl, refl)) m (subst (λ (ms : List Member). Contains ms m) (sym members-split) c)))

  pub members-are : (m : Member) × (m.at ≡ e) × AreMembers true code (members_of s) m (group_in s name)
  members-are = (member_in s split.last, main-entry, all-members)

  main-last : length split.last.parts ≡ place_in split.last.parts (Rest None split.last.function.now.graph.entry) + 1
  main-last = last-of code e bytes s are is split.last main-listed

  pub defs-some : 1 ≤ length (group_in s name).defs
  defs-some = let last = all-members.last in let own = main-last in omega (arith, last, own)

  pub defs-few : length (group_in s name).defs ≤ 2048
  defs-few = let long = defs-long s s.functions in let low = all-low code e bytes s are is in omega (arith, long, low)

  -- each part of each function has its definition
  def-of : (f : LinkedFunction) → Contains s.functions f → (p : Part) → IsPart (flow_at (member_in s f)) p → slice_get (defs_of (members_of s)) ((flow_at (member_in s f)).number p) ≡ Some (part_def (flow_at (member_in s f)) p)
  def-of f c p there =
      defs-there [] (members_of s) 0 refl is.based (member_in s f) (in-map (member_in s) s.functions f c) (place_in f.parts p) p
      (there-at (flow_at (member_in s f)) (number_of f.function.now.forest) f.parts (order-of code e bytes s are is f c) p there)

  whole-of : (f : LinkedFunction) → Contains s.functions f → IsPart (flow_at (member_in s f)) (Rest None f.function.now.graph.entry)
  whole-of f c = whole-is true code f.function.now.entry f.function.now.graph f.function.now.forest (context_of (context_in s f)) (linked-of code e bytes s are is f c).graph (linked-of code e bytes s are is f c).forest (order-of code e bytes s are is f c)

  pub entered-at-entry : option_map (λ (d : DefTree). d.entry) (slice_get (group_in s name).defs (listed_def (group_in s name))) ≡ Some e
  entered-at-entry =
      let place : length (defs_of (members_of s)) - 1 ≡ split.last.base + place_in split.last.parts (Rest None split.last.function.now.graph.entry) = (let last = all-members.last in let own = main-last in omega (arith, last, own)) in
      let graph = (linked-of code e bytes s are is split.last main-listed).graph in
      ap (λ k. option_map (λ (d : DefTree). d.entry) (slice_get (defs_of (members_of s)) k)) place
      ∙ ap (option_map (λ (d : DefTree). d.entry)) (def-of split.last main-listed (Rest None split.last.function.now.graph.entry) (whole-of split.last main-listed))
      ∙ ap Some (ap (λ n. get_or split.last.function.now.graph.addrs n 0) graph.entry ∙ (number_within split.last.function.now.graph.addrs split.last.function.now.entry (graph.reach.all split.last.function.now.entry Stop)).1 ∙ main-entry)

  -- ---- the group is well-formed

  has-part : (f : LinkedFunction) → Contains s.functions f → (q : Part) → IsPart (flow_at (member_in s f)) q → HasPart (flow_at (member_in s f)) (group_in s name) q
  has-part f c q there = record { def = part_def (flow_at (member_in s f)) q; is = def-of f c q there; entry = refl; exits = refl }

  callee-exits : (k : ℕ) (c : Callee) → IsCallee s k c → exits_at (group_in s name) c.def ≡ cond c.returns (Ret ∷ []) []
  callee-exits k c r =
      let f : LinkedFunction = r.function in
      let there = slice-contains s.functions r.place r.function r.at in
      subst (λ (z : Callee). exits_at (group_in s name) z.def ≡ cond z.returns (Ret ∷ []) []) (sym r.called)
      (exits_there (group_in s name) (called_as r.function).def (part_def (flow_at (member_in s r.function)) (Rest None r.function.function.now.graph.entry)) (def-of r.function there (Rest None r.function.function.now.graph.entry) (whole-of r.function there)))

  formed-at : (f : LinkedFunction) (c : Contains s.functions f) (k : ℕ) (p : Part) (d : ℕ) → slice_get f.parts k ≡ Some p → d ≡ f.base + k → slice_get (group_in s name).defs d ≡ Some (part_def (flow_at (member_in s f)) p)
      → DefIsWellFormed (group_in s name) d (part_def (flow_at (member_in s f)) p)
  formed-at f c k p d at number own =
      let fl : Flow = flow_at (member_in s f) in
      let t : Context = context_of (context_in s f) in
      let graph = (linked-of code e bytes s are is f c).graph in
      let forest = (linked-of code e bytes s are is f c).forest in
      let order = order-of code e bytes s are is f c in
      let row = contains-slice s.functions f c in
      let callee = flow-callee code e bytes s are is row.0 f row.1 in
      let is_part = part-at (flow_at (member_in s f)) (number_of f.function.now.forest) f.parts order k p at in
      let placed : f.base + place_in f.parts p ≡ d = (let z = is_part.1 in omega (arith, z, number)) in
      part-formed (flow_at (member_in s f)) (group_in s name) p d refl refl (is-graph true code f.function.now.entry f.function.now.graph f.function.now.forest (context_of (context_in s f)) graph forest)
      (is-code true code f.function.now.entry f.function.now.graph f.function.now.forest (context_of (context_in s f)) s.code.ranges graph forest bytes (have-of code e bytes s are is f c) (set-of code e bytes s are is f c))
      (λ q there low. has-part f c q there) (λ n y node calls low. callee-exits row.0 y (callee n y node calls).0)
      (exits_there (group_in s name) d (part_def (flow_at (member_in s f)) p) own) is_part.0
      (subst (λ n. CallsBelow n (part_body (flow_at (member_in s f)) p)) placed
      (calls-below true code f.function.now.entry f.function.now.graph f.function.now.forest (context_of (context_in s f)) graph forest order (λ n y node calls. (callee n y node calls).1) p is_part.0))

  pub formed : IsWellFormed (group_in s name)
  formed d def own =
      let r = placed-def s 0 s.functions is.based d def own in
      let same : d ≡ r.function.base + r.place = (let n = r.number in omega (arith, n)) in
      subst (λ (x : DefTree). DefIsWellFormed (group_in s name) d x) r.is (formed-at r.function r.listed r.place r.part d r.at same (own ∙ ap Some (sym r.is)))

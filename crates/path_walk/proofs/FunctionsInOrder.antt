-- The parts of linked functions are walked through one function after the other, and then are all closed.
use Rattle.std.proofs.Common.{◌≡◌, ℕ, zero, suc, ◌+◌, ◌<◌, ◌≤◌, List, [], ◌∷◌, ◌++◌, map, length, get_or, take, Bool, true, false, cond, refl, sym, ap, subst, ◌∙◌, arith, Option, Some, None, Contains, append-nil, append_assoc, length-append}
use Rattle.std.proofs.lemmas.Option.{slice_get-get_or, slice_get_within}
use Rattle.std.specs.Prelude.{option_map, slice_get}
use Rattle.std.specs.List.{AllByRecursion, sum_by}
use Rattle.std.proofs.lemmas.List.{take_more}
use Rattle.std.proofs.lemmas.List.Sums.{sum_by-cons, sum_by_push}
use Rattle.code_parts.specs.Functions.{size_of}
use Rattle.code_parts.specs.declared.linked_function.Function.{Function}
use Rattle.rv_words.specs.Bytes.{Bytes, AreBytes}
use Rattle.rv_words.specs.declared.range.Range.{Range}
use Rattle.rv_decode.specs.declared.instruction.Instr.TheVariants as instr
use Rattle.tailrec_lang.specs.declared.group.Def.{Def}
use Rattle.tailrec_lang.specs.Tree.{DefTree, GroupTree, def_tree}
use Rattle.group_text.specs.declared.version.Version.{Version as Known}
use Rattle.group_text.specs.declared.version.Version.TheVariants.{Three}
use Rattle.group_text.specs.Version.{version_of}
use Rattle.proof_text.specs.Line.{LineTree}
use Rattle.proof_text.specs.LineLimits.{IsLineIn}
use Rattle.flow_graph.specs.Flow.{called_by}
use Rattle.flow_graph.specs.Walks.{Stop}
use Rattle.flow_graph.proofs.NumberLemmas.{number_within}
use Rattle.loop_forest.specs.Forest.{number_of}
use Rattle.code_parts.specs.declared.part.Part.{Part}
use Rattle.code_parts.specs.declared.part.Part.TheVariants.{Rest}
use Rattle.code_parts.specs.declared.callee.Callee.{Callee}
use Rattle.code_parts.specs.Bodies.{Flow, part_body, part_def}
use Rattle.code_parts.specs.Flows.{flow_of, place_in, context_of}
use Rattle.code_parts.specs.Kept.{FlowOf, flow_in}
use Rattle.code_parts.specs.Graph.{CallsBelow, HasCallee, IsCode, IsFor, IsPart}
use Rattle.code_parts.specs.Members.{AreBased, AreMembers, CallsBefore, IsMember, Member, callee_at, defs_of, flow_at}
use Rattle.code_parts.proofs.FlowCode.{is-code}
use Rattle.code_parts.proofs.FlowEntry.{whole-is}
use Rattle.code_parts.proofs.FlowOrder.{calls-below, part-at, there-at}
use Rattle.code_parts.proofs.Lists.{length-map, slice-mapped}
use Rattle.verdicts.specs.Further.{further_of}
use Rattle.path_walk.specs.Item.{IsWalkedIn}
use Rattle.code_parts.specs.Groups.{IsLinkedGroup, functions_of, group_in, load_or_store, member_in, members_of, context_in}
use Rattle.code_parts.specs.declared.linked.LinkedFunction.{LinkedFunction}
use Rattle.code_parts.specs.declared.linked.LinkedGroup.{LinkedGroup}
use Rattle.path_walk.specs.Closed.{AreClosedIn}
use Rattle.path_walk.specs.inner.LinkedWalks.{AreWalkedOf, AreWalkedTo, CanAllBeWalked, CanBeWalked, StandFrom}
use Rattle.path_walk.specs.inner.Walks.{CloseFirst}
use Rattle.path_walk.proofs.LineTexts.{all-join}
use Rattle.path_walk.proofs.PartsInOrder.{first_more}

-- ---- the parts of one function

pub none_walked_to : (version : Known) (f : Flow) (ranges : List Range) (parts : List Part) (old : List LineTree) → AreWalkedTo version f ranges parts 0 old old
none_walked_to version f ranges parts old = record {
  fine = λ fine. fine;
  close = λ g n stand code before. let same : n ≡ n + 0 = omega arith in subst (λ (k : ℕ). CloseFirst (further_of version) g k old) same before;
}

-- .. and the next part
pub walked_to_more : (version : Known) (f : Flow) (ranges : List Range) (parts : List Part) (k : ℕ) (p : Part) (old mid new : List LineTree) → slice_get parts k ≡ Some p → AreWalkedTo version f ranges parts k old mid →
    IsWalkedIn version f ranges p mid new → AreWalkedTo version f ranges parts (k + 1) old new
walked_to_more version f ranges parts k p old mid new at so_far one = record {
  fine = λ fine. subst (AllByRecursion (IsLineIn (version_of version))) (sym one.lines) (all-join (IsLineIn (version_of version)) mid one.added (so_far.fine fine) one.fine);
  close = λ g n stand code before.
      let place : n + k + 1 ≡ n + (k + 1) = omega arith in
      let number : f.number p ≡ n + k = stand.number k p at in
      subst (λ (d : ℕ). CloseFirst (further_of version) g d new) place
      (first_more version f ranges p g (n + k) mid new one number (stand.group (n + k)) code ((λ i. slice_get g.defs (number i)) ∙ stand.def k p at) (stand.below k p at) (so_far.close g n stand code before));
}

-- .. as the loop over them goes
pub walked_to_next : (version : Known) (f : Flow) (ranges : List Range) (parts : List Part) (k : ℕ) (x : Part) (old mid new : List LineTree) → k < length parts → AreWalkedTo version f ranges parts k old mid →
    IsWalkedIn version f ranges (get_or parts k x) mid new → AreWalkedTo version f ranges parts (k + 1) old new
walked_to_next version f ranges parts k x old mid new lt so_far one = walked_to_more version f ranges parts k (get_or parts k x) old mid new (slice_get-get_or parts k x lt) so_far one

map_join : {A B : Type 0} (h : A → B) (xs : List A) (x : A) → map h (xs ++ x ∷ []) ≡ map h xs ++ h x ∷ []
map_join h [] x = refl
map_join h (y ∷ xs) x = ap (λ zs. h y ∷ zs) (map_join h xs x)

one_more : {A B : Type 0} (h : A → B) (xs : List A) (n : ℕ) (x : A) → slice_get xs n ≡ Some x → map h (take (n + 1) xs) ≡ map h (take n xs) ++ h x ∷ []
one_more h [] n x e = absurd (cc)
one_more h (y ∷ ys) zero x e = let same : y ≡ x = cc in ap (λ z. h z ∷ []) same
one_more h (y ∷ ys) (suc n) x e =
    let next : suc n + 1 ≡ suc (n + 1) = omega arith in
    ap (λ k. map h (take k (y ∷ ys))) next ∙ ap (λ zs. h y ∷ zs) (one_more h ys n x e)

pub taken_at : {A : Type 0} (xs : List A) (k : ℕ) → k ≡ length xs → take k xs ≡ xs
taken_at xs k all = ap (λ n. take n xs) all ∙ whole xs
  where
    whole : {A : Type 0} (xs : List A) → take (length xs) xs ≡ xs
    whole [] = refl
    whole (x ∷ xs) = ap (λ zs. x ∷ zs) (whole xs)

-- their definitions
pub defs_next : (f : Flow) (parts : List Part) (k : ℕ) (x : Part) (old defs more : List Def) (d : Def) → k < length parts → map def_tree defs ≡ map def_tree old ++ map (part_def f) (take k parts) → more ≡ defs ++ d ∷ [] →
    def_tree d ≡ part_def f (get_or parts k x) → map def_tree more ≡ map def_tree old ++ map (part_def f) (take (k + 1) parts)
defs_next f parts k x old defs more d lt are pushed def =
    ap (map def_tree) pushed ∙ map_join def_tree defs d ∙ (λ i. are i ++ def i ∷ []) ∙ append_assoc (map def_tree old) (map (part_def f) (take k parts)) (part_def f (get_or parts k x) ∷ [])
    ∙ ap (λ (ds : List DefTree). map def_tree old ++ ds) (sym (one_more (part_def f) parts k (get_or parts k x) (slice_get-get_or parts k x lt)))

-- ---- the functions of a group

mapped : {A B : Type 0} (h : A → B) (o : Option A) (b : B) → option_map h o ≡ Some b → (a : A) × (o ≡ Some a) × (h a ≡ b)
mapped h None b e = absurd (cc)
mapped h (Some a) b e = let same : h a ≡ b = cc in (a, refl, same)

module _ (code : Bytes) (bytes : AreBytes code) (ms : List Member) (main : Member) (g : GroupTree) (are : AreMembers true code ms main g) where
  module _ (m : Member) (in_ms : Contains ms m) where
    is : IsMember true code g.code m
    is = are.each m in_ms

    code-is : IsCode (flow_at m) g.code
    code-is = is-code true code m.at m.graph m.forest m.context g.code is.graph is.forest bytes is.bytes is.fits

    entry-is : get_or m.graph.addrs m.graph.entry 0 ≡ m.at
    entry-is = ap (λ n. get_or m.graph.addrs n 0) is.graph.entry ∙ (number_within m.graph.addrs m.at (is.graph.reach.all m.at Stop)).1

    whole : IsPart (flow_at m) (Rest None m.graph.entry)
    whole = whole-is true code m.at m.graph m.forest m.context is.graph is.forest is.order

    defs-are : (p : Part) → IsPart (flow_at m) p → slice_get g.defs ((flow_at m).number p) ≡ Some (part_def (flow_at m) p)
    defs-are p there = are.defs m (place_in m.context.parts p) p in_ms (there-at (flow_at m) (number_of m.forest) m.context.parts is.order p there)

  callee-there : (y : Member) → Contains ms y → HasCallee g.defs (callee_at y)
  callee-there y c = record { def = part_def (flow_at y) (Rest None y.graph.entry); is = defs-are y c (Rest None y.graph.entry) (whole y c); entry = entry-is y c; exits = refl }

  -- the group is one for each of them
  pub group-for : (m : Member) → Contains ms m → (d : ℕ) → IsFor (flow_at m) d g
  group-for m c d = record {
    regs = sym (are.regs m c);
    mems = sym (are.mems m c);
    code = code-is m c;
    has = λ q there low. record { def = part_def (flow_at m) q; is = defs-are m c q there; entry = refl; exits = refl };
    callees = λ n k node e low.
        let r = mapped m.context.functions (called_by (get_or m.graph.addrs n 0) (get_or m.graph.instrs n instr.Ebreak)) k e in
        let y = are.called m n r.0 c node r.1 in
        subst (λ (k : Callee). HasCallee g.defs k) (sym y.2 ∙ r.2) (callee-there y.0 y.1);
  }

  -- .. and has its definitions in a row, where what it calls stands before it
  pub stand-from : (m : Member) → Contains ms m → ((n : ℕ) (k : Callee) → n < length m.graph.addrs → (flow_at m).callee n ≡ Some k → k.def < m.context.base) → StandFrom (flow_at m) g m.context.base m.context.parts
  stand-from m c before = record {
    number = λ j q at. ap (λ k. m.context.base + k) (place j q at).1;
    group = group-for m c;
    def = λ j q at. are.defs m j q c at;
    below = λ j q at. subst (λ (d : ℕ). CallsBelow d (part_body (flow_at m) q)) (ap (λ k. m.context.base + k) (place j q at).1)
        (calls-below true code m.at m.graph m.forest m.context (is m c).graph (is m c).forest (is m c).order before q (place j q at).0);
  }
    where
      place : (j : ℕ) (q : Part) → slice_get m.context.parts j ≡ Some q → IsPart (flow_at m) q × (place_in m.context.parts q ≡ j)
      place j q at = part-at (flow_at m) (number_of m.forest) m.context.parts (is m c).order j q at

-- ---- one function behind the other

-- as many definitions stand before a function's as those before it have
pub based-at : (ms : List Member) (base i : ℕ) (m : Member) → AreBased base ms → slice_get ms i ≡ Some m → m.context.base ≡ base + length (defs_of (take i ms))
based-at [] base i m based e = absurd (cc)
based-at (x ∷ ms) base zero m based e = let same : x ≡ m = cc in ap (λ (z : Member). z.context.base) (sym same) ∙ (let b = based.0 in omega (arith, b))
based-at (x ∷ ms) base (suc i) m based e =
    let rest = based-at ms (base + length x.context.parts) i m based.1 e in
    let own : List DefTree = map (part_def (flow_at x)) x.context.parts in
    let l = length-append own (defs_of (take i ms)) in
    let o = length-map (part_def (flow_at x)) x.context.parts in
    omega (arith, rest, l, o)

-- the definitions of one function more
pub defs-more : (ms : List Member) (i : ℕ) (m : Member) → slice_get ms i ≡ Some m → defs_of (take (i + 1) ms) ≡ defs_of (take i ms) ++ map (part_def (flow_at m)) m.context.parts
defs-more [] i m e = absurd (cc)
defs-more (x ∷ ms) zero m e =
    let same : x ≡ m = cc in append-nil (map (part_def (flow_at x)) x.context.parts) ∙ ap (λ (z : Member). map (part_def (flow_at z)) z.context.parts) same
defs-more (x ∷ ms) (suc i) m e =
    let next : suc i + 1 ≡ suc (i + 1) = omega arith in
    ap (λ k. defs_of (take k (x ∷ ms))) next ∙ ap (λ (ds : List DefTree). map (part_def (flow_at x)) x.context.parts ++ ds) (defs-more ms i m e)
    ∙ sym (append_assoc (map (part_def (flow_at x)) x.context.parts) (defs_of (take i ms)) (map (part_def (flow_at m)) m.context.parts))

-- .. and those of each function before it end there
defs-within : (ms : List Member) (base i : ℕ) (y : Member) → AreBased base ms → Contains (take i ms) y → y.context.base + length y.context.parts ≤ base + length (defs_of (take i ms))
defs-within [] base zero y based (j, lt, at) = absurd (omega (arith, lt))
defs-within [] base (suc i) y based (j, lt, at) = absurd (omega (arith, lt))
defs-within (x ∷ ms) base zero y based (j, lt, at) = absurd (omega (arith, lt))
defs-within (x ∷ ms) base (suc i) y based (zero, lt, at) =
    let own : List DefTree = map (part_def (flow_at x)) x.context.parts in
    let l = length-append own (defs_of (take i ms)) in
    let o = length-map (part_def (flow_at x)) x.context.parts in
    let b = based.0 in
    subst (λ (z : Member). z.context.base + length z.context.parts ≤ base + length (own ++ defs_of (take i ms))) at (omega (arith, l, o, b))
defs-within (x ∷ ms) base (suc i) y based (suc j, lt, at) =
    let rest = defs-within ms (base + length x.context.parts) i y based.1 (j, omega (arith, lt), at) in
    let own : List DefTree = map (part_def (flow_at x)) x.context.parts in
    let l = length-append own (defs_of (take i ms)) in
    let o = length-map (part_def (flow_at x)) x.context.parts in
    omega (arith, rest, l, o)

-- the first of them have fewer
defs-fewer : (ms : List Member) (i : ℕ) → length (defs_of (take i ms)) ≤ length (defs_of ms)
defs-fewer [] zero = omega arith
defs-fewer [] (suc i) = omega arith
defs-fewer (x ∷ ms) zero = omega arith
defs-fewer (x ∷ ms) (suc i) =
    let rest = defs-fewer ms i in
    let own : List DefTree = map (part_def (flow_at x)) x.context.parts in
    let l = length-append own (defs_of (take i ms)) in
    let k = length-append own (defs_of ms) in
    omega (arith, rest, l, k)

-- what the function calls is one of those before it
calls-earlier : (known ms : List Member) (i : ℕ) (m : Member) → CallsBefore known ms → slice_get ms i ≡ Some m → (n t : ℕ) → n < length m.graph.addrs → called_by (get_or m.graph.addrs n 0) (get_or m.graph.instrs n instr.Ebreak) ≡ Some t
    → (y : Member) × Contains (known ++ take i ms) y × (m.context.functions t ≡ callee_at y)
calls-earlier known [] i m calls e n t node called = absurd (cc)
calls-earlier known (x ∷ ms) zero m calls e n t node called =
    let same : x ≡ m = cc in
    subst (λ (z : Member). n < length z.graph.addrs → called_by (get_or z.graph.addrs n 0) (get_or z.graph.instrs n instr.Ebreak) ≡ Some t → (y : Member) × Contains (known ++ []) y × (z.context.functions t ≡ callee_at y)) same
    (λ node called. let r = calls.0 n t node called in (r.0, subst (λ (ys : List Member). Contains ys r.0) (sym (append-nil known)) r.1, r.2)) node called
calls-earlier known (x ∷ ms) (suc i) m calls e n t node called =
    let r = calls-earlier (known ++ x ∷ []) ms i m calls.1 e n t node called in
    (r.0, subst (λ (ys : List Member). Contains ys r.0) (append_assoc known (x ∷ []) (take i ms)) r.1, r.2)

in-taken : {A : Type 0} (xs : List A) (i : ℕ) (x : A) → Contains (take i xs) x → Contains xs x
in-taken [] zero x c = c
in-taken [] (suc i) x c = c
in-taken (y ∷ xs) zero x (j, lt, at) = absurd (omega (arith, lt))
in-taken (y ∷ xs) (suc i) x (zero, lt, at) = (0, omega arith, at)
in-taken (y ∷ xs) (suc i) x (suc j, lt, at) = let r = in-taken xs i x (j, omega (arith, lt), at) in (suc r.0, omega (arith, r.1), r.2)

in-list : {A : Type 0} (xs : List A) (i : ℕ) (x : A) → slice_get xs i ≡ Some x → Contains xs x
in-list [] i x e = absurd (cc)
in-list (y ∷ xs) zero x e = let same : y ≡ x = cc in (0, omega arith, same)
in-list (y ∷ xs) (suc i) x e = let r = in-list xs i x e in (suc r.0, omega (arith, r.1), r.2)

-- one memory at most
pub one-of : (s : LinkedGroup) → IsLinkedGroup s → s.mems ≤ 1
one-of s linked = let most = at-most (load_or_store (functions_of s)) in let is = linked.mems in omega (arith, is, most)
  where
    at-most : (b : Bool) → cond b 1 0 ≤ 1
    at-most true = omega arith
    at-most false = omega arith

module _ (s : LinkedGroup) (name : List ℕ) (can : CanAllBeWalked s name) (based : AreBased 0 (members_of s)) (one : s.mems ≤ 1) where
  at-place : (i : ℕ) (f : LinkedFunction) → slice_get s.functions i ≡ Some f → slice_get (members_of s) i ≡ Some (member_in s f)
  at-place i f at = slice-mapped (member_in s) s.functions i f at

  there : (i : ℕ) (f : LinkedFunction) → slice_get s.functions i ≡ Some f → Contains (members_of s) (member_in s f)
  there i f at = in-list (members_of s) i (member_in s f) (at-place i f at)

  member : (i : ℕ) (f : LinkedFunction) → slice_get s.functions i ≡ Some f → IsMember true can.code s.code.ranges (member_in s f)
  member i f at = can.members.each (member_in s f) (there i f at)

  -- each function can be walked through
  pub can-be : (i : ℕ) (f : LinkedFunction) → slice_get s.functions i ≡ Some f → CanBeWalked s f
  can-be i f at = record {
    reached = can.reached (member_in s f) (there i f at);
    forest = (member i f at).forest;
    fits = can.set (member_in s f) (there i f at);
    few = (let behind = based-at (members_of s) 0 i (member_in s f) based (at-place i f at) in
        let more = ap (λ (ds : List DefTree). length ds) (defs-more (members_of s) i (member_in s f) (at-place i f at)) in
        let l = length-append (defs_of (take i (members_of s))) (map (part_def (flow_at (member_in s f))) f.parts) in
        let o = length-map (part_def (flow_at (member_in s f))) f.parts in
        let most = defs-fewer (members_of s) (i + 1) in
        let few = can.few in
        omega (arith, behind, more, l, o, most, few));
    one = one;
    code = can.instructions (member_in s f) (there i f at);
    parts = λ k d lt. (part-at (flow_at (member_in s f)) (number_of f.function.now.forest) f.parts (member i f at).order k (get_or f.parts k d) (slice_get-get_or f.parts k d lt)).0;
  }

  -- its parts stand in a row in the group
  pub in-group : (i : ℕ) (f : LinkedFunction) → slice_get s.functions i ≡ Some f → StandFrom (flow_at (member_in s f)) (group_in s name) f.base f.parts
  in-group i f at = stand-from can.code can.bytes (members_of s) can.main (group_in s name) can.members (member_in s f) (there i f at) below
    where
      below : (n : ℕ) (k : Callee) → n < length f.function.now.graph.addrs → (flow_at (member_in s f)).callee n ≡ Some k → k.def < f.base
      below n k node e =
          let m : Member = member_in s f in
          let r = mapped m.context.functions (called_by (get_or m.graph.addrs n 0) (get_or m.graph.instrs n instr.Ebreak)) k e in
          let y = calls-earlier [] (members_of s) i m can.calls (at-place i f at) n r.0 node r.1 in
          let ends = defs-within (members_of s) 0 i y.0 based y.1 in
          let behind = based-at (members_of s) 0 i m based (at-place i f at) in
          let their = can.members.each y.0 (in-taken (members_of s) i y.0 y.1) in
          let whole = whole-is true can.code y.0.at y.0.graph y.0.forest y.0.context their.graph their.forest their.order in
          let low = slice_get_within y.0.context.parts (place_in y.0.context.parts (Rest None y.0.graph.entry)) (Rest None y.0.graph.entry)
          (there-at (flow_at y.0) (number_of y.0.forest) y.0.context.parts their.order (Rest None y.0.graph.entry) whole) in
          subst (λ (c : Callee). c.def < f.base) (sym y.2 ∙ r.2) (omega (arith, ends, behind, low))

  pub none_of : AreWalkedOf s 0 [] []
  none_of = record { are = refl; fine = tt; close = λ g code stand. record { right = tt; closed = λ d lt. absurd (omega (arith, lt)) } }

  -- the parts of one function more
  pub walked_of_more : (i : ℕ) (f : LinkedFunction) (defs more : List DefTree) (old new : List LineTree) → slice_get s.functions i ≡ Some f → AreWalkedOf s i defs old → more ≡ defs ++ map (part_def (flow_at (member_in s f))) f.parts →
      AreWalkedTo Three (flow_at (member_in s f)) s.code.ranges f.parts (length f.parts) old new → AreWalkedOf s (i + 1) more new
  walked_of_more i f defs more old new at so_far longer walked = record {
    are = longer ∙ (λ j. so_far.are j ++ map (part_def (flow_at (member_in s f))) f.parts) ∙ sym (defs-more (members_of s) i (member_in s f) (at-place i f at));
    fine = walked.fine so_far.fine;
    close = λ g code stand.
        let count = ap (λ (ds : List DefTree). length ds) so_far.are in
        let behind = based-at (members_of s) 0 i (member_in s f) based (at-place i f at) in
        let start : length defs ≡ f.base = omega (arith, count, behind) in
        let l = length-append defs (map (part_def (flow_at (member_in s f))) f.parts) in
        let o = length-map (part_def (flow_at (member_in s f))) f.parts in
        let m = ap (λ (ds : List DefTree). length ds) longer in
        let end : f.base + length f.parts ≡ length more = omega (arith, start, l, o, m) in
        subst (λ (n : ℕ). CloseFirst (further_of Three) g n new) end
        (walked.close g f.base (stand i f at) code (subst (λ (n : ℕ). CloseFirst (further_of Three) g n old) start (so_far.close g code stand)));
  }

  -- all of them
  pub all-walked : (k : ℕ) (defs : List DefTree) (lines : List LineTree) → k ≡ length s.functions → AreWalkedOf s k defs lines → AreClosedIn Three (group_in s name) lines × (defs ≡ defs_of (members_of s))
  all-walked k defs lines all walked =
      let count : length (members_of s) ≡ length s.functions = length-map (member_in s) s.functions in
      let same : defs ≡ defs_of (members_of s) = walked.are ∙ ap defs_of (taken_at (members_of s) k (omega (arith, count, all))) in
      let closed = walked.close (group_in s name) refl in-group in
      (record { right = closed.right; closed = λ d lt. closed.closed d (subst (λ (ds : List DefTree). d < length ds) (sym same) lt) }, same)

-- ---- how many instructions they have

pub size-low : (fs : List LinkedFunction) (i : ℕ) → sum_by size_of (map (λ f. f.function.now) (take i fs)) ≤ sum_by size_of (map (λ f. f.function.now) fs)
size-low [] zero = omega arith
size-low [] (suc i) = omega arith
size-low (f ∷ fs) zero = omega arith
size-low (f ∷ fs) (suc i) =
    let rest = size-low fs i in
    let front = sum_by-cons size_of f.function.now (map (λ (f : LinkedFunction). f.function.now) (take i fs)) in
    let all = sum_by-cons size_of f.function.now (map (λ (f : LinkedFunction). f.function.now) fs) in
    omega (arith, rest, front, all)

pub size-more : (fs : List LinkedFunction) (i : ℕ) (f : LinkedFunction) (size n : ℕ) → i < length fs → f ≡ get_or fs i f → size ≡ sum_by size_of (map (λ f. f.function.now) (take i fs)) → n ≡ length f.function.now.graph.addrs →
    size + n ≡ sum_by size_of (map (λ f. f.function.now) (take (i + 1) fs))
size-more fs i f size n lt is before count =
    let more = ap (λ (xs : List LinkedFunction). sum_by size_of (map (λ f. f.function.now) xs)) (take_more fs i f lt) in
    let pushed = ap (λ (xs : List Function). sum_by size_of xs) (map_join (λ (f : LinkedFunction). f.function.now) (take i fs) (get_or fs i f)) in
    let added = sum_by_push size_of (map (λ (f : LinkedFunction). f.function.now) (take i fs)) (get_or fs i f).function.now in
    let own : n ≡ size_of (get_or fs i f).function.now = count ∙ ap (λ (f : LinkedFunction). size_of f.function.now) is in
    omega (arith, more, pushed, added, own, before)

-- ---- as the code has them

pub flow-same : (x : FlowOf) (s : LinkedGroup) (f : LinkedFunction) → x.graph ≡ f.function.now.graph → x.forest ≡ f.function.now.forest → x.context ≡ context_in s f → flow_in x ≡ flow_at (member_in s f)
flow-same x s f graph forest context = λ i. flow_of (graph i) (forest i) (context_of (context i))

pub group-same : (s : LinkedGroup) (name : List ℕ) (g : GroupTree) → g.name ≡ name → g.regs ≡ s.regs → g.mems ≡ s.mems → g.code ≡ s.code.ranges → g.defs ≡ defs_of (members_of s) → g ≡ group_in s name
group-same s name g named regs mems code defs = λ i. record { name = named i; regs = regs i; mems = mems i; code = code i; defs = defs i }

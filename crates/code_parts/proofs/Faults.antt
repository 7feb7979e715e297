-- Why functions can't be linked, from what is found of one of them.
use Rattle.std.proofs.Common.{◌≡◌, ℕ, ◌<◌, ◌≤◌, true, List, length, get_or, inl, inr, sym, ◌∙◌, arith, subst, ap, Result, Ok, Err, Option, Some, None}
use Rattle.std.specs.List.{Contains}
use Rattle.std.proofs.lemmas.Bool.Decides.{leb_tells}
use Rattle.std.proofs.lemmas.List.{get_or-map, get_or-take}
use Rattle.rv_words.specs.Bytes.{Bytes}
use Rattle.rv_decode.specs.declared.instruction.Instr.{Instr}
use Rattle.rv_decode.specs.declared.instruction.Instr.TheVariants.{Ebreak}
use Rattle.flow_graph.specs.Flow.{look, Next}
use Rattle.flow_graph.specs.Walks.{Reaches}
use Rattle.flow_graph.specs.Reach.{IsFault, Large, Least, reach_limit}
use Rattle.flow_graph.specs.Graph.{GraphOf, IsGraphOf, IsRising}
use Rattle.flow_graph.specs.declared.outside.Outside.{Outside as Fault}
use Rattle.flow_graph.specs.declared.outside.Outside.TheVariants.{TwoEntries, ManyExits}
use Rattle.flow_graph.specs.declared.outside.FlowFault.{FlowFault}
use Rattle.flow_graph.specs.declared.outside.FlowFault.TheVariants as flow
use Rattle.flow_graph.proofs.Ways.{place_of, node_at}
use Rattle.flow_graph.proofs.BuildLemmas.{ok_err}
use Rattle.flow_graph.proofs.ExactLemmas.{graph_looks}
use Rattle.flow_graph.proofs.GraphLaws.{one_graph}
use Rattle.loop_forest.specs.Forest.{IsForestFault, IsMany, number_of}
use Rattle.loop_forest.proofs.AddressLemmas.{code_in_post_order, shows_code}
use Rattle.loop_forest.proofs.OneForest.{no_many}
use Rattle.code_parts.specs.Calls.{CallsBack, IsFunction}
use Rattle.code_parts.specs.Causes.{IsCause, IsFaulty, IsLoopFault, IsRecursive, IsCallGraphFault, SizesOver, InCycle, InLoop, InCode, Recursion, InLoops}
use Rattle.code_parts.specs.inner.Finding.{AreMade, AreRanks, HasFlow, IsFine, IsLowest, IsNoFunction, IsUnranked, fault_at, fault_of, refusal}
use Rattle.code_parts.specs.declared.call_fault.LinkWhy.TheVariants.{Outside}
use Rattle.code_parts.specs.declared.call_fault.CallGraphFault.{CallGraphFault}
use Rattle.code_parts.specs.declared.call_fault.CallGraphFault.TheVariants.{Refused, NoMemory}
use Rattle.code_parts.specs.declared.linked_function.Function.{Function}
use Rattle.code_parts.proofs.Counting.{got, sizes_up}
use Rattle.code_parts.proofs.Searching.{large_one}
use Rattle.flow_graph.proofs.Ways.{way-join}

-- ---- one function

-- no address of a graph has a fault
pub graph_fine : (code : Bytes) (f : ℕ) (g : GraphOf) (a : ℕ) (why : Fault) → IsGraphOf true code f g → Reaches (Next true code) f a → look true code a ≡ Err why → ⊥
graph_fine code f g a why r w e =
    let p = place_of g.addrs a (r.reach.all a w) in
    ok_err (get_or g.instrs p.0 Ebreak) why (sym (graph_looks true code f g r p.0 Ebreak p.1) ∙ ap (look true code) p.2 ∙ e)

-- a function with a forest has no fault of its loops
pub regular : (code : Bytes) (f : Function) (why : Fault) → HasFlow code f → IsLoopFault code f.entry why → ⊥
regular code f _ h (InCycle {cycle} {first} {second} s) = code_in_post_order true code f.entry f.graph (number_of f.forest) h.graph h.forest.in_post_order (record { cycle = cycle; first = first; second = second; shows = s })
regular code f _ h (InLoop {a} g r m) =
    let same : g ≡ f.graph = one_graph true code f.entry g f.graph r h.graph in
    no_many f.graph f.forest a h.forest (subst (λ (z : GraphOf). IsMany z a) same m)

-- a fault of a forest is one of the loops
pub loop_fault : (code : Bytes) (f : ℕ) (g : GraphOf) (why : Fault) → IsGraphOf true code f g → IsForestFault g why → IsLoopFault code f why
loop_fault code f g (TwoEntries cycle first second) r h = InCycle (shows_code true code f g cycle first second r h)
loop_fault code f g (ManyExits a) r h = InLoop g r h
loop_fault code f g _ r h = absurd h

-- ---- the least address with a fault

-- the fault at the least address that has one is the cause
pub code_fault : (code : Bytes) (e : ℕ) (least : Option ℕ) (why : Fault) → (SizesOver code e reach_limit → ⊥) → IsLowest (IsFaulty code e) least → fault_at code least ≡ Some why → IsCause code e (Outside why)
code_fault code e None why small h q = absurd (cc)
code_fault code e (Some a) why small h q = InCode small h (fault_is (look true code a) q)
  where
    fault_is : (r : Result Instr Fault) → fault_of r ≡ Some why → r ≡ Err why
    fault_is (Ok i) p = absurd (cc)
    fault_is (Err other) p = let same : other ≡ why = cc in ap (λ z. Err z) same

-- where there is no such fault, no address has one
pub code_fine : (code : Bytes) (e : ℕ) (least : Option ℕ) → IsLowest (IsFaulty code e) least → fault_at code least ≡ None → (a : ℕ) → IsFaulty code e a → ⊥
code_fine code e None h q a b = h a b
code_fine code e (Some c) h q a b = absurd (none (look true code c) h.has.why h.has.fault q)
  where
    none : (r : Result Instr Fault) (why : Fault) → r ≡ Err why → fault_of r ≡ None → ⊥
    none (Ok i) why p s = absurd (cc)
    none (Err other) why p s = absurd (cc)

-- ---- the first of some functions

-- a number that isn't at a place before k of rising ones is none that is below the one at k
pub below_before : (entries : List ℕ) (k m : ℕ) → IsRising entries → k < length entries → Contains entries m → m < get_or entries k 0 → (p : ℕ) × (p < k) × (get_or entries p 0 ≡ m)
below_before entries k m up l c lt =
    let p = place_of entries m c in
    elim (leb_tells k p.0) [
      | inr t ↦ (p.0, t.1, p.2)
      | inl t ↦ absurd (no_less p.0 p.1 p.2 t.1)
    ]
  where
    no_less : (j : ℕ) → j < length entries → get_or entries j 0 ≡ m → k ≤ j → ⊥
    no_less j h at le = elim (leb_tells j k) [
      | inl t ↦ (let same : j ≡ k = omega (arith, t.1) in let q : get_or entries j 0 ≡ get_or entries k 0 = ap (λ z. get_or entries z 0) same in omega arith)
      | inr t ↦ (let more = up.below k j t.1 h in omega arith)
    ]

-- the first function that calls itself is the least
pub first_recursive : (code : Bytes) (e : ℕ) (entries ranks : List ℕ) (k : ℕ) (why : CallGraphFault) → IsFine code e entries → AreRanks code entries ranks k → k < length entries → IsUnranked code (get_or entries k 0) why → IsCallGraphFault code e why
first_recursive code e entries ranks k NoMemory fine r l u = tt
first_recursive code e entries ranks k (Refused why) fine r l u = elim u [
  | inl t ↦ absurd (fine.small (sizes_up code e (get_or entries k 0) reach_limit (λ g w. way-join is w) t.1))
  | inr b ↦ subst (IsCause code e) (sym b.0) (Recursion fine.small fine.fine (record {
    has = (is, b.1);
    least = λ m h lt. let p = below_before entries k m fine.rising l (fine.functions.all m h.0) lt in (r.each p.0 p.1).once (subst (λ (z : ℕ). CallsBack code z) (sym p.2) h.1);
  }))
]
  where
    is : IsFunction code e (get_or entries k 0)
    is = fine.functions.reached (get_or entries k 0) (node_at entries k l)

-- the function at a place has the entry there
pub made_at : (code : Bytes) (entries ranks : List ℕ) (fs : List Function) (n k : ℕ) (d : Function) → AreMade code entries ranks fs n → k < n → (get_or fs k d).entry ≡ get_or entries k 0
made_at code entries ranks fs n k d m l =
    sym (get_or-map (λ f. f.entry) fs k d 0 (omega (arith, m.as_many))) ∙ ap (λ es. get_or es k 0) m.entered ∙ get_or-take n entries k 0 l

-- no function calls itself
pub none_recursive : (code : Bytes) (e : ℕ) (entries ranks : List ℕ) → IsFine code e entries → AreRanks code entries ranks (length entries) → (f : ℕ) → IsRecursive code e f → ⊥
none_recursive code e entries ranks fine r f h =
    let p = place_of entries f (fine.functions.all f h.0) in
    (r.each p.0 p.1).once (subst (λ (z : ℕ). CallsBack code z) (sym p.2) h.1)

-- the first function whose loops have a fault is the least
pub first_irregular : (code : Bytes) (e : ℕ) (entries ranks : List ℕ) (fs : List Function) (k : ℕ) (why : FlowFault) → IsFine code e entries → AreRanks code entries ranks (length entries) → AreMade code entries ranks fs k → k < length entries
    → IsNoFunction code (get_or entries k 0) why → IsCallGraphFault code e (refusal why)
first_irregular code e entries ranks fs k flow.NoMemory fine r m l n = tt
first_irregular code e entries ranks fs k (flow.Outside why) fine r m l n = elim n [
  | inl f ↦ absurd (no_fault why f)
  | inr g ↦
      let loops : IsLoopFault code (get_or entries k 0) why = loop_fault code (get_or entries k 0) g.0 why g.1 g.2 in
      InLoops fine.small fine.fine (none_recursive code e entries ranks fine r) (record {
        has = (is, (why, loops));
        least = λ h i lt.
            let p = below_before entries k h fine.rising l (fine.functions.all h i.0) lt in
            let d = (got fs p.0 (omega (arith, m.as_many, p.1))).0 in
            let at : h ≡ (get_or fs p.0 d).entry = sym (made_at code entries ranks fs k p.0 d m p.1 ∙ p.2) in
            regular code (get_or fs p.0 d) i.1.0 (m.each p.0 d (omega (arith, m.as_many, p.1))) (subst (λ (z : ℕ). IsLoopFault code z i.1.0) at i.1.1);
      }) loops
]
  where
    is : IsFunction code e (get_or entries k 0)
    is = fine.functions.reached (get_or entries k 0) (node_at entries k l)

    no_fault : (x : Fault) → IsFault true code (get_or entries k 0) x → ⊥
    no_fault _ (Large o) = fine.small (large_one code e (get_or entries k 0) is o)
    no_fault x (Least {a = a} not f) = fine.fine a (record { function = get_or entries k 0; is = is; reached = f.reached; why = x; fault = f.fault })

-- There is one first reason.
use Rattle.std.proofs.Common.{◌≡◌, ℕ, true, inl, inr, refl, ◌∙◌, arith, subst, ap, Result, Err}
use Rattle.std.proofs.lemmas.Bool.{cases_lt}
use Rattle.rv_words.specs.Bytes.{Bytes}
use Rattle.flow_graph.specs.Flow.{look}
use Rattle.flow_graph.specs.Graph.{GraphOf}
use Rattle.flow_graph.specs.declared.outside.Outside.{Outside as Fault}
use Rattle.flow_graph.specs.declared.outside.Outside.TheVariants.{ManyExits}
use Rattle.flow_graph.proofs.GraphLaws.{one_graph}
use Rattle.loop_forest.specs.Forest.{IsMany}
use Rattle.loop_forest.proofs.CodeEntries.{two_entries_back}
use Rattle.loop_forest.proofs.OneForest.{one_head}
use Rattle.code_parts.specs.Causes.{HasOneForm, IsCause, IsLeast, IsLoopFault, InCycle, InLoop, Large, InCode, Recursion, InLoops}
use Rattle.code_parts.specs.declared.call_fault.LinkWhy.{LinkWhy}
use Rattle.code_parts.specs.declared.call_fault.LinkWhy.TheVariants.{Outside, Recursive}

least_same : (P : ℕ → Type 0) (a b : ℕ) → IsLeast P a → IsLeast P b → a ≡ b
least_same P a b l m = elim (cases_lt a b) [
  | inl lt ↦ absurd (m.least a l.has lt)
  | inr le ↦ elim (cases_lt b a) [ inl lt ↦ absurd (l.least b m.has lt) | inr ge ↦ omega arith ]
]

err_same : {A : Type 0} (a b : Fault) (x : Result A Fault) → x ≡ Err a → x ≡ Err b → a ≡ b
err_same a b x e f = cc

one_loop_fault : (code : Bytes) (f : ℕ) (why other : Fault) → HasOneForm (Outside other) → IsLoopFault code f why → IsLoopFault code f other → why ≡ other
one_loop_fault code f why _ h q (InCycle s) = absurd h
one_loop_fault code f _ _ h (InCycle {cycle} {first} {second} s) (InLoop g r m) = absurd (m.one_entry (two_entries_back true code f g r (record { cycle = cycle; first = first; second = second; shows = s })))
one_loop_fault code f _ _ h (InLoop {a = a} g r m) (InLoop {a = b} k s n) =
    let same : g ≡ k = one_graph true code f g k r s in
    let head : a ≡ b = one_head k a b (subst (λ (z : GraphOf). IsMany z a) same m) n in
    ap (λ z. ManyExits z) head

pub one_cause : (code : Bytes) (e : ℕ) (why other : LinkWhy) → HasOneForm other → IsCause code e why → IsCause code e other → why ≡ other
one_cause code e _ _ h (Large o) (Large p) = refl
one_cause code e _ _ h (Large o) (InCode small l q) = absurd (small o)
one_cause code e _ _ h (Large o) (Recursion small fine l) = absurd (small o)
one_cause code e _ _ h (Large o) (InLoops small fine once l q) = absurd (small o)
one_cause code e _ _ h (InCode small l q) (Large o) = absurd (small o)
one_cause code e _ _ h (InCode {a = a} {why = x} small l q) (InCode {a = b} {why = y} other m p) =
    let same : a ≡ b = least_same _ a b l m in
    let fault : x ≡ y = err_same x y (look true code a) q (ap (look true code) same ∙ p) in
    ap (λ z. Outside z) fault
one_cause code e _ _ h (InCode {a = a} small l q) (Recursion other fine m) = absurd (fine a l.has)
one_cause code e _ _ h (InCode {a = a} small l q) (InLoops other fine once m p) = absurd (fine a l.has)
one_cause code e _ _ h (Recursion small fine l) (Large o) = absurd (small o)
one_cause code e _ _ h (Recursion small fine l) (InCode {a = a} other m q) = absurd (fine a m.has)
one_cause code e _ _ h (Recursion {f = f} small fine l) (Recursion {f = g} other clean m) = ap (λ z. Recursive z) (least_same _ f g l m)
one_cause code e _ _ h (Recursion {f = f} small fine l) (InLoops other clean once m q) = absurd (once f l.has)
one_cause code e _ _ h (InLoops small fine once l q) (Large o) = absurd (small o)
one_cause code e _ _ h (InLoops small fine once l q) (InCode {a = a} other m p) = absurd (fine a m.has)
one_cause code e _ _ h (InLoops small fine once l q) (Recursion {f = f} other clean m) = absurd (once f m.has)
one_cause code e _ _ h (InLoops {f = f} {why = x} small fine once l q) (InLoops {f = g} {why = y} other clean never m p) =
    let same : f ≡ g = least_same _ f g l m in
    ap (λ z. Outside z) (one_loop_fault code g x y h (subst (λ (z : ℕ). IsLoopFault code z x) same q) p)

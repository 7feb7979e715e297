-- Where functions are linked, there is no reason against it.
use Rattle.std.proofs.Common.{◌≡◌, ℕ, ◌<◌, ◌≤◌, Bool, true, IsTrue, List, length, get_or, sym, ◌∙◌, arith, subst, ap, Some}
use Rattle.std.specs.List.{All}
use Rattle.std.specs.Prelude.{slice_get}
use Rattle.std.proofs.lemmas.List.{get_or-map, length-map}
use Rattle.std.proofs.lemmas.Option.{get_or_from_slice_get, slice_get-get_or, slice_get_within}
use Rattle.rv_words.specs.Bytes.{Bytes}
use Rattle.rv_decode.specs.declared.instruction.Instr.TheVariants.{Ebreak}
use Rattle.flow_graph.specs.Flow.{called_by}
use Rattle.flow_graph.specs.Walks.{Stop, Leave}
use Rattle.flow_graph.proofs.Ways.{place_of, node_at}
use Rattle.flow_graph.proofs.ExactLemmas.{graph_looks}
use Rattle.code_parts.specs.Calls.{CallsTo, IsFunction, call_by}
use Rattle.code_parts.specs.Causes.{IsCause, IsFaulty, IsIrregular, IsLoopFault, IsRecursive, Large, InCode, Recursion, InLoops}
use Rattle.code_parts.specs.Functions.{AreFunctions, IsLinkedFunction, entries_of}
use Rattle.code_parts.specs.inner.Finding.{HasFlow}
use Rattle.code_parts.specs.declared.call_fault.LinkWhy.{LinkWhy}
use Rattle.code_parts.specs.declared.linked_function.Function.{Function}
use Rattle.code_parts.proofs.Calling.{one_more}
use Rattle.code_parts.proofs.Counting.{got}
use Rattle.code_parts.proofs.Faults.{graph_fine, regular}
use Rattle.code_parts.proofs.Listing.{not_over}

-- ---- the least closed set

pub least_closed : (code : Bytes) (has : ℕ → Bool) → ((g t : ℕ) → IsTrue (has g) → CallsTo code g t → IsTrue (has t)) → {e f : ℕ} → IsFunction code e f → IsTrue (has e) → IsTrue (has f)
least_closed code has closed (Stop {a}) t = t
least_closed code has closed (Leave {a} {c} {b} p d w) t = least_closed code has closed w (closed a c t d)

-- ---- one answer

-- the function at an entry of these
pub record IsListed (code : Bytes) (fs : List Function) (f : ℕ) : Type 0 where
  pub place : ℕ
  pub within : place < length fs
  pub entry : get_or (entries_of fs) place 0 ≡ f
  pub function : Function
  pub at : slice_get fs place ≡ Some function
  pub is : function.entry ≡ f
  pub flow : HasFlow code function
  pub linked : IsLinkedFunction code function

listed_at : (code : Bytes) (e : ℕ) (fs : List Function) (k : ℕ) → AreFunctions code e fs → k < length fs → (f : ℕ) → get_or (entries_of fs) k 0 ≡ f → IsListed code fs f
listed_at code e fs k r l f q =
    let d = got fs k l in
    let linked : IsLinkedFunction code d.0 = subst (IsLinkedFunction code) (d.1 d.0) (r.linked k d.0 l) in
    record {
      place = k;
      within = l;
      entry = q;
      function = d.0;
      at = slice_get-get_or fs k d.0 l ∙ ap (λ z. Some z) (d.1 d.0);
      is = ap (λ z. z.entry) (sym (d.1 d.0)) ∙ sym (get_or-map (λ z. z.entry) fs k d.0 0 l) ∙ q;
      flow = record { graph = linked.graph; forest = linked.forest };
      linked = linked;
    }

pub listed : (code : Bytes) (e : ℕ) (fs : List Function) (f : ℕ) → AreFunctions code e fs → IsFunction code e f → IsListed code fs f
listed code e fs f r w =
    let p = place_of (entries_of fs) f (r.functions.all f w) in
    let long = length-map fs (λ z. z.entry) in
    listed_at code e fs p.0 r (omega (arith, p.1, long)) f p.2

-- calls lead to earlier places
leads_down : (code : Bytes) (e : ℕ) (fs : List Function) → AreFunctions code e fs → {c f : ℕ} → IsFunction code c f → IsFunction code e c → (j : ℕ) → j < length fs → get_or (entries_of fs) j 0 ≡ c → (k : ℕ) × (k ≤ j) × (get_or (entries_of fs) k 0 ≡ f)
leads_down code e fs r (Stop {a}) is j l q = (j, omega arith, q)
leads_down code e fs r (Leave {a} {c} {b} p d w) is j l q =
    let n = listed code e fs c r (one_more code is d) in
    let lt = r.before n.place j n.within l (subst (λ (z : ℕ). CallsTo code (get_or (entries_of fs) j 0) z) (sym n.entry) (subst (λ (z : ℕ). CallsTo code z c) (sym q) d)) in
    let m = leads_down code e fs r w (one_more code is d) n.place n.within n.entry in
    (m.0, omega (arith, m.1, lt), m.2)

none_recursive : (code : Bytes) (e : ℕ) (fs : List Function) (f : ℕ) → AreFunctions code e fs → IsRecursive code e f → ⊥
none_recursive code e fs f r h =
    let n = listed code e fs f r h.0 in
    let b = h.1 in
    let m = listed code e fs b.callee r (one_more code h.0 b.calls) in
    let lt : m.place < n.place = r.before m.place n.place m.within n.within
    (subst (λ (z : ℕ). CallsTo code (get_or (entries_of fs) n.place 0) z) (sym m.entry) (subst (λ (z : ℕ). CallsTo code z b.callee) (sym n.entry) b.calls)) in
    let k = leads_down code e fs r b.back (one_more code h.0 b.calls) m.place m.within m.entry in
    let long = length-map fs (λ z. z.entry) in
    r.functions.different k.0 n.place (omega (arith, k.1)) (omega (arith, long, n.within)) (k.2 ∙ sym n.entry)

all_flow : (code : Bytes) (e : ℕ) (fs : List Function) → AreFunctions code e fs → All (HasFlow code) fs
all_flow code e fs r k d l = let h = r.linked k d l in record { graph = h.graph; forest = h.forest }

none_faulty : (code : Bytes) (e : ℕ) (fs : List Function) (a : ℕ) → AreFunctions code e fs → IsFaulty code e a → ⊥
none_faulty code e fs a r h =
    let n = listed code e fs h.function r h.is in
    graph_fine code n.function.entry n.function.graph a h.why n.flow.graph (subst (λ (z : ℕ). Rattle.flow_graph.specs.Walks.Reaches (Rattle.flow_graph.specs.Flow.Next true code) z a) (sym n.is) h.reached) h.fault

none_irregular : (code : Bytes) (e : ℕ) (fs : List Function) (f : ℕ) → AreFunctions code e fs → IsIrregular code e f → ⊥
none_irregular code e fs f r h =
    let n = listed code e fs f r h.0 in
    regular code n.function h.1.0 n.flow (subst (λ (z : ℕ). IsLoopFault code z h.1.0) (sym n.is) h.1.1)

pub no_cause : (code : Bytes) (e : ℕ) (fs : List Function) (why : LinkWhy) → AreFunctions code e fs → IsCause code e why → ⊥
no_cause code e fs _ r (Large o) = not_over code e fs (all_flow code e fs r) r.functions r.few o
no_cause code e fs _ r (InCode {a = a} small least q) = none_faulty code e fs a r least.has
no_cause code e fs _ r (Recursion {f = f} small fine least) = none_recursive code e fs f r least.has
no_cause code e fs _ r (InLoops {f = f} small fine once least q) = none_irregular code e fs f r least.has

-- ---- callees

-- what an instruction of a function calls stands before the function
pub callee_before : (code : Bytes) (e : ℕ) (fs : List Function) (f : Function) (k n t : ℕ) → AreFunctions code e fs → slice_get fs k ≡ Some f → n < length f.graph.addrs
    → called_by (get_or f.graph.addrs n 0) (get_or f.graph.instrs n Ebreak) ≡ Some t → (j : ℕ) × (g : Function) × (j < k) × (slice_get fs j ≡ Some g) × (g.entry ≡ t) × IsLinkedFunction code g
callee_before code e fs f k n t r at l q =
    let inside : k < length fs = slice_get_within fs k f at in
    let here : get_or fs k f ≡ f = get_or_from_slice_get fs k f f at in
    let linked : IsLinkedFunction code f = subst (IsLinkedFunction code) here (r.linked k f inside) in
    let entry : get_or (entries_of fs) k 0 ≡ f.entry = get_or-map (λ z. z.entry) fs k f 0 inside ∙ ap (λ z. z.entry) here in
    let long = length-map fs (λ z. z.entry) in
    let call : CallsTo code (get_or (entries_of fs) k 0) t = subst (λ (z : ℕ). CallsTo code z t) (sym entry) (record {
      at = get_or f.graph.addrs n 0;
      reached = linked.graph.reach.reached (get_or f.graph.addrs n 0) (node_at f.graph.addrs n l);
      calls = ap (call_by (get_or f.graph.addrs n 0)) (graph_looks true code f.entry f.graph linked.graph n Ebreak l) ∙ q;
    }) in
    let y = listed code e fs t r (one_more code (r.functions.reached (get_or (entries_of fs) k 0) (node_at (entries_of fs) k (omega (arith, inside, long)))) call) in
    (y.place, y.function, r.before y.place k y.within inside (subst (λ (z : ℕ). CallsTo code (get_or (entries_of fs) k 0) z) (sym y.entry) call), y.at, y.is, y.linked)

-- Chains of calls, and a search along calls.
use Rattle.std.proofs.Common.{ℕ, ◌+◌, ◌<◌, List, length, get_or, inl, inr, ◌∙◌, arith, subst, ap, true}
use Rattle.std.specs.List.{Contains}
use Rattle.std.proofs.lemmas.Bool.{cases_eq}
use Rattle.rv_words.specs.Bytes.{Bytes}
use Rattle.flow_graph.specs.Flow.{Next}
use Rattle.flow_graph.specs.Walks.{Stop, Leave}
use Rattle.flow_graph.specs.Reach.{IsReach}
use Rattle.flow_graph.proofs.Ways.{place_of, node_at, way-join}
use Rattle.flow_graph.proofs.ReachSearch.{Reaching}
use Rattle.code_parts.specs.Calls.{CallsTo, CallsBack, IsFunction, call_at}
use Rattle.code_parts.specs.inner.Finding.{NotesCallees}

pub one_more : (code : Bytes) {e f t : ℕ} → IsFunction code e f → CallsTo code f t → IsFunction code e t
one_more code w d = way-join w (Leave tt d Stop)

-- where one of the functions of f calls f, a chain of calls leads from f back to f
pub back_from : (code : Bytes) {f g : ℕ} → IsFunction code f g → CallsTo code g f → CallsBack code f
back_from code (Stop {a}) d = record { callee = a; calls = d; back = Stop }
back_from code (Leave {a} {c} {b} p e w) d = record { callee = c; calls = e; back = one_more code w d }

last_call : (code : Bytes) {f c b : ℕ} → CallsTo code f c → IsFunction code c b → (g : ℕ) × IsFunction code f g × CallsTo code g b
last_call code {f} d (Stop {a}) = (f, Stop, d)
last_call code {f} d (Leave {a} {c} {b} p e w) = let r = last_call code e w in (r.0, Leave tt d r.1, r.2)

-- .. and the other way
pub back_to : (code : Bytes) (f : ℕ) → CallsBack code f → (g : ℕ) × IsFunction code f g × CallsTo code g f
back_to code f b = last_call code b.calls b.back

-- what is noted stays in its place
pub noted_stays : (code : Bytes) (addrs : List ℕ) (n : ℕ) (N N' : List ℕ) → NotesCallees code addrs n N N' → (x : ℕ) → Contains N x → Contains N' x
noted_stays code addrs n N N' g x c = let p = place_of N x c in let k = g.kept p.0 p.1 in subst (λ (z : ℕ). Contains N' z) (k.1 ∙ p.2) (node_at N' p.0 k.0)

-- after what the function at place i calls is noted, it is done
pub calling_next : (code : Bytes) (e : ℕ) (N : List ℕ) (i : ℕ) (addrs N' : List ℕ) → Reaching (CallsTo code) e N i → i < length N → IsReach (Next true code) (get_or N i 0) addrs
    → NotesCallees code addrs (length addrs) N N' → Reaching (CallsTo code) e N' (i + 1)
calling_next code e N i addrs N' r l reach g = record {
  reached = λ x c. elim (g.only x c) [
    | inl d ↦ r.reached x d
    | inr d ↦ one_more code (r.reached (get_or N i 0) (node_at N i l)) (record { at = get_or addrs d.0 0; reached = reach.reached (get_or addrs d.0 0) (node_at addrs d.0 d.1); calls = d.2 })
  ];
  entry = noted_stays code addrs (length addrs) N N' g e r.entry;
  done = λ k v h d.
      let below : k < length N = omega (arith, r.upto) in
      let d2 : CallsTo code (get_or N k 0) v = subst (λ (z : ℕ). CallsTo code z v) (g.kept k below).1 d in
      elim (cases_eq k i) [
        | inl q ↦
            let c : CallsTo code (get_or N i 0) v = subst (λ (z : ℕ). CallsTo code (get_or N z 0) v) q d2 in
            let p = place_of addrs c.at (reach.all c.at c.reached) in
            g.added p.0 v p.1 (ap (call_at code) p.2 ∙ c.calls)
        | inr n ↦ noted_stays code addrs (length addrs) N N' g v (r.done k v (omega arith) d2)
      ];
  upto = omega (arith, (g.kept i l).0);
}

-- Along calls that don't come back, fewer functions are reached.
use Rattle.std.proofs.Common.{◌≢◌, ℕ, zero, suc, ◌<◌, List, ◌∷◌, length, get_or, inl, inr, sym, arith, subst}
use Rattle.std.specs.List.{Contains}
use Rattle.std.proofs.lemmas.Bool.{cases_lt}
use Rattle.rv_words.specs.Bytes.{Bytes}
use Rattle.flow_graph.specs.Walks.{Stop, Leave}
use Rattle.flow_graph.specs.Reach.{ReachesOver}
use Rattle.flow_graph.proofs.Ways.{node_at, way-join}
use Rattle.flow_graph.proofs.ReachSearch.{reach_few}
use Rattle.code_parts.specs.Calls.{CallsTo, CallsBack, IsFunction}
use Rattle.code_parts.specs.Functions.{IsRank}
use Rattle.code_parts.proofs.Counting.{front_cases}

apart_from : (f : ℕ) (xs : List ℕ) → (Contains xs f → ⊥) → ((j k : ℕ) → j < k → k < length xs → get_or xs j 0 ≢ get_or xs k 0) → (j k : ℕ) → j < k → k < length (f ∷ xs) → get_or (f ∷ xs) j 0 ≢ get_or (f ∷ xs) k 0
apart_from f xs without d zero zero lt l q = omega arith
apart_from f xs without d zero (suc k) lt l q = without (subst (λ (z : ℕ). Contains xs z) (sym q) (node_at xs k (omega arith)))
apart_from f xs without d (suc j) zero lt l q = omega arith
apart_from f xs without d (suc j) (suc k) lt l q = d j k (omega arith) (omega arith) q

-- g is a function of f, and f none of g
pub rank_below : (code : Bytes) (f g n m : ℕ) → IsFunction code f g → (IsFunction code g f → ⊥) → IsRank code f n → IsRank code g m → m < n
rank_below code f g n m w away r s = elim (cases_lt m n) [
  | inl lt ↦ lt
  | inr le ↦ absurd (reach_few (CallsTo code) f m r.functions r.reached (omega (arith, r.many)) over)
]
  where
    over : ReachesOver (CallsTo code) f m
    over = record {
      some = f ∷ s.functions;
      over = omega (arith, s.many);
      reached = λ x c. elim (front_cases f s.functions x c) [ inl e ↦ subst (λ (z : ℕ). IsFunction code f z) e Stop | inr k ↦ way-join w (s.reached.reached x k) ];
      different = apart_from f s.functions (λ c. away (s.reached.reached f c)) s.reached.different;
    }

-- f calls g, and no calls lead from f back to f
pub rank_of_callee : (code : Bytes) (f g n m : ℕ) → CallsTo code f g → (CallsBack code f → ⊥) → IsRank code f n → IsRank code g m → m < n
rank_of_callee code f g n m d once = rank_below code f g n m (Leave tt d Stop) (λ b. once (record { callee = g; calls = d; back = b }))

-- another function of f
pub no_way_back : (code : Bytes) {f g : ℕ} → IsFunction code f g → f ≢ g → (CallsBack code f → ⊥) → IsFunction code g f → ⊥
no_way_back code Stop differ once b = differ Rattle.std.proofs.Common.refl
no_way_back code (Leave {a} {c} {b} p e w) differ once back = once (record { callee = c; calls = e; back = way-join w back })

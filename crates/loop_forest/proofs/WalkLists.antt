-- Walks along lists of nodes.
use Rattle.std.proofs.Common.{◌≡◌, ℕ, zero, suc, ◌+◌, ◌-◌, ◌<◌, ◌≤◌, get_or, List, length, arith, subst}
use Rattle.flow_graph.specs.Walks.{Way, Stop, Leave}
use Rattle.loop_forest.specs.Cycles.{IsLinked}

-- along a list, from place i to place i + n
pub way_along : {E : ℕ → ℕ → Type 0} {P : ℕ → Type 0} (w : List ℕ) (n i : ℕ) → IsLinked E w → i + n < length w → ((k : ℕ) → i ≤ k → k < i + n → P (get_or w k 0)) → Way E P (get_or w i 0) (get_or w (i + n) 0)
way_along {E} {P} w zero i l h p = subst (λ (z : ℕ). Way E P (get_or w i 0) (get_or w z 0)) (omega arith) Stop
way_along {E} {P} w (suc n) i l h p =
    Leave (p i (omega arith) (omega arith)) (l i (omega arith))
    (let e : (i + 1) + n ≡ i + suc n = omega arith in
    subst (λ (z : ℕ). Way E P (get_or w (i + 1) 0) (get_or w z 0)) e
    (way_along w n (i + 1) l (omega arith) (λ k a b. p k (omega arith) (omega arith))))

-- the same between two places
pub way_between : {E : ℕ → ℕ → Type 0} {P : ℕ → Type 0} (w : List ℕ) (i j : ℕ) → IsLinked E w → i ≤ j → j < length w → ((k : ℕ) → i ≤ k → k < j → P (get_or w k 0)) → Way E P (get_or w i 0) (get_or w j 0)
way_between {E} {P} w i j l a b p =
    let e : i + (j - i) ≡ j = omega arith in
    subst (λ (z : ℕ). Way E P (get_or w i 0) (get_or w z 0)) e (way_along w (j - i) i l (omega arith) (λ k c d. p k c (omega arith)))

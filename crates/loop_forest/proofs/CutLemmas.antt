-- Each reached node stands at one place after the last cut.
use Rattle.std.proofs.Common.{◌≡◌, ℕ, ◌+◌, ◌%◌, ◌⊎◌, inl, inr, refl, sym, ◌∙◌, ap, subst}
use Rattle.flow_graph.specs.Walks.{Way, Stop, Leave, AnyNode}
use Rattle.loop_forest.specs.Cuts.{StepsSinceCut, AtBase, After}

-- a walk from a node with a place gives its end a place
pub stands_after : {E : ℕ → ℕ → Type 0} {Base : ℕ → Type 0} → ((n : ℕ) → Base n ⊎ (Base n → ⊥)) → {a b : ℕ} → Way E AnyNode a b → (k : ℕ) → StepsSinceCut E Base a k → (j : ℕ) × StepsSinceCut E Base b j
stands_after tells Stop k s = (k, s)
stands_after tells (Leave {a} {c} p e w) k s = elim (tells c) [ inl b ↦ stands_after tells w 0 (AtBase b) | inr n ↦ stands_after tells w ((k + 1) % 32) (After n e s refl) ]

pub stands_once : {E : ℕ → ℕ → Type 0} {Base : ℕ → Type 0} → ((n u v : ℕ) → (Base n → ⊥) → E u n → E v n → u ≡ v) → (n k j : ℕ) → StepsSinceCut E Base n k → StepsSinceCut E Base n j → k ≡ j
stands_once one n k j (AtBase b) (AtBase c) = refl
stands_once one n k j (AtBase b) (After m e s q) = absurd (m b)
stands_once one n k j (After m e s q) (AtBase b) = absurd (m b)
stands_once {E} {Base} one n k j (After {u = u} {k = i} m e s q) (After {u = v} {k = l} m2 e2 s2 q2) =
    q ∙ ap (λ x. (x + 1) % 32) (stands_once one u i l s (subst (λ (z : ℕ). StepsSinceCut E Base z l) (sym (one n u v m e e2)) s2)) ∙ sym q2

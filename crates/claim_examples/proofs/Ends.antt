-- Where two steps lead, and no third one.
use Rattle.std.proofs.Common.{◌≡◌, ℕ, zero, suc, Some, None, sym, ap, ◌∙◌}
use Rattle.std.specs.Option.{option_and_then, unwrap_or}
use Rattle.rv_machine.specs.State.{State}
use Rattle.rv_machine.specs.Step.{step}
use Rattle.rv_machine.specs.Run.{run}

same : (s t : State) → Some s ≡ Some t → s ≡ t
same s t e = ap (λ o. unwrap_or o s) e

nowhere : (t : State) → None ≡ Some t → ⊥
nowhere t e = cc

-- a run from a, by b to c, that ends at the program counter neither of a nor of b, ends at c
pub only-end : (a b c : State) → step a ≡ Some b → step b ≡ Some c → step c ≡ None
    → (k : ℕ) (t : State) → run a k ≡ Some t → (a.pc ≡ t.pc → ⊥) → (b.pc ≡ t.pc → ⊥) → c ≡ t
unfolding run
only-end a b c first second third zero t e begun on = absurd (begun (ap (λ (s : State). s.pc) (same a t e)))
only-end a b c first second third (suc zero) t e begun on = absurd (on (ap (λ (s : State). s.pc) (same b t (sym (ap (option_and_then (λ u. run u 0)) first) ∙ e))))
only-end a b c first second third (suc (suc zero)) t e begun on =
    same c t (sym (ap (option_and_then (λ u. run u 1)) first ∙ ap (option_and_then (λ u. run u 0)) second) ∙ e)
only-end a b c first second third (suc (suc (suc k))) t e begun on =
    absurd (nowhere t (sym (ap (option_and_then (λ u. run u (suc (suc k)))) first ∙ ap (option_and_then (λ u. run u (suc k))) second ∙ ap (option_and_then (λ u. run u k)) third) ∙ e))

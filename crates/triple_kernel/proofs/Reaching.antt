-- Runs one after the other.
use Rattle.std.proofs.Common.{◌≡◌, ℕ, zero, suc, Option, Some, None, refl, ◌∙◌}
use Rattle.std.specs.Prelude.{option_and_then}
use Rattle.rv_machine.specs.State.{State}
use Rattle.rv_machine.specs.Step.{step}
use Rattle.rv_machine.specs.Run.{run}
use Rattle.triple_kernel.specs.Valid.{Reaches}

then-run : (o : Option State) (j : ℕ) (t u : State)
    → ((r : State) → run r j ≡ Some t → (m : ℕ) × (run r m ≡ Some u)) → option_and_then (λ r. run r j) o ≡ Some t
    → (m : ℕ) × (option_and_then (λ r. run r m) o ≡ Some u)
then-run None j t u on ran = absurd (cc)
then-run (Some r) j t u on ran = on r ran

run-on : (j k : ℕ) (s t u : State) → run s j ≡ Some t → run t k ≡ Some u → (m : ℕ) × (run s m ≡ Some u)
unfolding run
run-on zero k s t u ran last = let same : s ≡ t = cc in (k, (λ i. run (same i) k) ∙ last)
run-on (suc j) k s t u ran last = let r = then-run (step s) j t u (λ r here. run-on j k r t u here last) ran in (suc r.0, r.1)

pub reaches-none : (s : State) → Reaches s s
unfolding run
reaches-none s = record { steps = 0; ran = refl }

pub reaches-on : (s t u : State) → Reaches s t → Reaches t u → Reaches s u
reaches-on s t u first second = let r = run-on first.steps second.steps s t u first.ran second.ran in record { steps = r.0; ran = r.1 }

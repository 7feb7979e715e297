-- There is a next state exactly where there is no reason against it.
use Rattle.std.proofs.Common.{◌≡◌, ◌↔◌, Option, Some, None, IsSome, is_some, cond, refl}
use Rattle.rv_machine.specs.declared.state.Stuck.{Stuck}
use Rattle.rv_machine.specs.State.{State}
use Rattle.rv_machine.specs.Step.{cause, step, stuck}

one_of : (x : Option State) (why : Stuck) → (cond (is_some x) None (Some why) ≡ None) ↔ IsSome x
one_of None why = (λ e. absurd (cc), λ e. absurd (cc))
one_of (Some t) why = (λ _. refl, λ _. refl)

pub stuck-step : (s : State) → (stuck s ≡ None) ↔ IsSome (step s)
unfolding stuck
stuck-step s = one_of (step s) (cause s)

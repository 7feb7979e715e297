use Rattle.std.proofs.Common.{◌≡◌, ℕ, zero, suc, cond, eqb, Bool, true, false, replicate, get_or, refl, ◌∙◌}
use Rattle.std.specs.Ordering.{nat_cmp}
use Rattle.std.specs.FinMap.{get, get-empty}
use Rattle.rv_machine.specs.State.{register}
use Rattle.rv_machine.proofs.state.State.new.Goals as goal

zeros : (n r : ℕ) → let none : ℕ = 0 in get_or (replicate n none) r none ≡ none
zeros zero r = refl
zeros (suc n) zero = refl
zeros (suc n) (suc r) = zeros n r

register-zeros : (r : ℕ) → register (replicate 32 0) r ≡ 0
register-zeros r = (λ i. cond (eqb r 0) 0 (zeros 32 r i)) ∙ both (eqb r 0)
  where
    both : (t : Bool) → let none : ℕ = 0 in cond t none none ≡ none
    both true = refl
    both false = refl

pub returns-clause-state : goal.returns-clause-state
returns-clause-state c =
    let registers : (r : ℕ) → register c.new.result r ≡ 0 = λ r. (λ i. register (c.new.ensures i) r) ∙ register-zeros r in
    let memory = λ (a : ℕ). (λ i. get (c.new-2.ensures i) a) ∙ get-empty nat_cmp a in
    λ i. record { pc = c.args.pc; reg = λ r. registers r i; mem = λ a. memory a i }

-- A run of one more step, and how a run ends.
use Rattle.std.proofs.Common.{◌≡◌, ◌≢◌, ℕ, zero, suc, ◌+◌, ◌<◌, true, Option, Some, None, is_some, refl, sym, ap, ◌∙◌, inl, inr, arith, below_more}
use Rattle.std.proofs.lemmas.Bool.{cases_order}
use Rattle.std.specs.Option.{option_and_then, unwrap_or}
use Rattle.rv_machine.specs.State.{State}
use Rattle.rv_machine.specs.Step.{step, stuck}
use Rattle.rv_machine.specs.Run.{run, Misses, EndsIn}
use Rattle.rv_machine.specs.declared.state.Stuck.{Stuck}
use Rattle.rv_machine.specs.declared.running.RunEnd.{RunEnd}
use Rattle.rv_machine.specs.declared.running.RunEnd.TheVariants as end
use Rattle.rv_machine.proofs.StuckLemmas.{stuck-step}

same : (s t : State) → Some s ≡ Some t → s ≡ t
same s t e = ap (λ o. unwrap_or o s) e

and_then-more : (o : Option State) (f g : State → Option State) (t u : State) → ((r : State) → f r ≡ Some t → g r ≡ Some u) → option_and_then f o ≡ Some t
    → option_and_then g o ≡ Some u
and_then-more None f g t u more e = absurd (cc)
and_then-more (Some r) f g t u more e = more r e

pub run-none : (s : State) → run s 0 ≡ Some s
unfolding run
run-none s = refl

run-suc : (s t u : State) (k : ℕ) → run s k ≡ Some t → step t ≡ Some u → run s (suc k) ≡ Some u
unfolding run
run-suc s t u zero at last = ap (option_and_then (λ r. Some r)) (ap step (same s t at) ∙ last)
run-suc s t u (suc k) at last = and_then-more (step s) (λ r. run r k) (λ r. run r (suc k)) t u (λ r here. run-suc r t u k here last) at

-- what one more step at the end gives
pub run-more : (s t u : State) (k : ℕ) → run s k ≡ Some t → step t ≡ Some u → run s (k + 1) ≡ Some u
run-more s t u k at last = let e : k + 1 ≡ suc k = omega arith in (λ i. run s (e i)) ∙ run-suc s t u k at last

-- one more state that isn't at the address
pub Misses-more : (a : ℕ) (s t : State) (k : ℕ) → Misses a s k → run s k ≡ Some t → t.pc ≢ a → Misses a s (k + 1)
Misses-more a s t k before at here =
    below_more (λ j. (x : State) → run s j ≡ Some x → x.pc ≢ a) k before (λ x now there. here (ap (λ (y : State). y.pc) (same t x (sym at ∙ now)) ∙ there))

-- ---- runs one after the other

and_then-parts : (o : Option State) (f g h : State → Option State) → ((r : State) → f r ≡ option_and_then h (g r))
    → option_and_then f o ≡ option_and_then h (option_and_then g o)
and_then-parts None f g h e = refl
and_then-parts (Some r) f g h e = e r

-- j + k steps are j steps and then k
pub run-parts : (s : State) (j k : ℕ) → run s (j + k) ≡ option_and_then (λ t. run t k) (run s j)
unfolding run
run-parts s zero k = let e : 0 + k ≡ k = omega arith in λ i. run s (e i)
run-parts s (suc j) k =
    let e : suc j + k ≡ suc (j + k) = omega arith in
    (λ i. run s (e i)) ∙ and_then-parts (step s) (λ t. run t (j + k)) (λ t. run t j) (λ t. run t k) (λ r. run-parts r j k)

pub run-joined : (s t u : State) (j k : ℕ) → run s j ≡ Some t → run t k ≡ Some u → run s (j + k) ≡ Some u
run-joined s t u j k first then = run-parts s j k ∙ ap (option_and_then (λ r. run r k)) first ∙ then

and_then-middle : (o : Option State) (f : State → Option State) (u : State) → option_and_then f o ≡ Some u → (t : State) × (o ≡ Some t) × (f t ≡ Some u)
and_then-middle None f u e = absurd (cc)
and_then-middle (Some t) f u e = (t, refl, e)

pub run-parted : (s u : State) (j k : ℕ) → run s (j + k) ≡ Some u → (t : State) × (run s j ≡ Some t) × (run t k ≡ Some u)
run-parted s u j k e = and_then-middle (run s j) (λ t. run t k) u (sym (run-parts s j k) ∙ e)

and_then-last : (o : Option State) → option_and_then (λ t. Some t) o ≡ o
and_then-last None = refl
and_then-last (Some t) = refl

pub run-one : (s : State) → run s 1 ≡ step s
unfolding run
run-one s = and_then-last (step s)

-- ---- a run ends once

none_reason : (why : Stuck) → None ≡ Some why → ⊥
none_reason why e = cc

none_state : (t : State) → None ≡ Some t → ⊥
none_state t e = cc

is_none : (o : Option State) → (is_some o ≡ true → ⊥) → o ≡ None
is_none None f = refl
is_none (Some t) f = absurd (f refl)

none-next : (s : State) (why : Stuck) → stuck s ≡ Some why → step s ≡ None
none-next s why e = is_none (step s) (λ some. none_reason why (sym ((stuck-step s).1 some) ∙ e))

and_then-none : (o : Option State) (f : State → Option State) (t : State) → o ≡ None → option_and_then f o ≡ Some t → ⊥
and_then-none o f t e h = none_state t (sym (ap (option_and_then f) e) ∙ h)

and_then-both : (o : Option State) (f g : State → Option State) (t u : State) → ((r : State) → f r ≡ Some u → g r ≡ Some t → ⊥) → option_and_then f o ≡ Some u → option_and_then g o ≡ Some t → ⊥
and_then-both None f g t u never a b = none_state u a
and_then-both (Some r) f g t u never a b = never r a b

-- after a state that is stuck there is none
stuck-last : (s u t : State) (why : Stuck) (j k : ℕ) → run s j ≡ Some u → stuck u ≡ Some why → j < k → run s k ≡ Some t → ⊥
unfolding run
stuck-last s u t why j zero at is lt there = absurd (omega arith)
stuck-last s u t why zero (suc k) at is lt there = and_then-none (step s) (λ r. run r k) t (ap step (same s u at) ∙ none-next u why is) there
stuck-last s u t why (suc j) (suc k) at is lt there =
    and_then-both (step s) (λ r. run r j) (λ r. run r k) t u (λ r a b. stuck-last r u t why j k a is (omega arith) b) at there

module _ (until steps : ℕ) (s t u : State) where
  same_place : (j k : ℕ) → run s j ≡ Some t → run s k ≡ Some u → j ≡ k → t ≡ u
  same_place j k a b e = same t u (sym a ∙ (λ i. run s (e i)) ∙ b)

  met-met : (j k : ℕ) → EndsIn until steps s t (end.Met j) → EndsIn until steps s u (end.Met k) → j ≡ k
  met-met j k a b = elim (cases_order j k) [
    | inl e ↦ e
    | inr (inl lt) ↦ absurd (b.3 j lt t a.1 a.2)
    | inr (inr gt) ↦ absurd (a.3 k gt u b.1 b.2)
  ]

  met-stuck : (j k : ℕ) (why : Stuck) → EndsIn until steps s t (end.Met j) → EndsIn until steps s u (end.Stuck k why) → ⊥
  met-stuck j k why a b = elim (cases_order j k) [
    | inl e ↦ b.3 j (omega arith) t a.1 a.2
    | inr (inl lt) ↦ b.3 j (omega arith) t a.1 a.2
    | inr (inr gt) ↦ stuck-last s u t why k j b.1 b.2 gt a.1
  ]

  met-steps : (j : ℕ) → EndsIn until steps s t (end.Met j) → EndsIn until steps s u end.Steps → ⊥
  met-steps j a b = b.1 j (omega (arith, a.0)) t a.1 a.2

  stuck-stuck : (j k : ℕ) (why because : Stuck) → EndsIn until steps s t (end.Stuck j why) → EndsIn until steps s u (end.Stuck k because) → j ≡ k
  stuck-stuck j k why because a b = elim (cases_order j k) [
    | inl e ↦ e
    | inr (inl lt) ↦ absurd (stuck-last s t u why j k a.1 a.2 lt b.1)
    | inr (inr gt) ↦ absurd (stuck-last s u t because k j b.1 b.2 gt a.1)
  ]

  stuck-steps : (j : ℕ) (why : Stuck) → EndsIn until steps s t (end.Stuck j why) → EndsIn until steps s u end.Steps → ⊥
  stuck-steps j why a b = stuck-last s t u why j steps a.1 a.2 a.0 b.0

same_reason : (x y : Stuck) → Some x ≡ Some y → x ≡ y
same_reason x y e = cc

-- there is one end at most, and one state in which a run ends
pub ends-once : (until steps : ℕ) (s t u : State) (e f : RunEnd) → EndsIn until steps s t e → EndsIn until steps s u f → (t ≡ u) × (e ≡ f)
ends-once until steps s t u (end.Met j) (end.Met k) a b =
    let e = met-met until steps s t u j k a b in (same_place until steps s t u j k a.1 b.1 e, ap (λ (n : ℕ). end.Met n) e)
ends-once until steps s t u (end.Met j) (end.Stuck k why) a b = absurd (met-stuck until steps s t u j k why a b)
ends-once until steps s t u (end.Met j) end.Steps a b = absurd (met-steps until steps s t u j a b)
ends-once until steps s t u (end.Stuck j why) (end.Met k) a b = absurd (met-stuck until steps s u t k j why b a)
ends-once until steps s t u (end.Stuck j why) (end.Stuck k because) a b =
    let e = stuck-stuck until steps s t u j k why because a b in
    let p = same_place until steps s t u j k a.1 b.1 e in
    let r : why ≡ because = same_reason why because (sym a.2 ∙ ap stuck p ∙ b.2) in
    (p, λ i. end.Stuck (e i) (r i))
ends-once until steps s t u (end.Stuck j why) end.Steps a b = absurd (stuck-steps until steps s t u j why a b)
ends-once until steps s t u end.Steps (end.Met k) a b = absurd (met-steps until steps s u t k b a)
ends-once until steps s t u end.Steps (end.Stuck k why) a b = absurd (stuck-steps until steps s u t k why b a)
ends-once until steps s t u end.Steps end.Steps a b = (same_place until steps s t u steps steps a.0 b.0 refl, refl)

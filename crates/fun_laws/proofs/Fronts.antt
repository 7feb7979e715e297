-- A list is its first item and the rest.
use Rattle.std.proofs.Common.{◌≡◌, ℕ, ◌-◌, ◌≤◌, List, [], ◌∷◌, length, get_or, take, drop, Option, Result, IfOk, IfNone, subst, arith}
use Rattle.std.proofs.lemmas.List.{take_all}
use Rattle.fun_laws.specs.Laws.{Law, Term}
use Rattle.fun_laws.specs.Places.{Rewrites}

pub whole : (xs : List ℕ) → 1 ≤ length xs → get_or xs 0 0 ∷ take (length xs - 1) (drop 1 xs) ≡ xs
whole [] h = absurd (omega (arith, h))
whole (x ∷ xs) h = λ j. x ∷ take_all (length (x ∷ xs) - 1) xs (omega arith) j

pub none_whole : {X E : Type 0} (law : Law) (t : Term) (xs : List ℕ) (r : Result (Option X) E) → 1 ≤ length xs
    → IfOk r (λ o. IfNone o ((u : Term) → Rewrites law (get_or xs 0 0 ∷ take (length xs - 1) (drop 1 xs)) t u → ⊥))
    → IfOk r (λ o. IfNone o ((u : Term) → Rewrites law xs t u → ⊥))
none_whole law t xs r h is = subst (λ p. IfOk r (λ o. IfNone o ((u : Term) → Rewrites law p t u → ⊥))) (whole xs h) is

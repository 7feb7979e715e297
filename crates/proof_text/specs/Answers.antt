-- What a call of a reader answers.
use Rattle.std.specs.Prelude.{◌≡◌, ℕ, List, [], ◌∷◌, ◌++◌, Option, Some, None, Result, Ok, Err}
use Rattle.proof_text.specs.Line.{ProofOf, ProofTree}
use Rattle.proof_text.specs.LineGrammar.{LineGrammar, whole_lines}
use Rattle.proof_text.specs.FirstProofs.{Progress, ItemOf, items, HasGivenOver}
use Rattle.group_text.specs.declared.read_error.TextFault.{TextFault}
use Rattle.group_text.specs.declared.read_error.TextFault.TheVariants.{Bad, NoMemory}

-- where an item is given
abbrev pub OnGiven : {X : Type 0} → Result (Option X) TextFault → (X → Type 0) → Type 0
OnGiven (Ok (Some x)) P = P x
OnGiven (Ok None) P = Unit {0}
OnGiven (Err e) P = Unit {0}

-- where there is none
abbrev pub OnEnd : {X : Type 0} → Result (Option X) TextFault → Type 0 → Type 0
OnEnd (Ok (Some x)) P = Unit {0}
OnEnd (Ok None) P = P
OnEnd (Err e) P = Unit {0}

-- where a line is refused, by its number
abbrev pub OnBad : {X : Type 0} → Result (Option X) TextFault → (ℕ → Type 0) → Type 0
OnBad (Ok o) P = Unit {0}
OnBad (Err (Bad n)) P = P n
OnBad (Err NoMemory) P = Unit {0}

-- nothing is given
abbrev pub IsEnd : {X : Type 0} → Result (Option X) TextFault → Type 0
IsEnd (Ok (Some x)) = ⊥
IsEnd (Ok None) = Unit {0}
IsEnd (Err e) = ⊥

-- no item comes after those that were given
abbrev pub NoItemOver : (L : LineGrammar) → List (ProofOf L.Line) → Progress → Type 0
NoItemOver L ps r = (i : ItemOf L.Line) (qs : List (ProofOf L.Line)) (new : Progress) → new.text ≡ r.text → new.version ≡ r.version → items qs ≡ items ps ++ i ∷ [] → HasGivenOver L qs new → ⊥

abbrev pub NoItem : List ProofTree → Progress → Type 0
NoItem ps r = NoItemOver whole_lines ps r

-- Which proofs are accepted for a file, where lines state whole triples.
use Rattle.std.specs.Prelude.{ℕ, List}
use Rattle.proof_text.specs.Line.{ProofTree}
use Rattle.verdicts.specs.Instance.{FurtherRule, no_rule}
use Rattle.verdicts.specs.LineRules.{AcceptsOver, IsProvedOver, whole_rules}

-- The group is well-formed, each line of its proof is right after those before it, its last definition is closed after all of
-- them, and its code is the file's.
abbrev pub IsAcceptedBy : FurtherRule → List ℕ → ProofTree → Type 0
IsAcceptedBy F file p = IsProvedOver (whole_rules F) file p

-- the file can be read, and each group of these proofs is accepted
abbrev pub AcceptsBy : FurtherRule → List ℕ → List ProofTree → Type 0
AcceptsBy F file ps = AcceptsOver (whole_rules F) file ps

-- ---- where there is no further rule

abbrev pub IsAccepted : List ℕ → ProofTree → Type 0
IsAccepted file p = IsAcceptedBy no_rule file p

abbrev pub Accepts : List ℕ → List ProofTree → Type 0
Accepts file ps = AcceptsBy no_rule file ps

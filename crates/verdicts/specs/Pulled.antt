-- What the check of a text in a file comes to.
use Rattle.std.specs.Prelude.{Bool, true, false}
use Rattle.verdicts.specs.declared.verdict.Pulled.{Pulled}
use Rattle.verdicts.specs.declared.verdict.Pulled.TheVariants as pulled
use Rattle.verdicts.specs.declared.verdict.Verdict.{Verdict as VerdictOf}
use Rattle.verdicts.specs.declared.verdict.Verdict.TheVariants as verdict

-- the verdict; a fault says as little of the text as lack of memory
abbrev pub as_verdict : Pulled → VerdictOf
as_verdict (pulled.Verdict v) = v
as_verdict pulled.Fault = verdict.NoMemory

abbrev pub is_outside : Pulled → Bool
is_outside (pulled.Verdict v) = false
is_outside pulled.Fault = true

-- where there is a verdict
abbrev pub IfVerdict : Pulled → (VerdictOf → Type 0) → Type 0
IfVerdict (pulled.Verdict v) P = P v
IfVerdict pulled.Fault P = Unit {0}

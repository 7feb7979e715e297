-- What was judged of a text that may lie outside.
use Rattle.std.specs.Prelude.{Bool, false, Result, Ok, Err}
use Rattle.proof_text.specs.declared.pull_fault.PullFault.{PullFault}
use Rattle.proof_text.specs.declared.pull_fault.PullFault.TheVariants as pull
use Rattle.verdicts.specs.declared.verdict.Pulled.{Pulled}
use Rattle.verdicts.specs.declared.verdict.Pulled.TheVariants as pulled
use Rattle.verdicts.specs.declared.verdict.Verdict.{Verdict as VerdictOf}
use Rattle.verdicts.specs.declared.verdict.Verdict.TheVariants as verdict
use Rattle.verdicts.specs.Pulled.{as_verdict, is_outside}

abbrev pub verdicts : {X : Type 0} → Result X Pulled → Result X VerdictOf
verdicts (Ok x) = Ok x
verdicts (Err e) = Err (as_verdict e)

abbrev pub stops_outside : {X : Type 0} → Result X Pulled → Bool
stops_outside (Ok x) = false
stops_outside (Err e) = is_outside e

abbrev pub pulled_by : PullFault → Pulled
pulled_by (pull.Bad n) = pulled.Verdict (verdict.BadText n)
pulled_by pull.Fault = pulled.Fault
pulled_by pull.NoMemory = pulled.Verdict verdict.NoMemory

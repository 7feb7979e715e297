-- Where steps stop.
use Rattle.std.specs.Prelude.{List}
use Rattle.tailrec_lang.specs.Tree.{DefTree}
use Rattle.fun_laws.specs.declared.step.Rw.{Rw}
use Rattle.fun_laws.specs.declared.rewrite.StepFault.{StepFault}
use Rattle.fun_laws.specs.declared.rewrite.StepFault.TheVariants as fault
use Rattle.fun_laws.specs.Certs.{IsFirstBad}

abbrev pub StopsAt : List Rw → List DefTree → StepFault → Type 0
StopsAt rs ds (fault.At i) = IsFirstBad rs ds i
StopsAt rs ds fault.NoMemory = Unit {0}

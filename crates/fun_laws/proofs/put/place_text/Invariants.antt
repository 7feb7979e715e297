use Rattle.std.proofs.Common.{◌≡◌, ◌++◌, drop}
use Rattle.fun_laws.specs.Spelling.{digits}
use Rattle.fun_laws.proofs.put.place_text.Given as goal

abbrev pub invariant-loop-k : goal.invariant-loop-k
invariant-loop-k l = l.text ++ digits (drop l.k-index l.place) ≡ digits l.place

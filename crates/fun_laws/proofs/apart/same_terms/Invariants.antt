use Rattle.std.proofs.Common.{◌≡◌, take, map}
use Rattle.fun_laws.specs.inner.Taken.{term_of}
use Rattle.fun_laws.proofs.apart.same_terms.Given as goal

abbrev pub invariant-loop-i : goal.invariant-loop-i
invariant-loop-i l = map term_of (take l.i l.a) ≡ map term_of (take l.i l.b)

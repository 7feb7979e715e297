use Rattle.std.proofs.Common.{◌≡◌, take, map}
use Rattle.fun_laws.specs.inner.Taken.{apart_tree}
use Rattle.fun_laws.proofs.apart.are_same.Given as goal

abbrev pub invariant-loop-i : goal.invariant-loop-i
invariant-loop-i l = map apart_tree (take l.i l.a) ≡ map apart_tree (take l.i l.b)

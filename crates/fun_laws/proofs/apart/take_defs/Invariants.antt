use Rattle.std.proofs.Common.{◌≡◌, map, take}
use Rattle.tailrec_lang.specs.Tree.{def_tree}
use Rattle.fun_laws.specs.inner.Apart.{taken_apart}
use Rattle.fun_laws.specs.inner.Taken.{apart_tree}
use Rattle.fun_laws.proofs.apart.take_defs.Given as goal

abbrev pub invariant-loop-def : goal.invariant-loop-def
invariant-loop-def l = map apart_tree l.parts.items ≡ map taken_apart (map def_tree (take l.def-index l.defs))

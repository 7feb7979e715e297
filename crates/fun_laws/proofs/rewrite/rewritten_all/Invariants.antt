use Rattle.std.proofs.Common.{take, map}
use Rattle.tailrec_lang.specs.Tree.{def_tree}
use Rattle.fun_laws.specs.inner.Apart.{AreRewritten}
use Rattle.fun_laws.specs.inner.Taken.{apart_tree}
use Rattle.fun_laws.proofs.rewrite.rewritten_all.Given as goal

abbrev pub invariant-loop-i : goal.invariant-loop-i
invariant-loop-i l = AreRewritten (take l.i l.steps) (map def_tree l.defs) (map apart_tree l.parts.items)

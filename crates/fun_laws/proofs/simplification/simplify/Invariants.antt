use Rattle.std.proofs.Common.{◌≡◌, ◌++◌, [], drop, length, map}
use Rattle.tailrec_lang.specs.Tree.{def_tree}
use Rattle.fun_laws.specs.Rewriting.{AreRewritingSteps}
use Rattle.fun_laws.specs.inner.Simplified.{AreSimpleDefs}
use Rattle.fun_laws.proofs.simplification.simplify.Given as goal

abbrev pub invariant-loop-def : goal.invariant-loop-def
invariant-loop-def l =
    AreRewritingSteps l.log.steps (map def_tree l.g.defs) (map def_tree l.result ++ map def_tree (drop l.def-index l.g.defs))
    × AreSimpleDefs (map def_tree l.result) × (length l.result ≡ l.def-index) × (l.log.def ≡ l.def-index) × (l.log.place ≡ [])

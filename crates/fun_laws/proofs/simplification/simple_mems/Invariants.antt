use Rattle.std.proofs.Common.{◌≡◌, ◌++◌, drop, length, map}
use Rattle.word_terms.specs.Tree.{mem_tree}
use Rattle.fun_laws.specs.inner.Simplified.{ArePassed, AreSimpleMems, mem_parts}
use Rattle.fun_laws.proofs.simplification.simple_mems.Given as goal

abbrev pub invariant-loop-m : goal.invariant-loop-m
invariant-loop-m l =
    ArePassed mem_parts l.m-index l.fn.log l.log (map mem_tree l.mems) (map mem_tree l.made ++ map mem_tree (drop l.m-index l.mems))
    × AreSimpleMems (map mem_tree l.made) × (length l.made ≡ l.m-index)

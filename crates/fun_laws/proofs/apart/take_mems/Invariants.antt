use Rattle.std.proofs.Common.{◌≡◌, ◌++◌, map, take}
use Rattle.word_terms.specs.Tree.{mem_tree}
use Rattle.fun_laws.specs.Laws.{OfMem}
use Rattle.fun_laws.specs.inner.Apart.{blank_mem}
use Rattle.fun_laws.specs.inner.Taken.{term_of}
use Rattle.fun_laws.proofs.apart.take_mems.Given as goal

abbrev pub invariant-loop-m : goal.invariant-loop-m
invariant-loop-m l =
    (map mem_tree l.blanks ≡ map blank_mem (map mem_tree (take l.m-index l.mems)))
    × (map term_of l.found ≡ map term_of l.fn.found ++ map OfMem (map mem_tree (take l.m-index l.mems)))

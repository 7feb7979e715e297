use Rattle.std.proofs.Common.{◌≡◌, ◌++◌, map, take}
use Rattle.tailrec_lang.specs.Tree.{arms_of, body_tree}
use Rattle.fun_laws.specs.inner.Apart.{arm_terms, skeleton}
use Rattle.fun_laws.specs.inner.Taken.{term_of}
use Rattle.fun_laws.proofs.apart.+taking.Given as goal

abbrev pub invariant-take_arms-loop-arm : goal.invariant-take_arms-loop-arm
invariant-take_arms-loop-arm l =
    (map body_tree l.blanks ≡ map skeleton (map body_tree (take l.arm-index l.arms)))
    × (map term_of l.found ≡ map term_of l.fn.found ++ arm_terms (arms_of (map body_tree (take l.arm-index l.arms))))

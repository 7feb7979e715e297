-- No condition has depth 0.
use Rattle.std.proofs.Common.{◌<◌, arith}
use Rattle.word_terms.specs.Tree.{CondTree, Compare, Neg, Inside, depth_of_cond}

pub deep_cond : (t : CondTree) → 0 < depth_of_cond t
deep_cond (Compare cmp a b) = omega arith
deep_cond (Neg c) = omega arith
deep_cond (Inside width m a) = omega arith

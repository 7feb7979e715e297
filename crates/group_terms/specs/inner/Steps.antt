-- Bodies that begin with a step.
use Rattle.std.specs.Prelude.{Bool, true, false}
use Rattle.tailrec_lang.specs.Tree.{BodyTree, Do}

-- whether it is a step and a rest
abbrev pub is_do : BodyTree → Bool
is_do (Do step rest) = true
is_do _ = false

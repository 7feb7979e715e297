use Rattle.std.proofs.Common.{◌≡◌, ◌<◌, ℕ, Some}
use Rattle.std.specs.Prelude.{slice_get}
use Rattle.tailrec_lang.specs.Tree.{DefTree, group_tree}
use Rattle.tailrec_lang.specs.WellFormed.{DefIsWellFormed}
use Rattle.tailrec_lang.proofs.scope.well_formed.Given as goal

abbrev pub invariant-loop-i : goal.invariant-loop-i
invariant-loop-i l = (k : ℕ) (def : DefTree) → k < l.i → slice_get (group_tree l.g).defs k ≡ Some def → DefIsWellFormed (group_tree l.g) k def

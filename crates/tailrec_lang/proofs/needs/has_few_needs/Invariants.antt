use Rattle.std.proofs.Common.{◌≡◌, ◌<◌, ℕ, Some}
use Rattle.std.specs.Prelude.{◌^◌, slice_get}
use Rattle.tailrec_lang.specs.Tree.{DefTree, group_tree}
use Rattle.tailrec_lang.specs.Eval.{needs}
use Rattle.tailrec_lang.proofs.needs.has_few_needs.Given as goal

abbrev pub invariant-loop-def : goal.invariant-loop-def
invariant-loop-def l = (k : ℕ) (def : DefTree) → k < l.def-index → slice_get (group_tree l.g).defs k ≡ Some def → needs def.body < 2 ^ 64

use Rattle.std.proofs.Common.{◌≡◌, ◌<◌, ◌≤◌, length}
use Rattle.tailrec_lang.specs.Tree.{group_tree}
use Rattle.tailrec_lang.specs.Eval.{arguments, ending}
use Rattle.tailrec_lang.specs.inner.Walk.{Waits, unwound}
use Rattle.tailrec_lang.proofs.evaluator.eval.Given as goal

abbrev pub invariant-turns_left : goal.invariant-turns_left
invariant-turns_left l = record {
  same : unwound (ending (group_tree l.g)) l.waiting (ending (group_tree l.g) l.current (arguments l.variables) l.left) ≡ ending (group_tree l.g) l.def (arguments l.args) l.turns;
  waits : Waits (group_tree l.g) l.def l.waiting l.current;
  there : l.current < length l.g.defs;
  words : length l.variables.words ≡ length l.g.regs;
  mems : length l.variables.mems ≡ l.g.mems;
  bound : l.left ≤ l.turns;
}

abbrev pub decreases-turns_left : goal.decreases-turns_left
decreases-turns_left l = l.left

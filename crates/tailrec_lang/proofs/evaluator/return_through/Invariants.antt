use Rattle.std.proofs.Common.{◌≡◌, ◌<◌, ℕ, length}
use Rattle.tailrec_lang.specs.Tree.{GroupTree}
use Rattle.tailrec_lang.specs.Eval.{Meaning}
use Rattle.tailrec_lang.specs.inner.Walk.{Waits, WalkFits, unwound, walk_ending}
use Rattle.tailrec_lang.proofs.evaluator.return_through.Given as goal

abbrev pub invariant-pops : goal.invariant-pops
invariant-pops l = record {
  ending : (call : Meaning) (left : ℕ) → unwound call l.fn.waiting (walk_ending call l.fn.def l.fn.walk left) ≡ unwound call l.waiting (walk_ending call l.def l.walk left);
  fits : (g : GroupTree) (first : ℕ) → Waits g first l.fn.waiting l.fn.def → WalkFits g l.fn.def l.fn.walk → l.fn.def < length g.defs
      → Waits g first l.waiting l.def × WalkFits g l.def l.walk × (l.def < length g.defs);
}

abbrev pub decreases-pops : goal.decreases-pops
decreases-pops l = length l.waiting

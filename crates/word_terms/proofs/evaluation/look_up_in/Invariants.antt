use Rattle.std.specs.FinMap.{get}
use Rattle.word_terms.specs.inner.Window.{StandFrom}
use Rattle.word_terms.proofs.evaluation.look_up_in.Given as goal

abbrev pub invariant-loop-k : goal.invariant-loop-k
invariant-loop-k l = StandFrom (get l.m) l.a l.k l.window

use Rattle.rv_words.specs.Bytes.{Bytes, bytes_of}
use Rattle.word_terms.specs.inner.Window.{StandFrom, StandStored}
use Rattle.word_terms.proofs.evaluation.put_over.Given as goal

abbrev pub invariant-loop-k : goal.invariant-loop-k
invariant-loop-k l = (m : Bytes) → StandFrom m l.a l.count l.initial.window → StandStored m (bytes_of l.width) l.at l.v l.a l.k l.count l.window

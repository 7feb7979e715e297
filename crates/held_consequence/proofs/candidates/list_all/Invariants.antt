use Rattle.std.proofs.Common.{take}
use Rattle.std.specs.Prelude.{All}
use Rattle.held_consequence.specs.inner.Classes.{AreFrom, IsFactListed}
use Rattle.held_consequence.proofs.candidates.list_all.Given as goal

abbrev pub invariant-loop-fact : goal.invariant-loop-fact
invariant-loop-fact l = record {
  from : AreFrom l.facts l.lists;
  all : All (IsFactListed l.classes l.lists) (take l.fact-index l.facts);
}

use Rattle.std.proofs.Common.{map, take}
use Rattle.frame_compose.specs.Rules.{AreMissing}
use Rattle.held_terms.specs.Held.{fact_of}
use Rattle.derived_triples.specs.Fine.{AreFineFacts}
use Rattle.derived_triples.proofs.making.missing_facts.Given as goal

abbrev pub invariant-loop-fact : goal.invariant-loop-fact
invariant-loop-fact l = record {
  missing : AreMissing (map (fact_of l.arena) l.first) (map (fact_of l.arena) (take l.fact-index l.second)) (map (fact_of l.arena) l.more);
  fine : AreFineFacts l.arena l.more;
}

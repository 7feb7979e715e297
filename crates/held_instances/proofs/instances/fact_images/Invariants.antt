use Rattle.std.proofs.Common.{take}
use Rattle.std.specs.List.{AllZip}
use Rattle.term_arena.specs.Arena.{Extends}
use Rattle.held_instances.specs.Image.{IsReady, put_for_numbers}
use Rattle.held_terms.specs.Subterms.{HasFacts}
use Rattle.held_instances.specs.inner.Imaging.{AreMade, Imaged}
use Rattle.held_instances.specs.inner.Instances.{IsFactImage}
use Rattle.held_instances.proofs.instances.fact_images.Given as goal

abbrev pub invariant-loop-fact : goal.invariant-loop-fact
invariant-loop-fact g l = record {
  ready : IsReady l.arena l.words l.mems l.known;
  grows : Extends l.fn.arena l.arena;
  images : AllZip (IsFactImage l.arena (put_for_numbers l.arena l.words l.mems)) (take l.fact-index l.facts) l.images;
  made : AreMade l.known;
  imaged : Imaged l.fn.arena l.arena (HasFacts l.fn.arena l.facts) l.fn.known l.known l.fn.steps l.steps;
}

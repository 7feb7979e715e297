use Rattle.std.proofs.Common.{take}
use Rattle.term_arena.specs.Arena.{Extends}
use Rattle.held_instances.specs.Image.{IsReady, put_for_numbers}
use Rattle.held_terms.specs.Subterms.{HasTerms}
use Rattle.held_instances.specs.inner.Imaging.{AreMade, Imaged}
use Rattle.held_instances.specs.inner.Instances.{AreImagesOf}
use Rattle.held_instances.proofs.instances.images.Given as goal

abbrev pub invariant-loop-i : goal.invariant-loop-i
invariant-loop-i g l = record {
  ready : IsReady l.arena l.words l.mems l.known;
  grows : Extends l.fn.arena l.arena;
  images : AreImagesOf l.arena (put_for_numbers l.arena l.words l.mems) (take l.i l.xs) l.ys;
  made : AreMade l.known;
  imaged : Imaged l.fn.arena l.arena (HasTerms l.fn.arena l.xs) l.fn.known l.known l.fn.steps l.steps;
}

use Rattle.std.proofs.Common.{◌<◌, length, take, arith}
use Rattle.held_instances.specs.Image.{IsImage, put_for_numbers}
use Rattle.held_terms.specs.Subterms.{HasTerms}
use Rattle.held_terms.proofs.ChildLemmas.{has_still}
use Rattle.held_instances.proofs.ImagingLemmas.{imaged_next, made_still}
use Rattle.held_terms.proofs.Indices.{read_at}
use Rattle.held_terms.proofs.GrowthLemmas.{extends_next}
use Rattle.held_instances.proofs.InstanceLemmas.{images_stay, zip_next}
use Rattle.held_instances.proofs.instances.images.Goals as goal

pub loop-i-preserved : goal.loop-i-preserved
loop-i-preserved g c =
    let words = c.args.words.now in
    let mems = c.args.mems.now in
    let xs = c.args.xs.now in
    let i = c.loop-i.i in
    let low : i < length xs = omega arith in
    let before = c.loop-i.arena in
    let now = c.image.new.arena in
    record {
      ready = c.image.ensures.ready;
      made = made_still c.loop-i.known c.image.new.known c.loop-i.invariant.made c.in_ok-y.ensures.ended;
      imaged = imaged_next c.args.arena.now c.loop-i.arena c.image.new.arena (HasTerms c.args.arena.now c.args.xs.now) _ c.args.known.now c.loop-i.known c.image.new.known c.args.steps.now c.loop-i.steps c.image.new.steps c.loop-i.invariant.imaged
          (λ ts has. has_still c.args.arena.now c.loop-i.arena c.loop-i.invariant.grows _ ts (c.requires.within c.loop-i.i 0 low) (has c.loop-i.i 0 low)) c.image.ensures.imaged;
      grows = extends_next c.args.arena.now before now c.loop-i.invariant.grows c.image.ensures.grows;
      images = zip_next (IsImage now (put_for_numbers now words mems)) xs c.loop-i.ys _ i _ c.in_ok-y.y low (read_at xs i 0 _ low) c.in_ok-push.ensures.ok
          (images_stay before now words mems c.loop-i.known c.loop-i.invariant.ready c.image.ensures.grows (take i xs) c.loop-i.ys c.loop-i.invariant.images)
          c.in_ok-y.ensures.image;
    }

pub returns-in_err-y-clause-imaged : goal.returns-in_err-y-clause-imaged
returns-in_err-y-clause-imaged g c =
    let low : c.loop-i.i < length c.args.xs.now = omega arith in
    imaged_next c.args.arena.now c.loop-i.arena c.image.new.arena (HasTerms c.args.arena.now c.args.xs.now) _ c.args.known.now c.loop-i.known c.image.new.known c.args.steps.now c.loop-i.steps c.image.new.steps c.loop-i.invariant.imaged
    (λ ts has. has_still c.args.arena.now c.loop-i.arena c.loop-i.invariant.grows _ ts (c.requires.within c.loop-i.i 0 low) (has c.loop-i.i 0 low)) c.image.ensures.imaged

pub returns-in_err-push-clause-imaged : goal.returns-in_err-push-clause-imaged
returns-in_err-push-clause-imaged g c =
    let low : c.loop-i.i < length c.args.xs.now = omega arith in
    imaged_next c.args.arena.now c.loop-i.arena c.image.new.arena (HasTerms c.args.arena.now c.args.xs.now) _ c.args.known.now c.loop-i.known c.image.new.known c.args.steps.now c.loop-i.steps c.image.new.steps c.loop-i.invariant.imaged
    (λ ts has. has_still c.args.arena.now c.loop-i.arena c.loop-i.invariant.grows _ ts (c.requires.within c.loop-i.i 0 low) (has c.loop-i.i 0 low)) c.image.ensures.imaged

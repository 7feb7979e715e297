use Rattle.std.proofs.Common.{ℕ, List, sym, subst}
use Rattle.held_instances.specs.Image.{put_for_numbers}
use Rattle.held_instances.specs.inner.Instances.{AreWithin, AreImagesOf}
use Rattle.held_terms.specs.Subterms.{HasTerms, HasValues}
use Rattle.held_instances.specs.inner.Imaging.{Imaged}
use Rattle.held_instances.proofs.AskedLemmas.{terms_asked}
use Rattle.held_instances.proofs.ImagingLemmas.{imaged_next, imaged_under}
use Rattle.held_instances.proofs.InstanceLemmas.{words_within, mems_within, images_stay}
use Rattle.held_terms.proofs.GrowthLemmas.{mems_still}
use Rattle.held_instances.proofs.instances.values_image.Goals as goal

pub images-requires-clause-within : goal.images-requires-clause-within
images-requires-clause-within g c =
    subst (λ (ks : List ℕ). AreWithin c.args.arena.now ks) (sym c.as_slice.ensures) (words_within c.args.arena.now c.args.values.now.words c.requires.values.words)

pub images-requires-2-clause-within : goal.images-requires-2-clause-within
images-requires-2-clause-within g c =
    let now = c.images.new.arena in
    let mems = c.args.values.now.mems in
    subst (λ (ks : List ℕ). AreWithin now ks) (sym c.as_slice-2.ensures) (mems_within now mems (mems_still c.args.arena.now now c.images.ensures.grows mems c.requires.values.mems))

pub returns-clause-image : goal.returns-clause-image
returns-clause-image g c =
    let words = c.args.words.now in
    let mems = c.args.mems.now in
    let one = c.images.new.arena in
    let two = c.images-2.new.arena in
    record {
      words = images_stay one two words mems c.images.new.known c.images.ensures.ready c.images-2.ensures.grows c.args.values.now.words c.in_ok-first.first
          (subst (λ (ks : List ℕ). AreImagesOf one (put_for_numbers one words mems) ks c.in_ok-first.first) c.as_slice.ensures c.in_ok-first.ensures.images);
      mems = subst (λ (ks : List ℕ). AreImagesOf two (put_for_numbers two words mems) ks c.in_ok-second.second) c.as_slice-2.ensures c.in_ok-second.ensures.images;
    }

pub returns-in_err-first-clause-imaged : goal.returns-in_err-first-clause-imaged
returns-in_err-first-clause-imaged g c =
    let one : Imaged c.args.arena.now c.images.new.arena (HasValues c.args.arena.now c.args.values.now) c.args.known.now c.images.new.known c.args.steps.now c.images.new.steps =
    imaged_under c.args.arena.now c.images.new.arena (HasValues c.args.arena.now c.args.values.now) _ c.args.known.now c.images.new.known c.args.steps.now c.images.new.steps
    (λ ts has. subst (λ (ks : List ℕ). HasTerms c.args.arena.now ks ts) (sym c.as_slice.ensures) has.words) c.images.ensures.imaged in
    one

pub returns-in_err-second-clause-imaged : goal.returns-in_err-second-clause-imaged
returns-in_err-second-clause-imaged g c =
    let one : Imaged c.args.arena.now c.images.new.arena (HasValues c.args.arena.now c.args.values.now) c.args.known.now c.images.new.known c.args.steps.now c.images.new.steps =
    imaged_under c.args.arena.now c.images.new.arena (HasValues c.args.arena.now c.args.values.now) _ c.args.known.now c.images.new.known c.args.steps.now c.images.new.steps
    (λ ts has. subst (λ (ks : List ℕ). HasTerms c.args.arena.now ks ts) (sym c.as_slice.ensures) has.words) c.images.ensures.imaged in
    imaged_next c.args.arena.now c.images.new.arena c.images-2.new.arena (HasValues c.args.arena.now c.args.values.now) _ c.args.known.now c.images.new.known c.images-2.new.known c.args.steps.now c.images.new.steps c.images-2.new.steps one
    (λ ts has. subst (λ (ks : List ℕ). HasTerms c.images.new.arena ks ts) (sym c.as_slice-2.ensures)
    (terms_asked c.args.arena.now c.images.new.arena c.images.ensures.grows ts c.args.values.now.mems (mems_within c.args.arena.now c.args.values.now.mems c.requires.values.mems) has.mems))
    c.images-2.ensures.imaged

pub returns-clause-imaged : goal.returns-clause-imaged
returns-clause-imaged g c =
    let one : Imaged c.args.arena.now c.images.new.arena (HasValues c.args.arena.now c.args.values.now) c.args.known.now c.images.new.known c.args.steps.now c.images.new.steps =
    imaged_under c.args.arena.now c.images.new.arena (HasValues c.args.arena.now c.args.values.now) _ c.args.known.now c.images.new.known c.args.steps.now c.images.new.steps
    (λ ts has. subst (λ (ks : List ℕ). HasTerms c.args.arena.now ks ts) (sym c.as_slice.ensures) has.words) c.images.ensures.imaged in
    imaged_next c.args.arena.now c.images.new.arena c.images-2.new.arena (HasValues c.args.arena.now c.args.values.now) _ c.args.known.now c.images.new.known c.images-2.new.known c.args.steps.now c.images.new.steps c.images-2.new.steps one
    (λ ts has. subst (λ (ks : List ℕ). HasTerms c.images.new.arena ks ts) (sym c.as_slice-2.ensures)
    (terms_asked c.args.arena.now c.images.new.arena c.images.ensures.grows ts c.args.values.now.mems (mems_within c.args.arena.now c.args.values.now.mems c.requires.values.mems) has.mems))
    c.images-2.ensures.imaged

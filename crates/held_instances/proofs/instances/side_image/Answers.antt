use Rattle.std.proofs.Common.{ℕ, List, sym, subst}
use Rattle.std.specs.List.{AllZip}
use Rattle.std.proofs.lemmas.Result.{IfOk-weaker}
use Rattle.term_arena.proofs.TreeLemmas.{number_within}
use Rattle.held_terms.specs.Held.{AreRegistersAt}
use Rattle.held_instances.specs.Image.{put_for_numbers}
use Rattle.held_instances.specs.inner.Instances.{AreWithin, AreImagesOf, IsRegisterImage, IsSideImage}
use Rattle.held_terms.specs.Subterms.{HasRegisters, HasSide, HasTerms}
use Rattle.held_instances.specs.inner.Imaging.{Imaged}
use Rattle.held_instances.proofs.AskedLemmas.{registers_asked, terms_asked}
use Rattle.held_instances.proofs.ImagingLemmas.{imaged_next, imaged_under, made_still}
use Rattle.held_instances.proofs.ImageLemmas.{image_stays}
use Rattle.held_instances.proofs.InstanceLemmas.{mems_within, registers_stay}
use Rattle.held_terms.proofs.GrowthLemmas.{registers_still, mems_still, extends_next}
use Rattle.held_instances.proofs.instances.side_image.Goals as goal

pub image-requires-clause-there : goal.image-requires-clause-there
image-requires-clause-there g c = number_within c.args.arena.now _ _ c.requires.side.pc

pub register_images-requires-clause-registers : goal.register_images-requires-clause-registers
register_images-requires-clause-registers g c =
    subst (λ (rs : List (ℕ × ℕ)). AreRegistersAt c.image.new.arena rs) (sym c.as_slice.ensures)
    (registers_still c.args.arena.now c.image.new.arena c.image.ensures.grows c.args.side.now.regs c.requires.side.regs)

pub images-requires-clause-within : goal.images-requires-clause-within
images-requires-clause-within g c =
    let now = c.register_images.new.arena in
    let grown = extends_next c.args.arena.now c.image.new.arena now c.image.ensures.grows c.register_images.ensures.grows in
    subst (λ (ks : List ℕ). AreWithin now ks) (sym c.as_slice-2.ensures) (mems_within now c.args.side.now.mems (mems_still c.args.arena.now now grown c.args.side.now.mems c.requires.side.mems))

pub returns-clause-image : goal.returns-clause-image
returns-clause-image g c =
    let words = c.args.words.now in
    let mems = c.args.mems.now in
    let one = c.image.new.arena in
    let two = c.register_images.new.arena in
    let three = c.images.new.arena in
    let side : IsSideImage three (put_for_numbers three words mems) c.args.side.now (record { pc = c.in_ok-pc.pc; regs = c.in_ok-regs.regs; mems = c.in_ok-memories.memories }) = record {
      pc = image_stays one three words mems c.image.new.known _ _ c.image.ensures.ready (extends_next one two three c.register_images.ensures.grows c.images.ensures.grows) c.in_ok-pc.ensures.image;
      regs = registers_stay two three words mems c.register_images.new.known c.register_images.ensures.ready c.images.ensures.grows c.args.side.now.regs c.in_ok-regs.regs
          (subst (λ (rs : List (ℕ × ℕ)). AllZip (IsRegisterImage two (put_for_numbers two words mems)) rs c.in_ok-regs.regs) c.as_slice.ensures c.in_ok-regs.ensures.images);
      mems = subst (λ (ks : List ℕ). AreImagesOf three (put_for_numbers three words mems) ks c.in_ok-memories.memories) c.as_slice-2.ensures c.in_ok-memories.ensures.images;
    } in
    IfOk-weaker c.new.result _ _ (λ s e. subst (IsSideImage three (put_for_numbers three words mems) c.args.side.now) (sym e) side) c.new.ensures

pub returns-in_err-pc-clause-imaged : goal.returns-in_err-pc-clause-imaged
returns-in_err-pc-clause-imaged g c =
    let start = c.args.arena.now in
    let one : Imaged start c.image.new.arena (HasSide c.args.arena.now c.args.side.now) c.args.known.now c.image.new.known c.args.steps.now c.image.new.steps =
    imaged_under start c.image.new.arena (HasSide c.args.arena.now c.args.side.now) _ c.args.known.now c.image.new.known c.args.steps.now c.image.new.steps (λ ts has. has.pc) c.image.ensures.imaged in
    one

pub returns-in_err-regs-clause-imaged : goal.returns-in_err-regs-clause-imaged
returns-in_err-regs-clause-imaged g c =
    let start = c.args.arena.now in
    let one : Imaged start c.image.new.arena (HasSide c.args.arena.now c.args.side.now) c.args.known.now c.image.new.known c.args.steps.now c.image.new.steps =
    imaged_under start c.image.new.arena (HasSide c.args.arena.now c.args.side.now) _ c.args.known.now c.image.new.known c.args.steps.now c.image.new.steps (λ ts has. has.pc) c.image.ensures.imaged in
    let two : Imaged start c.register_images.new.arena (HasSide c.args.arena.now c.args.side.now) c.args.known.now c.register_images.new.known c.args.steps.now c.register_images.new.steps =
    imaged_next start c.image.new.arena c.register_images.new.arena (HasSide c.args.arena.now c.args.side.now) _ c.args.known.now c.image.new.known c.register_images.new.known c.args.steps.now c.image.new.steps c.register_images.new.steps one
    (λ ts has. subst (λ (rs : List (ℕ × ℕ)). HasRegisters c.image.new.arena rs ts) (sym c.as_slice.ensures) (registers_asked start c.image.new.arena c.image.ensures.grows ts c.args.side.now.regs c.requires.side.regs has.regs))
    c.register_images.ensures.imaged in
    two

pub returns-in_err-memories-clause-imaged : goal.returns-in_err-memories-clause-imaged
returns-in_err-memories-clause-imaged g c =
    let start = c.args.arena.now in
    let one : Imaged start c.image.new.arena (HasSide c.args.arena.now c.args.side.now) c.args.known.now c.image.new.known c.args.steps.now c.image.new.steps =
    imaged_under start c.image.new.arena (HasSide c.args.arena.now c.args.side.now) _ c.args.known.now c.image.new.known c.args.steps.now c.image.new.steps (λ ts has. has.pc) c.image.ensures.imaged in
    let two : Imaged start c.register_images.new.arena (HasSide c.args.arena.now c.args.side.now) c.args.known.now c.register_images.new.known c.args.steps.now c.register_images.new.steps =
    imaged_next start c.image.new.arena c.register_images.new.arena (HasSide c.args.arena.now c.args.side.now) _ c.args.known.now c.image.new.known c.register_images.new.known c.args.steps.now c.image.new.steps c.register_images.new.steps one
    (λ ts has. subst (λ (rs : List (ℕ × ℕ)). HasRegisters c.image.new.arena rs ts) (sym c.as_slice.ensures) (registers_asked start c.image.new.arena c.image.ensures.grows ts c.args.side.now.regs c.requires.side.regs has.regs))
    c.register_images.ensures.imaged in
    imaged_next start c.register_images.new.arena c.images.new.arena (HasSide c.args.arena.now c.args.side.now) _ c.args.known.now c.register_images.new.known c.images.new.known c.args.steps.now c.register_images.new.steps c.images.new.steps two
    (λ ts has. subst (λ (ks : List ℕ). HasTerms c.register_images.new.arena ks ts) (sym c.as_slice-2.ensures)
    (terms_asked start c.register_images.new.arena (extends_next start c.image.new.arena c.register_images.new.arena c.image.ensures.grows c.register_images.ensures.grows) ts c.args.side.now.mems (mems_within start c.args.side.now.mems c.requires.side.mems) has.mems))
    c.images.ensures.imaged

pub returns-clause-imaged : goal.returns-clause-imaged
returns-clause-imaged g c =
    let start = c.args.arena.now in
    let one : Imaged start c.image.new.arena (HasSide c.args.arena.now c.args.side.now) c.args.known.now c.image.new.known c.args.steps.now c.image.new.steps =
    imaged_under start c.image.new.arena (HasSide c.args.arena.now c.args.side.now) _ c.args.known.now c.image.new.known c.args.steps.now c.image.new.steps (λ ts has. has.pc) c.image.ensures.imaged in
    let two : Imaged start c.register_images.new.arena (HasSide c.args.arena.now c.args.side.now) c.args.known.now c.register_images.new.known c.args.steps.now c.register_images.new.steps =
    imaged_next start c.image.new.arena c.register_images.new.arena (HasSide c.args.arena.now c.args.side.now) _ c.args.known.now c.image.new.known c.register_images.new.known c.args.steps.now c.image.new.steps c.register_images.new.steps one
    (λ ts has. subst (λ (rs : List (ℕ × ℕ)). HasRegisters c.image.new.arena rs ts) (sym c.as_slice.ensures) (registers_asked start c.image.new.arena c.image.ensures.grows ts c.args.side.now.regs c.requires.side.regs has.regs))
    c.register_images.ensures.imaged in
    imaged_next start c.register_images.new.arena c.images.new.arena (HasSide c.args.arena.now c.args.side.now) _ c.args.known.now c.register_images.new.known c.images.new.known c.args.steps.now c.register_images.new.steps c.images.new.steps two
    (λ ts has. subst (λ (ks : List ℕ). HasTerms c.register_images.new.arena ks ts) (sym c.as_slice-2.ensures)
    (terms_asked start c.register_images.new.arena (extends_next start c.image.new.arena c.register_images.new.arena c.image.ensures.grows c.register_images.ensures.grows) ts c.args.side.now.mems (mems_within start c.args.side.now.mems c.requires.side.mems) has.mems))
    c.images.ensures.imaged

pub register_images-requires-clause-made : goal.register_images-requires-clause-made
register_images-requires-clause-made g c = made_still c.args.known.now c.image.new.known c.requires.made c.in_ok-pc.ensures.ended

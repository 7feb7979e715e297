use Rattle.std.proofs.Common.{List, ap, sym, subst}
use Rattle.std.specs.List.{AllZip}
use Rattle.std.proofs.lemmas.Result.{IfOk-weaker}
use Rattle.word_terms.specs.declared.code.Code.{Code}
use Rattle.held_terms.specs.declared.held.HeldFact.{HeldFact}
use Rattle.held_terms.specs.declared.held.Held.{Held}
use Rattle.held_instances.specs.Image.{put_for_numbers}
use Rattle.held_instances.specs.inner.Instances.{IsFactImage}
use Rattle.held_terms.specs.Held.{IsHeldAt, triple_of}
use Rattle.held_terms.specs.Subterms.{HasFacts, HasHeld, HasSide}
use Rattle.triple_kernel.specs.Rules.{IsInst}
use Rattle.held_instances.specs.inner.Imaging.{Imaged}
use Rattle.held_instances.proofs.AskedLemmas.{side_asked}
use Rattle.held_instances.proofs.ImagingLemmas.{imaged_next, imaged_under}
use Rattle.held_terms.proofs.GrowthLemmas.{side_still, extends_next, held_still}
use Rattle.held_instances.proofs.InstanceLemmas.{facts_stay, side_stays, AreParts, held_there, instance_of}
use Rattle.held_instances.proofs.instances.held_image.Goals as goal

pub side_image-requires-clause-side : goal.side_image-requires-clause-side
side_image-requires-clause-side g c = side_still c.args.arena.now c.fact_images.new.arena c.fact_images.ensures.grows c.args.p.now.pre c.requires.p.pre

pub side_image-requires-2-clause-side : goal.side_image-requires-2-clause-side
side_image-requires-2-clause-side g c =
    let now = c.side_image.new.arena in
    side_still c.args.arena.now now (extends_next c.args.arena.now c.fact_images.new.arena now c.fact_images.ensures.grows c.side_image.ensures.grows) c.args.p.now.post c.requires.p.post

pub returns-clause-there : goal.returns-clause-there
returns-clause-there g c =
    let words = c.args.words.now in
    let mems = c.args.mems.now in
    let one = c.fact_images.new.arena in
    let two = c.side_image.new.arena in
    let now = c.side_image-2.new.arena in
    let two_now = c.side_image-2.ensures.grows in
    let one_now = extends_next one two now c.side_image.ensures.grows two_now in
    let grown = extends_next c.args.arena.now one now c.fact_images.ensures.grows one_now in
    let q : Held = record { facts = c.in_ok-facts.facts; pre = c.in_ok-pre.pre; code = c.in_ok-code.code; post = c.in_ok-post.post } in
    let facts = subst (λ (fs : List HeldFact). AllZip (IsFactImage one (put_for_numbers one words mems)) fs c.in_ok-facts.facts) c.as_slice.ensures c.in_ok-facts.ensures.images in
    let parts : AreParts now (put_for_numbers now words mems) c.args.p.now q = record {
      facts = facts_stay one now words mems c.fact_images.new.known c.fact_images.ensures.ready one_now c.args.p.now.facts c.in_ok-facts.facts facts;
      pre = side_stays two now words mems c.side_image.new.known c.side_image.ensures.ready two_now c.args.p.now.pre c.in_ok-pre.pre c.in_ok-pre.ensures.image;
      code = ap (λ (code : Code). code.ranges) c.in_ok-code.ensures;
      post = c.in_ok-post.ensures.image;
    } in
    let there = held_there now (put_for_numbers now words mems) c.args.p.now q (held_still c.args.arena.now now grown c.args.p.now c.requires.p) parts in
    IfOk-weaker c.new.result _ _ (λ h e. subst (IsHeldAt now) (sym e) there) c.new.ensures

pub returns-clause-instance : goal.returns-clause-instance
returns-clause-instance g c =
    let words = c.args.words.now in
    let mems = c.args.mems.now in
    let one = c.fact_images.new.arena in
    let two = c.side_image.new.arena in
    let now = c.side_image-2.new.arena in
    let two_now = c.side_image-2.ensures.grows in
    let one_now = extends_next one two now c.side_image.ensures.grows two_now in
    let grown = extends_next c.args.arena.now one now c.fact_images.ensures.grows one_now in
    let q : Held = record { facts = c.in_ok-facts.facts; pre = c.in_ok-pre.pre; code = c.in_ok-code.code; post = c.in_ok-post.post } in
    let facts = subst (λ (fs : List HeldFact). AllZip (IsFactImage one (put_for_numbers one words mems)) fs c.in_ok-facts.facts) c.as_slice.ensures c.in_ok-facts.ensures.images in
    let parts : AreParts now (put_for_numbers now words mems) c.args.p.now q = record {
      facts = facts_stay one now words mems c.fact_images.new.known c.fact_images.ensures.ready one_now c.args.p.now.facts c.in_ok-facts.facts facts;
      pre = side_stays two now words mems c.side_image.new.known c.side_image.ensures.ready two_now c.args.p.now.pre c.in_ok-pre.pre c.in_ok-pre.ensures.image;
      code = ap (λ (code : Code). code.ranges) c.in_ok-code.ensures;
      post = c.in_ok-post.ensures.image;
    } in
    let instance = instance_of c.args.arena.now now words mems c.args.p.now q grown c.requires.ready.sub c.requires.p parts in
    IfOk-weaker c.new.result _ _
    (λ h e. subst (λ (x : Held). IsInst (put_for_numbers c.args.arena.now words mems) (triple_of c.args.arena.now c.args.p.now) (triple_of now x)) (sym e) instance) c.new.ensures

pub returns-in_err-facts-clause-imaged : goal.returns-in_err-facts-clause-imaged
returns-in_err-facts-clause-imaged g c =
    let start = c.args.arena.now in
    let one : Imaged start c.fact_images.new.arena (HasHeld c.args.arena.now c.args.p.now) c.args.known.now c.fact_images.new.known c.args.steps.now c.fact_images.new.steps =
    imaged_under start c.fact_images.new.arena (HasHeld c.args.arena.now c.args.p.now) _ c.args.known.now c.fact_images.new.known c.args.steps.now c.fact_images.new.steps
    (λ ts has. subst (λ (fs : List HeldFact). HasFacts start fs ts) (sym c.as_slice.ensures) has.facts) c.fact_images.ensures.imaged in
    one

pub returns-in_err-pre-clause-imaged : goal.returns-in_err-pre-clause-imaged
returns-in_err-pre-clause-imaged g c =
    let start = c.args.arena.now in
    let one : Imaged start c.fact_images.new.arena (HasHeld c.args.arena.now c.args.p.now) c.args.known.now c.fact_images.new.known c.args.steps.now c.fact_images.new.steps =
    imaged_under start c.fact_images.new.arena (HasHeld c.args.arena.now c.args.p.now) _ c.args.known.now c.fact_images.new.known c.args.steps.now c.fact_images.new.steps
    (λ ts has. subst (λ (fs : List HeldFact). HasFacts start fs ts) (sym c.as_slice.ensures) has.facts) c.fact_images.ensures.imaged in
    let two : Imaged start c.side_image.new.arena (HasHeld c.args.arena.now c.args.p.now) c.args.known.now c.side_image.new.known c.args.steps.now c.side_image.new.steps =
    imaged_next start c.fact_images.new.arena c.side_image.new.arena (HasHeld c.args.arena.now c.args.p.now) (HasSide c.fact_images.new.arena c.args.p.now.pre) c.args.known.now c.fact_images.new.known c.side_image.new.known c.args.steps.now c.fact_images.new.steps c.side_image.new.steps one
    (λ ts has. side_asked start c.fact_images.new.arena c.fact_images.ensures.grows ts c.args.p.now.pre c.requires.p.pre has.pre) c.side_image.ensures.imaged in
    two

pub returns-in_err-post-clause-imaged : goal.returns-in_err-post-clause-imaged
returns-in_err-post-clause-imaged g c =
    let start = c.args.arena.now in
    let one : Imaged start c.fact_images.new.arena (HasHeld c.args.arena.now c.args.p.now) c.args.known.now c.fact_images.new.known c.args.steps.now c.fact_images.new.steps =
    imaged_under start c.fact_images.new.arena (HasHeld c.args.arena.now c.args.p.now) _ c.args.known.now c.fact_images.new.known c.args.steps.now c.fact_images.new.steps
    (λ ts has. subst (λ (fs : List HeldFact). HasFacts start fs ts) (sym c.as_slice.ensures) has.facts) c.fact_images.ensures.imaged in
    let two : Imaged start c.side_image.new.arena (HasHeld c.args.arena.now c.args.p.now) c.args.known.now c.side_image.new.known c.args.steps.now c.side_image.new.steps =
    imaged_next start c.fact_images.new.arena c.side_image.new.arena (HasHeld c.args.arena.now c.args.p.now) (HasSide c.fact_images.new.arena c.args.p.now.pre) c.args.known.now c.fact_images.new.known c.side_image.new.known c.args.steps.now c.fact_images.new.steps c.side_image.new.steps one
    (λ ts has. side_asked start c.fact_images.new.arena c.fact_images.ensures.grows ts c.args.p.now.pre c.requires.p.pre has.pre) c.side_image.ensures.imaged in
    imaged_next start c.side_image.new.arena c.side_image-2.new.arena (HasHeld c.args.arena.now c.args.p.now) (HasSide c.side_image.new.arena c.args.p.now.post) c.args.known.now c.side_image.new.known c.side_image-2.new.known c.args.steps.now c.side_image.new.steps c.side_image-2.new.steps two
    (λ ts has. side_asked start c.side_image.new.arena (extends_next start c.fact_images.new.arena c.side_image.new.arena c.fact_images.ensures.grows c.side_image.ensures.grows) ts c.args.p.now.post c.requires.p.post has.post)
    c.side_image-2.ensures.imaged

pub returns-in_err-code-clause-imaged : goal.returns-in_err-code-clause-imaged
returns-in_err-code-clause-imaged g c =
    let start = c.args.arena.now in
    let one : Imaged start c.fact_images.new.arena (HasHeld c.args.arena.now c.args.p.now) c.args.known.now c.fact_images.new.known c.args.steps.now c.fact_images.new.steps =
    imaged_under start c.fact_images.new.arena (HasHeld c.args.arena.now c.args.p.now) _ c.args.known.now c.fact_images.new.known c.args.steps.now c.fact_images.new.steps
    (λ ts has. subst (λ (fs : List HeldFact). HasFacts start fs ts) (sym c.as_slice.ensures) has.facts) c.fact_images.ensures.imaged in
    let two : Imaged start c.side_image.new.arena (HasHeld c.args.arena.now c.args.p.now) c.args.known.now c.side_image.new.known c.args.steps.now c.side_image.new.steps =
    imaged_next start c.fact_images.new.arena c.side_image.new.arena (HasHeld c.args.arena.now c.args.p.now) (HasSide c.fact_images.new.arena c.args.p.now.pre) c.args.known.now c.fact_images.new.known c.side_image.new.known c.args.steps.now c.fact_images.new.steps c.side_image.new.steps one
    (λ ts has. side_asked start c.fact_images.new.arena c.fact_images.ensures.grows ts c.args.p.now.pre c.requires.p.pre has.pre) c.side_image.ensures.imaged in
    imaged_next start c.side_image.new.arena c.side_image-2.new.arena (HasHeld c.args.arena.now c.args.p.now) (HasSide c.side_image.new.arena c.args.p.now.post) c.args.known.now c.side_image.new.known c.side_image-2.new.known c.args.steps.now c.side_image.new.steps c.side_image-2.new.steps two
    (λ ts has. side_asked start c.side_image.new.arena (extends_next start c.fact_images.new.arena c.side_image.new.arena c.fact_images.ensures.grows c.side_image.ensures.grows) ts c.args.p.now.post c.requires.p.post has.post)
    c.side_image-2.ensures.imaged

pub returns-clause-imaged : goal.returns-clause-imaged
returns-clause-imaged g c =
    let start = c.args.arena.now in
    let one : Imaged start c.fact_images.new.arena (HasHeld c.args.arena.now c.args.p.now) c.args.known.now c.fact_images.new.known c.args.steps.now c.fact_images.new.steps =
    imaged_under start c.fact_images.new.arena (HasHeld c.args.arena.now c.args.p.now) _ c.args.known.now c.fact_images.new.known c.args.steps.now c.fact_images.new.steps
    (λ ts has. subst (λ (fs : List HeldFact). HasFacts start fs ts) (sym c.as_slice.ensures) has.facts) c.fact_images.ensures.imaged in
    let two : Imaged start c.side_image.new.arena (HasHeld c.args.arena.now c.args.p.now) c.args.known.now c.side_image.new.known c.args.steps.now c.side_image.new.steps =
    imaged_next start c.fact_images.new.arena c.side_image.new.arena (HasHeld c.args.arena.now c.args.p.now) (HasSide c.fact_images.new.arena c.args.p.now.pre) c.args.known.now c.fact_images.new.known c.side_image.new.known c.args.steps.now c.fact_images.new.steps c.side_image.new.steps one
    (λ ts has. side_asked start c.fact_images.new.arena c.fact_images.ensures.grows ts c.args.p.now.pre c.requires.p.pre has.pre) c.side_image.ensures.imaged in
    imaged_next start c.side_image.new.arena c.side_image-2.new.arena (HasHeld c.args.arena.now c.args.p.now) (HasSide c.side_image.new.arena c.args.p.now.post) c.args.known.now c.side_image.new.known c.side_image-2.new.known c.args.steps.now c.side_image.new.steps c.side_image-2.new.steps two
    (λ ts has. side_asked start c.side_image.new.arena (extends_next start c.fact_images.new.arena c.side_image.new.arena c.fact_images.ensures.grows c.side_image.ensures.grows) ts c.args.p.now.post c.requires.p.post has.post)
    c.side_image-2.ensures.imaged

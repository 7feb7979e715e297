use Rattle.std.proofs.Common.{take, sym, subst}
use Rattle.held_instances.specs.Image.{put_for_numbers}
use Rattle.held_instances.specs.inner.Instances.{IsFactImage}
use Rattle.held_terms.specs.Held.{IsFactAt}
use Rattle.held_terms.specs.declared.held.HeldFact.{HeldFact}
use Rattle.held_terms.specs.Subterms.{HasFact, HasFacts}
use Rattle.held_instances.proofs.AskedLemmas.{fact_asked}
use Rattle.held_instances.proofs.ImagingLemmas.{imaged_next}
use Rattle.held_terms.proofs.GrowthLemmas.{extends_next, fact_still}
use Rattle.held_instances.proofs.InstanceLemmas.{facts_stay, zip_next}
use Rattle.held_instances.proofs.instances.fact_images.Goals as goal

pub loop-fact-preserved : goal.loop-fact-preserved
loop-fact-preserved g c =
    let words = c.args.words.now in
    let mems = c.args.mems.now in
    let facts = c.args.facts.now in
    let i = c.loop-fact.fact-index in
    let before = c.loop-fact.arena in
    let now = c.fact_image.new.arena in
    record {
      ready = c.fact_image.ensures.ready;
      made = c.in_ok-image.ensures.made;
      imaged = imaged_next c.args.arena.now c.loop-fact.arena c.fact_image.new.arena (HasFacts c.args.arena.now c.args.facts.now) (HasFact c.loop-fact.arena c.fact-item.result) c.args.known.now c.loop-fact.known c.fact_image.new.known c.args.steps.now c.loop-fact.steps c.fact_image.new.steps c.loop-fact.invariant.imaged
          (λ ts has. fact_asked c.args.arena.now c.loop-fact.arena c.loop-fact.invariant.grows ts c.fact-item.result
          (subst (IsFactAt c.args.arena.now) (sym c.fact-item.is) (c.requires.facts c.loop-fact.fact-index c.fact-item.result c.loop-fact-test.true))
          (subst (λ (f : HeldFact). HasFact c.args.arena.now f ts) (sym c.fact-item.is) (has c.loop-fact.fact-index c.fact-item.result c.loop-fact-test.true)))
          c.fact_image.ensures.imaged;
      grows = extends_next c.args.arena.now before now c.loop-fact.invariant.grows c.fact_image.ensures.grows;
      images = zip_next (IsFactImage now (put_for_numbers now words mems)) facts c.loop-fact.images _ i c.fact-item.result c.in_ok-image.image c.loop-fact-test.true c.fact-item.is c.in_ok-push.ensures.ok
          (facts_stay before now words mems c.loop-fact.known c.loop-fact.invariant.ready c.fact_image.ensures.grows (take i facts) c.loop-fact.images c.loop-fact.invariant.images)
          c.in_ok-image.ensures.image;
    }

pub fact_image-requires-clause-fact : goal.fact_image-requires-clause-fact
fact_image-requires-clause-fact g c =
    fact_still c.args.arena.now c.loop-fact.arena c.loop-fact.invariant.grows c.fact-item.result
    (subst (IsFactAt c.args.arena.now) (sym c.fact-item.is) (c.requires.facts c.loop-fact.fact-index c.fact-item.result c.loop-fact-test.true))

pub returns-in_err-image-clause-imaged : goal.returns-in_err-image-clause-imaged
returns-in_err-image-clause-imaged g c =
    imaged_next c.args.arena.now c.loop-fact.arena c.fact_image.new.arena (HasFacts c.args.arena.now c.args.facts.now) (HasFact c.loop-fact.arena c.fact-item.result) c.args.known.now c.loop-fact.known c.fact_image.new.known c.args.steps.now c.loop-fact.steps c.fact_image.new.steps c.loop-fact.invariant.imaged
    (λ ts has. fact_asked c.args.arena.now c.loop-fact.arena c.loop-fact.invariant.grows ts c.fact-item.result
    (subst (IsFactAt c.args.arena.now) (sym c.fact-item.is) (c.requires.facts c.loop-fact.fact-index c.fact-item.result c.loop-fact-test.true))
    (subst (λ (f : HeldFact). HasFact c.args.arena.now f ts) (sym c.fact-item.is) (has c.loop-fact.fact-index c.fact-item.result c.loop-fact-test.true)))
    c.fact_image.ensures.imaged

pub returns-in_err-push-clause-imaged : goal.returns-in_err-push-clause-imaged
returns-in_err-push-clause-imaged g c =
    imaged_next c.args.arena.now c.loop-fact.arena c.fact_image.new.arena (HasFacts c.args.arena.now c.args.facts.now) (HasFact c.loop-fact.arena c.fact-item.result) c.args.known.now c.loop-fact.known c.fact_image.new.known c.args.steps.now c.loop-fact.steps c.fact_image.new.steps c.loop-fact.invariant.imaged
    (λ ts has. fact_asked c.args.arena.now c.loop-fact.arena c.loop-fact.invariant.grows ts c.fact-item.result
    (subst (IsFactAt c.args.arena.now) (sym c.fact-item.is) (c.requires.facts c.loop-fact.fact-index c.fact-item.result c.loop-fact-test.true))
    (subst (λ (f : HeldFact). HasFact c.args.arena.now f ts) (sym c.fact-item.is) (has c.loop-fact.fact-index c.fact-item.result c.loop-fact-test.true)))
    c.fact_image.ensures.imaged

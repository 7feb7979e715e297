use Rattle.std.proofs.Common.{sym, subst, refl}
use Rattle.term_arena.specs.Arena.{IsWordAt, IsMemAt, IsCondAt}
use Rattle.term_arena.proofs.TreeLemmas.{number_within}
use Rattle.held_terms.specs.declared.held.HeldFact.{HeldFact}
use Rattle.held_terms.specs.declared.held.HeldFact.TheVariants as held
use Rattle.held_terms.specs.Held.{AreValuesAt, IsFactAt}
use Rattle.held_instances.specs.Image.{put_for_numbers}
use Rattle.held_instances.specs.inner.Instances.{IsFactImage}
use Rattle.held_terms.specs.Subterms.{HasFact}
use Rattle.held_instances.specs.inner.Imaging.{Imaged}
use Rattle.held_instances.proofs.AskedLemmas.{values_asked}
use Rattle.held_instances.proofs.ImagingLemmas.{free_all, imaged_next, imaged_under, made_still}
use Rattle.held_terms.proofs.ChildLemmas.{has_still}
use Rattle.held_terms.proofs.GrowthLemmas.{longer, values_still}
use Rattle.held_instances.proofs.InstanceLemmas.{values_stay}
use Rattle.held_instances.proofs.instances.fact_image.Goals as goal

pub image-requires-clause-there : goal.image-requires-clause-there
image-requires-clause-there g c =
    let old = c.args.arena.now in
    let there : IsWordAt old c.in-WordIs.a × IsWordAt old c.in-WordIs.b = subst (λ (f : HeldFact). IsFactAt old f) c.in-WordIs.is c.requires.fact in
    number_within old _ _ there.0

pub image-requires-in-WordIs-clause-there : goal.image-requires-in-WordIs-clause-there
image-requires-in-WordIs-clause-there g c =
    let old = c.args.arena.now in
    let there : IsWordAt old c.in-WordIs.a × IsWordAt old c.in-WordIs.b = subst (λ (f : HeldFact). IsFactAt old f) c.in-WordIs.is c.requires.fact in
    longer old c.image.new.arena _ c.image.ensures.grows (number_within old _ _ there.1)

pub image-requires-in-MemIs-clause-there : goal.image-requires-in-MemIs-clause-there
image-requires-in-MemIs-clause-there g c =
    let old = c.args.arena.now in
    let there : IsMemAt old c.in-MemIs.a × IsMemAt old c.in-MemIs.b = subst (λ (f : HeldFact). IsFactAt old f) c.in-MemIs.is c.requires.fact in
    number_within old _ _ there.0

pub image-requires-in-MemIs-2-clause-there : goal.image-requires-in-MemIs-2-clause-there
image-requires-in-MemIs-2-clause-there g c =
    let old = c.args.arena.now in
    let there : IsMemAt old c.in-MemIs.a × IsMemAt old c.in-MemIs.b = subst (λ (f : HeldFact). IsFactAt old f) c.in-MemIs.is c.requires.fact in
    longer old c.image-in-MemIs.new.arena _ c.image-in-MemIs.ensures.grows (number_within old _ _ there.1)

pub image-requires-in-So-clause-there : goal.image-requires-in-So-clause-there
image-requires-in-So-clause-there g c =
    let old = c.args.arena.now in
    let there : IsCondAt old c.in-So.c = subst (λ (f : HeldFact). IsFactAt old f) c.in-So.is c.requires.fact in
    number_within old _ _ there

pub values_image-requires-in-Gives-clause-values : goal.values_image-requires-in-Gives-clause-values
values_image-requires-in-Gives-clause-values g c =
    let old = c.args.arena.now in
    let there : AreValuesAt old c.in-Gives.args × AreValuesAt old c.in-Gives.results = subst (λ (f : HeldFact). IsFactAt old f) c.in-Gives.is c.requires.fact in
    values_still old c.values_image.new.arena c.values_image.ensures.grows c.in-Gives.results there.1

pub returns-in_ok-y-in-Gives-clause-image : goal.returns-in_ok-y-in-Gives-clause-image
returns-in_ok-y-in-Gives-clause-image g c =
    let words = c.args.words.now in
    let mems = c.args.mems.now in
    let one = c.values_image.new.arena in
    let two = c.values_image-in-Gives.new.arena in
    let args = values_stay one two words mems c.values_image.new.known c.values_image.ensures.ready c.values_image-in-Gives.ensures.grows c.in-Gives.args c.in_ok-x-in-Gives.x c.in_ok-x-in-Gives.ensures.image in
    subst (λ (f : HeldFact). IsFactImage two (put_for_numbers two words mems) f (held.Gives c.in-Gives.def c.in-Gives.exit c.in_ok-x-in-Gives.x c.in_ok-y-in-Gives.y)) (sym c.in-Gives.is)
    (refl, refl, args, c.in_ok-y-in-Gives.ensures.image)

pub returns-in_err-x-in-WordIs-clause-imaged : goal.returns-in_err-x-in-WordIs-clause-imaged
returns-in_err-x-in-WordIs-clause-imaged g c =
    let start = c.args.arena.now in
    let one : Imaged start c.image.new.arena (HasFact c.args.arena.now c.args.fact.now) c.args.known.now c.image.new.known c.args.steps.now c.image.new.steps =
    imaged_under start c.image.new.arena (HasFact c.args.arena.now c.args.fact.now) _ c.args.known.now c.image.new.known c.args.steps.now c.image.new.steps (λ ts has. (subst (λ (f : HeldFact). HasFact c.args.arena.now f ts) c.in-WordIs.is has).0) c.image.ensures.imaged in
    one

pub returns-in_err-y-in-WordIs-clause-imaged : goal.returns-in_err-y-in-WordIs-clause-imaged
returns-in_err-y-in-WordIs-clause-imaged g c =
    let start = c.args.arena.now in
    let one : Imaged start c.image.new.arena (HasFact c.args.arena.now c.args.fact.now) c.args.known.now c.image.new.known c.args.steps.now c.image.new.steps =
    imaged_under start c.image.new.arena (HasFact c.args.arena.now c.args.fact.now) _ c.args.known.now c.image.new.known c.args.steps.now c.image.new.steps (λ ts has. (subst (λ (f : HeldFact). HasFact c.args.arena.now f ts) c.in-WordIs.is has).0) c.image.ensures.imaged in
    imaged_next start c.image.new.arena c.image-in-WordIs.new.arena (HasFact c.args.arena.now c.args.fact.now) _ c.args.known.now c.image.new.known c.image-in-WordIs.new.known c.args.steps.now c.image.new.steps c.image-in-WordIs.new.steps one
    (λ ts has. has_still start c.image.new.arena c.image.ensures.grows c.in-WordIs.b ts (let there : IsWordAt start c.in-WordIs.a × IsWordAt start c.in-WordIs.b = subst (λ (f : HeldFact). IsFactAt start f) c.in-WordIs.is c.requires.fact in number_within start _ _ there.1) (subst (λ (f : HeldFact). HasFact c.args.arena.now f ts) c.in-WordIs.is has).1) c.image-in-WordIs.ensures.imaged

pub returns-in_ok-y-in-WordIs-clause-imaged : goal.returns-in_ok-y-in-WordIs-clause-imaged
returns-in_ok-y-in-WordIs-clause-imaged g c =
    let start = c.args.arena.now in
    let one : Imaged start c.image.new.arena (HasFact c.args.arena.now c.args.fact.now) c.args.known.now c.image.new.known c.args.steps.now c.image.new.steps =
    imaged_under start c.image.new.arena (HasFact c.args.arena.now c.args.fact.now) _ c.args.known.now c.image.new.known c.args.steps.now c.image.new.steps (λ ts has. (subst (λ (f : HeldFact). HasFact c.args.arena.now f ts) c.in-WordIs.is has).0) c.image.ensures.imaged in
    imaged_next start c.image.new.arena c.image-in-WordIs.new.arena (HasFact c.args.arena.now c.args.fact.now) _ c.args.known.now c.image.new.known c.image-in-WordIs.new.known c.args.steps.now c.image.new.steps c.image-in-WordIs.new.steps one
    (λ ts has. has_still start c.image.new.arena c.image.ensures.grows c.in-WordIs.b ts (let there : IsWordAt start c.in-WordIs.a × IsWordAt start c.in-WordIs.b = subst (λ (f : HeldFact). IsFactAt start f) c.in-WordIs.is c.requires.fact in number_within start _ _ there.1) (subst (λ (f : HeldFact). HasFact c.args.arena.now f ts) c.in-WordIs.is has).1) c.image-in-WordIs.ensures.imaged

pub returns-in_err-x-in-MemIs-clause-imaged : goal.returns-in_err-x-in-MemIs-clause-imaged
returns-in_err-x-in-MemIs-clause-imaged g c =
    let start = c.args.arena.now in
    let one : Imaged start c.image-in-MemIs.new.arena (HasFact c.args.arena.now c.args.fact.now) c.args.known.now c.image-in-MemIs.new.known c.args.steps.now c.image-in-MemIs.new.steps =
    imaged_under start c.image-in-MemIs.new.arena (HasFact c.args.arena.now c.args.fact.now) _ c.args.known.now c.image-in-MemIs.new.known c.args.steps.now c.image-in-MemIs.new.steps (λ ts has. (subst (λ (f : HeldFact). HasFact c.args.arena.now f ts) c.in-MemIs.is has).0) c.image-in-MemIs.ensures.imaged in
    one

pub returns-in_err-y-in-MemIs-clause-imaged : goal.returns-in_err-y-in-MemIs-clause-imaged
returns-in_err-y-in-MemIs-clause-imaged g c =
    let start = c.args.arena.now in
    let one : Imaged start c.image-in-MemIs.new.arena (HasFact c.args.arena.now c.args.fact.now) c.args.known.now c.image-in-MemIs.new.known c.args.steps.now c.image-in-MemIs.new.steps =
    imaged_under start c.image-in-MemIs.new.arena (HasFact c.args.arena.now c.args.fact.now) _ c.args.known.now c.image-in-MemIs.new.known c.args.steps.now c.image-in-MemIs.new.steps (λ ts has. (subst (λ (f : HeldFact). HasFact c.args.arena.now f ts) c.in-MemIs.is has).0) c.image-in-MemIs.ensures.imaged in
    imaged_next start c.image-in-MemIs.new.arena c.image-in-MemIs-2.new.arena (HasFact c.args.arena.now c.args.fact.now) _ c.args.known.now c.image-in-MemIs.new.known c.image-in-MemIs-2.new.known c.args.steps.now c.image-in-MemIs.new.steps c.image-in-MemIs-2.new.steps one
    (λ ts has. has_still start c.image-in-MemIs.new.arena c.image-in-MemIs.ensures.grows c.in-MemIs.b ts (let there : IsMemAt start c.in-MemIs.a × IsMemAt start c.in-MemIs.b = subst (λ (f : HeldFact). IsFactAt start f) c.in-MemIs.is c.requires.fact in number_within start _ _ there.1) (subst (λ (f : HeldFact). HasFact c.args.arena.now f ts) c.in-MemIs.is has).1) c.image-in-MemIs-2.ensures.imaged

pub returns-in_ok-y-in-MemIs-clause-imaged : goal.returns-in_ok-y-in-MemIs-clause-imaged
returns-in_ok-y-in-MemIs-clause-imaged g c =
    let start = c.args.arena.now in
    let one : Imaged start c.image-in-MemIs.new.arena (HasFact c.args.arena.now c.args.fact.now) c.args.known.now c.image-in-MemIs.new.known c.args.steps.now c.image-in-MemIs.new.steps =
    imaged_under start c.image-in-MemIs.new.arena (HasFact c.args.arena.now c.args.fact.now) _ c.args.known.now c.image-in-MemIs.new.known c.args.steps.now c.image-in-MemIs.new.steps (λ ts has. (subst (λ (f : HeldFact). HasFact c.args.arena.now f ts) c.in-MemIs.is has).0) c.image-in-MemIs.ensures.imaged in
    imaged_next start c.image-in-MemIs.new.arena c.image-in-MemIs-2.new.arena (HasFact c.args.arena.now c.args.fact.now) _ c.args.known.now c.image-in-MemIs.new.known c.image-in-MemIs-2.new.known c.args.steps.now c.image-in-MemIs.new.steps c.image-in-MemIs-2.new.steps one
    (λ ts has. has_still start c.image-in-MemIs.new.arena c.image-in-MemIs.ensures.grows c.in-MemIs.b ts (let there : IsMemAt start c.in-MemIs.a × IsMemAt start c.in-MemIs.b = subst (λ (f : HeldFact). IsFactAt start f) c.in-MemIs.is c.requires.fact in number_within start _ _ there.1) (subst (λ (f : HeldFact). HasFact c.args.arena.now f ts) c.in-MemIs.is has).1) c.image-in-MemIs-2.ensures.imaged

pub returns-in_err-x-in-So-clause-imaged : goal.returns-in_err-x-in-So-clause-imaged
returns-in_err-x-in-So-clause-imaged g c =
    let start = c.args.arena.now in
    let one : Imaged start c.image-in-So.new.arena (HasFact c.args.arena.now c.args.fact.now) c.args.known.now c.image-in-So.new.known c.args.steps.now c.image-in-So.new.steps =
    imaged_under start c.image-in-So.new.arena (HasFact c.args.arena.now c.args.fact.now) _ c.args.known.now c.image-in-So.new.known c.args.steps.now c.image-in-So.new.steps (λ ts has. subst (λ (f : HeldFact). HasFact c.args.arena.now f ts) c.in-So.is has) c.image-in-So.ensures.imaged in
    one

pub returns-in_ok-x-in-So-clause-imaged : goal.returns-in_ok-x-in-So-clause-imaged
returns-in_ok-x-in-So-clause-imaged g c =
    let start = c.args.arena.now in
    let one : Imaged start c.image-in-So.new.arena (HasFact c.args.arena.now c.args.fact.now) c.args.known.now c.image-in-So.new.known c.args.steps.now c.image-in-So.new.steps =
    imaged_under start c.image-in-So.new.arena (HasFact c.args.arena.now c.args.fact.now) _ c.args.known.now c.image-in-So.new.known c.args.steps.now c.image-in-So.new.steps (λ ts has. subst (λ (f : HeldFact). HasFact c.args.arena.now f ts) c.in-So.is has) c.image-in-So.ensures.imaged in
    one

pub returns-in_err-x-in-Gives-clause-imaged : goal.returns-in_err-x-in-Gives-clause-imaged
returns-in_err-x-in-Gives-clause-imaged g c =
    let start = c.args.arena.now in
    let one : Imaged start c.values_image.new.arena (HasFact c.args.arena.now c.args.fact.now) c.args.known.now c.values_image.new.known c.args.steps.now c.values_image.new.steps =
    imaged_under start c.values_image.new.arena (HasFact c.args.arena.now c.args.fact.now) _ c.args.known.now c.values_image.new.known c.args.steps.now c.values_image.new.steps (λ ts has. (subst (λ (f : HeldFact). HasFact c.args.arena.now f ts) c.in-Gives.is has).0) c.values_image.ensures.imaged in
    one

pub returns-in_err-y-in-Gives-clause-imaged : goal.returns-in_err-y-in-Gives-clause-imaged
returns-in_err-y-in-Gives-clause-imaged g c =
    let start = c.args.arena.now in
    let one : Imaged start c.values_image.new.arena (HasFact c.args.arena.now c.args.fact.now) c.args.known.now c.values_image.new.known c.args.steps.now c.values_image.new.steps =
    imaged_under start c.values_image.new.arena (HasFact c.args.arena.now c.args.fact.now) _ c.args.known.now c.values_image.new.known c.args.steps.now c.values_image.new.steps (λ ts has. (subst (λ (f : HeldFact). HasFact c.args.arena.now f ts) c.in-Gives.is has).0) c.values_image.ensures.imaged in
    imaged_next start c.values_image.new.arena c.values_image-in-Gives.new.arena (HasFact c.args.arena.now c.args.fact.now) _ c.args.known.now c.values_image.new.known c.values_image-in-Gives.new.known c.args.steps.now c.values_image.new.steps c.values_image-in-Gives.new.steps one
    (λ ts has. values_asked start c.values_image.new.arena c.values_image.ensures.grows ts c.in-Gives.results (let there : AreValuesAt start c.in-Gives.args × AreValuesAt start c.in-Gives.results = subst (λ (f : HeldFact). IsFactAt start f) c.in-Gives.is c.requires.fact in there.1) (subst (λ (f : HeldFact). HasFact c.args.arena.now f ts) c.in-Gives.is has).1) c.values_image-in-Gives.ensures.imaged

pub returns-in_ok-y-in-Gives-clause-imaged : goal.returns-in_ok-y-in-Gives-clause-imaged
returns-in_ok-y-in-Gives-clause-imaged g c =
    let start = c.args.arena.now in
    let one : Imaged start c.values_image.new.arena (HasFact c.args.arena.now c.args.fact.now) c.args.known.now c.values_image.new.known c.args.steps.now c.values_image.new.steps =
    imaged_under start c.values_image.new.arena (HasFact c.args.arena.now c.args.fact.now) _ c.args.known.now c.values_image.new.known c.args.steps.now c.values_image.new.steps (λ ts has. (subst (λ (f : HeldFact). HasFact c.args.arena.now f ts) c.in-Gives.is has).0) c.values_image.ensures.imaged in
    imaged_next start c.values_image.new.arena c.values_image-in-Gives.new.arena (HasFact c.args.arena.now c.args.fact.now) _ c.args.known.now c.values_image.new.known c.values_image-in-Gives.new.known c.args.steps.now c.values_image.new.steps c.values_image-in-Gives.new.steps one
    (λ ts has. values_asked start c.values_image.new.arena c.values_image.ensures.grows ts c.in-Gives.results (let there : AreValuesAt start c.in-Gives.args × AreValuesAt start c.in-Gives.results = subst (λ (f : HeldFact). IsFactAt start f) c.in-Gives.is c.requires.fact in there.1) (subst (λ (f : HeldFact). HasFact c.args.arena.now f ts) c.in-Gives.is has).1) c.values_image-in-Gives.ensures.imaged

pub image-requires-in-WordIs-clause-free : goal.image-requires-in-WordIs-clause-free
image-requires-in-WordIs-clause-free g c = free_all c.image.new.known _ (made_still c.args.known.now c.image.new.known c.requires.made c.in_ok-x-in-WordIs.ensures.ended)

pub returns-in_ok-y-in-WordIs-clause-made : goal.returns-in_ok-y-in-WordIs-clause-made
returns-in_ok-y-in-WordIs-clause-made g c = made_still c.image.new.known c.image-in-WordIs.new.known (made_still c.args.known.now c.image.new.known c.requires.made c.in_ok-x-in-WordIs.ensures.ended) c.in_ok-y-in-WordIs.ensures.ended

pub image-requires-in-MemIs-2-clause-free : goal.image-requires-in-MemIs-2-clause-free
image-requires-in-MemIs-2-clause-free g c = free_all c.image-in-MemIs.new.known _ (made_still c.args.known.now c.image-in-MemIs.new.known c.requires.made c.in_ok-x-in-MemIs.ensures.ended)

pub returns-in_ok-y-in-MemIs-clause-made : goal.returns-in_ok-y-in-MemIs-clause-made
returns-in_ok-y-in-MemIs-clause-made g c = made_still c.image-in-MemIs.new.known c.image-in-MemIs-2.new.known (made_still c.args.known.now c.image-in-MemIs.new.known c.requires.made c.in_ok-x-in-MemIs.ensures.ended) c.in_ok-y-in-MemIs.ensures.ended

pub returns-in_ok-x-in-So-clause-made : goal.returns-in_ok-x-in-So-clause-made
returns-in_ok-x-in-So-clause-made g c = made_still c.args.known.now c.image-in-So.new.known c.requires.made c.in_ok-x-in-So.ensures.ended

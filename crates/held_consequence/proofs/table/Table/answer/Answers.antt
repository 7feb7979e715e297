use Rattle.std.proofs.Common.{◌<◌, List, length, ap, sym, subst, ◌∙◌}
use Rattle.std.specs.Prelude.{slice_get}
use Rattle.std.specs.List.{Contains}
use Rattle.held_consequence.specs.inner.Table.{Entry, keys_of}
use Rattle.held_consequence.proofs.PlaceLemmas.{place_there}
use Rattle.held_consequence.proofs.table.Table.answer.Goals as goal

pub answer_at-requires : goal.answer_at-requires
answer_at-requires c =
    subst (λ (l : List Entry). c.in-Some.place.now < length l) (sym c.as_slice.ensures) (
    place_there c.self.inside.entries c.self.inside.places (c.args.a, c.args.b) c.in-Some.place.now c.self.invariant (sym c.in-Some.ensures.value))

pub returns-in-Some-clause-found : goal.returns-in-Some-clause-found
returns-in-Some-clause-found c =
    subst (λ (l : List Entry). Contains l (c.args.a, c.args.b, c.answer_at.result)) (c.as_slice.ensures ∙ c.self.view_is) (
    c.answer_at.ensures (c.args.a, c.args.b) (
    ap (λ (l : List Entry). slice_get (keys_of l) c.in-Some.place.now) c.as_slice.ensures
    ∙ c.self.invariant.found (c.args.a, c.args.b) c.in-Some.place.now (sym c.in-Some.ensures.value)))

pub returns-in-None-clause-none : goal.returns-in-None-clause-none
returns-in-None-clause-none c = λ h.
    c.self.invariant.each (c.args.a, c.args.b) (sym c.in-None.ensures.value) (subst (λ (l : List Entry). Contains (keys_of l) (c.args.a, c.args.b)) (sym c.self.view_is) h)

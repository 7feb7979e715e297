use Rattle.std.proofs.Common.{ℕ, ap, sym, ◌∙◌, List as Items}
use Rattle.mc_text.specs.Reading.{star, is_open}
use Rattle.mc_text.specs.inner.Reading.{with_prefix}
use Rattle.mc_text.specs.Scanning.{tokens_at}
use Rattle.mc_text.proofs.Star.{star-more, star-ends}
use Rattle.mc_text.proofs.StarReads.{star-stopped}
use Rattle.short_text.specs.inner.ShortReading.{place_at}
use Rattle.short_text.specs.declared.places.Place.{Place}
use Rattle.short_text.proofs.PlaceLaws.{place-shrinks}
use Rattle.short_text.proofs.places.read_all_places.Goals as goal

pub places-smaller : goal.places-smaller
places-smaller c = place-shrinks c.args.table.now _ _ _ c.in-Ok.ensures.gives

pub places-preserved : goal.places-preserved
places-preserved c = record {
  told = ap (λ (front : Items (Place × ℕ)). with_prefix front (star is_open (place_at c.args.table.now) (tokens_at c.read_place.new.scan))) c.in_ok-push-in-Ok.ensures.ok
      ∙ star-more is_open (place_at c.args.table.now) (place-shrinks c.args.table.now) c.places.places _ _ _ _ (sym c.places-test.ensures) c.in-Ok.ensures.gives c.places.invariant.told;
  last = c.in-Ok.ensures.last ∙ c.places.invariant.last;
}

pub returns-in-Err-clause-gives : goal.returns-in-Err-clause-gives
returns-in-Err-clause-gives c = star-stopped (λ (x : (Place × ℕ)). x) (λ (xs : Items (Place × ℕ)). xs) is_open (place_at c.args.table.now) (place-shrinks c.args.table.now) c.in-Err.stop c.places.places c.args.scan.now c.places.scan c.read_place.new.scan (sym c.places-test.ensures) c.in-Err.ensures.gives c.places.invariant.told

pub returns-clause-gives : goal.returns-clause-gives
returns-clause-gives c = star-ends is_open (place_at c.args.table.now) (place-shrinks c.args.table.now) c.places.places _ _ (sym c.places-test.ensures) c.places.invariant.told

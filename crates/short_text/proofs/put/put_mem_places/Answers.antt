use Rattle.mc_text.specs.Printing.{page}
use Rattle.mc_text.proofs.Printed.{keeps_more, print_next_copied, print_over}
use Rattle.short_text.specs.ShortSpelling.{mem_place_tokens}
use Rattle.short_text.proofs.put.put_mem_places.Goals as goal

pub loop-place-preserved : goal.loop-place-preserved
loop-place-preserved c = record {
  told = print_next_copied mem_place_tokens c.args.places.now c.loop-place.place-index _ _ _ _ c.loop-place-test.true c.loop-place.invariant.told c.in_ok-put_mem_place.ensures.ok;
  kept = keeps_more _ (page c.loop-place.pen) _ c.loop-place.invariant.kept c.put_mem_place.ensures.kept;
}

pub returns-clause-ok : goal.returns-clause-ok
returns-clause-ok c = print_over mem_place_tokens c.args.places.now c.loop-place.place-index _ _ c.loop-place-test.false c.loop-place.invariant.told

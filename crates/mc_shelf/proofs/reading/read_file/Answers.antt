use Rattle.std.proofs.Common.{IfSome, subst, rules, arith, ◌≡◌, ◌++◌, ◌∙◌, length, take, drop}
use Rattle.std.proofs.Math.Seq.{take-append_seam}
use Rattle.mc_shelf.specs.Shelf.{ReadsName}
use Rattle.mc_shelf.proofs.OnlyReadsLemmas.{reads_then, reads_so}
use Rattle.mc_shelf.proofs.ReadingLemmas.{front_of_name-more}
use Rattle.mc_shelf.proofs.reading.read_file.Goals as goal

pub loop-bytes-preserved : goal.loop-bytes-preserved
loop-bytes-preserved g c =
    let told = g.S.Shelf.contents c.args.shelf.now in
    let name = c.args.name.now in
    let before = c.loop-bytes in
    let new = c.read_piece.new.into in
    let reads : IfSome told (λ files. ReadsName (files name) before.at c.in_ok-count.count c.deref_mut.result.now new) =
    subst (λ t. IfSome t (λ files. ReadsName (files name) before.at c.in_ok-count.count c.deref_mut.result.now new)) before.invariant.shelf.kept c.in_ok-count.ensures.copied in
    let more = front_of_name-more told name before.at c.in_ok-count.count before.bytes.items c.deref_mut.result.now new before.invariant.front reads in
    let size : before.buffer.len ≡ length new = omega (arith, c.read_piece.auto.into, c.deref_mut.ensures.len) in
    let after : take before.buffer.len (new ++ drop (length new) before.buffer.items) ≡ new = (λ i. take (size i) (new ++ drop (length new) before.buffer.items)) ∙ take-append_seam new _ in
    record {
      full = search rules;
      length_is = search rules;
      within = omega (arith, c.in_ok-count.ensures.within);
      front = rw c.in_ok-extend_from_slice.ensures.items (rw (c.deref.ensures.value, after) more);
      shelf = reads_then before.invariant.shelf (reads_so (λ failing. absurd failing) c.read_piece.ensures.shelf);
    }

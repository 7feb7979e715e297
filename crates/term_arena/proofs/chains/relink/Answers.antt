use Rattle.std.proofs.Common.{◌≡◌, ◌<◌, ◌+◌, ℕ, List, length, ap, ◌∙◌, sym, refl, subst, arith, length-set}
use Rattle.std.specs.Prelude.{slice_get, slice_index}
use Rattle.term_arena.specs.declared.chains.Entry.{Entry}
use Rattle.term_arena.specs.inner.Chains.{AreWithin, IsLinked, slot_among, nodes_of}
use Rattle.term_arena.specs.inner.Crowded.{numbers_in}
use Rattle.term_arena.proofs.Places.{map-set_same}
use Rattle.term_arena.proofs.ChainLemmas.{linked_set, crowded_set}
use Rattle.term_arena.proofs.chains.relink.Goals as goal
use Rattle.term_arena.proofs.chains.relink.Goals.{then-not-has, else-not-has}

pub loop-k-preserved : goal.loop-k-preserved
loop-k-preserved c =
    let i = c.loop-k.invariant in
    let crowded = numbers_in c.args.crowded.now in
    let slot = c.slot_among-slot.result in
    let heads = c.loop-k.heads in
    let entries = c.loop-k.entries in
    let node = c.entry_at-entry.result.node in
    let low : c.loop-k.k < length entries = omega (arith, c.len-k-end.ensures) in
    let at_slot : slot ≡ slot_among (length heads) node = c.slot_among-slot.ensures.slot ∙ ap (λ (k : ℕ). slot_among k node) c.len.ensures in
    let within : slot < length heads = omega (arith, c.slot_among-slot.ensures.within, c.len.ensures) in
    let head = ap (λ (xs : List ℕ). slice_index xs slot) c.as_slice-in-loop-k.ensures in
    record {
      linked = elim c.if-not-has.branch [
        | then-not-has w ↦ linked_set crowded entries _ heads c.loop-k.k node slot _ i.linked low at_slot within head c.set.ensures _ (w.heads-is ∙ w.set-then-not-has.ensures)
        | else-not-has w ↦ subst (λ (hs : List ℕ). IsLinked (length hs) crowded c.set.new.self hs (c.loop-k.k + 1)) (sym w.heads-is)
            (crowded_set crowded entries _ heads c.loop-k.k node slot _ i.linked low at_slot within head c.set.ensures (c.has.ensures.0 w.if-not-has.false))
      ];
      slots = elim c.if-not-has.branch [
        | then-not-has w ↦ ap length (w.heads-is ∙ w.set-then-not-has.ensures) ∙ length-set heads slot _ ∙ i.slots
        | else-not-has w ↦ ap length w.heads-is ∙ i.slots
      ];
      nodes = ap nodes_of c.set.ensures ∙ map-set_same (λ (e : Entry). e.node) entries c.loop-k.k _ _ (ap (λ (xs : List Entry). slice_get xs c.loop-k.k) (sym c.as_slice.ensures) ∙ c.entry_at-entry.ensures) refl ∙ i.nodes;
      count = ap length c.set.ensures ∙ length-set entries c.loop-k.k _ ∙ i.count;
    }

pub returns-clause-chained : goal.returns-clause-chained
returns-clause-chained c =
    let i = c.loop-k.invariant in
    let end : c.loop-k.k ≡ length c.loop-k.entries = omega (arith, c.loop-k-test.false, c.loop-k.auto.k-end, c.len-k-end.ensures, i.count) in
    record {
      room = omega (arith, c.requires.room, i.count, i.slots);
      linked = subst (IsLinked (length c.loop-k.heads) (numbers_in c.args.crowded.now) c.loop-k.entries c.loop-k.heads) end i.linked;
      within = subst (λ (k : ℕ). AreWithin k (numbers_in c.args.crowded.now)) (sym i.count) c.requires.within;
    }

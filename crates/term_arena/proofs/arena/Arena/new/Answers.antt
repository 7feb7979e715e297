use Rattle.std.proofs.Common.{ap, sym, subst}
use Rattle.term_arena.specs.Arena.{IsArena}
use Rattle.term_arena.specs.inner.Chains.{ArePlaced, nodes_of}
use Rattle.term_arena.specs.inner.Crowded.{numbers_in}
use Rattle.term_arena.proofs.ChainLemmas.{chained_none}
use Rattle.term_arena.proofs.DepthLemmas.{measured-none}
use Rattle.term_arena.proofs.arena.Arena.new.Goals as goal

pub invariant_of-result : goal.invariant_of-result
invariant_of-result c =
    let no_nodes = sym (ap nodes_of c.new.ensures) in
    record {
      arena = subst IsArena no_nodes (record { children = λ k n is. cc; distinct = λ i j n is also. cc });
      measured = measured-none (nodes_of c.new.result) c.new-2.result (ap nodes_of c.new.ensures) c.new-2.ensures;
      chained = chained_none c.new.result c.new-3.result (numbers_in c.new-4.result) c.new.ensures c.new-3.ensures c.new-4.ensures;
      placed = subst (λ ns. ArePlaced ns c.new-5.result) no_nodes c.new-5.ensures;
    }

use Rattle.group_text.specs.TermLimits.{IsMem}
use Rattle.term_arena.specs.Arena.{mem_of}
use Rattle.derived_triples.proofs.LimitLemmas.{not_each}
use Rattle.derived_triples.proofs.limits.are_mems.Goals as goal

pub returns-then-not-is_mem : goal.returns-then-not-is_mem
returns-then-not-is_mem c =
    let ns = c.args.arena.now in
    not_each IsMem (mem_of ns) c.args.mems.now c.loop-k.k-index _ c.loop-k-test.true (c.if-not-is_mem.true) c.is_mem.ensures.1

use Rattle.std.proofs.Common.{◌-◌, refl, arith}
use Rattle.rv_words.proofs.PieceLemmas.{part_at}
use Rattle.rv_words.proofs.pieces.bytes_together.Goals as goal

pub returns-clause-at : goal.returns-clause-at
returns-clause-at c =
    let holds = c.if-not-holds.ensures.0 refl in
    (part_at c.args.pieces.now (c.count_begun-begun.result - 1) c.args.a c.from-count.result c.index-pieces-begun.result c.part.result.now c.requires (omega arith) c.index-pieces-begun.is holds.0 holds.1
    c.part.ensures).1

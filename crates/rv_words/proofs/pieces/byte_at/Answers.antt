use Rattle.std.proofs.Common.{◌∙◌, sym, arith}
use Rattle.rv_words.proofs.PieceLemmas.{found, found_none}
use Rattle.rv_words.proofs.pieces.byte_at.Goals as goal

pub returns-then-begun-eq0 : goal.returns-then-begun-eq0
returns-then-begun-eq0 c = sym (found_none c.args.pieces.now c.count_begun-begun.result c.args.a c.requires c.if-begun-eq0.true c.count_begun-begun.ensures.later)

pub returns : goal.returns
returns c =
    c.byte.ensures
    ∙ sym (found c.args.pieces.now c.count_begun-begun.result c.args.a c.index-pieces-begun.result c.requires (omega arith) (omega arith) c.count_begun-begun.ensures.begun c.count_begun-begun.ensures.later c.index-pieces-begun.is)

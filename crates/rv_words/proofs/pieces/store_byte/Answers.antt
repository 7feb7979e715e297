use Rattle.std.proofs.Common.{◌≡◌, ◌-◌, get_or, sym, ◌∙◌, ap, arith, refl}
use Rattle.std.specs.Option.{is_some}
use Rattle.std.proofs.lemmas.Bool.{false≢true}
use Rattle.rv_words.specs.inner.Pieces.{bytes_in}
use Rattle.rv_words.proofs.PieceLemmas.{found, found_none, put_byte-absent, put_byte-over, held_some, unheld_none}
use Rattle.rv_words.proofs.pieces.store_byte.Goals as goal

pub returns-then-begun-eq0-clause-stored : goal.returns-then-begun-eq0-clause-stored
returns-then-begun-eq0-clause-stored c =
    sym (put_byte-absent (bytes_in c.args.pieces.now) c.args.a c.args.b
    (found_none c.args.pieces.now c.count_begun-begun.result c.args.a c.requires c.if-begun-eq0.true c.count_begun-begun.ensures.later))

pub returns-then-holds-clause-stored : goal.returns-then-holds-clause-stored
returns-then-holds-clause-stored c =
    let p = get_or c.args.pieces.now (c.count_begun-begun.result - 1) c.index-pieces-begun.result in
    let was : p ≡ get_or c.args.pieces.now (c.count_begun-begun.result - 1) p = λ j. get_or c.args.pieces.now (c.count_begun-begun.result - 1) (c.index-pieces-begun.is j) in
    let holds = c.if-holds.ensures.0 refl in
    let at = found c.args.pieces.now c.count_begun-begun.result c.args.a p c.requires (omega arith) (omega arith) c.count_begun-begun.ensures.begun c.count_begun-begun.ensures.later was in
    c.write_in.ensures.written ∙ put_byte-over (bytes_in c.args.pieces.now) c.args.a c.args.b (ap is_some at ∙ held_some p c.args.a holds.0 holds.1)

pub returns-else-holds-clause-stored : goal.returns-else-holds-clause-stored
returns-else-holds-clause-stored c =
    let p = get_or c.args.pieces.now (c.count_begun-begun.result - 1) c.index-pieces-begun.result in
    let was : p ≡ get_or c.args.pieces.now (c.count_begun-begun.result - 1) p = λ j. get_or c.args.pieces.now (c.count_begun-begun.result - 1) (c.index-pieces-begun.is j) in
    let at = found c.args.pieces.now c.count_begun-begun.result c.args.a p c.requires (omega arith) (omega arith) c.count_begun-begun.ensures.begun c.count_begun-begun.ensures.later was in
    sym (put_byte-absent (bytes_in c.args.pieces.now) c.args.a c.args.b
    (at ∙ unheld_none p c.args.a (λ le lt. false≢true (c.if-holds.ensures.1 (le, lt)))))

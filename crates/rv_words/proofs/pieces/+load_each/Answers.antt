use Rattle.std.proofs.Common.{arith}
use Rattle.rv_words.proofs.PieceLemmas.{load_fits}
use Rattle.rv_words.proofs.pieces.+load_each.Goals as goal

pub overflow_mul-result : goal.overflow_mul-result
overflow_mul-result t c =
    let fits = load_fits c.args.n c.load_each-high.result 0 (omega arith) c.requires.few c.load_each-high.ensures.small (omega arith) in
    omega arith

pub overflow_add-result : goal.overflow_add-result
overflow_add-result t c =
    let fits = load_fits c.args.n c.load_each-high.result 0 (omega arith) c.requires.few c.load_each-high.ensures.small (omega arith) in
    omega arith

pub returns-clause-small : goal.returns-clause-small
returns-clause-small t c = (load_fits c.args.n c.load_each-high.result c.from.result (omega arith) c.requires.few c.load_each-high.ensures.small (omega arith)).1

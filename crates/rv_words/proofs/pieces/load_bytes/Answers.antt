use Rattle.std.proofs.Common.{◌∙◌, sym, ap}
use Rattle.rv_words.specs.Bytes.{load}
use Rattle.rv_words.specs.inner.Pieces.{bytes_in}
use Rattle.rv_words.proofs.MemoryLemmas.{load-number}
use Rattle.rv_words.proofs.pieces.load_bytes.Goals as goal

pub returns-in-Some : goal.returns-in-Some
returns-in-Some c =
    c.number.ensures
    ∙ sym (load-number c.in-Some.bytes.now (bytes_in c.args.pieces.now) c.args.a c.ranges.a.fits c.in-Some.ensures.at)
    ∙ ap (λ n. load n (bytes_in c.args.pieces.now) c.args.a) c.in-Some.ensures.many

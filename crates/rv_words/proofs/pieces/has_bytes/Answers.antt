use Rattle.std.proofs.Common.{◌∙◌, sym, ap}
use Rattle.rv_words.specs.Bytes.{inside}
use Rattle.rv_words.specs.inner.Pieces.{bytes_in}
use Rattle.rv_words.proofs.MemoryLemmas.{inside-number}
use Rattle.rv_words.proofs.pieces.has_bytes.Goals as goal

pub returns-in-Some : goal.returns-in-Some
returns-in-Some c =
    sym (inside-number c.in-Some._bytes.now (bytes_in c.args.pieces.now) c.args.a c.ranges.a.fits c.in-Some.ensures.at)
    ∙ ap (λ n. inside n (bytes_in c.args.pieces.now) c.args.a) c.in-Some.ensures.many

use Rattle.std.proofs.Common.{◌≡◌, true, cond, Some, None, ◌∙◌, sym, ap}
use Rattle.rv_words.specs.Bytes.{inside, load}
use Rattle.rv_words.specs.inner.Pieces.{bytes_in}
use Rattle.rv_words.proofs.MemoryLemmas.{inside-number, load-number}
use Rattle.rv_words.proofs.pieces.read_bytes.Goals as goal

pub returns-in-Some : goal.returns-in-Some
returns-in-Some c =
    let m = bytes_in c.args.pieces.now in
    let a = c.args.a in
    let many = c.in-Some.ensures.many in
    let there : inside c.args.n m a ≡ true = sym (ap (λ n. inside n m a) many) ∙ inside-number c.in-Some.bytes.now m a c.ranges.a.fits c.in-Some.ensures.at in
    let same = c.number.ensures ∙ sym (load-number c.in-Some.bytes.now m a c.ranges.a.fits c.in-Some.ensures.at) ∙ ap (λ n. load n m a) many in
    ap Some same ∙ sym (ap (λ b. cond b (Some (load c.args.n m a)) None) there)

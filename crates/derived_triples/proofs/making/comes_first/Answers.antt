use Rattle.std.proofs.Common.{arith, length, ◌<◌}
use Rattle.std.proofs.lemmas.Bool.{ltb-false}
use Rattle.derived_triples.proofs.Merging.{comes_second}
use Rattle.derived_triples.proofs.making.comes_first.Goals as goal

pub returns-clause-no : goal.returns-clause-no
returns-clause-no c =
    let p : c.args.i < length c.args.a.now = omega (arith, c.if-i-a.false) in
    let q : c.args.j < length c.args.b.now = omega (arith, c.if-j-b.false) in
    λ e. comes_second c.args.a.now c.args.b.now c.args.i c.args.j c.requires.apart p q (ltb-false _ _ e)

use Rattle.std.proofs.Common.{◌≡◌, length, arith}
use Rattle.std.proofs.lemmas.Bool.Decides.{nat_tests}
use Rattle.code_parts.proofs.GraphCode.{code_all}
use Rattle.code_parts.proofs.code.code_of.Goals as goal

pub returns : goal.returns
returns c =
    let end : c.loop-n.n ≡ length c.args.graph.now.addrs = grind (arith, nat_tests, c.loop-n.auto.n-end, c.loop-n-test.false, c.len-n-end.ensures.len) in
    code_all c.requires.0 c.args.graph.now c.requires.1 c.loop-n.n c.loop-n.code.ranges end c.loop-n.invariant

use Rattle.std.proofs.Common.{◌<◌, ◌≤◌, length, sym, arith}
use Rattle.std.proofs.lemmas.Option.{get_or_from_slice_get}
use Rattle.short_text.specs.ShortSpelling.{table_line}
use Rattle.proof_v2.proofs.ShortTextParts.{all-texts, next-text}
use Rattle.proof_v2.proofs.texts.put_table.Goals as goal

pub loop-k-preserved : goal.loop-k-preserved
loop-k-preserved g c =
    let xs = c.args.arena.now in
    let k = c.loop-k.k in
    let test = c.loop-k-test.true in
    let count = c.len-count.ensures in
    let low : k < length xs = omega (arith, test, count) in
    next-text table_line xs k c.node-node.result c.args.out.now c.loop-k.out c.put_table_line.new.out low (sym (get_or_from_slice_get xs k c.node-node.result c.node-node.result c.node-node.ensures.node)) c.loop-k.invariant c.in_ok-put_table_line.ensures.ok

pub returns-clause-put : goal.returns-clause-put
returns-clause-put g c =
    let xs = c.args.arena.now in
    let test = c.loop-k-test.false in
    let count = c.len-count.ensures in
    let end : length xs ≤ c.loop-k.k = omega (arith, test, count) in
    all-texts table_line xs c.loop-k.k c.args.out.now c.loop-k.out end c.loop-k.invariant

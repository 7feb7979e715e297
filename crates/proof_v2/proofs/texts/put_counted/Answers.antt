use Rattle.std.proofs.lemmas.Result.{on_ok_weaker}
use Rattle.tailrec_lang.specs.Tree.{group_tree}
use Rattle.proof_v2.proofs.WrittenProofs.{proof-put}
use Rattle.proof_v2.proofs.texts.put_counted.Goals as goal

pub returns : goal.returns
returns g c =
    let table = c.in_ok-put_table.ensures.table in
    on_ok_weaker c.append.result
    (proof-put (group_tree c.args.group.now) c.short_lines.new.arena c.in_ok-lines.lines c.args.reader.now c.short_lines.new.reader c.args.out.now c.put_group.new.out c.put_table.new.out c.append.new.self
    c.requires.fits c.in_ok-lines.ensures.short c.in_ok-lines.ensures.over table.0 table.1 c.in_ok-put_group.ensures.ok c.in_ok-put_table.ensures.put)
    c.append.ensures.ok

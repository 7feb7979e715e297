use Rattle.std.proofs.lemmas.Result.{on_ok_weaker}
use Rattle.tailrec_lang.specs.Tree.{group_tree}
use Rattle.short_text.specs.SpelledShort.{short_or_own}
use Rattle.proof_v2.proofs.texts.put_short.Goals as goal

pub short_line-requires : goal.short_line-requires
short_line-requires g c = (group_tree c.args.group.now, c.requires.0, c.requires.1)

pub returns-clause-put : goal.returns-clause-put
returns-clause-put g c =
    let group = group_tree c.args.group.now in
    on_ok_weaker c.put_short_line.result
    (λ put h may. record {
      short = short_or_own group.code c.args.line.now.all c.in_ok-short.short;
      right = c.in_ok-short.ensures.right group h may;
      fine = c.in_ok-short.ensures.fine group h may;
      terms = c.in_ok-short.ensures.order group h may;
      put = put;
    })
    c.put_short_line.ensures.ok

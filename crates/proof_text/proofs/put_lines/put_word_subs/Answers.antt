use Rattle.mc_text.specs.Printing.{page}
use Rattle.mc_text.proofs.Printed.{keeps_more, print_next, print_over_map}
use Rattle.proof_text.specs.Line.{word_put_in}
use Rattle.proof_text.specs.LineSpelling.{word_sub_tokens}
use Rattle.proof_text.proofs.put_lines.put_word_subs.Goals as goal

pub loop-sub-preserved : goal.loop-sub-preserved
loop-sub-preserved c = record {
  told = print_next (λ t. word_sub_tokens (word_put_in t)) c.args.subs.now c.loop-sub.sub-index c.sub-item.result _ _ _ c.loop-sub-test.true c.sub-item.is c.loop-sub.invariant.told c.in_ok-put_word_sub.ensures.ok;
  kept = keeps_more _ (page c.loop-sub.pen) _ c.loop-sub.invariant.kept c.put_word_sub.ensures.kept;
}

pub returns-clause-ok : goal.returns-clause-ok
returns-clause-ok c = print_over_map word_sub_tokens word_put_in c.args.subs.now c.loop-sub.sub-index _ _ c.loop-sub-test.false c.loop-sub.invariant.told

use Rattle.mc_text.specs.Printing.{page}
use Rattle.mc_text.proofs.Printed.{keeps_more, print_next, print_over_map}
use Rattle.group_text.specs.TermSpelling.{word_tokens}
use Rattle.word_terms.specs.Tree.{word_tree}
use Rattle.group_text.proofs.put.put_words.Goals as goal

pub loop-t-preserved : goal.loop-t-preserved
loop-t-preserved c = record {
  told = print_next (λ t. word_tokens (word_tree t)) c.args.terms.now c.loop-t.t-index c.t-item.result _ _ _ c.loop-t-test.true c.t-item.is c.loop-t.invariant.told c.in_ok-put_word.ensures.ok;
  kept = keeps_more _ (page c.loop-t.pen) _ c.loop-t.invariant.kept c.put_word.ensures.kept;
}

pub returns-clause-ok : goal.returns-clause-ok
returns-clause-ok c = print_over_map word_tokens word_tree c.args.terms.now c.loop-t.t-index _ _ c.loop-t-test.false c.loop-t.invariant.told

use Rattle.std.proofs.Common.{◌≡◌, drop, flat_map}
use Rattle.mc_text.specs.Printing.{Keeps, page, print}
use Rattle.group_text.specs.TermSpelling.{word_tokens}
use Rattle.word_terms.specs.Tree.{word_tree}
use Rattle.group_text.proofs.put.put_words.Given as goal

abbrev pub invariant-loop-t : goal.invariant-loop-t
invariant-loop-t l = record {
  told : print (flat_map (λ t. word_tokens (word_tree t)) l.terms) (page l.fn.pen) ≡ print (flat_map (λ t. word_tokens (word_tree t)) (drop l.t-index l.terms)) (page l.pen);
  kept : Keeps (page l.fn.pen) (page l.pen);
}

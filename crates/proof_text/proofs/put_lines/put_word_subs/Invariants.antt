use Rattle.std.proofs.Common.{◌≡◌, drop, flat_map}
use Rattle.mc_text.specs.Printing.{Keeps, page, print}
use Rattle.proof_text.specs.Line.{word_put_in}
use Rattle.proof_text.specs.LineSpelling.{word_sub_tokens}
use Rattle.proof_text.proofs.put_lines.put_word_subs.Given as goal

abbrev pub invariant-loop-sub : goal.invariant-loop-sub
invariant-loop-sub l = record {
  told : print (flat_map (λ t. word_sub_tokens (word_put_in t)) l.subs) (page l.fn.pen) ≡ print (flat_map (λ t. word_sub_tokens (word_put_in t)) (drop l.sub-index l.subs)) (page l.pen);
  kept : Keeps (page l.fn.pen) (page l.pen);
}

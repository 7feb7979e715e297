use Rattle.std.proofs.Common.{◌∷◌, [], ◌++◌, length, map, ap, ◌∙◌, arith, length-append}
use Rattle.std.proofs.lemmas.List.{map-append}
use Rattle.word_terms.specs.Tree.{Var}
use Rattle.proof_text.specs.Line.{word_put_in}
use Rattle.code_parts.specs.Bodies.{names}
use Rattle.code_parts.specs.VariableMaps.{place_of}
use Rattle.path_walk.proofs.VariableTerms.{added_more}
use Rattle.path_walk.proofs.subs.add_registers.Goals as goal

pub loop-r-preserved : goal.loop-r-preserved
loop-r-preserved c = record {
  count = (let long = ap length c.in_ok-push.ensures.ok ∙ length-append c.loop-r.words _ in omega (arith, long, c.loop-r.invariant.count));
  words =
      ap (map word_put_in) c.in_ok-push.ensures.ok ∙ map-append word_put_in c.loop-r.words _ ∙ (λ j. map word_put_in c.loop-r.words ++ (c.len-i.result, Var (c.word.ensures j)) ∷ [])
      ∙ added_more (map word_put_in c.args.words.now) (map word_put_in c.loop-r.words) (names (place_of c.args.place.now) 0).word c.args.regs.now (length c.args.words.now) c.loop-r.r-index c.len-i.result _ c.loop-r-test.true
      (c.len-i.ensures ∙ c.loop-r.invariant.count) c.loop-r.invariant.words;
}

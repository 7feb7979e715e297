use Rattle.std.proofs.Common.{◌≡◌, ◌+◌, ◌++◌, length, map, sym, ◌∙◌, arith}
use Rattle.proof_text.specs.Line.{word_put_in}
use Rattle.code_parts.specs.Bodies.{Flow, VariableMap, current, names}
use Rattle.path_walk.specs.inner.Acts.{numbered, results_at}
use Rattle.code_parts.specs.Kept.{flow_in}
use Rattle.code_parts.specs.VariableMaps.{place_of}
use Rattle.path_walk.proofs.VariableTerms.{listed-long, map-long, numbered-append}
use Rattle.path_walk.proofs.subs.call_words.Goals as goal

pub add_results-requires-clause-few : goal.add_results-requires-clause-few
add_results-requires-clause-few c =
    let word = (names (place_of c.args.place.now) 0).word in
    let long = listed-long word_put_in c.in_ok-words.words 0 (map word c.regs.result.now) c.in_ok-words.ensures ∙ map-long word c.regs.result.now in
    omega (arith, long, c.regs.ensures.few)

pub returns : goal.returns
returns c =
    let f : Flow = flow_in c.args.flow.now in
    let v : VariableMap = place_of c.args.place.now in
    let known : map word_put_in c.in_ok-words.words ≡ numbered 0 (current f v).words = c.in_ok-words.ensures ∙ (λ j. numbered 0 (map (names v 0).word (c.regs.ensures.are j))) in
    let count = listed-long word_put_in c.in_ok-words.words 0 (current f v).words known in
    let long : length c.in_ok-words.words ≡ 0 + length (current f v).words = omega (arith, count) in
    c.in_ok-add_results.ensures ∙ (λ j. known j ++ numbered (long j) (results_at f c.args.x v.words v.mems).words) ∙ sym (numbered-append 0 (current f v).words (results_at f c.args.x v.words v.mems).words)

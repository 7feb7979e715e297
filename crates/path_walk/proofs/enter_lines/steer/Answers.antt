use Rattle.std.proofs.Common.{List, map, sym, ap, ◌∙◌, subst, arith}
use Rattle.rv_words.specs.declared.range.Range.{Range}
use Rattle.rv_words.specs.Ranges.{range_bytes}
use Rattle.word_terms.specs.Tree.{Const}
use Rattle.sep_assert.specs.Code.{IsWithin}
use Rattle.triple_kernel.specs.Tree.{fact_tree}
use Rattle.proof_text.specs.LineLimits.{IsTriple}
use Rattle.code_parts.specs.Bodies.{Flow, start}
use Rattle.code_parts.specs.Kept.{flow_in}
use Rattle.code_parts.specs.VariableMaps.{place_of}
use Rattle.path_walk.specs.inner.Writers.{cited_tree, standing_at, stating_further, writer_tree}
use Rattle.path_walk.proofs.LowVariables.{low_place}
use Rattle.path_walk.proofs.SteeredTexts.{from_front, steered-fine, steered-standing-fine}
use Rattle.path_walk.proofs.enter_lines.steer.Goals as goal

pub state_further-requires-clause-stated : goal.state_further-requires-clause-stated
state_further-requires-clause-stated c =
    let f : Flow = flow_in c.args.flow.now in
    let all = ap (map fact_tree) c.as_slice.ensures ∙ c.in_ok-facts.ensures in
    subst IsTriple (sym (from_front f c.args.entry _ c.front.ensures.is _ _ _ (place_of c.args.place.now) _ c.in_ok-stated.ensures))
    (steered-fine f c.law_of_code.ensures.registers c.law_of_memories.ensures.few (cited_tree c.args.t.now) c.law_of_texts.ensures c.args.w c.args.back c.ranges.w.fits c.ranges.back.fits (map fact_tree c.as_slice.result.now) all
    c.in_ok-code.code.ranges (c.in_ok-code.ensures ∙ c.code.ensures) c.args.entry c.ranges.entry.fits (place_of c.args.place.now) 65535
    (low_place c.args.place.now 65535 f.mems c.law_of_memories.ensures.few c.law_of_memories.ensures.second (omega arith) (omega (arith, c.requires.words)) (omega (arith, c.requires.mems))) (omega arith))

pub new-requires : goal.new-requires
new-requires c =
    steered-standing-fine (flow_in c.args.flow.now) c.law_of_code.ensures.registers c.law_of_memories.ensures.few (cited_tree c.args.t.now) c.law_of_texts.ensures c.args.w c.args.back c.ranges.w.fits c.ranges.back.fits
    (map fact_tree c.in_ok-facts.facts) c.in_ok-facts.ensures c.in_ok-code.code.ranges (c.in_ok-code.ensures ∙ c.code.ensures) c.in_ok-number.number c.in_ok-number.ensures.fits

pub returns-clause-is : goal.returns-clause-is
returns-clause-is c =
    let code = c.in_ok-code.ensures ∙ c.code.ensures in
    c.new.ensures ∙ (λ i. record { number = c.in_ok-number.ensures.number i; facts = c.in_ok-facts.ensures i; code = code i })

pub returns-clause-log : goal.returns-clause-log
returns-clause-log c =
    let f : Flow = flow_in c.args.flow.now in
    let all = ap (map fact_tree) c.as_slice.ensures ∙ c.in_ok-facts.ensures in
    let code = c.in_ok-code.ensures ∙ c.code.ensures in
    let stated = from_front f c.args.entry _ c.front.ensures.is _ _ _ (place_of c.args.place.now) _ c.in_ok-stated.ensures
    ∙ (λ i. record { facts = all i; pre = standing_at f (Const c.args.entry) (start f); code = code i; post = standing_at f (Const c.args.back) (place_of c.args.place.now) }) in
    c.in_ok-number.ensures.log ∙ (λ i. stating_further (c.number.ensures i) (stated i) (writer_tree c.args.log.now))

pub returns-clause-code : goal.returns-clause-code
returns-clause-code c =
    let code = c.in_ok-code.ensures ∙ c.code.ensures in
    subst (λ (rs : List Range). IsWithin (range_bytes rs) (range_bytes c.args.flow.now.code)) (sym (ap (λ s. s.code) c.new.ensures ∙ code)) c.requires.code

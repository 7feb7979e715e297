use Rattle.std.proofs.Common.{List, ap, sym, subst, ◌∙◌, arith}
use Rattle.rv_words.specs.declared.range.Range.{Range}
use Rattle.rv_words.specs.Ranges.{range_bytes}
use Rattle.sep_assert.specs.Code.{IsWithin}
use Rattle.group_text.specs.TermLimits.{IsWord}
use Rattle.instr_axioms.specs.Terms.{pc_after}
use Rattle.code_parts.specs.Bodies.{VariableMap, names, place_after}
use Rattle.code_parts.specs.Kept.{flow_in}
use Rattle.code_parts.specs.VariableMaps.{place_of}
use Rattle.path_walk.specs.inner.Writers.{CitedTree, origin_of}
use Rattle.path_walk.proofs.InstructionLemmas.{steps_made}
use Rattle.path_walk.proofs.LineTexts.{pc-fine}
use Rattle.path_walk.proofs.LowVariables.{after_few, low_place}
use Rattle.path_walk.proofs.instruction_lines.step_from.Goals as goal

pub go_on_from-requires-clause-second : goal.go_on_from-requires-clause-second
go_on_from-requires-clause-second c =
    subst (λ (rs : List Range). IsWithin (range_bytes rs) (range_bytes c.args.flow.now.code)) (sym (ap (λ (t : CitedTree). t.code) c.in_ok-last.ensures.1)) c.in_ok-last.ensures.0.bytes

pub go_on_from-requires-clause-pc : goal.go_on_from-requires-clause-pc
go_on_from-requires-clause-pc c =
    let v : VariableMap = place_of c.args.place.now in
    let low = low_place c.args.place.now 32768 (flow_in c.args.flow.now).mems c.law_of_memories.ensures.few c.law_of_memories.ensures.second (omega arith) (omega (arith, c.requires.words)) (omega (arith, c.requires.mems)) in
    let pc = c.in_ok-pc.ensures ∙ ap (pc_after c.instr-i.result c.args.form c.addr.result c.size.result) c.names_of.ensures in
    subst IsWord (sym pc) (pc-fine (flow_in c.args.flow.now).mems v 32768 low (omega arith) c.uses-q.result c.instr-i.result c.args.form c.addr.result c.size.result)

pub go_on_from-requires-clause-words : goal.go_on_from-requires-clause-words
go_on_from-requires-clause-words c =
    let few = after_few c.instr-i.result c.uses-q.result (place_of c.args.place.now) in
    let same = ap (λ (v : VariableMap). v.words) c.after-next.ensures.is in
    omega (arith, few.0, same, c.requires.words)

pub go_on_from-requires-clause-mems : goal.go_on_from-requires-clause-mems
go_on_from-requires-clause-mems c =
    let few = after_few c.instr-i.result c.uses-q.result (place_of c.args.place.now) in
    let same = ap (λ (v : VariableMap). v.mems) c.after-next.ensures.is in
    omega (arith, few.1, same, c.requires.mems)

pub returns-clause-steps : goal.returns-clause-steps
returns-clause-steps c =
    let v : VariableMap = place_of c.args.place.now in
    let named = c.names_of.ensures ∙ ap (names v) c.uses-q.ensures.is in
    steps_made (flow_in c.args.flow.now) c.args.flow.now.code c.args.n (origin_of c.args.origin.now) c.args.form v _ _ _ _ _ _ _ _ _ c.requires.node c.in_ok-last.ensures.0 c.requires.origin.registers c.requires.own c.requires.form c.in_ok-last.ensures.1 c.in_ok-last.ensures.2
    (c.in_ok-pc.ensures ∙ (λ j. pc_after (c.instr-i.ensures.is j) c.args.form (c.addr.ensures j) (c.size.ensures j) (named j))) (c.after-next.ensures.is ∙ (λ j. place_after (c.instr-i.ensures.is j) (c.uses-q.ensures.is j) v)) c.in_ok-there.ensures.on

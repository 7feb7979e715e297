use Rattle.std.proofs.Common.{◌≡◌, ℕ, Bool, Option, true, false, not, refl, sym, ap, ◌∙◌, subst, arith, option_copied, option_map}
use Rattle.std.proofs.lemmas.Result.{on_ok_weaker}
use Rattle.rv_decode.specs.declared.instruction.Instr.{Instr}
use Rattle.word_terms.specs.Tree.{Const}
use Rattle.triple_kernel.specs.declared.form.Form.TheVariants.{Next, Taken}
use Rattle.std.specs.Prelude.{is_some}
use Rattle.group_text.specs.declared.version.Version.{Version as Known}
use Rattle.group_text.specs.Version.{version_of}
use Rattle.path_walk.specs.Further.{IsVersionFor}
use Rattle.code_parts.specs.Bodies.{Flow, VariableMap, body_at, place_after}
use Rattle.code_parts.specs.Graph.{has_edge, is_jump_through}
use Rattle.code_parts.specs.Kept.{flow_in}
use Rattle.path_walk.specs.inner.Blocks.{Reaches}
use Rattle.path_walk.specs.inner.Writers.{Leads, WriterTree, CitedTree, front, writer_tree, cited_tree}
use Rattle.code_parts.specs.VariableMaps.{place_of}
use Rattle.path_walk.proofs.BlockLemmas.{no-taken}
use Rattle.path_walk.proofs.EnteredLines.{called_made, entered-version, unreturned_made}
use Rattle.path_walk.proofs.LeafCitations.{branch_leads, return_leads, run_leads, steps_front}
use Rattle.path_walk.proofs.PartWalks.{few_more, next_is}
use Rattle.path_walk.proofs.body_lines.+body_lines.Goals as goal

pub acting_lines-returns-then-is_jump_through : goal.acting_lines-returns-then-is_jump_through
acting_lines-returns-then-is_jump_through t c =
    let f : Flow = flow_in c.args.flow.now in
    let v : VariableMap = place_of c.args.place.now in
    let from : Option CitedTree = option_map cited_tree (option_copied c.args.from) in
    let jump : is_jump_through (f.instr c.args.n) ≡ true = sym (ap is_jump_through c.instr-i.ensures.is) ∙ sym c.is_jump_through.ensures ∙ c.if-is_jump_through.true in
    on_ok_weaker c.cite.result (λ e. subst (λ (l : WriterTree). Leads f c.args.p c.args.flow.now.code (writer_tree c.args.log.now) l (Const (f.addr c.args.n)) v from (body_at c.args.room f c.args.p c.args.n v)) (sym e)
    (return_leads f c.args.p c.args.flow.now.code c.args.n c.args.room v from (cited_tree c.in_ok-t.t) (writer_tree c.args.log.now) (writer_tree c.step.new.log) c.requires.near c.requires.uncalled jump (λ e. omega (arith, e, c.requires.some))
    (steps_front f c.args.p c.args.flow.now.code _ _ _ _ _ _ _ _ _ _ c.entry_of-entry.ensures c.in_ok-t.ensures.steps))) c.cite.ensures

pub acting_lines-lines_to-requires : goal.acting_lines-lines_to-requires
acting_lines-lines_to-requires t c =
    let f : Flow = flow_in c.args.flow.now in
    let edge : has_edge (f.instr c.args.n) Taken ≡ true = sym (ap (λ (i : Instr). has_edge i Taken) c.instr-i.ensures.is) ∙ ap (λ (i : Instr). has_edge i Taken) c.in-Branch.is in (
      omega (arith, c.decreases, c.requires.some),
      (c.requires.part, (next_is f c.args.p c.args.room c.args.n c.to-to.result Taken c.requires.near (λ e. omega (arith, e, c.requires.some)) edge c.to-to.ensures.is, (omega (arith, c.requires.words, c.requires.some), (omega (arith, c.requires.mems, c.requires.some), (c.in_ok-t-in-Branch.ensures.code, subst (λ (k : Known). IsVersionFor f k) (sym (c.in_ok-t-in-Branch.ensures.steps.version)) c.requires.version))))),
    )

pub acting_lines-lines_to-requires-in-Branch : goal.acting_lines-lines_to-requires-in-Branch
acting_lines-lines_to-requires-in-Branch t c =
    let f : Flow = flow_in c.args.flow.now in
    let edge : has_edge (f.instr c.args.n) Next ≡ true = sym (ap (λ (i : Instr). has_edge i Next) c.instr-i.ensures.is) ∙ ap (λ (i : Instr). has_edge i Next) c.in-Branch.is in (
      omega (arith, c.decreases, c.requires.some),
      (c.requires.part, (next_is f c.args.p c.args.room c.args.n c.to-to-in-Branch.result Next c.requires.near (λ e. omega (arith, e, c.requires.some)) edge c.to-to-in-Branch.ensures.is, (omega (arith, c.requires.words, c.requires.some), (omega (arith, c.requires.mems, c.requires.some), (c.in_ok-t-in-Branch-2.ensures.code, subst (λ (k : Known). IsVersionFor f k) (sym (c.in_ok-t-in-Branch-2.ensures.steps.version ∙ c.in_ok-lines_to-in-Branch.ensures.version ∙ c.in_ok-t-in-Branch.ensures.steps.version)) c.requires.version))))),
    )

pub acting_lines-straight_lines-requires-clause-straight : goal.acting_lines-straight_lines-requires-clause-straight
acting_lines-straight_lines-requires-clause-straight t c = record {
  node = c.requires.near.node;
  uncalled = c.requires.uncalled;
  branch = sym (ap (λ (i : Instr). has_edge i Taken) c.instr-i.ensures.is) ∙ no-taken c.instr-i.result c.in_default.not-Branch;
  jump = sym (ap is_jump_through c.instr-i.ensures.is) ∙ sym c.is_jump_through.ensures ∙ c.if-is_jump_through.false;
}

pub acting_lines-lines_to-requires-in_default : goal.acting_lines-lines_to-requires-in_default
acting_lines-lines_to-requires-in_default t c =
    let reaches = c.in_ok-end-in_default.ensures.reaches in
    let fewer = reaches.runs.fewer in
    let words = reaches.runs.words in
    let mems = reaches.runs.mems in (
      omega (arith, c.decreases, fewer),
      (c.requires.part, (reaches.runs.next c.args.p c.requires.near, (omega (arith, c.requires.words, words), (omega (arith, c.requires.mems, mems), (c.in_ok-end-in_default.ensures.code, subst (λ (k : Known). IsVersionFor (flow_in c.args.flow.now) k) (sym reaches.steps.version) c.requires.version))))),
    )

pub acting_lines-returns-in_ok-t-in-Branch-2 : goal.acting_lines-returns-in_ok-t-in-Branch-2
acting_lines-returns-in_ok-t-in-Branch-2 t c =
    let f : Flow = flow_in c.args.flow.now in
    let v : VariableMap = place_of c.args.place.now in
    let from : Option CitedTree = option_map cited_tree (option_copied c.args.from) in
    on_ok_weaker c.lines_to-in-Branch.result (λ two. branch_leads f c.args.p c.args.flow.now.code c.args.n c.args.room v c.instr-i.result c.in-Branch.cmp c.in-Branch.rs1 c.in-Branch.rs2 c.in-Branch.offset
    c.to-to.result c.to-to-in-Branch.result from (cited_tree c.in_ok-t-in-Branch.t) (cited_tree c.in_ok-t-in-Branch-2.t) (writer_tree c.args.log.now) (writer_tree c.step-in-Branch.new.log) (writer_tree c.lines_to.new.log)
    (writer_tree c.step-in-Branch-2.new.log) (writer_tree c.lines_to-in-Branch.new.log) c.requires.near.node c.requires.uncalled c.instr-i.ensures.is c.in-Branch.is (λ e. omega (arith, e, c.requires.some)) c.to-to.ensures.is c.to-to-in-Branch.ensures.is
    (steps_front f c.args.p c.args.flow.now.code _ _ _ _ _ _ _ _ _ _ c.entry_of-entry.ensures c.in_ok-t-in-Branch.ensures.steps) c.in_ok-lines_to-in-Branch.ensures
    (steps_front f c.args.p c.args.flow.now.code _ _ _ _ _ _ _ _ _ _ c.entry_of-entry.ensures c.in_ok-t-in-Branch-2.ensures.steps) two) c.lines_to-in-Branch.ensures

pub acting_lines-returns-in_ok-end-in_default : goal.acting_lines-returns-in_ok-end-in_default
acting_lines-returns-in_ok-end-in_default t c =
    let f : Flow = flow_in c.args.flow.now in
    let from : Option CitedTree = option_map cited_tree (option_copied c.args.from) in
    let end = c.in_ok-end-in_default.end in
    on_ok_weaker c.lines_to-in_default.result (λ rest. run_leads f c.args.p c.args.flow.now.code c.args.n c.args.room (place_of c.args.place.now) end.node (place_of end.place) end.room from
    (cited_tree end.theorem) (writer_tree c.args.log.now) (writer_tree c.straight_lines.new.log) (writer_tree c.lines_to-in_default.new.log)
    (subst (λ (e : ℕ). Reaches f (front f e) c.args.flow.now.code (writer_tree c.args.log.now) (writer_tree c.straight_lines.new.log) c.args.n (place_of c.args.place.now) c.args.room from end.node (place_of end.place) end.room (cited_tree end.theorem))
    c.entry_of-entry.ensures c.in_ok-end-in_default.ensures.reaches) rest) c.lines_to-in_default.ensures

pub lines_to-lines_from-requires : goal.lines_to-lines_from-requires
lines_to-lines_from-requires t c = (
  omega (arith, c.decreases),
  (c.requires.part, (c.requires.next.inside (sym c.is_cut.ensures ∙ c.if-is_cut.false), (c.requires.words, (c.requires.mems, (c.requires.code, c.requires.version))))),
)

pub lines_from-calling_lines-requires : goal.lines_from-calling_lines-requires
lines_from-calling_lines-requires t c = (
  omega (arith, c.decreases),
  (c.requires.part, (c.requires.near, (sym c.callee.ensures.is ∙ c.in-Some.is, (omega (arith, c.requires.near.near), (c.requires.words, (c.requires.mems, (c.requires.code, c.requires.version))))))),
)

pub lines_from-acting_lines-requires : goal.lines_from-acting_lines-requires
lines_from-acting_lines-requires t c = (
  omega (arith, c.decreases),
  (c.requires.part, (c.requires.near, (sym c.callee.ensures.is ∙ c.in-None.is, (omega (arith, c.requires.near.near), (c.requires.words, (c.requires.mems, (c.requires.code, c.requires.version))))))),
)

pub calling_lines-step-requires-clause-form : goal.calling_lines-step-requires-clause-form
calling_lines-step-requires-clause-form t c = (c.law_of_code.ensures.each c.args.n c.requires.near.node).form Next (c.requires.near.graph.calls c.args.n c.args.callee c.requires.near.node c.requires.called)

pub calling_lines-enter-requires-clause-further : goal.calling_lines-enter-requires-clause-further
calling_lines-enter-requires-clause-further t c =
    subst (λ (k : Known). is_some (version_of k).further ≡ true)
    (sym (c.in_ok-t.ensures.steps.version ∙ c.requires.version.calls c.args.n c.args.callee c.requires.near.node c.requires.called)) refl

pub calling_lines-enter-requires-clause-words : goal.calling_lines-enter-requires-clause-words
calling_lines-enter-requires-clause-words t c =
    let few = few_more c.instr.result c.uses-q.result (place_of c.args.place.now) (place_of c.after-next.result) c.after-next.ensures.is in
    omega (arith, c.requires.words, few.0)

pub calling_lines-enter-requires-clause-mems : goal.calling_lines-enter-requires-clause-mems
calling_lines-enter-requires-clause-mems t c =
    let few = few_more c.instr.result c.uses-q.result (place_of c.args.place.now) (place_of c.after-next.result) c.after-next.ensures.is in
    omega (arith, c.requires.mems, few.1)

pub calling_lines-lines_to-requires : goal.calling_lines-lines_to-requires
calling_lines-lines_to-requires t c =
    let f : Flow = flow_in c.args.flow.now in
    let edge : has_edge (f.instr c.args.n) Next ≡ true = c.requires.near.graph.calls c.args.n c.args.callee c.requires.near.node c.requires.called in
    let few = few_more c.instr.result c.uses-q.result (place_of c.args.place.now) (place_of c.after-next.result) c.after-next.ensures.is in
    let version = entered-version f _ _ _ _ _ _ _ _ _ _ c.in_ok-there.ensures.entered ∙ c.in_ok-t.ensures.steps.version in (
      omega (arith, c.decreases, c.requires.some),
      (c.requires.part, (next_is f c.args.p c.args.room c.args.n c.to-to.result Next c.requires.near (λ e. omega (arith, e, c.requires.some)) edge c.to-to.ensures.is, (omega (arith, c.requires.words, c.requires.some, few.0, c.place_at-back.ensures.words), (omega (arith, c.requires.mems, c.requires.some, few.1, c.place_at-back.ensures.mems), (c.in_ok-there.ensures.code, subst (λ (k : Known). IsVersionFor f k) (sym version) c.requires.version))))),
    )

unreturned : (b : Bool) → not b ≡ true → b ≡ false
unreturned true e = absurd (cc)
unreturned false e = refl

returned : (b : Bool) → not b ≡ false → b ≡ true
returned true e = refl
returned false e = absurd (cc)

pub calling_lines-returns-then-not-callee : goal.calling_lines-returns-then-not-callee
calling_lines-returns-then-not-callee t c =
    unreturned_made (flow_in c.args.flow.now) c.args.p c.args.flow.now.code c.args.n c.args.room c.args.callee (place_of c.args.place.now) c.entry_of-entry.result (option_map cited_tree (option_copied c.args.from)) (cited_tree c.in_ok-t.t)
    (writer_tree c.args.log.now) (writer_tree c.step.new.log) c.requires.near.node c.requires.called (unreturned c.args.callee.returns c.if-not-callee.true) c.requires.some c.entry_of-entry.ensures c.in_ok-t.ensures.steps

pub calling_lines-returns : goal.calling_lines-returns
calling_lines-returns t c =
    let f : Flow = flow_in c.args.flow.now in
    on_ok_weaker c.lines_to.result (λ rest. called_made f c.args.p c.args.flow.now.code c.args.n c.args.room c.args.callee (place_of c.args.place.now) (place_of c.after-next.result) (place_of c.place_at-back.result) c.entry_of-entry.result
    c.to-to.result c.addr.result (option_map cited_tree (option_copied c.args.from)) (cited_tree c.in_ok-t.t) (cited_tree c.in_ok-there.there) (writer_tree c.args.log.now) (writer_tree c.step.new.log) (writer_tree c.enter.new.log) (writer_tree c.lines_to.new.log)
    c.requires.near.node c.requires.called (returned c.args.callee.returns c.if-not-callee.false) c.requires.some c.entry_of-entry.ensures c.to-to.ensures.is c.addr.ensures
    (c.after-next.ensures.is ∙ (λ j. place_after (c.instr.ensures.is j) (c.uses-q.ensures.is j) (place_of c.args.place.now))) c.place_at-back.ensures.is
    c.in_ok-t.ensures.steps c.in_ok-there.ensures.entered rest) c.lines_to.ensures

pub acting_lines-step-requires-in-Branch-2-clause-version : goal.acting_lines-step-requires-in-Branch-2-clause-version
acting_lines-step-requires-in-Branch-2-clause-version t c =
    subst (λ (k : Known). IsVersionFor (flow_in c.args.flow.now) k) (sym (c.in_ok-lines_to-in-Branch.ensures.version ∙ c.in_ok-t-in-Branch.ensures.steps.version)) c.requires.version

use Rattle.std.proofs.Common.{◌^◌, ◌<◌, List, length, sym, ap, subst, ◌∙◌, arith, false}
use Rattle.std.specs.List.{All}
use Rattle.std.proofs.lemmas.Result.{IfOk-weaker}
use Rattle.rv_words.specs.declared.range.Range.{Range}
use Rattle.group_text.specs.declared.version.Version.TheVariants.{Four}
use Rattle.flow_graph.specs.Graph.{GraphOf}
use Rattle.loop_forest.specs.Forest.{ForestOf, number_of}
use Rattle.code_parts.specs.declared.part.Part.{Part}
use Rattle.code_parts.specs.Bodies.{Flow}
use Rattle.code_parts.specs.Flows.{AreCodeOf, HaveInstructions, IsSetFor, ContextOf, alone, flow_of, context_of}
use Rattle.code_parts.specs.Graph.{IsCode, IsPart}
use Rattle.code_parts.specs.Kept.{flow_in}
use Rattle.code_parts.specs.Order.{AreParts}
use Rattle.code_parts.proofs.LinkedContexts.{in-context}
use Rattle.path_walk.specs.Further.{IsVersionFor}
use Rattle.path_walk.specs.Split.{IsSplitItem, split}
use Rattle.path_walk.specs.inner.Walks.{IsItemOver}
use Rattle.path_walk.proofs.PartsInOrder.{item_in_context, parts-there, parts_small}
use Rattle.path_walk.proofs.SplitParts.{flow_split, made-split, set-split, split_is, version-split}
use Rattle.path_walk.proofs.split.split_item.Goals as goal

pub new-requires-clause-few : goal.new-requires-clause-few
new-requires-clause-few c =
    subst (λ (ps : List Part). length ps < 2 ^ 32) (sym c.as_slice-parts.ensures) (parts_small c.args.graph.now c.args.forest.now c.in_ok-parts.parts c.requires.reached c.requires.forest c.in_ok-parts.ensures)

pub of-requires-clause-reached : goal.of-requires-clause-reached
of-requires-clause-reached c = (false, c.requires.reached)

pub of-requires-clause-fits : goal.of-requires-clause-fits
of-requires-clause-fits c =
    subst (λ (t : ContextOf). IsSetFor c.args.graph.now (context_of t))
    (sym (split_is c.args.graph.now c.args.second.now c.in_ok-parts.parts c.as_slice-parts.result.now c.regs.result.now c.in_ok-alone.alone c.as_slice-parts.ensures c.regs.ensures.are c.in_ok-alone.ensures.context))
    (set-split c.args.graph.now c.args.second.now c.in_ok-parts.parts)

pub of-requires-clause-few : goal.of-requires-clause-few
of-requires-clause-few c =
    let few : length c.as_slice-parts.result.now < 2 ^ 32 = subst (λ (ps : List Part). length ps < 2 ^ 32) (sym c.as_slice-parts.ensures)
    (parts_small c.args.graph.now c.args.forest.now c.in_ok-parts.parts c.requires.reached c.requires.forest c.in_ok-parts.ensures) in
    omega (arith, few)

pub of-requires-clause-code : goal.of-requires-clause-code
of-requires-clause-code c = subst (λ (g : GraphOf). HaveInstructions g c.code.result.now.ranges) c.in_ok-alone.ensures.graph c.code.ensures.whole

pub item_in-requires-clause-version : goal.item_in-requires-clause-version
item_in-requires-clause-version c =
    let is = split_is c.args.graph.now c.args.second.now c.in_ok-parts.parts c.as_slice-parts.result.now c.regs.result.now c.in_ok-alone.alone c.as_slice-parts.ensures c.regs.ensures.are c.in_ok-alone.ensures.context in
    let same = flow_split c.args.graph.now c.args.forest.now c.args.second.now c.in_ok-parts.parts c.in_ok-flow.flow _ c.in_ok-flow.ensures.graph c.in_ok-flow.ensures.forest c.in_ok-flow.ensures.context is in
    subst (λ (f : Flow). IsVersionFor f Four) (sym same) (version-split c.requires.reached.code c.requires.reached.entry c.args.graph.now c.args.forest.now c.args.second.now c.in_ok-parts.parts c.requires.reached.is)

pub item_in-requires-clause-parts : goal.item_in-requires-clause-parts
item_in-requires-clause-parts c = sym (ap (λ (t : ContextOf). t.parts) c.in_ok-flow.ensures.context)

pub item_in-requires-clause-each : goal.item_in-requires-clause-each
item_in-requires-clause-each c =
    let is = split_is c.args.graph.now c.args.second.now c.in_ok-parts.parts c.as_slice-parts.result.now c.regs.result.now c.in_ok-alone.alone c.as_slice-parts.ensures c.regs.ensures.are c.in_ok-alone.ensures.context in
    let same = flow_split c.args.graph.now c.args.forest.now c.args.second.now c.in_ok-parts.parts c.in_ok-flow.flow _ c.in_ok-flow.ensures.graph c.in_ok-flow.ensures.forest c.in_ok-flow.ensures.context is in
    let order : AreParts (flow_of c.args.graph.now c.args.forest.now (context_of (split c.args.graph.now c.args.second.now c.in_ok-parts.parts))) (number_of c.args.forest.now) c.in_ok-parts.parts =
    in-context c.args.graph.now c.args.forest.now (alone c.args.graph.now c.in_ok-parts.parts) (context_of (split c.args.graph.now c.args.second.now c.in_ok-parts.parts)) (number_of c.args.forest.now) c.in_ok-parts.parts c.in_ok-parts.ensures in
    subst (λ (ps : List Part). All (IsPart (flow_in c.in_ok-flow.flow)) ps) (sym c.as_slice-parts.ensures)
    (subst (λ (f : Flow). All (IsPart f) c.in_ok-parts.parts) (sym same)
    (parts-there (flow_of c.args.graph.now c.args.forest.now (context_of (split c.args.graph.now c.args.second.now c.in_ok-parts.parts))) (number_of c.args.forest.now) c.in_ok-parts.parts order))

pub returns-clause-item : goal.returns-clause-item
returns-clause-item c =
    let g : GraphOf = c.args.graph.now in
    let f : ForestOf = c.args.forest.now in
    let ps : List Part = c.in_ok-parts.parts in
    let is = split_is g c.args.second.now ps c.as_slice-parts.result.now c.regs.result.now c.in_ok-alone.alone c.as_slice-parts.ensures c.regs.ensures.are c.in_ok-alone.ensures.context in
    let same = flow_split g f c.args.second.now ps c.in_ok-flow.flow _ c.in_ok-flow.ensures.graph c.in_ok-flow.ensures.forest c.in_ok-flow.ensures.context is in
    let order : AreParts (flow_of g f (context_of (split g c.args.second.now ps))) (number_of f) ps = in-context g f (alone g ps) (context_of (split g c.args.second.now ps)) (number_of f) ps c.in_ok-parts.ensures in
    let code : AreCodeOf g c.in_ok-flow.flow.code = subst (AreCodeOf g) (sym (c.in_ok-flow.ensures.code ∙ c.code.ensures.is)) c.in_ok-alone.ensures.code in
    IfOk-weaker c.item_in.result (IsItemOver Four c.in_ok-flow.flow c.args.name c.len.result) (IsSplitItem g f c.args.second.now c.args.name)
    (λ item over. item_in_context Four (λ qs. context_of (split g c.args.second.now qs)) g f ps c.in_ok-flow.flow c.args.name c.len.result item same (ap (λ (t : ContextOf). t.parts) (c.in_ok-flow.ensures.context ∙ is)) over c.len.ensures.len order code
    (λ ranges at. made-split c.requires.reached.code c.requires.reached.entry g f c.args.second.now ps c.requires.reached.is c.args.name ranges c.requires.forest
    (subst (λ (h : Flow). IsCode h ranges) same (subst (λ (rs : List Range). IsCode (flow_in c.in_ok-flow.flow) rs) (sym at) c.law_of_code.ensures)) order)) c.item_in.ensures.item

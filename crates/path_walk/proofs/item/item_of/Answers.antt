use Rattle.std.proofs.Common.{◌≡◌, ◌^◌, ◌<◌, List, length, sym, subst, ◌∙◌}
use Rattle.std.specs.List.{All}
use Rattle.std.proofs.lemmas.Result.{IfOk-weaker}
use Rattle.rv_words.specs.declared.range.Range.{Range}
use Rattle.group_text.specs.declared.version.Version.TheVariants.{One}
use Rattle.flow_graph.specs.Graph.{GraphOf}
use Rattle.loop_forest.specs.Forest.{ForestOf, number_of}
use Rattle.code_parts.specs.declared.part.Part.{Part}
use Rattle.code_parts.specs.Bodies.{Flow}
use Rattle.code_parts.specs.Flows.{alone, flow_of}
use Rattle.code_parts.specs.Graph.{IsCode, IsPart}
use Rattle.code_parts.specs.Kept.{flow_in}
use Rattle.code_parts.proofs.FlowMade.{made-over}
use Rattle.code_parts.proofs.Contexts.{same_flow}
use Rattle.path_walk.specs.Item.{IsItemOf}
use Rattle.path_walk.specs.inner.Walks.{IsItemOver}
use Rattle.path_walk.proofs.PartsInOrder.{item_in_context, parts-there, parts_small, version-alone}
use Rattle.path_walk.proofs.item.item_of.Goals as goal

pub new-requires-clause-few : goal.new-requires-clause-few
new-requires-clause-few c =
    subst (λ (ps : List Part). length ps < 2 ^ 32) (sym c.as_slice-parts.ensures) (parts_small c.args.graph.now c.args.forest.now c.in_ok-parts.parts c.requires.reached c.requires.forest c.in_ok-parts.ensures)

pub item_in-requires-clause-version : goal.item_in-requires-clause-version
item_in-requires-clause-version c = version-alone (flow_in c.in_ok-flow.flow) c.in_ok-flow.ensures.alone

pub item_in-requires-clause-each : goal.item_in-requires-clause-each
item_in-requires-clause-each c =
    let same : flow_in c.in_ok-flow.flow ≡ flow_of c.args.graph.now c.args.forest.now (alone c.args.graph.now c.in_ok-parts.parts) =
    same_flow c.in_ok-flow.flow c.args.graph.now c.args.forest.now (alone c.args.graph.now c.in_ok-parts.parts) c.in_ok-flow.ensures.graph c.in_ok-flow.ensures.forest
    (c.in_ok-flow.ensures.context ∙ (λ i. alone c.args.graph.now (c.as_slice-parts.ensures i))) in
    subst (λ (ps : List Part). All (IsPart (flow_in c.in_ok-flow.flow)) ps) (sym c.as_slice-parts.ensures)
    (subst (λ (f : Flow). All (IsPart f) c.in_ok-parts.parts) (sym same) (parts-there (flow_of c.args.graph.now c.args.forest.now (alone c.args.graph.now c.in_ok-parts.parts)) (number_of c.args.forest.now) c.in_ok-parts.parts c.in_ok-parts.ensures))

pub returns-clause-item : goal.returns-clause-item
returns-clause-item c =
    let same : flow_in c.in_ok-flow.flow ≡ flow_of c.args.graph.now c.args.forest.now (alone c.args.graph.now c.in_ok-parts.parts) =
    same_flow c.in_ok-flow.flow c.args.graph.now c.args.forest.now (alone c.args.graph.now c.in_ok-parts.parts) c.in_ok-flow.ensures.graph c.in_ok-flow.ensures.forest
    (c.in_ok-flow.ensures.context ∙ (λ i. alone c.args.graph.now (c.as_slice-parts.ensures i))) in
    let g : GraphOf = c.args.graph.now in
    let f : ForestOf = c.args.forest.now in
    let ps : List Part = c.in_ok-parts.parts in
    IfOk-weaker c.item_in.result (IsItemOver One c.in_ok-flow.flow c.args.name c.len.result) (IsItemOf g f c.args.name)
    (λ item over. item_in_context One (alone g) g f ps c.in_ok-flow.flow c.args.name c.len.result item same (c.in_ok-flow.ensures.parts ∙ c.as_slice-parts.ensures) over c.len.ensures.len c.in_ok-parts.ensures c.in_ok-flow.ensures.code
    (λ ranges is. made-over c.requires.reached.code c.requires.reached.entry g f ps c.args.name ranges c.requires.reached.is c.requires.forest
    (subst (λ (h : Flow). IsCode h ranges) same (subst (λ (rs : List Range). IsCode (flow_in c.in_ok-flow.flow) rs) (sym is) c.law_of_code.ensures)) c.in_ok-parts.ensures)) c.item_in.ensures.item

use Rattle.std.proofs.Common.{◌≡◌, ◌++◌, ◌<◌, ◌≤◌, ◌^◌, ◌+◌, OnOk, List, length, map, refl, sym, ◌∙◌, subst, arith}
use Rattle.std.specs.List.{All}
use Rattle.rv_words.specs.declared.range.Range.{Range}
use Rattle.tailrec_lang.specs.Tree.{def_tree}
use Rattle.group_text.specs.declared.version.Version.TheVariants.{Three}
use Rattle.proof_text.specs.Line.{line_tree}
use Rattle.code_parts.specs.declared.part.Part.{Part}
use Rattle.code_parts.specs.Bodies.{Flow, part_def}
use Rattle.code_parts.specs.Flows.{IsSetFor, ContextOf, context_of}
use Rattle.code_parts.specs.Graph.{IsPart}
use Rattle.code_parts.specs.Kept.{flow_in}
use Rattle.code_parts.specs.Members.{flow_at}
use Rattle.code_parts.specs.Groups.{member_in}
use Rattle.path_walk.specs.Further.{IsVersionFor}
use Rattle.path_walk.specs.inner.LinkedWalks.{AreWalkedTo}
use Rattle.path_walk.proofs.FunctionsInOrder.{flow-same}
use Rattle.path_walk.proofs.Lines.{uncrossed}
use Rattle.path_walk.proofs.linked.walk_function.Goals as goal

pub of-requires-clause-reached : goal.of-requires-clause-reached
of-requires-clause-reached c = c.requires.function.reached

pub of-requires-clause-forest : goal.of-requires-clause-forest
of-requires-clause-forest c = c.requires.function.forest

pub of-requires-clause-fits : goal.of-requires-clause-fits
of-requires-clause-fits c = subst (λ (t : ContextOf). IsSetFor c.args.function.now.function.now.graph (context_of t)) (sym c.context-context.ensures) c.requires.function.fits

pub of-requires-clause-few : goal.of-requires-clause-few
of-requires-clause-few c = subst (λ (t : ContextOf). t.base + length t.parts < 2 ^ 32) (sym c.context-context.ensures) c.requires.function.few

pub of-requires-clause-mems : goal.of-requires-clause-mems
of-requires-clause-mems c = subst (λ (t : ContextOf). t.mems ≤ 2) (sym c.context-context.ensures) (omega (arith, c.requires.function.one))

pub of-requires-clause-code : goal.of-requires-clause-code
of-requires-clause-code c = c.requires.function.code

pub walk_parts-requires-clause-each : goal.walk_parts-requires-clause-each
walk_parts-requires-clause-each c =
    subst (λ (ps : List Part). All (IsPart (flow_in c.in_ok-flow.flow)) ps) (sym c.as_slice.ensures)
    (subst (λ (f : Flow). All (IsPart f) c.args.function.now.parts) (sym (flow-same c.in_ok-flow.flow c.args.group.now c.args.function.now c.in_ok-flow.ensures.graph c.in_ok-flow.ensures.forest (c.in_ok-flow.ensures.context ∙ c.context-context.ensures))) c.requires.function.parts)

pub walk_parts-requires-clause-version : goal.walk_parts-requires-clause-version
walk_parts-requires-clause-version c =
    subst (λ (f : Flow). IsVersionFor f Three) (sym (flow-same c.in_ok-flow.flow c.args.group.now c.args.function.now c.in_ok-flow.ensures.graph c.in_ok-flow.ensures.forest (c.in_ok-flow.ensures.context ∙ c.context-context.ensures)))
    (record { calls = λ n k node e. refl; crossed = λ n node is. absurd (uncrossed ((flow_at (member_in c.args.group.now c.args.function.now)).instr n) 0 refl is) })

pub returns-clause-defs : goal.returns-clause-defs
returns-clause-defs c =
    subst (λ (ps : List Part). OnOk c.walk_parts.result (map def_tree c.walk_parts.new.defs ≡ map def_tree c.args.defs.now ++ map (part_def (flow_at (member_in c.args.group.now c.args.function.now))) ps)) c.as_slice.ensures
    (subst (λ (f : Flow). OnOk c.walk_parts.result (map def_tree c.walk_parts.new.defs ≡ map def_tree c.args.defs.now ++ map (part_def f) c.as_slice.result.now)) (flow-same c.in_ok-flow.flow c.args.group.now c.args.function.now c.in_ok-flow.ensures.graph c.in_ok-flow.ensures.forest (c.in_ok-flow.ensures.context ∙ c.context-context.ensures)) c.walk_parts.ensures.defs)

pub returns-clause-lines : goal.returns-clause-lines
returns-clause-lines c =
    subst (λ (ps : List Part). OnOk c.walk_parts.result (AreWalkedTo Three (flow_at (member_in c.args.group.now c.args.function.now)) c.args.group.now.code.ranges ps (length ps) (map line_tree c.args.lines.now) (map line_tree c.walk_parts.new.lines))) c.as_slice.ensures
    (subst (λ (rs : List Range). OnOk c.walk_parts.result (AreWalkedTo Three (flow_at (member_in c.args.group.now c.args.function.now)) rs c.as_slice.result.now (length c.as_slice.result.now) (map line_tree c.args.lines.now) (map line_tree c.walk_parts.new.lines))) c.in_ok-flow.ensures.code
    (subst (λ (f : Flow). OnOk c.walk_parts.result (AreWalkedTo Three f c.in_ok-flow.flow.code c.as_slice.result.now (length c.as_slice.result.now) (map line_tree c.args.lines.now) (map line_tree c.walk_parts.new.lines))) (flow-same c.in_ok-flow.flow c.args.group.now c.args.function.now c.in_ok-flow.ensures.graph c.in_ok-flow.ensures.forest (c.in_ok-flow.ensures.context ∙ c.context-context.ensures)) c.walk_parts.ensures.lines))

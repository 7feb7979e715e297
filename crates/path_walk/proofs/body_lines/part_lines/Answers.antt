use Rattle.std.proofs.Common.{◌≡◌, ◌<◌, ℕ, Option, Some, None, refl, sym, ◌∙◌, subst}
use Rattle.std.proofs.lemmas.Result.{on_ok_weaker}
use Rattle.word_terms.specs.Tree.{Const}
use Rattle.code_parts.specs.declared.part.Part.{Part}
use Rattle.code_parts.specs.declared.part.Part.TheVariants.{Loop, Rest}
use Rattle.code_parts.specs.Bodies.{Flow, first, part_body, start}
use Rattle.code_parts.specs.Graph.{IsPart}
use Rattle.path_walk.specs.inner.Near.{IsNear}
use Rattle.code_parts.specs.Kept.{flow_in}
use Rattle.path_walk.specs.inner.Writers.{Leads, writer_tree}
use Rattle.path_walk.proofs.ClosingLines.{head_part}
use Rattle.path_walk.proofs.PartWalks.{head_there, loop_near, rest_near}
use Rattle.path_walk.proofs.body_lines.part_lines.Goals as goal

pub node_lines-requires-clause-near : goal.node_lines-requires-clause-near
node_lines-requires-clause-near c =
    let f : Flow = flow_in c.args.flow.now in
    let loop : c.in-Loop.l < f.loops = subst (IsPart f) c.in-Loop.is c.requires.part in
    subst (IsNear f (Loop c.in-Loop.l) 32) (sym c.head.ensures.is) (loop_near f (Loop c.in-Loop.l) c.in-Loop.l c.law_of_graphs.ensures loop refl)

pub node_lines-requires-in-None-clause-near : goal.node_lines-requires-in-None-clause-near
node_lines-requires-in-None-clause-near c =
    let f : Flow = flow_in c.args.flow.now in
    rest_near f (Rest c.in-Rest.region c.in-Rest.node) c.in-Rest.region c.in-Rest.node c.law_of_graphs.ensures (subst (IsPart f) c.in-Rest.is c.requires.part) refl (sym c.loop_of.ensures.is ∙ c.in-None.is)

pub returns-in-Some : goal.returns-in-Some
returns-in-Some c =
    let f : Flow = flow_in c.args.flow.now in
    let r : Option ℕ = c.in-Rest.region in
    let n : ℕ = c.in-Rest.node in
    let some : f.loop_of n ≡ Some c.in-Some.l = sym c.loop_of.ensures.is ∙ c.in-Some.is in
    let at = head_there f (Rest r n) r n c.in-Some.l c.law_of_graphs.ensures (subst (IsPart f) c.in-Rest.is c.requires.part) refl some in
    on_ok_weaker c.head_lines.result (λ lead. subst (λ (q : Part). Leads f q c.args.flow.now.code (writer_tree c.args.log.now) (writer_tree c.head_lines.new.log) (Const (f.addr (first f q))) (start f) None (part_body f q)) (sym c.in-Rest.is)
    (head_part f (Rest r n) c.args.flow.now.code (writer_tree c.args.log.now) (writer_tree c.head_lines.new.log) r n c.in-Some.l at.0 at.1 refl some lead)) c.head_lines.ensures

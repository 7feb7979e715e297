use Rattle.std.proofs.Common.{ℕ, OnOk, Option, Some, sym, ◌∙◌, subst}
use Rattle.word_terms.specs.Tree.{Const}
use Rattle.code_parts.specs.declared.part.Part.TheVariants.{Rest}
use Rattle.code_parts.specs.Bodies.{Flow, exits_of, rest_arms}
use Rattle.code_parts.specs.Kept.{flow_in}
use Rattle.path_walk.specs.inner.Lines.{ArmsLead}
use Rattle.path_walk.specs.inner.Writers.{writer_tree, cited_tree}
use Rattle.code_parts.specs.VariableMaps.{place_of}
use Rattle.path_walk.proofs.cut_lines.rest_lines.Goals as goal

pub returns-in-Some : goal.returns-in-Some
returns-in-Some c =
    let f : Flow = flow_in c.args.flow.now in
    subst (λ (r : Option ℕ). OnOk c.loop_rest_lines.result (ArmsLead f c.args.p c.args.flow.now.code (f.number (Rest r c.args.n)) (writer_tree c.args.log.now) (writer_tree c.loop_rest_lines.new.log) (Const (f.addr c.args.n))
    (place_of c.args.place.now) (Some (cited_tree c.args.at.now)) (exits_of f (Rest r c.args.n)) 0 (rest_arms f c.args.p r (place_of c.args.place.now)))) (sym (sym c.around.ensures.is ∙ c.in-Some.is)) c.loop_rest_lines.ensures

pub returns-in-None : goal.returns-in-None
returns-in-None c =
    let f : Flow = flow_in c.args.flow.now in
    subst (λ (r : Option ℕ). OnOk c.back_lines.result (ArmsLead f c.args.p c.args.flow.now.code (f.number (Rest r c.args.n)) (writer_tree c.args.log.now) (writer_tree c.back_lines.new.log) (Const (f.addr c.args.n))
    (place_of c.args.place.now) (Some (cited_tree c.args.at.now)) (exits_of f (Rest r c.args.n)) 0 (rest_arms f c.args.p r (place_of c.args.place.now)))) (sym (sym c.around.ensures.is ∙ c.in-None.is)) c.back_lines.ensures

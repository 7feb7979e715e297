use Rattle.std.proofs.Common.{Some, sym, ◌∙◌, subst}
use Rattle.std.proofs.lemmas.Result.{on_ok_weaker}
use Rattle.word_terms.specs.Tree.{Const}
use Rattle.code_parts.specs.Bodies.{Flow, end_at}
use Rattle.code_parts.specs.Kept.{flow_in}
use Rattle.path_walk.specs.inner.Writers.{Leads, WriterTree, writer_tree, cited_tree}
use Rattle.code_parts.specs.VariableMaps.{place_of}
use Rattle.path_walk.proofs.LeafCitations.{around-own, end_called, end_own}
use Rattle.path_walk.proofs.cut_lines.end_lines.Goals as goal

pub returns-then-ends_at : goal.returns-then-ends_at
returns-then-ends_at c =
    let f : Flow = flow_in c.args.flow.now in
    on_ok_weaker c.cite.result (λ e. subst (λ (l : WriterTree). Leads f c.args.p c.args.flow.now.code (writer_tree c.args.log.now) l (Const (f.addr c.args.n)) (place_of c.args.place.now) (Some (cited_tree c.args.at.now))
    (end_at f c.args.p c.args.n (place_of c.args.place.now))) (sym e)
    (end_own f c.args.p c.args.flow.now.code c.args.n (place_of c.args.place.now) (cited_tree c.args.at.now) (writer_tree c.args.log.now) (sym c.ends_at.ensures ∙ c.if-ends_at.true))) c.cite.ensures

pub rest_lines-requires-clause-around : goal.rest_lines-requires-clause-around
rest_lines-requires-clause-around c = around-own (flow_in c.args.flow.now) c.args.p c.args.flow.now.code c.args.n c.requires.end (sym c.ends_at.ensures ∙ c.if-ends_at.false)

pub returns : goal.returns
returns c =
    on_ok_weaker c.rest_lines.result (λ lead. end_called (flow_in c.args.flow.now) c.args.p c.args.flow.now.code c.args.n (place_of c.args.place.now) (cited_tree c.args.at.now) (writer_tree c.args.log.now) (writer_tree c.rest_lines.new.log)
    c.requires.end (sym c.ends_at.ensures ∙ c.if-ends_at.false) lead) c.rest_lines.ensures

use Rattle.std.proofs.Common.{◌≡◌, true, false, rules, Some}
use Rattle.std.proofs.lemmas.Result.{on_ok_weaker}
use Rattle.word_terms.specs.Tree.{Const}
use Rattle.code_parts.specs.Bodies.{Flow}
use Rattle.code_parts.specs.Kept.{flow_in}
use Rattle.path_walk.specs.inner.Writers.{writer_tree, cited_tree}
use Rattle.code_parts.specs.VariableMaps.{place_of}
use Rattle.path_walk.proofs.LeafCitations.{back_leads, back_none}
use Rattle.path_walk.proofs.cut_lines.back_lines.Goals as goal

pub returns : goal.returns
returns c =
    let f : Flow = flow_in c.args.flow.now in
    let is : f.returns ≡ true = search rules in
    on_ok_weaker c.cite.result (λ e. back_leads f c.args.p c.args.flow.now.code c.args.n _ c.entry_of-entry.result (writer_tree c.args.log.now) (writer_tree c.exit_step.new.log) (writer_tree c.cite.new.self)
    (Const (f.addr c.args.n)) (place_of c.args.place.now) (Some (cited_tree c.args.at.now)) (cited_tree c.in_ok-t.t) c.entry_of-entry.ensures c.requires.own is c.in_ok-t.ensures.steps e) c.cite.ensures

pub returns-then-not-returns : goal.returns-then-not-returns
returns-then-not-returns c =
    let f : Flow = flow_in c.args.flow.now in
    let is : f.returns ≡ false = search rules in
    back_none f c.args.p c.args.flow.now.code c.args.n _ (writer_tree c.args.log.now) (Const (f.addr c.args.n)) (place_of c.args.place.now) (Some (cited_tree c.args.at.now)) is

use Rattle.std.proofs.Common.{OnOk, None, subst}
use Rattle.word_terms.specs.Tree.{Const}
use Rattle.code_parts.specs.Bodies.{Flow, VariableMap, body_at}
use Rattle.code_parts.specs.Kept.{flow_in}
use Rattle.path_walk.specs.inner.Writers.{Leads, writer_tree}
use Rattle.path_walk.proofs.body_lines.node_lines.Goals as goal

pub returns : goal.returns
returns c =
    let f : Flow = flow_in c.args.flow.now in
    subst (λ (v : VariableMap). OnOk c.lines_from.result (Leads f c.args.p c.args.flow.now.code (writer_tree c.args.log.now) (writer_tree c.lines_from.new.log) (Const (f.addr c.args.n)) v None (body_at 32 f c.args.p c.args.n v)))
    c.fresh-start.ensures.is c.lines_from.ensures

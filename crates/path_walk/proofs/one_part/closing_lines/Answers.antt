use Rattle.std.proofs.Common.{◌≡◌, ◌∷◌, [], ◌++◌, ◌-◌, ◌+◌, List, refl, ap, sym, subst, map, ◌∙◌}
use Rattle.proof_text.specs.declared.line.Line.{Line}
use Rattle.proof_text.specs.Line.{Loop, LineTree, line_tree}
use Rattle.code_parts.specs.Kept.{flow_in}
use Rattle.path_walk.specs.inner.Lines.{forgets, stated}
use Rattle.group_text.specs.declared.version.Version.{Version as Known}
use Rattle.path_walk.specs.Further.{IsVersionFor}
use Rattle.path_walk.specs.inner.Writers.{WriterTree, writer_tree}
use Rattle.path_walk.proofs.ClosingLines.{closing, pushed}
use Rattle.path_walk.proofs.ForgottenLines.{forgotten}
use Rattle.path_walk.proofs.one_part.closing_lines.Goals as goal

-- all lines, as those of the log with more behind them
all : (c : goal.In_ok-forget_lines) → map line_tree c.forget_lines.new.lines ≡
    ((writer_tree c.part_lines.new.log).lines ++ Loop c.number.result c.into_parts-lines.result.1 ∷ []) ++ forgets c.args.first (c.next_after-next.result - c.args.first)
all c =
    let closed = pushed c.into_parts-lines.result.0 c.push.new.self _ (writer_tree c.part_lines.new.log).lines (Loop c.number.result c.into_parts-lines.result.1) c.in_ok-push.ensures.ok c.into_parts-lines.ensures.lines refl in
    c.in_ok-forget_lines.ensures ∙ (λ i. closed i ++ forgets c.args.first (c.next_after-next.result - c.args.first))

-- how many theorems they state
next : (c : goal.In_ok-forget_lines) → c.next_after-next.result ≡ c.args.first + stated (writer_tree c.part_lines.new.log).lines
next c =
    c.next_after-next.ensures ∙ ap (λ (ls : List Line). c.args.first + stated (map line_tree ls)) c.as_slice.ensures ∙ ap (λ (ls : List LineTree). c.args.first + stated ls) c.into_parts-lines.ensures.lines

pub part_lines-requires-clause-version : goal.part_lines-requires-clause-version
part_lines-requires-clause-version c = subst (λ (k : Known). IsVersionFor (flow_in c.args.flow.now) k) (sym (ap (λ (l : WriterTree). l.version) c.new-log.ensures)) c.requires.version

pub returns-clause-lines : goal.returns-clause-lines
returns-clause-lines c =
    closing c.args.version (flow_in c.args.flow.now) c.requires.version c.args.part c.args.flow.now.code c.args.first c.next_after-next.result (writer_tree c.new-log.result) (writer_tree c.part_lines.new.log) c.number.result c.into_parts-lines.result.1
    (map line_tree c.forget_lines.new.lines) c.new-log.ensures c.in_ok-part_lines.ensures (all c) (next c) c.next_after-next.type_inv c.number.ensures c.into_parts-lines.ensures.cited c.into_parts-lines.ensures.fine c.number.type_inv

pub returns-clause-kept : goal.returns-clause-kept
returns-clause-kept c =
    forgotten (writer_tree c.part_lines.new.log).lines c.number.result c.args.first c.next_after-next.result c.into_parts-lines.result.1 (map line_tree c.forget_lines.new.lines) (all c) (next c)

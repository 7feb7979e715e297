use Rattle.std.proofs.Common.{List, length, ap, sym, subst, ◌+◌, ◌∙◌, map, arith}
use Rattle.proof_text.specs.Line.{LineTree, line_tree}
use Rattle.proof_text.specs.declared.line.Line.{Line}
use Rattle.verdicts.specs.Instance.{after_lines}
use Rattle.path_walk.specs.Forgotten.{KeepsNone}
use Rattle.path_walk.specs.inner.Lines.{stated}
use Rattle.path_walk.proofs.ClosingLines.{added, next-low, next_is}
use Rattle.path_walk.proofs.one_part.walk_in.Goals as goal

pub closing_lines-requires-clause-first : goal.closing_lines-requires-clause-first
closing_lines-requires-clause-first c =
    let low = next-low c.args.lines.now in
    let long = ap (λ (ls : List Line). length ls) c.as_slice-lines.ensures in
    omega (arith, low, c.requires.first, long)

pub next_after-next-requires : goal.next_after-next-requires
next_after-next-requires c =
    let low = next-low c.args.lines.now in
    let long = ap (λ (ls : List Line). length ls) c.as_slice-lines.ensures in
    omega (arith, low, c.requires.first, long)

pub returns-clause-next : goal.returns-clause-next
returns-clause-next c =
    next_is c.args.lines.now c.in_ok-more.more c.append.new.self c.args.first c.next_after-next.result c.in_ok-append.ensures.ok c.requires.first
    (c.next_after-next.ensures ∙ ap (λ (ls : List Line). c.args.first + stated (map line_tree ls)) c.as_slice.ensures)

pub returns-clause-kept : goal.returns-clause-kept
returns-clause-kept c = λ none.
    subst (λ (ls : List LineTree). KeepsNone (after_lines ls)) (sym (added c.args.lines.now c.in_ok-more.more c.append.new.self c.in_ok-append.ensures.ok))
    (c.in_ok-more.ensures.kept (map line_tree c.args.lines.now) c.requires.first none)

use Rattle.std.proofs.Common.{List, Option, refl, sym, subst, ◌∙◌}
use Rattle.tailrec_lang.specs.Tree.{group_tree}
use Rattle.proof_text.specs.declared.line.SpelledLine.{SpelledLine}
use Rattle.verdicts.specs.Instance.{after_lines}
use Rattle.sep_assert.specs.declared.assertion.Assertion.{Assertion}
use Rattle.proof_v2.specs.Preconditions.{MayFollow}
use Rattle.proof_v2.specs.inner.Rewriting.{IsRightText, LineIsNext, with_lines}
use Rattle.proof_v2.proofs.ReadOn.{line-instance, lines-end, lines-first, lines-next, lines-read, no-line}
use Rattle.proof_v2.proofs.texts.short_lines.Goals as goal

pub loop-lines-init : goal.loop-lines-init
loop-lines-init g c = lines-first (group_tree c.args.group.now) c.args.reader.now c.new-kept.result c.args.arena.now c.new-lines.result c.new-kept.ensures c.requires.empty c.new-lines.ensures

pub next_line-requires : goal.next_line-requires
next_line-requires g c =
    let i = c.loop-lines.invariant.are in
    let opened = c.requires.given in
    record {
      text = subst IsRightText (sym i.goes.text) c.requires.text;
      version = i.goes.version ∙ c.requires.version;
      fits = c.requires.fits;
      given = (opened.0, with_lines (group_tree c.args.group.now) i.lines, i.given opened.0 opened.1, refl);
    }

pub put_short-requires : goal.put_short-requires
put_short-requires g c =
    let group = group_tree c.args.group.now in
    let h = after_lines c.loop-lines.invariant.are.lines in
    let next = subst (λ (f : Option SpelledLine). LineIsNext group c.loop-lines.reader c.next_line.new.reader f) c.in-Some.is c.in_ok-line.ensures in
    let may = line-instance group _ c.args.reader.now c.loop-lines.reader c.next_line.new.reader c.loop-lines.kept c.loop-lines.arena c.loop-lines.lines c.in-Some.line c.requires.text refl c.requires.version c.requires.given c.loop-lines.invariant next in
    (h, subst (λ (ks : List (Option Assertion)). MayFollow ks c.in-Some.line group h) (sym c.as_slice.ensures) may)

pub loop-lines-preserved : goal.loop-lines-preserved
loop-lines-preserved g c =
    let group = group_tree c.args.group.now in
    let h = after_lines c.loop-lines.invariant.are.lines in
    let next = subst (λ (f : Option SpelledLine). LineIsNext group c.loop-lines.reader c.next_line.new.reader f) c.in-Some.is c.in_ok-line.ensures in
    let may = line-instance group _ c.args.reader.now c.loop-lines.reader c.next_line.new.reader c.loop-lines.kept c.loop-lines.arena c.loop-lines.lines c.in-Some.line c.requires.text refl c.requires.version c.requires.given c.loop-lines.invariant next in
    lines-next group c.args.reader.now c.loop-lines.reader c.next_line.new.reader c.loop-lines.kept c.keep.new.kept c.loop-lines.arena c.put_short.new.arena c.loop-lines.lines c.put_short.new.out c.in-Some.line c.loop-lines.invariant next
    (c.in_ok-put_short.ensures.put h (subst (λ (ks : List (Option Assertion)). MayFollow ks c.in-Some.line group h) (sym c.as_slice.ensures) may)) c.put_short.ensures.grows c.in_ok-keep.ensures

pub returns-clause-short : goal.returns-clause-short
returns-clause-short g c =
    let group = group_tree c.args.group.now in
    lines-read group c.args.reader.now c.loop-lines.reader c.next_line.new.reader c.loop-lines.kept c.loop-lines.arena c.loop-lines.lines c.loop-lines.invariant
    (no-line group c.loop-lines.reader c.next_line.new.reader c.in_ok-line.field-0 c.in_default.not-Some c.in_ok-line.ensures)

pub returns-clause-over : goal.returns-clause-over
returns-clause-over g c =
    let group = group_tree c.args.group.now in
    lines-end group c.loop-lines.reader c.next_line.new.reader (no-line group c.loop-lines.reader c.next_line.new.reader c.in_ok-line.field-0 c.in_default.not-Some c.in_ok-line.ensures)

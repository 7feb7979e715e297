use Rattle.std.proofs.Common.{◌≡◌, ◌∙◌, List, ap, subst, sym}
use Rattle.std.specs.Prelude.{OnErr}
use Rattle.tailrec_lang.specs.Tree.{group_tree}
use Rattle.group_text.specs.Version.{version_of}
use Rattle.short_text.specs.declared.short.ShortLine.{ShortLine}
use Rattle.short_text.specs.SpelledShort.{spelled_short}
use Rattle.short_text.specs.inner.ShortReaders.{AreKept, KeptLines}
use Rattle.proof_v2.proofs.AnyGiven.{end-so, next-bad, next-end, next-fault, next-given, next-open}
use Rattle.proof_v2.proofs.short_reading.next_spelled.Goals as goal

pub next_line-next-requires-clause-laws : goal.next_line-next-requires-clause-laws
next_line-next-requires-clause-laws c = c.law_of_short_lines.ensures.read (version_of c.args.reader.now.version)

pub returns-clause-open : goal.returns-clause-open
returns-clause-open c =
    next-open c.args.reader.now c.args.lines.now (group_tree c.args.group.now) (spelled_short c.args.group.now.code.ranges) c.next_line-next.new.self c.next_line-next.new.kept.lines c.next_line-next.result c.requires.open
    (λ before h. c.next_line-next.ensures.behind before (subst (λ (k : KeptLines). AreKept k before) (sym c.replace.ensures.value) h))
    (λ before h. c.next_line-next.ensures.fits before (subst (λ (k : KeptLines). AreKept k before) (sym c.replace.ensures.value) h))
    (end-so c.next_line-next.result _ _ (λ e. ap (λ s. s.lines) e ∙ c.replace.ensures.value) c.next_line-next.ensures.kept_end)
    (subst (λ (k : KeptLines). OnErr c.next_line-next.result ((before : List ShortLine) → AreKept k before → AreKept c.next_line-next.new.kept.lines before)) c.replace.ensures.value c.next_line-next.ensures.kept)

pub returns-clause-given : goal.returns-clause-given
returns-clause-given c =
    next-given c.args.reader.now c.args.lines.now (group_tree c.args.group.now) (spelled_short c.args.group.now.code.ranges) c.next_line-next.new.self c.next_line-next.new.kept.lines c.next_line-next.result c.next_line-next.ensures.version
    (λ before h. c.next_line-next.ensures.given before (subst (λ (k : KeptLines). AreKept k before) (sym c.replace.ensures.value) h))
    (λ before h. c.next_line-next.ensures.behind before (subst (λ (k : KeptLines). AreKept k before) (sym c.replace.ensures.value) h))

pub returns-clause-end : goal.returns-clause-end
returns-clause-end c =
    next-end c.args.reader.now c.args.lines.now (group_tree c.args.group.now) (spelled_short c.args.group.now.code.ranges) c.next_line-next.new.self c.next_line-next.new.kept.lines c.next_line-next.result
    c.next_line-next.ensures.end c.next_line-next.ensures.end_same (end-so c.next_line-next.result _ _ (λ e. ap (λ s. s.lines) e ∙ c.replace.ensures.value) c.next_line-next.ensures.kept_end)

pub returns-clause-bad : goal.returns-clause-bad
returns-clause-bad c =
    next-bad c.args.reader.now c.args.lines.now (group_tree c.args.group.now) (spelled_short c.args.group.now.code.ranges) c.next_line-next.new.self c.next_line-next.new.kept.lines c.next_line-next.result
    (λ before h. c.next_line-next.ensures.bad before (subst (λ (k : KeptLines). AreKept k before) (sym c.replace.ensures.value) h))
    (λ before h. c.next_line-next.ensures.no_item before (subst (λ (k : KeptLines). AreKept k before) (sym c.replace.ensures.value) h))

pub returns-clause-fault : goal.returns-clause-fault
returns-clause-fault c =
    next-fault c.args.reader.now c.args.lines.now (group_tree c.args.group.now) (spelled_short c.args.group.now.code.ranges) c.next_line-next.new.self c.next_line-next.new.kept.lines c.next_line-next.result
    c.next_line-next.ensures.fault_same
    (subst (λ (k : KeptLines). OnErr c.next_line-next.result ((before : List ShortLine) → AreKept k before → AreKept c.next_line-next.new.kept.lines before)) c.replace.ensures.value c.next_line-next.ensures.kept)

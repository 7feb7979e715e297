use Rattle.std.proofs.Common.{◌≡◌}
use Rattle.tailrec_lang.specs.Tree.{group_tree}
use Rattle.group_text.specs.Version.{version_of}
use Rattle.short_text.specs.declared.short.ShortLine.{ShortLine}
use Rattle.proof_v2.proofs.AnyGiven.{next-bad, next-end, next-fault, next-given, next-open}
use Rattle.proof_v2.proofs.short_reading.next_short.Goals as goal

pub next_line-requires-clause-laws : goal.next_line-requires-clause-laws
next_line-requires-clause-laws c = c.law_of_short_lines.ensures.read (version_of c.args.reader.now.version)

pub returns-clause-open : goal.returns-clause-open
returns-clause-open c =
    next-open c.args.reader.now c.args.lines.now (group_tree c.args.group.now) (λ (l : ShortLine). l) c.next_line.new.self c.next_line.new.kept c.next_line.result c.requires.open
    c.next_line.ensures.behind c.next_line.ensures.fits c.next_line.ensures.kept_end c.next_line.ensures.kept

pub returns-clause-given : goal.returns-clause-given
returns-clause-given c =
    next-given c.args.reader.now c.args.lines.now (group_tree c.args.group.now) (λ (l : ShortLine). l) c.next_line.new.self c.next_line.new.kept c.next_line.result c.next_line.ensures.version
    c.next_line.ensures.given c.next_line.ensures.behind

pub returns-clause-end : goal.returns-clause-end
returns-clause-end c =
    next-end c.args.reader.now c.args.lines.now (group_tree c.args.group.now) (λ (l : ShortLine). l) c.next_line.new.self c.next_line.new.kept c.next_line.result
    c.next_line.ensures.end c.next_line.ensures.end_same c.next_line.ensures.kept_end

pub returns-clause-bad : goal.returns-clause-bad
returns-clause-bad c =
    next-bad c.args.reader.now c.args.lines.now (group_tree c.args.group.now) (λ (l : ShortLine). l) c.next_line.new.self c.next_line.new.kept c.next_line.result
    c.next_line.ensures.bad c.next_line.ensures.no_item

pub returns-clause-fault : goal.returns-clause-fault
returns-clause-fault c =
    next-fault c.args.reader.now c.args.lines.now (group_tree c.args.group.now) (λ (l : ShortLine). l) c.next_line.new.self c.next_line.new.kept c.next_line.result
    c.next_line.ensures.fault_same c.next_line.ensures.kept

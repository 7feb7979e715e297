use Rattle.std.proofs.Common.{[]}
use Rattle.group_text.specs.Version.{version_2, version_of}
use Rattle.proof_text.specs.FirstProofs.{HasGivenOver}
use Rattle.proof_text.specs.Pulling.{held_text, progress_in}
use Rattle.proof_text.proofs.SourceAnswers.{told_all, told_held}
use Rattle.short_text.specs.ShortProofs.{short_lines}
use Rattle.verdicts.specs.Verdicts.{SaysOver}
use Rattle.verdicts.specs.Pulled.{as_verdict}
use Rattle.verdicts.proofs.SourceLemmas.{held-so, verdict-held}
use Rattle.checker.specs.ShortRules.{short_rules}
use Rattle.checker.proofs.ShortVerdicts.{none_given, said_in, short_comes, short_headline}
use Rattle.checker.proofs.short_check.check_pulled_short.Goals as goal

pub judge_source-requires : goal.judge_source-requires
judge_source-requires g c = record {
  going = c.requires.going;
  given = told_all c.args.pull.now (g.S.Shelf.contents c.args.shelf.now) (HasGivenOver short_lines []) (λ file. none_given (progress_in c.args.pull.now file) (c.requires.given file));
  few = c.requires.few;
}

pub returns-clause-verdict : goal.returns-clause-verdict
returns-clause-verdict g c elf readable is =
    held-so (g.S.Shelf.contents c.args.shelf.now) c.args.pull.now.rows.lines.name c.judge_source.result (λ v file. SaysOver short_rules (version_of c.args.pull.now.version) elf (held_text c.args.pull.now file) v) _
    (λ v file says. said_in c.args.pull.now.version elf (held_text c.args.pull.now file) v c.requires.version says)
    (verdict-held (g.S.Shelf.contents c.args.shelf.now) c.args.pull.now.rows.lines.name c.judge_source.result (λ v file. SaysOver short_rules (version_of c.args.pull.now.version) elf (held_text c.args.pull.now file) v)
    (told_held c.args.pull.now (g.S.Shelf.contents c.args.shelf.now) (λ r. SaysOver short_rules (version_of r.version) elf r.text (as_verdict c.judge_source.result)) (c.judge_source.ensures.verdict elf readable is)))

pub returns-clause-headline : goal.returns-clause-headline
returns-clause-headline g c elf readable is =
    held-so (g.S.Shelf.contents c.args.shelf.now) c.args.pull.now.rows.lines.name c.judge_source.result (λ v file. SaysOver short_rules version_2 elf (held_text c.args.pull.now file) v) _
    (λ v file says accepts ps t. short_headline elf (held_text c.args.pull.now file) v says accepts ps t)
    (returns-clause-verdict g c elf readable is)

pub returns-clause-exact : goal.returns-clause-exact
returns-clause-exact g c elf readable is =
    held-so (g.S.Shelf.contents c.args.shelf.now) c.args.pull.now.rows.lines.name c.judge_source.result (λ v file. SaysOver short_rules version_2 elf (held_text c.args.pull.now file) v) _
    (λ w file says v h. short_comes elf (held_text c.args.pull.now file) w says v h)
    (returns-clause-verdict g c elf readable is)

pub returns-clause-shelf : goal.returns-clause-shelf
returns-clause-shelf g c = c.judge_source.ensures.lends.shelf

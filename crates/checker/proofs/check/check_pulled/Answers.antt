use Rattle.std.proofs.Common.{[]}
use Rattle.group_text.specs.Version.{version_of}
use Rattle.proof_text.specs.FirstProofs.{HasGiven}
use Rattle.proof_text.specs.Pulling.{held_text}
use Rattle.proof_text.proofs.SourceAnswers.{told_all, told_held}
use Rattle.verdicts.specs.Further.{further_of}
use Rattle.verdicts.specs.Pulled.{as_verdict}
use Rattle.verdicts.specs.Verdicts.{SaysBy}
use Rattle.verdicts.proofs.CheckLemmas.{accepted-headline, whole-comes}
use Rattle.verdicts.proofs.SoundLemmas.{further-keeps}
use Rattle.verdicts.proofs.SourceLemmas.{held-so, verdict-held}
use Rattle.checker.proofs.check.check_pulled.Goals as goal

pub judge_source-requires : goal.judge_source-requires
judge_source-requires g c = record { version = c.requires.version; going = c.requires.going; given = told_all c.args.pull.now (g.S.Shelf.contents c.args.shelf.now) (HasGiven []) c.requires.given; few = c.requires.few }

pub returns-clause-verdict : goal.returns-clause-verdict
returns-clause-verdict g c elf readable is =
    let F = further_of c.args.version in
    let v = version_of c.args.version in
    verdict-held (g.S.Shelf.contents c.args.shelf.now) c.args.pull.now.rows.lines.name c.judge_source.result (λ w file. SaysBy F v elf (held_text c.args.pull.now file) w)
    (told_held c.args.pull.now (g.S.Shelf.contents c.args.shelf.now) (λ r. SaysBy F v elf r.text (as_verdict c.judge_source.result)) (c.judge_source.ensures.verdict elf readable is))

pub returns-clause-headline : goal.returns-clause-headline
returns-clause-headline g c elf readable is few =
    let F = further_of c.args.version in
    held-so (g.S.Shelf.contents c.args.shelf.now) c.args.pull.now.rows.lines.name c.judge_source.result (λ v file. SaysBy F (version_of c.args.version) elf (held_text c.args.pull.now file) v) _
    (λ v file says accepts ps t. accepted-headline F (further-keeps c.args.version) c.args.version few elf (held_text c.args.pull.now file) v says accepts ps t)
    (returns-clause-verdict g c elf readable is)

pub returns-clause-exact : goal.returns-clause-exact
returns-clause-exact g c elf readable is =
    let F = further_of c.args.version in
    held-so (g.S.Shelf.contents c.args.shelf.now) c.args.pull.now.rows.lines.name c.judge_source.result (λ v file. SaysBy F (version_of c.args.version) elf (held_text c.args.pull.now file) v) _
    (λ w file says v h. whole-comes F c.args.version elf (held_text c.args.pull.now file) w says v h)
    (returns-clause-verdict g c elf readable is)

pub returns-clause-shelf : goal.returns-clause-shelf
returns-clause-shelf g c = c.judge_source.ensures.lends.shelf

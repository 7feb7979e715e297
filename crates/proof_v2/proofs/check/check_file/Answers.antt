use Rattle.std.proofs.Common.{take}
use Rattle.verdicts.proofs.SourceLemmas.{held-so}
use Rattle.proof_v2.specs.AnyVerdicts.{SaysOf}
use Rattle.proof_v2.specs.Titles.{named_version}
use Rattle.proof_v2.proofs.AnyVerdicts.{accepted-in, verdict-comes-in}
use Rattle.proof_v2.proofs.HeldVersions.{says-named}
use Rattle.proof_v2.proofs.check.check_file.Goals as goal

pub returns-in-Ok-clause-verdict : goal.returns-in-Ok-clause-verdict
returns-in-Ok-clause-verdict g c elf readable is =
    says-named (g.S.Shelf.contents c.args.shelf.now) elf c.check_held.result named_version c.args.name.now c.args.size c.in-Ok.version (g.S.Shelf.contents c.held_version.new.shelf)
    c.in-Ok.ensures.shelf.kept c.in-Ok.ensures.named (c.check_held.ensures.verdict elf readable is)

pub returns-in-Ok-clause-headline : goal.returns-in-Ok-clause-headline
returns-in-Ok-clause-headline g c elf readable is =
    held-so (g.S.Shelf.contents c.args.shelf.now) c.args.name.now c.check_held.result (λ v file. SaysOf elf (take c.args.size file) v) _
    (λ v file says. accepted-in (named_version (take c.args.size file)) elf (take c.args.size file) v says) (returns-in-Ok-clause-verdict g c elf readable is)

pub returns-in-Ok-clause-exact : goal.returns-in-Ok-clause-exact
returns-in-Ok-clause-exact g c elf readable is =
    held-so (g.S.Shelf.contents c.args.shelf.now) c.args.name.now c.check_held.result (λ v file. SaysOf elf (take c.args.size file) v) _
    (λ w file says v h. verdict-comes-in (named_version (take c.args.size file)) elf (take c.args.size file) w says v h) (returns-in-Ok-clause-verdict g c elf readable is)

use Rattle.std.proofs.Common.{subst}
use Rattle.mc_shelf.specs.Fault.{Rose}
use Rattle.verdicts.specs.declared.verdict.Verdict.TheVariants as verdict
use Rattle.mcdec_answers.specs.Command.{Migrate}
use Rattle.mcdec_answers.specs.declared.answer.Answer.TheVariants as answer
use Rattle.mcdec_answers.specs.declared.answer.MigrateAnswer.TheVariants as mi
use Rattle.mcdec_answers.proofs.Prints.{rose-later}
use Rattle.mcdec_commands.specs.Answer.{Gives}
use Rattle.mcdec_commands.specs.MigrateAnswer.{IsMigrationFor}
use Rattle.mcdec_commands.specs.inner.Migrating.{FileMigrates}
use Rattle.mcdec_commands.proofs.Checking.{two-files}
use Rattle.mcdec_commands.proofs.Leaving.{nothing-written}
use Rattle.mcdec_commands.proofs.Loading.{unloaded-so}
use Rattle.mcdec_commands.proofs.Migrating.{migration-gives}
use Rattle.mcdec_commands.proofs.migrate.answer_migrate.Goals as goal

pub returns-in-Ok-clause-gives : goal.returns-in-Ok-clause-gives
returns-in-Ok-clause-gives g c ws is =
    let m = c.args.m.now in
    let image = c.in-Ok.ensures.image in
    let later = Rose (g.S.Shelf.read_faults c.load_image.new.shelf) (g.S.Shelf.read_faults c.migrate_text.new.shelf) in
    migration-gives (g.S.Shelf.contents c.args.shelf.now) ws m.elf.now m.proof.now m.out.now image.file (Rose (g.S.Shelf.read_faults c.args.shelf.now) (g.S.Shelf.read_faults c.migrate_text.new.shelf))
    (Rose (g.S.Shelf.write_faults c.args.shelf.now) (g.S.Shelf.write_faults c.migrate_text.new.shelf)) later is image.holds (rose-later _ _ _ c.load_image.ensures.shelf.counted.0) c.migrate_text.result
    (λ five. rose-later _ _ _ c.load_image.ensures.shelf.counted.1 (c.migrate_text.ensures.shelf.cause five))
    (subst (λ told. FileMigrates told m.proof.now image.file later c.migrate_text.result) c.load_image.ensures.shelf.kept (c.migrate_text.ensures.gives image.file image.loaded image.is))

pub returns-in-Err-clause-gives : goal.returns-in-Err-clause-gives
returns-in-Err-clause-gives g c ws is =
    let m = c.args.m.now in
    let told = g.S.Shelf.contents c.args.shelf.now in
    let rose = Rose (g.S.Shelf.read_faults c.args.shelf.now) (g.S.Shelf.read_faults c.load_image.new.shelf) in
    let wrote = Rose (g.S.Shelf.write_faults c.args.shelf.now) (g.S.Shelf.write_faults c.load_image.new.shelf) in
    unloaded-so told m.elf.now rose (Gives told ws rose wrote) (λ rises. (Migrate m.elf.now m.proof.now m.out.now, is, two-files m.elf.now m.proof.now, rises)) tt (answer.Migrate mi.ElfOverLimit)
    (λ why. answer.Migrate (mi.Refused (verdict.BadElf why))) (λ long. (m.elf.now, m.proof.now, m.out.now, is, long)) (λ why bad. (m.elf.now, m.proof.now, m.out.now, is, bad))
    c.in-Err.fault c.in-Err.ensures.fault c.not_loaded.result c.not_loaded.ensures.answer

pub returns-in-Err-clause-written : goal.returns-in-Err-clause-written
returns-in-Err-clause-written g c =
    let m = c.args.m.now in
    nothing-written (λ files. IsMigrationFor files m.elf.now m.proof.now) m.out.now c.not_loaded.result _ _ c.load_image.ensures.shelf.kept c.not_loaded.ensures.refused

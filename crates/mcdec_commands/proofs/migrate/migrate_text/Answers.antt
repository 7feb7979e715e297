use Rattle.std.proofs.Common.{◌≡◌, List, ℕ, Option, Some, sym, subst}
use Rattle.mc_shelf.specs.Fault.{Rose, WhereTold}
use Rattle.mc_shelf.specs.Shelf.{Contents}
use Rattle.proof_v2.specs.MigratedText.{IsMigratedText}
use Rattle.verdicts.specs.declared.verdict.Verdict.TheVariants as verdict
use Rattle.verdicts.specs.Verdicts.{Says}
use Rattle.mcdec_answers.specs.declared.answer.Answer.TheVariants as answer
use Rattle.mcdec_answers.specs.declared.answer.MigrateAnswer.TheVariants as mi
use Rattle.mcdec_commands.specs.EvalAnswer.{proof_limit}
use Rattle.mcdec_commands.specs.MigrateAnswer.{IsMigrationFor}
use Rattle.mcdec_commands.specs.inner.Migrating.{FileMigrates}
use Rattle.mcdec_commands.specs.inner.Writing.{WritesOut}
use Rattle.mcdec_commands.proofs.Leaving.{IsThis, nothing-written, text-by}
use Rattle.mcdec_commands.proofs.Loading.{unread, unread-so}
use Rattle.mcdec_commands.proofs.Migrating.{both-held, migration-for, refused-gives}
use Rattle.mcdec_commands.proofs.migrate.migrate_text.Goals as goal

pub returns-in-Err-clause-gives : goal.returns-in-Err-clause-gives
returns-in-Err-clause-gives g c file loaded image =
    let m = c.args.m.now in
    let told = g.S.Shelf.contents c.args.shelf.now in
    let rose = Rose (g.S.Shelf.read_faults c.args.shelf.now) (g.S.Shelf.read_faults c.read_file.new.shelf) in
    unread-so told m.proof.now rose (FileMigrates told m.proof.now file rose) (λ rises. rises) tt (answer.Migrate mi.ProofOverLimit) proof_limit (λ long. (loaded, long)) c.in-Err.end
    (unread told m.proof.now rose proof_limit c.read_file.result c.in-Err.end c.in-Err.is c.read_file.ensures.cause c.read_file.ensures.too_long) c.not_read.result c.not_read.ensures.answer

pub returns-in-Err-clause-written : goal.returns-in-Err-clause-written
returns-in-Err-clause-written g c file loaded image held =
    let m = c.args.m.now in
    nothing-written (λ files. IsMigrationFor files m.elf.now m.proof.now) m.out.now c.not_read.result _ _ c.read_file.ensures.kept c.not_read.ensures.refused

pub returns-clause-gives : goal.returns-clause-gives
returns-clause-gives g c file loaded image =
    let m = c.args.m.now in
    let told = g.S.Shelf.contents c.args.shelf.now in
    let rose = Rose (g.S.Shelf.read_faults c.args.shelf.now) (g.S.Shelf.read_faults c.read_file.new.shelf) in
    let says = subst (λ t. Says file t c.in-Err-migrate_image.why) c.as_slice.ensures (c.in-Err-migrate_image.ensures.refused file loaded.1 image) in
    subst (FileMigrates told m.proof.now file rose) (sym c.refuse.ensures.answer)
    (refused-gives told m.proof.now file c.in-Ok.text rose loaded c.in-Ok.ensures.within c.in-Ok.ensures.whole c.in-Err-migrate_image.why says c.in-Err-migrate_image.ensures.no_acceptance)

pub returns-in-Ok-migrate_image-clause-written : goal.returns-in-Ok-migrate_image-clause-written
returns-in-Ok-migrate_image-clause-written g c file loaded image held =
    let m = c.args.m.now in
    let migrated = c.in-Ok-migrate_image.migrated in
    let given = answer.Migrate (mi.Migrated migrated.functions migrated.lines) in
    let more = c.as_slice-in-Ok-migrate_image.result.now in
    let says = subst (λ (t : List ℕ). Says file t (verdict.Accepted migrated.functions migrated.lines)) c.as_slice.ensures (c.in-Ok-migrate_image.ensures.counted file loaded.1 image) in
    let text = subst (λ (t : List ℕ). IsMigratedText file c.in-Ok.text t) (sym c.as_slice-in-Ok-migrate_image.ensures)
    (subst (λ (t : List ℕ). IsMigratedText file t migrated.text) c.as_slice.ensures (c.in-Ok-migrate_image.ensures.text file loaded.1 image)) in
    text-by (λ files. IsMigrationFor files m.elf.now m.proof.now) m.out.now c.write_answer.result given more (λ files. (files m.elf.now ≡ Some file) × (files m.proof.now ≡ Some c.in-Ok.text))
    (migration-for m.elf.now m.proof.now file c.in-Ok.text loaded c.in-Ok.ensures.within migrated.functions migrated.lines says more text) _ _
    (both-held (g.S.Shelf.contents c.args.shelf.now) (λ files. files m.elf.now ≡ Some file) (λ files. files m.proof.now ≡ Some c.in-Ok.text) held c.in-Ok.ensures.whole)
    (subst (λ (o : Option Contents). WhereTold o (g.S.Shelf.contents c.write_answer.new.shelf) (WritesOut (λ files. IsThis given more) m.out.now c.write_answer.result)) c.read_file.ensures.kept c.write_answer.ensures.written)

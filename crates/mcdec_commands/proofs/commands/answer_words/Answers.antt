use Rattle.std.proofs.Common.{[], arith, refl, rules, subst}
use Rattle.mcdec_answers.specs.Command.{IsNoCommand, texts, Check, Decompile, Eval, Laws, Migrate, Run, SelfTest, Simplify, Smt}
use Rattle.mcdec_answers.proofs.Prints.{told_same}
use Rattle.mcdec_answers.specs.CommandReading.{IsRead}
use Rattle.mcdec_answers.specs.declared.command.Command.{Command as Read}
use Rattle.mcdec_answers.proofs.ArgWords.{eval-ranges, eval-stack, run-ranges}
use Rattle.mcdec_commands.proofs.Decompiling.{no-write-fault}
use Rattle.mcdec_commands.proofs.Leaving.{LeavesAll, none-written, others-kept, written-by}
use Rattle.mcdec_commands.proofs.SelfTesting.{test-gives}
use Rattle.mcdec_commands.proofs.commands.answer_words.Goals as goal

pub answer_run-requires : goal.answer_run-requires
answer_run-requires g c =
    run-ranges (texts c.args.words.now) c.in-Run.r (subst (λ (command : Read). IsRead (texts c.args.words.now) command) c.in-Run.is c.in-Ok.ensures)

pub answer_eval-requires-clause-memory : goal.answer_eval-requires-clause-memory
answer_eval-requires-clause-memory g c =
    eval-ranges (texts c.args.words.now) c.in-Eval.e (subst (λ (command : Read). IsRead (texts c.args.words.now) command) c.in-Eval.is c.in-Ok.ensures)

pub answer_eval-requires-clause-stack : goal.answer_eval-requires-clause-stack
answer_eval-requires-clause-stack g c =
    eval-stack (texts c.args.words.now) c.in-Eval.e (subst (λ (command : Read). IsRead (texts c.args.words.now) command) c.in-Eval.is c.in-Ok.ensures)

pub returns-in-Eval-clause-gives : goal.returns-in-Eval-clause-gives
returns-in-Eval-clause-gives g c =
    c.answer_eval.ensures.gives (texts c.args.words.now) (subst (λ (command : Read). IsRead (texts c.args.words.now) command) c.in-Eval.is c.in-Ok.ensures)

pub returns-in-Run-clause-gives : goal.returns-in-Run-clause-gives
returns-in-Run-clause-gives g c =
    c.answer_run.ensures.gives (texts c.args.words.now) (subst (λ (command : Read). IsRead (texts c.args.words.now) command) c.in-Run.is c.in-Ok.ensures)

pub returns-in-Check-clause-gives : goal.returns-in-Check-clause-gives
returns-in-Check-clause-gives g c =
    c.answer_check.ensures.gives (texts c.args.words.now) (subst (λ (command : Read). IsRead (texts c.args.words.now) command) c.in-Check.is c.in-Ok.ensures)

pub returns-in-Decompile-clause-gives : goal.returns-in-Decompile-clause-gives
returns-in-Decompile-clause-gives g c =
    c.answer_decompile.ensures.gives (texts c.args.words.now) (subst (λ (command : Read). IsRead (texts c.args.words.now) command) c.in-Decompile.is c.in-Ok.ensures)

pub answer_decompile-requires : goal.answer_decompile-requires
answer_decompile-requires g c = (subst (λ (command : Read). IsRead (texts c.args.words.now) command) c.in-Decompile.is c.in-Ok.ensures).0.4.0

pub returns-in-Eval-clause-written : goal.returns-in-Eval-clause-written
returns-in-Eval-clause-written g c =
    let is = subst (λ (command : Read). IsRead (texts c.args.words.now) command) c.in-Eval.is c.in-Ok.ensures in
    let e = c.in-Eval.e in
    none-written (texts c.args.words.now) (Eval e.proof.now e.name.now e.turns is.0) is.1 refl _ _ _ _ c.answer_eval.ensures.shelf.kept

pub returns-in-Run-clause-written : goal.returns-in-Run-clause-written
returns-in-Run-clause-written g c =
    let is = subst (λ (command : Read). IsRead (texts c.args.words.now) command) c.in-Run.is c.in-Ok.ensures in
    let r = c.in-Run.r in
    none-written (texts c.args.words.now) (Run r.elf.now r.start.now r.until r.steps is.0) is.1 refl _ _ _ _ c.answer_run.ensures.shelf.kept

pub returns-in-Check-clause-written : goal.returns-in-Check-clause-written
returns-in-Check-clause-written g c =
    let is = subst (λ (command : Read). IsRead (texts c.args.words.now) command) c.in-Check.is c.in-Ok.ensures in
    none-written (texts c.args.words.now) (Check c.in-Check.c.elf.now c.in-Check.c.proof.now) is refl _ _ _ _ c.answer_check.ensures.shelf.kept

pub returns-in-Decompile-clause-written : goal.returns-in-Decompile-clause-written
returns-in-Decompile-clause-written g c =
    let is = subst (λ (command : Read). IsRead (texts c.args.words.now) command) c.in-Decompile.is c.in-Ok.ensures in
    let d = c.in-Decompile.d in
    written-by (texts c.args.words.now) (Decompile d.form d.elf.now d.out.now d.names) d.out.now is refl _ _ _ c.answer_decompile.ensures.written

pub returns-in-Decompile-clause-kept : goal.returns-in-Decompile-clause-kept
returns-in-Decompile-clause-kept g c =
    let is = subst (λ (command : Read). IsRead (texts c.args.words.now) command) c.in-Decompile.is c.in-Ok.ensures in
    let d = c.in-Decompile.d in
    others-kept (texts c.args.words.now) (Decompile d.form d.elf.now d.out.now d.names) d.out.now is refl _ _ _ c.answer_decompile.ensures.written

pub returns-in-SelfTest-clause-gives : goal.returns-in-SelfTest-clause-gives
returns-in-SelfTest-clause-gives g c =
    let is = subst (λ (command : Read). IsRead (texts c.args.words.now) command) c.in-SelfTest.is c.in-Ok.ensures in
    test-gives _ (texts c.args.words.now) c.in-SelfTest.test.number c.in-SelfTest.test.size _ _ is _ c.answer_selftest.ensures.gives

pub returns-in-SelfTest-clause-written : goal.returns-in-SelfTest-clause-written
returns-in-SelfTest-clause-written g c =
    let is = subst (λ (command : Read). IsRead (texts c.args.words.now) command) c.in-SelfTest.is c.in-Ok.ensures in
    none-written (texts c.args.words.now) (SelfTest c.in-SelfTest.test.number c.in-SelfTest.test.size) is refl _ _ _ _ refl

pub answer_selftest-requires : goal.answer_selftest-requires
answer_selftest-requires g c = (subst (λ (command : Read). IsRead (texts c.args.words.now) command) c.in-SelfTest.is c.in-Ok.ensures).0.2

pub returns-in-Err-NotACommand-clause-written : goal.returns-in-Err-NotACommand-clause-written
returns-in-Err-NotACommand-clause-written g c =
    let none : IsNoCommand (texts c.args.words.now) = search rules in
    told_same (g.S.Shelf.contents c.args.shelf.now) (LeavesAll (texts c.args.words.now) _ 2) (λ x d out w e. absurd (none d w))

pub returns-in-Eval-clause-write_fault : goal.returns-in-Eval-clause-write_fault
returns-in-Eval-clause-write_fault g c five =
    let is = subst (λ (command : Read). IsRead (texts c.args.words.now) command) c.in-Eval.is c.in-Ok.ensures in
    let e = c.in-Eval.e in
    absurd (no-write-fault _ (texts c.args.words.now) _ _ (Eval e.proof.now e.name.now e.turns is.0) is.1 refl _ (c.answer_eval.ensures.gives (texts c.args.words.now) is) five)

pub returns-in-Run-clause-write_fault : goal.returns-in-Run-clause-write_fault
returns-in-Run-clause-write_fault g c five =
    let is = subst (λ (command : Read). IsRead (texts c.args.words.now) command) c.in-Run.is c.in-Ok.ensures in
    let r = c.in-Run.r in
    absurd (no-write-fault _ (texts c.args.words.now) _ _ (Run r.elf.now r.start.now r.until r.steps is.0) is.1 refl _ (c.answer_run.ensures.gives (texts c.args.words.now) is) five)

pub returns-in-Simplify-clause-gives : goal.returns-in-Simplify-clause-gives
returns-in-Simplify-clause-gives g c =
    c.answer_simplify.ensures.gives (texts c.args.words.now) (subst (λ (command : Read). IsRead (texts c.args.words.now) command) c.in-Simplify.is c.in-Ok.ensures)

pub returns-in-Simplify-clause-written : goal.returns-in-Simplify-clause-written
returns-in-Simplify-clause-written g c =
    let is = subst (λ (command : Read). IsRead (texts c.args.words.now) command) c.in-Simplify.is c.in-Ok.ensures in
    let s = c.in-Simplify.s in
    written-by (texts c.args.words.now) (Simplify s.proof.now s.name.now s.out.now) s.out.now is refl _ _ _ c.answer_simplify.ensures.written

pub returns-in-Simplify-clause-kept : goal.returns-in-Simplify-clause-kept
returns-in-Simplify-clause-kept g c =
    let is = subst (λ (command : Read). IsRead (texts c.args.words.now) command) c.in-Simplify.is c.in-Ok.ensures in
    let s = c.in-Simplify.s in
    others-kept (texts c.args.words.now) (Simplify s.proof.now s.name.now s.out.now) s.out.now is refl _ _ _ c.answer_simplify.ensures.written

pub returns-in-Laws-clause-gives : goal.returns-in-Laws-clause-gives
returns-in-Laws-clause-gives g c =
    c.answer_laws.ensures.gives (texts c.args.words.now) (subst (λ (command : Read). IsRead (texts c.args.words.now) command) c.in-Laws.is c.in-Ok.ensures)

pub returns-in-Laws-clause-written : goal.returns-in-Laws-clause-written
returns-in-Laws-clause-written g c =
    let is = subst (λ (command : Read). IsRead (texts c.args.words.now) command) c.in-Laws.is c.in-Ok.ensures in
    none-written (texts c.args.words.now) (Laws c.in-Laws.l.proof.now c.in-Laws.l.cert.now) is refl _ _ _ _ c.answer_laws.ensures.shelf.kept

pub returns-in-Smt-clause-gives : goal.returns-in-Smt-clause-gives
returns-in-Smt-clause-gives g c =
    c.answer_smt.ensures.gives (texts c.args.words.now) (subst (λ (command : Read). IsRead (texts c.args.words.now) command) c.in-Smt.is c.in-Ok.ensures)

pub returns-in-Smt-clause-written : goal.returns-in-Smt-clause-written
returns-in-Smt-clause-written g c =
    let is = subst (λ (command : Read). IsRead (texts c.args.words.now) command) c.in-Smt.is c.in-Ok.ensures in
    let s = c.in-Smt.s in
    written-by (texts c.args.words.now) (Smt s.proof.now s.name.now s.def s.out.now) s.out.now is refl _ _ _ c.answer_smt.ensures.written

pub returns-in-Smt-clause-kept : goal.returns-in-Smt-clause-kept
returns-in-Smt-clause-kept g c =
    let is = subst (λ (command : Read). IsRead (texts c.args.words.now) command) c.in-Smt.is c.in-Ok.ensures in
    let s = c.in-Smt.s in
    others-kept (texts c.args.words.now) (Smt s.proof.now s.name.now s.def s.out.now) s.out.now is refl _ _ _ c.answer_smt.ensures.written

pub returns-in-Migrate-clause-gives : goal.returns-in-Migrate-clause-gives
returns-in-Migrate-clause-gives g c =
    c.answer_migrate.ensures.gives (texts c.args.words.now) (subst (λ (command : Read). IsRead (texts c.args.words.now) command) c.in-Migrate.is c.in-Ok.ensures)

pub returns-in-Migrate-clause-written : goal.returns-in-Migrate-clause-written
returns-in-Migrate-clause-written g c =
    let is = subst (λ (command : Read). IsRead (texts c.args.words.now) command) c.in-Migrate.is c.in-Ok.ensures in
    let m = c.in-Migrate.m in
    written-by (texts c.args.words.now) (Migrate m.elf.now m.proof.now m.out.now) m.out.now is refl _ _ _ c.answer_migrate.ensures.written

pub returns-in-Migrate-clause-kept : goal.returns-in-Migrate-clause-kept
returns-in-Migrate-clause-kept g c =
    let is = subst (λ (command : Read). IsRead (texts c.args.words.now) command) c.in-Migrate.is c.in-Ok.ensures in
    let m = c.in-Migrate.m in
    others-kept (texts c.args.words.now) (Migrate m.elf.now m.proof.now m.out.now) m.out.now is refl _ _ _ c.answer_migrate.ensures.written

pub returns-in-Eval-clause-sure : goal.returns-in-Eval-clause-sure
returns-in-Eval-clause-sure g c sure told =
    let is = subst (λ (command : Read). IsRead (texts c.args.words.now) command) c.in-Eval.is c.in-Ok.ensures in
    let e = c.in-Eval.e in
    c.answer_eval.ensures.shelf.sure sure (told (Eval e.proof.now e.name.now e.turns is.0) is.1 0 [] (omega arith))

pub returns-in-Run-clause-sure : goal.returns-in-Run-clause-sure
returns-in-Run-clause-sure g c sure told =
    let is = subst (λ (command : Read). IsRead (texts c.args.words.now) command) c.in-Run.is c.in-Ok.ensures in
    let r = c.in-Run.r in
    c.answer_run.ensures.shelf.sure sure (told (Run r.elf.now r.start.now r.until r.steps is.0) is.1 0 [] (omega arith))

pub returns-in-Check-clause-sure : goal.returns-in-Check-clause-sure
returns-in-Check-clause-sure g c sure told =
    let is = subst (λ (command : Read). IsRead (texts c.args.words.now) command) c.in-Check.is c.in-Ok.ensures in
    let tells = told (Check c.in-Check.c.elf.now c.in-Check.c.proof.now) is in
    c.answer_check.ensures.shelf.sure sure (tells 0 [] (omega arith), tells 1 [] (omega arith))

pub returns-in-Decompile-clause-sure : goal.returns-in-Decompile-clause-sure
returns-in-Decompile-clause-sure g c sure told =
    let is = subst (λ (command : Read). IsRead (texts c.args.words.now) command) c.in-Decompile.is c.in-Ok.ensures in
    let d = c.in-Decompile.d in
    c.answer_decompile.ensures.shelf.sure sure (told (Decompile d.form d.elf.now d.out.now d.names) is 0 [] (omega arith))

pub returns-in-Simplify-clause-sure : goal.returns-in-Simplify-clause-sure
returns-in-Simplify-clause-sure g c sure told =
    let is = subst (λ (command : Read). IsRead (texts c.args.words.now) command) c.in-Simplify.is c.in-Ok.ensures in
    let s = c.in-Simplify.s in
    c.answer_simplify.ensures.shelf.sure sure (told (Simplify s.proof.now s.name.now s.out.now) is 0 [] (omega arith))

pub returns-in-Laws-clause-sure : goal.returns-in-Laws-clause-sure
returns-in-Laws-clause-sure g c sure told =
    let is = subst (λ (command : Read). IsRead (texts c.args.words.now) command) c.in-Laws.is c.in-Ok.ensures in
    let tells = told (Laws c.in-Laws.l.proof.now c.in-Laws.l.cert.now) is in
    c.answer_laws.ensures.shelf.sure sure (tells 0 [] (omega arith), tells 1 [] (omega arith))

pub returns-in-Smt-clause-sure : goal.returns-in-Smt-clause-sure
returns-in-Smt-clause-sure g c sure told =
    let is = subst (λ (command : Read). IsRead (texts c.args.words.now) command) c.in-Smt.is c.in-Ok.ensures in
    let s = c.in-Smt.s in
    c.answer_smt.ensures.shelf.sure sure (told (Smt s.proof.now s.name.now s.def s.out.now) is 0 [] (omega arith))

pub returns-in-Migrate-clause-sure : goal.returns-in-Migrate-clause-sure
returns-in-Migrate-clause-sure g c sure told =
    let is = subst (λ (command : Read). IsRead (texts c.args.words.now) command) c.in-Migrate.is c.in-Ok.ensures in
    let tells = told (Migrate c.in-Migrate.m.elf.now c.in-Migrate.m.proof.now c.in-Migrate.m.out.now) is in
    c.answer_migrate.ensures.shelf.sure sure (tells 0 [] (omega arith), tells 1 [] (omega arith))

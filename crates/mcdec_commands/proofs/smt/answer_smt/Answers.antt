use Rattle.std.proofs.Common.{subst, Ok, Err}
use Rattle.mc_shelf.specs.Fault.{Rose}
use Rattle.mcdec_answers.specs.Command.{Smt}
use Rattle.mcdec_answers.specs.declared.answer.Answer.TheVariants as answer
use Rattle.mcdec_answers.specs.declared.answer.SmtAnswer.TheVariants as sm
use Rattle.mcdec_commands.specs.Answer.{Gives}
use Rattle.mcdec_commands.specs.EvalAnswer.{proof_limit}
use Rattle.mcdec_commands.specs.inner.Search.{Finds}
use Rattle.mcdec_commands.proofs.Answers.{found-fits, one-file}
use Rattle.mcdec_commands.specs.SmtAnswer.{IsScriptFor}
use Rattle.mcdec_commands.proofs.Leaving.{nothing-written}
use Rattle.mcdec_commands.proofs.Loading.{unread, unread-so}
use Rattle.mcdec_commands.proofs.Exporting.{def-gives}
use Rattle.mcdec_answers.proofs.Prints.{rose-later}
use Rattle.mcdec_commands.proofs.smt.answer_smt.Goals as goal

pub export_def-requires-clause-group : goal.export_def-requires-clause-group
export_def-requires-clause-group g c = (found-fits c.as_slice.result.now c.args.s.now.name.now c.in-Ok-find_group.g c.in-Ok-find_group.ensures).0

pub export_def-requires-clause-well_formed : goal.export_def-requires-clause-well_formed
export_def-requires-clause-well_formed g c = (found-fits c.as_slice.result.now c.args.s.now.name.now c.in-Ok-find_group.g c.in-Ok-find_group.ensures).1

pub returns-in-Err-clause-gives : goal.returns-in-Err-clause-gives
returns-in-Err-clause-gives g c ws is =
    let s = c.args.s.now in
    let told = g.S.Shelf.contents c.args.shelf.now in
    let rose = Rose (g.S.Shelf.read_faults c.args.shelf.now) (g.S.Shelf.read_faults c.read_file.new.shelf) in
    let wrote = Rose (g.S.Shelf.write_faults c.args.shelf.now) (g.S.Shelf.write_faults c.read_file.new.shelf) in
    unread-so told s.proof.now rose (Gives told ws rose wrote) (λ rises. (Smt s.proof.now s.name.now s.def s.out.now, is, one-file s.proof.now, rises)) tt (answer.Smt sm.OverLimit) proof_limit (λ long. (s.proof.now, s.name.now, s.def, s.out.now, is, long))
    c.in-Err.end (unread told s.proof.now rose proof_limit c.read_file.result c.in-Err.end c.in-Err.is c.read_file.ensures.cause c.read_file.ensures.too_long) c.not_read.result c.not_read.ensures.answer

pub returns-in-Err-clause-written : goal.returns-in-Err-clause-written
returns-in-Err-clause-written g c =
    let s = c.args.s.now in
    nothing-written (λ files. IsScriptFor files s.proof.now s.name.now s.def) s.out.now c.not_read.result _ _ c.read_file.ensures.kept c.not_read.ensures.refused

pub returns-in-Ok-find_group-clause-gives : goal.returns-in-Ok-find_group-clause-gives
returns-in-Ok-find_group-clause-gives g c ws is =
    let s = c.args.s.now in
    let found = subst (λ t. Finds t s.name.now (Ok c.in-Ok-find_group.g)) c.as_slice.ensures c.in-Ok-find_group.ensures in
    def-gives (g.S.Shelf.contents c.args.shelf.now) ws s.proof.now s.name.now s.def s.out.now c.in-Ok.text (Rose (g.S.Shelf.read_faults c.args.shelf.now) (g.S.Shelf.read_faults c.export_def.new.shelf))
    (Rose (g.S.Shelf.write_faults c.args.shelf.now) (g.S.Shelf.write_faults c.export_def.new.shelf)) is c.in-Ok.ensures.whole c.export_def.result
    (λ five. rose-later _ _ _ c.read_file.ensures.counted.1 (c.export_def.ensures.shelf.cause five)) (c.export_def.ensures.gives c.in-Ok.text s.name.now c.in-Ok.ensures.within found.0)

pub returns-clause-gives : goal.returns-clause-gives
returns-clause-gives g c ws is =
    let s = c.args.s.now in
    let told = g.S.Shelf.contents c.args.shelf.now in
    let found = subst (λ t. Finds t s.name.now (Err c.in-Err-find_group.why)) c.as_slice.ensures c.in-Err-find_group.ensures in
    def-gives told ws s.proof.now s.name.now s.def s.out.now c.in-Ok.text _ _ is c.in-Ok.ensures.whole c.refuse.result (λ five. absurd (c.refuse.ensures.no_fault five))
    (c.refuse.ensures.gives c.in-Ok.text s.name.now s.def c.in-Ok.ensures.within found)

pub returns-clause-written : goal.returns-clause-written
returns-clause-written g c =
    let s = c.args.s.now in
    nothing-written (λ files. IsScriptFor files s.proof.now s.name.now s.def) s.out.now c.refuse.result _ _ c.read_file.ensures.kept c.refuse.ensures.refused

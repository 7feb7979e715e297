use Rattle.std.proofs.Common.{subst, Ok, Err}
use Rattle.mc_shelf.specs.Fault.{Rose}
use Rattle.mcdec_answers.specs.Command.{Simplify}
use Rattle.mcdec_answers.specs.declared.answer.Answer.TheVariants as answer
use Rattle.mcdec_answers.specs.declared.answer.SimplifyAnswer.TheVariants as si
use Rattle.mcdec_commands.specs.Answer.{Gives}
use Rattle.mcdec_commands.specs.EvalAnswer.{proof_limit}
use Rattle.mcdec_commands.specs.inner.Search.{Finds}
use Rattle.mcdec_commands.proofs.Answers.{found-fits, one-file}
use Rattle.mcdec_commands.specs.SimplifyAnswer.{IsCertFor}
use Rattle.mcdec_commands.proofs.Leaving.{nothing-written}
use Rattle.mcdec_commands.proofs.Loading.{unread, unread-so}
use Rattle.mcdec_commands.proofs.Simplifying.{text-gives}
use Rattle.mcdec_answers.proofs.Prints.{rose-later}
use Rattle.mcdec_commands.proofs.simplify.answer_simplify.Goals as goal

pub simplify_group-requires : goal.simplify_group-requires
simplify_group-requires g c = (found-fits c.as_slice.result.now c.args.s.now.name.now c.in-Ok-find_group.g c.in-Ok-find_group.ensures).0

pub returns-in-Err-clause-gives : goal.returns-in-Err-clause-gives
returns-in-Err-clause-gives g c ws is =
    let s = c.args.s.now in
    let told = g.S.Shelf.contents c.args.shelf.now in
    let rose = Rose (g.S.Shelf.read_faults c.args.shelf.now) (g.S.Shelf.read_faults c.read_file.new.shelf) in
    let wrote = Rose (g.S.Shelf.write_faults c.args.shelf.now) (g.S.Shelf.write_faults c.read_file.new.shelf) in
    unread-so told s.proof.now rose (Gives told ws rose wrote) (λ rises. (Simplify s.proof.now s.name.now s.out.now, is, one-file s.proof.now, rises)) tt (answer.Simplify si.OverLimit) proof_limit (λ long. (s.proof.now, s.name.now, s.out.now, is, long))
    c.in-Err.end (unread told s.proof.now rose proof_limit c.read_file.result c.in-Err.end c.in-Err.is c.read_file.ensures.cause c.read_file.ensures.too_long) c.not_read.result c.not_read.ensures.answer

pub returns-in-Err-clause-written : goal.returns-in-Err-clause-written
returns-in-Err-clause-written g c =
    let s = c.args.s.now in
    nothing-written (λ files. IsCertFor files s.proof.now s.name.now) s.out.now c.not_read.result _ _ c.read_file.ensures.kept c.not_read.ensures.refused

pub returns-in-Ok-find_group-clause-gives : goal.returns-in-Ok-find_group-clause-gives
returns-in-Ok-find_group-clause-gives g c ws is =
    let s = c.args.s.now in
    let found = subst (λ t. Finds t s.name.now (Ok c.in-Ok-find_group.g)) c.as_slice.ensures c.in-Ok-find_group.ensures in
    text-gives (g.S.Shelf.contents c.args.shelf.now) ws s.proof.now s.name.now s.out.now c.in-Ok.text (Rose (g.S.Shelf.read_faults c.args.shelf.now) (g.S.Shelf.read_faults c.simplify_group.new.shelf))
    (Rose (g.S.Shelf.write_faults c.args.shelf.now) (g.S.Shelf.write_faults c.simplify_group.new.shelf)) is c.in-Ok.ensures.whole c.simplify_group.result
    (λ five. rose-later _ _ _ c.read_file.ensures.counted.1 (c.simplify_group.ensures.shelf.cause five)) (c.simplify_group.ensures.gives c.in-Ok.text s.name.now c.in-Ok.ensures.within found.0)

pub returns-clause-gives : goal.returns-clause-gives
returns-clause-gives g c ws is =
    let s = c.args.s.now in
    let told = g.S.Shelf.contents c.args.shelf.now in
    let found = subst (λ t. Finds t s.name.now (Err c.in-Err-find_group.why)) c.as_slice.ensures c.in-Err-find_group.ensures in
    text-gives told ws s.proof.now s.name.now s.out.now c.in-Ok.text _ _ is c.in-Ok.ensures.whole c.refuse.result (λ five. absurd (c.refuse.ensures.no_fault five))
    (c.refuse.ensures.gives c.in-Ok.text s.name.now c.in-Ok.ensures.within found)

pub returns-clause-written : goal.returns-clause-written
returns-clause-written g c =
    let s = c.args.s.now in
    nothing-written (λ files. IsCertFor files s.proof.now s.name.now) s.out.now c.refuse.result _ _ c.read_file.ensures.kept c.refuse.ensures.refused

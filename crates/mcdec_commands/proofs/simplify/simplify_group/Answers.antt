use Rattle.std.proofs.Common.{◌∙◌}
use Rattle.tailrec_lang.specs.Tree.{group_tree}
use Rattle.mcdec_answers.specs.declared.answer.Answer.TheVariants as answer
use Rattle.mcdec_answers.specs.declared.answer.SimplifyAnswer.TheVariants as simplify
use Rattle.mcdec_commands.specs.SimplifyAnswer.{IsCertFor}
use Rattle.mcdec_commands.proofs.Leaving.{text-written}
use Rattle.mcdec_commands.proofs.Simplifying.{IsMade, cert-for, cert-told}
use Rattle.mcdec_commands.proofs.simplify.simplify_group.Goals as goal

pub returns-clause-gives : goal.returns-clause-gives
returns-clause-gives g c text name small named =
    let m : IsMade (group_tree c.args.g.now) c.in-Ok.cert =
    record { fits = c.law_of_limits.ensures c.requires.0 (group_tree c.args.g.now) c.requires.1 c.in-Ok.ensures.accepted; accepted = c.in-Ok.ensures.accepted; simple = c.in-Ok.ensures.simple; same = c.in-Ok.ensures.same }
    in
    cert-told text name (group_tree c.args.g.now) c.in-Ok.cert c.len.result small named m c.len.ensures c.write_answer.result c.write_answer.ensures.answer

pub returns-clause-written : goal.returns-clause-written
returns-clause-written g c text small named held =
    let s = c.args.s.now in
    let m : IsMade (group_tree c.args.g.now) c.in-Ok.cert =
    record { fits = c.law_of_limits.ensures c.requires.0 (group_tree c.args.g.now) c.requires.1 c.in-Ok.ensures.accepted; accepted = c.in-Ok.ensures.accepted; simple = c.in-Ok.ensures.simple; same = c.in-Ok.ensures.same }
    in
    text-written (λ files. IsCertFor files s.proof.now s.name.now) s.out.now c.write_answer.result (answer.Simplify (simplify.Simplified c.len.result)) s.proof.now text c.as_slice.result.now
    (cert-for s.proof.now s.name.now text small (group_tree c.args.g.now) named c.in-Ok.cert m c.len.result c.len.ensures c.as_slice.result.now (c.as_slice.ensures ∙ c.in-Ok-cert_bytes.ensures)) _ _ held c.write_answer.ensures.written

pub cert_bytes-requires : goal.cert_bytes-requires
cert_bytes-requires g c = c.law_of_limits.ensures c.requires.0 (group_tree c.args.g.now) c.requires.1 c.in-Ok.ensures.accepted

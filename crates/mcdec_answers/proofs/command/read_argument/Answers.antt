use Rattle.std.proofs.Common.{◌∙◌}
use Rattle.mcdec_answers.proofs.Givens.{no-mark, no-given}
use Rattle.mcdec_answers.proofs.command.read_argument.Goals as goal

pub returns-in_default : goal.returns-in_default
returns-in_default c = no-mark c.args.word.now c.in_default.ensures

pub returns-in-None : goal.returns-in-None
returns-in-None c =
    no-given c.args.word.now c.in-Some.name.now c.in-Some.value.now c.in-Some.ensures
    c.in_default-memory_named.ensures
    (λ g is n v. c.in-None.ensures g is (c.as_bytes.ensures.value ∙ n) (c.as_bytes-2.ensures.value ∙ v))

use Rattle.std.proofs.Common.{arith}
use Rattle.mcdec_answers.proofs.Givens.{other-register}
use Rattle.mcdec_answers.proofs.command.read_register.Goals as goal
use Rattle.mcdec_answers.proofs.command.read_register.Goals.{else-register-ge1-via-then-register-ge1+else-register-le31, else-register-ge1-via-else-register-ge1}

pub returns-else-register-ge1 : goal.returns-else-register-ge1
returns-else-register-ge1 c =
    other-register c.args.name.now c.args.value.now c.in_ok-register.register c.in_ok-register.ensures.spelled (λ low high. elim c.else-register-ge1.branch [
      | else-register-ge1-via-then-register-ge1+else-register-le31 w ↦ omega (arith, w.if-register-le31.false, high)
      | else-register-ge1-via-else-register-ge1 w ↦ omega (arith, w.if-register-ge1.false, low)
    ])

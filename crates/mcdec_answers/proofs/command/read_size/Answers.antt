use Rattle.std.proofs.Common.{arith}
use Rattle.mcdec_answers.proofs.Words.{other-size}
use Rattle.mcdec_answers.proofs.command.read_size.Goals as goal
use Rattle.mcdec_answers.proofs.command.read_size.Goals.{else-size-ge1-via-then-size-ge1+else-size-le-PROGRAM_SIZE_LIMIT, else-size-ge1-via-else-size-ge1}

pub returns-else-size-ge1 : goal.returns-else-size-ge1
returns-else-size-ge1 c =
    other-size c.args.word.now c.in_ok-size.size c.in_ok-size.ensures.spelled (λ low high. elim c.else-size-ge1.branch [
      | else-size-ge1-via-then-size-ge1+else-size-le-PROGRAM_SIZE_LIMIT w ↦ omega (arith, w.if-size-le-PROGRAM_SIZE_LIMIT.false, high)
      | else-size-ge1-via-else-size-ge1 w ↦ omega (arith, w.if-size-ge1.false, low)
    ])

use Rattle.mcdec_answers.proofs.ArgWords.{HaveArgs}
use Rattle.mcdec_answers.proofs.command.read_arguments.Given as goal

abbrev pub invariant-loop-word : goal.invariant-loop-word
invariant-loop-word l = HaveArgs l.words l.word-index l.values l.memory l.stack

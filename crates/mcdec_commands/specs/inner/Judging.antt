-- What the command `laws` comes to, part by part.
use Rattle.std.specs.Prelude.{ℕ, List, Option}
use Rattle.mc_shelf.specs.Shelf.{Contents}
use Rattle.mcdec_answers.specs.declared.answer.Answer.{Answer}
use Rattle.mcdec_answers.specs.declared.answer.Answer.TheVariants as answer
use Rattle.mcdec_commands.specs.LawsAnswer.{LawsGives}

-- what is answered of a certificate that a name holds, where the proof file has these bytes
abbrev pub CertGives : Option Contents → (cert file : List ℕ) → (rose : Type 0) → Answer → Type 0
CertGives told cert file rose answer.NotACommand = ⊥
CertGives told cert file rose answer.ReadFault = rose
CertGives told cert file rose answer.WriteFault = ⊥
CertGives told cert file rose answer.NoMemory = Unit {0}
CertGives told cert file rose (answer.Eval a) = ⊥
CertGives told cert file rose (answer.Run a) = ⊥
CertGives told cert file rose (answer.Check a) = ⊥
CertGives told cert file rose (answer.Decompile a) = ⊥
CertGives told cert file rose (answer.SelfTest a) = ⊥
CertGives told cert file rose (answer.Simplify a) = ⊥
CertGives told cert file rose (answer.Laws a) = LawsGives told cert file a
CertGives told cert file rose (answer.Smt a) = ⊥
CertGives told cert file rose (answer.Migrate a) = ⊥

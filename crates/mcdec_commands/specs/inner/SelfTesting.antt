-- What the command `selftest` comes to, as an answer.
use Rattle.std.specs.Prelude.{ℕ}
use Rattle.mcdec_answers.specs.declared.answer.Answer.{Answer}
use Rattle.mcdec_answers.specs.declared.answer.Answer.TheVariants as answer
use Rattle.mcdec_commands.specs.SelfTestAnswer.{SelfTestGives}

-- what is answered to this number and size
abbrev pub TestGives : (number size : ℕ) → Answer → Type 0
TestGives number size answer.NotACommand = ⊥
TestGives number size answer.ReadFault = ⊥
TestGives number size answer.WriteFault = ⊥
TestGives number size answer.NoMemory = Unit {0}
TestGives number size (answer.Eval a) = ⊥
TestGives number size (answer.Run a) = ⊥
TestGives number size (answer.Check a) = ⊥
TestGives number size (answer.Decompile a) = ⊥
TestGives number size (answer.SelfTest a) = SelfTestGives number size a
TestGives number size (answer.Simplify a) = ⊥
TestGives number size (answer.Laws a) = ⊥
TestGives number size (answer.Smt a) = ⊥
TestGives number size (answer.Migrate a) = ⊥

-- What the command `check` comes to, part by part.
use Rattle.std.specs.Prelude.{ℕ, List, Option, Some, IfSome}
use Rattle.mc_shelf.specs.Shelf.{Contents}
use Rattle.verdicts.specs.declared.verdict.Pulled.{Pulled}
use Rattle.verdicts.specs.declared.verdict.Pulled.TheVariants as pulled
use Rattle.verdicts.specs.declared.verdict.Verdict.{Verdict}
use Rattle.verdicts.specs.declared.verdict.Verdict.TheVariants as verdict
use Rattle.mcdec_answers.specs.declared.answer.Answer.{Answer}
use Rattle.mcdec_answers.specs.declared.answer.Answer.TheVariants as answer
use Rattle.mcdec_answers.specs.declared.answer.CheckAnswer.TheVariants as check
use Rattle.mcdec_commands.specs.CheckAnswer.{CheckGives}

-- the answer that a verdict is
abbrev pub answer_of : Verdict → Answer
answer_of verdict.NoMemory = answer.NoMemory
answer_of v = answer.Check (check.Judged v)

-- the answer that a check comes to
abbrev pub answer_to : Pulled → Answer
answer_to (pulled.Verdict v) = answer_of v
answer_to pulled.Fault = answer.ReadFault

-- what is answered of a proof file that a name holds, where the ELF file has these bytes
abbrev pub ImageGives : Option Contents → (proof file : List ℕ) → (rose : Type 0) → Answer → Type 0
ImageGives told proof file rose answer.NotACommand = ⊥
ImageGives told proof file rose answer.ReadFault = rose
ImageGives told proof file rose answer.WriteFault = ⊥
ImageGives told proof file rose answer.NoMemory = Unit {0}
ImageGives told proof file rose (answer.Eval a) = ⊥
ImageGives told proof file rose (answer.Run a) = ⊥
ImageGives told proof file rose (answer.Check a) = IfSome told (λ files. CheckGives (Some files) proof file a)
ImageGives told proof file rose (answer.Decompile a) = ⊥
ImageGives told proof file rose (answer.SelfTest a) = ⊥
ImageGives told proof file rose (answer.Simplify a) = ⊥
ImageGives told proof file rose (answer.Laws a) = ⊥
ImageGives told proof file rose (answer.Smt a) = ⊥
ImageGives told proof file rose (answer.Migrate a) = ⊥

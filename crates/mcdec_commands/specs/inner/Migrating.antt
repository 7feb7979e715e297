-- What the command `migrate` comes to, part by part.
use Rattle.std.specs.Prelude.{ℕ, List, Option}
use Rattle.mc_shelf.specs.Shelf.{Contents}
use Rattle.verdicts.specs.declared.verdict.Verdict.{Verdict}
use Rattle.verdicts.specs.declared.verdict.Verdict.TheVariants as verdict
use Rattle.mcdec_answers.specs.declared.answer.Answer.{Answer}
use Rattle.mcdec_answers.specs.declared.answer.Answer.TheVariants as answer
use Rattle.mcdec_answers.specs.declared.answer.MigrateAnswer.TheVariants as migrate
use Rattle.mcdec_commands.specs.MigrateAnswer.{MigrateGives}

-- the answer that a verdict which refuses a text is
abbrev pub refusal_of : Verdict → Answer
refusal_of verdict.NoMemory = answer.NoMemory
refusal_of v = answer.Migrate (migrate.Refused v)

-- what is answered of a proof file that a name holds, where the ELF file has these bytes
abbrev pub FileMigrates : Option Contents → (proof file : List ℕ) → (rose : Type 0) → Answer → Type 0
FileMigrates told proof file rose answer.NotACommand = ⊥
FileMigrates told proof file rose answer.ReadFault = rose
FileMigrates told proof file rose answer.WriteFault = Unit {0}
FileMigrates told proof file rose answer.NoMemory = Unit {0}
FileMigrates told proof file rose (answer.Eval a) = ⊥
FileMigrates told proof file rose (answer.Run a) = ⊥
FileMigrates told proof file rose (answer.Check a) = ⊥
FileMigrates told proof file rose (answer.Decompile a) = ⊥
FileMigrates told proof file rose (answer.SelfTest a) = ⊥
FileMigrates told proof file rose (answer.Simplify a) = ⊥
FileMigrates told proof file rose (answer.Laws a) = ⊥
FileMigrates told proof file rose (answer.Smt a) = ⊥
FileMigrates told proof file rose (answer.Migrate a) = MigrateGives told proof file a

-- What the command `smt` comes to, part by part.
use Rattle.std.specs.Prelude.{ℕ, List}
use Rattle.mcdec_answers.specs.declared.answer.Answer.{Answer}
use Rattle.mcdec_answers.specs.declared.answer.Answer.TheVariants as answer
use Rattle.mcdec_commands.specs.SmtAnswer.{SmtGives}

-- what is answered of a definition of a name, where the proof file has this text
abbrev pub DefGives : (text name : List ℕ) (def : ℕ) → Answer → Type 0
DefGives text name def answer.NotACommand = ⊥
DefGives text name def answer.ReadFault = ⊥
DefGives text name def answer.WriteFault = Unit {0}
DefGives text name def answer.NoMemory = Unit {0}
DefGives text name def (answer.Eval a) = ⊥
DefGives text name def (answer.Run a) = ⊥
DefGives text name def (answer.Check a) = ⊥
DefGives text name def (answer.Decompile a) = ⊥
DefGives text name def (answer.SelfTest a) = ⊥
DefGives text name def (answer.Simplify a) = ⊥
DefGives text name def (answer.Laws a) = ⊥
DefGives text name def (answer.Smt a) = SmtGives text name def a
DefGives text name def (answer.Migrate a) = ⊥

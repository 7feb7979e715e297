-- What the command `simplify` comes to, part by part.
use Rattle.std.specs.Prelude.{ℕ, List}
use Rattle.mcdec_answers.specs.declared.answer.Answer.{Answer}
use Rattle.mcdec_answers.specs.declared.answer.Answer.TheVariants as answer
use Rattle.mcdec_commands.specs.SimplifyAnswer.{SimplifyGives}

-- what is answered of a name, where the proof file has this text
abbrev pub TextGives : (text name : List ℕ) → Answer → Type 0
TextGives text name answer.NotACommand = ⊥
TextGives text name answer.ReadFault = ⊥
TextGives text name answer.WriteFault = Unit {0}
TextGives text name answer.NoMemory = Unit {0}
TextGives text name (answer.Eval a) = ⊥
TextGives text name (answer.Run a) = ⊥
TextGives text name (answer.Check a) = ⊥
TextGives text name (answer.Decompile a) = ⊥
TextGives text name (answer.SelfTest a) = ⊥
TextGives text name (answer.Simplify a) = SimplifyGives text name a
TextGives text name (answer.Laws a) = ⊥
TextGives text name (answer.Smt a) = ⊥
TextGives text name (answer.Migrate a) = ⊥

-- When an answer to `selftest` comes.
use Rattle.std.specs.Prelude.{◌≡◌, ℕ}
use Rattle.self_test.specs.Results.{IsOutcome}
use Rattle.mcdec_answers.specs.declared.answer.SelfTestAnswer.{SelfTestAnswer}

-- What `selftest` comes to: the program that is drawn from the number, of that size, is decompiled, run and evaluated with this outcome.
abbrev pub SelfTestGives : (number size : ℕ) → SelfTestAnswer → Type 0
SelfTestGives number size a = (a.number ≡ number) × (a.size ≡ size) × IsOutcome number size a.outcome

-- The answer without the turns: how many an evaluation takes depends on how the function is made.
abbrev pub without_turns : SelfTestAnswer → SelfTestAnswer
without_turns a = record a { outcome = record a.outcome { turns = 0 } }

-- What is answered to the command `selftest`.
use Rattle.std.proofs.Common.{◌≡◌, ℕ, List, Option, refl, ap, subst, ◌⊎◌, inl, inr}
use Rattle.mc_shelf.specs.Shelf.{Contents}
use Rattle.mcdec_answers.specs.declared.answer.Answer.{Answer}
use Rattle.mcdec_answers.specs.declared.answer.Answer.TheVariants as answer
use Rattle.mcdec_answers.specs.declared.answer.SelfTestAnswer.{SelfTestAnswer}
use Rattle.mcdec_answers.specs.declared.command.Form.{Form}
use Rattle.mcdec_answers.specs.Command.{Arg, Check, Decompile, Eval, Laws, Run, SelfTest, Simplify, Smt, Migrate, Words, inputs_of, output_of}
use Rattle.mcdec_commands.specs.SelfTestAnswer.{SelfTestGives}
use Rattle.mcdec_commands.specs.Answer.{Gives}
use Rattle.mcdec_commands.specs.inner.SelfTesting.{TestGives}
use Rattle.mcdec_answers.proofs.OneCommand.{words-unique}

-- what is answered to the number and the size is what the command comes to
pub test-gives : (told : Option Contents) (ws : List (List ℕ)) (number size : ℕ) (rose wrote : Type 0) → Words ws (SelfTest number size) → (a : Answer) → TestGives number size a → Gives told ws rose wrote a
test-gives told ws number size rose wrote w answer.NotACommand h = absurd h
test-gives told ws number size rose wrote w answer.ReadFault h = absurd h
test-gives told ws number size rose wrote w answer.WriteFault h = absurd h
test-gives told ws number size rose wrote w answer.NoMemory h = tt
test-gives told ws number size rose wrote w (answer.Eval a) h = absurd h
test-gives told ws number size rose wrote w (answer.Run a) h = absurd h
test-gives told ws number size rose wrote w (answer.Check a) h = absurd h
test-gives told ws number size rose wrote w (answer.Decompile a) h = absurd h
test-gives told ws number size rose wrote w (answer.Simplify a) h = absurd h
test-gives told ws number size rose wrote w (answer.Laws a) h = absurd h
test-gives told ws number size rose wrote w (answer.Smt a) h = absurd h
test-gives told ws number size rose wrote w (answer.Migrate a) h = absurd h
test-gives told ws number size rose wrote w (answer.SelfTest a) h = (number, size, w, h)

-- ---- no other answer

no-eval : (p m : List ℕ) (t : ℕ) (args : List Arg) (n k : ℕ) → Eval p m t args ≡ SelfTest n k → ⊥
no-eval p m t args n k e = cc

no-run : (f s : List ℕ) (u j : ℕ) (args : List Arg) (n k : ℕ) → Run f s u j args ≡ SelfTest n k → ⊥
no-run f s u j args n k e = cc

no-check : (f p : List ℕ) (n k : ℕ) → Check f p ≡ SelfTest n k → ⊥
no-check f p n k e = cc

no-decompile : (form : Form) (f o : List ℕ) (names : List (List ℕ)) (n k : ℕ) → Decompile form f o names ≡ SelfTest n k → ⊥
no-decompile form f o names n k e = cc

no-simplify : (p m o : List ℕ) (n k : ℕ) → Simplify p m o ≡ SelfTest n k → ⊥
no-simplify p m o n k e = cc

no-laws : (p c : List ℕ) (n k : ℕ) → Laws p c ≡ SelfTest n k → ⊥
no-laws p c n k e = cc

no-smt : (p m : List ℕ) (d : ℕ) (o : List ℕ) (n k : ℕ) → Smt p m d o ≡ SelfTest n k → ⊥
no-smt p m d o n k e = cc

no-migrate : (f p o : List ℕ) (n k : ℕ) → Migrate f p o ≡ SelfTest n k → ⊥
no-migrate f p o n k e = cc

same-numbers : (m j n k : ℕ) → SelfTest m j ≡ SelfTest n k → (m ≡ n) × (j ≡ k)
same-numbers m j n k e = (cc, cc)

-- what is given to the words of `selftest` is an outcome of their program, or lack of memory
pub answers : (told : Option Contents) (ws : List (List ℕ)) (rose wrote : Type 0) (n k : ℕ) → Words ws (SelfTest n k) → (a : Answer) → Gives told ws rose wrote a
    → ((x : SelfTestAnswer) × (a ≡ answer.SelfTest x) × SelfTestGives n k x) ⊎ (a ≡ answer.NoMemory)
answers told ws rose wrote n k w answer.NotACommand h = absurd (h (SelfTest n k) w)
answers told ws rose wrote n k w answer.ReadFault (c, v, some, r) = absurd (some (ap inputs_of (words-unique ws c (SelfTest n k) v w)))
answers told ws rose wrote n k w answer.WriteFault (c, v, some, r) = absurd (some (ap output_of (words-unique ws c (SelfTest n k) v w)))
answers told ws rose wrote n k w answer.NoMemory h = inr refl
answers told ws rose wrote n k w (answer.Eval a) (p, m, t, args, v, h) = absurd (no-eval p m t args n k (words-unique ws (Eval p m t args) (SelfTest n k) v w))
answers told ws rose wrote n k w (answer.Run a) (f, s, u, j, args, v, h) = absurd (no-run f s u j args n k (words-unique ws (Run f s u j args) (SelfTest n k) v w))
answers told ws rose wrote n k w (answer.Check a) (f, p, v, h) = absurd (no-check f p n k (words-unique ws (Check f p) (SelfTest n k) v w))
answers told ws rose wrote n k w (answer.Decompile a) (form, f, o, names, v, h) = absurd (no-decompile form f o names n k (words-unique ws (Decompile form f o names) (SelfTest n k) v w))
answers told ws rose wrote n k w (answer.Simplify a) (p, m, o, v, h) = absurd (no-simplify p m o n k (words-unique ws (Simplify p m o) (SelfTest n k) v w))
answers told ws rose wrote n k w (answer.Laws a) (p, c, v, h) = absurd (no-laws p c n k (words-unique ws (Laws p c) (SelfTest n k) v w))
answers told ws rose wrote n k w (answer.Smt a) (p, m, d, o, v, h) = absurd (no-smt p m d o n k (words-unique ws (Smt p m d o) (SelfTest n k) v w))
answers told ws rose wrote n k w (answer.Migrate a) (f, p, o, v, h) = absurd (no-migrate f p o n k (words-unique ws (Migrate f p o) (SelfTest n k) v w))
answers told ws rose wrote n k w (answer.SelfTest a) (m, j, v, h) =
    let same = same-numbers m j n k (words-unique ws (SelfTest m j) (SelfTest n k) v w) in
    inl (a, refl, subst (λ (y : ℕ). SelfTestGives n y a) same.1 (subst (λ (x : ℕ). SelfTestGives x j a) same.0 h))

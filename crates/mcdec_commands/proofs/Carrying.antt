-- What status 0 of `laws` says.
use Rattle.std.proofs.Common.{◌≡◌, ℕ, codes, List, [], ◌∷◌, Option, Some, None, refl, sym, ap, subst, ◌∙◌, arith}
use Rattle.std.specs.Prelude.{IfSome}
use Rattle.mc_shelf.specs.Shelf.{Contents}
use Rattle.elf_image.specs.Image.{code_of_file}
use Rattle.rv_machine.specs.State.{IsState}
use Rattle.tailrec_lang.specs.Tree.{DefTree, GroupTree}
use Rattle.fun_laws.specs.declared.step.Rw.{Rw}
use Rattle.fun_laws.specs.Evaluation.{EvaluateAlike}
use Rattle.fun_laws.specs.Rewriting.{AreRewritingSteps, with_defs}
use Rattle.claims.specs.Headline.{IsRight}
use Rattle.claims.specs.Exact.{Exact, FirstReturns}
use Rattle.claims.specs.LinkExact.{FirstReturnsIn, LinkExact}
use Rattle.claims.specs.Turns.{InFirstMemory, RunsBack}
use Rattle.stack_offsets.specs.SplitExact.{SplitExact, UsesSplit}
use Rattle.mcdec_commands.specs.Within.{IsExactIn, IsRightIn}
use Rattle.mcdec_answers.specs.declared.answer.Answer.{Answer}
use Rattle.mcdec_answers.specs.declared.answer.Answer.TheVariants as answer
use Rattle.mcdec_answers.specs.declared.answer.LawsAnswer.{LawsAnswer}
use Rattle.mcdec_answers.specs.declared.answer.LawsAnswer.TheVariants as la
use Rattle.mcdec_answers.specs.Printed.{IsDelivered, status}
use Rattle.mcdec_answers.specs.Command.{Eval, Run, Check, Decompile, SelfTest, Simplify, Laws, Smt, Migrate}
use Rattle.mcdec_answers.proofs.CommandNames.{named-words, not-a-form, other-name}
use Rattle.mcdec_commands.specs.LawsAnswer.{CarriesOver, LawsGives}
use Rattle.mcdec_commands.specs.Answer.{Gives}
use Rattle.mcdec_commands.proofs.Exactness.{given-status, same-words}

-- what the law on rewritten functions says
pub record CarriesClaims : Type 0 where
  pub right : (elf : List ℕ) (g : GroupTree) (rs : List Rw) (es : List DefTree) → AreRewritingSteps rs g.defs es → EvaluateAlike g es → IsRight elf g → IsRightIn IsState elf (with_defs g es)
  pub exact : (elf : List ℕ) (g : GroupTree) (rs : List Rw) (es : List DefTree) → AreRewritingSteps rs g.defs es → EvaluateAlike g es → Exact elf g → IsExactIn IsState FirstReturns elf (with_defs g es)
  pub linked : (elf : List ℕ) (g : GroupTree) (rs : List Rw) (es : List DefTree) → AreRewritingSteps rs g.defs es → EvaluateAlike g es → LinkExact InFirstMemory elf g
      → IsExactIn IsState (RunsBack InFirstMemory) elf (with_defs g es)
  pub split : (elf : List ℕ) (g : GroupTree) (rs : List Rw) (es : List DefTree) (e : ℕ) → AreRewritingSteps rs g.defs es → EvaluateAlike g es → SplitExact elf e g
      → IsExactIn IsState (FirstReturnsIn (UsesSplit (code_of_file elf) e)) elf (with_defs g es)

module _ (files : Contents) (law : CarriesClaims) where
  accepted-carries : (proof cert file : List ℕ) (steps : ℕ) → files proof ≡ Some file → LawsGives (Some files) cert file (la.Accepted steps) → CarriesOver files proof cert
  accepted-carries proof cert file steps holds (small, (text, held, (short, (c, is, named, are, alike, count)))) = record {
    file = file;
    text = text;
    holds_proof = holds;
    holds_cert = held;
    made = c;
    is = is;
    named = named;
    right = λ elf. law.right elf c.old c.steps c.result are alike;
    exact = λ elf. law.exact elf c.old c.steps c.result are alike;
    linked = λ elf. law.linked elf c.old c.steps c.result are alike;
    split = λ elf e. law.split elf c.old c.steps c.result e are alike;
  }

  laws-zero : (proof cert file : List ℕ) (a : LawsAnswer) → files proof ≡ Some file → LawsGives (Some files) cert file a → status (answer.Laws a) ≡ 0 → CarriesOver files proof cert
  laws-zero proof cert file la.ProofOverLimit holds h e = absurd (omega (arith, e))
  laws-zero proof cert file la.CertOverLimit holds h e = absurd (omega (arith, e))
  laws-zero proof cert file (la.Unreadable line) holds h e = absurd (omega (arith, e))
  laws-zero proof cert file (la.IllFormed group def) holds h e = absurd (omega (arith, e))
  laws-zero proof cert file (la.UnreadableCert line) holds h e = absurd (omega (arith, e))
  laws-zero proof cert file la.NoFunction holds h e = absurd (omega (arith, e))
  laws-zero proof cert file la.OtherGroup holds h e = absurd (omega (arith, e))
  laws-zero proof cert file (la.BadStep line) holds h e = absurd (omega (arith, e))
  laws-zero proof cert file la.OtherResult holds h e = absurd (omega (arith, e))
  laws-zero proof cert file (la.Accepted steps) holds h e = accepted-carries proof cert file steps holds h

  answered : (ws : List (List ℕ)) (rose wrote : Type 0) (b : Answer) (proof cert : List ℕ) → Gives (Some files) ws rose wrote b → ws ≡ codes "laws" ∷ proof ∷ cert ∷ [] → status b ≡ 0 → CarriesOver files proof cert
  answered ws rose wrote answer.NotACommand proof cert g w e = absurd (omega (arith, e))
  answered ws rose wrote answer.ReadFault proof cert g w e = absurd (omega (arith, e))
  answered ws rose wrote answer.WriteFault proof cert g w e = absurd (omega (arith, e))
  answered ws rose wrote answer.NoMemory proof cert g w e = absurd (omega (arith, e))
  answered ws rose wrote (answer.Eval x) proof cert (p, n, t, args, v, h) w e = absurd (other-name (codes "eval") (codes "laws") refl (named-words ws (proof ∷ cert ∷ []) (codes "laws") (Eval p n t args) w v).0)
  answered ws rose wrote (answer.Run x) proof cert (f, s, u, k, args, v, h) w e = absurd (other-name (codes "run") (codes "laws") refl (named-words ws (proof ∷ cert ∷ []) (codes "laws") (Run f s u k args) w v).0)
  answered ws rose wrote (answer.Check x) proof cert (f, p, v, h) w e = absurd (other-name (codes "check") (codes "laws") refl (named-words ws (proof ∷ cert ∷ []) (codes "laws") (Check f p) w v).0)
  answered ws rose wrote (answer.Decompile x) proof cert (form, f, o, names, v, h) w e = absurd (not-a-form (codes "laws") refl refl refl form (sym (named-words ws (proof ∷ cert ∷ []) (codes "laws") (Decompile form f o names) w v).0))
  answered ws rose wrote (answer.SelfTest x) proof cert (n, s, v, h) w e = absurd (other-name (codes "selftest") (codes "laws") refl (named-words ws (proof ∷ cert ∷ []) (codes "laws") (SelfTest n s) w v).0)
  answered ws rose wrote (answer.Simplify x) proof cert (p, n, o, v, h) w e = absurd (other-name (codes "simplify") (codes "laws") refl (named-words ws (proof ∷ cert ∷ []) (codes "laws") (Simplify p n o) w v).0)
  answered ws rose wrote (answer.Laws x) proof cert (proof', cert', v, (file, holds, h)) w e =
      let same = same-words proof cert proof' cert' (named-words ws (proof ∷ cert ∷ []) (codes "laws") (Laws proof' cert') w v).1 in
      laws-zero proof cert file x (ap files (sym same.0) ∙ holds) (subst (λ (c : List ℕ). LawsGives (Some files) c file x) same.1 h) e
  answered ws rose wrote (answer.Smt x) proof cert (p, n, d, o, v, h) w e = absurd (other-name (codes "smt") (codes "laws") refl (named-words ws (proof ∷ cert ∷ []) (codes "laws") (Smt p n d o) w v).0)
  answered ws rose wrote (answer.Migrate x) proof cert (f, p, o, v, h) w e = absurd (other-name (codes "migrate") (codes "laws") refl (named-words ws (proof ∷ cert ∷ []) (codes "laws") (Migrate f p o) w v).0)

pub rewritten-given : CarriesClaims → (told : Option Contents) (ws : List (List ℕ)) (rose wrote : Type 0) (b : Answer) (result : ℕ) (failed : Type 0) (old new : Option (List ℕ))
    → Gives told ws rose wrote b → IsDelivered b result failed old new
    → IfSome told (λ files. (proof cert : List ℕ) → ws ≡ codes "laws" ∷ proof ∷ cert ∷ [] → result ≡ 0 → CarriesOver files proof cert)
rewritten-given law None ws rose wrote b result failed old new g d = tt
rewritten-given law (Some files) ws rose wrote b result failed old new g d = λ proof cert w none. answered files law ws rose wrote b proof cert g w (given-status b result failed old new d none)

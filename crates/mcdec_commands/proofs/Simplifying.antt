-- What is answered to the command `simplify`, and what its output file holds then.
use Rattle.std.proofs.Common.{◌≡◌, ℕ, ◌≤◌, List, length, map, Option, Some, refl, sym, ap, subst, inl, inr}
use Rattle.std.specs.Prelude.{IfSome}
use Rattle.mc_shelf.specs.Shelf.{Contents}
use Rattle.tailrec_lang.specs.Tree.{GroupTree, def_tree}
use Rattle.fun_laws.specs.declared.cert.Cert.{Cert}
use Rattle.fun_laws.specs.Certs.{IsCertOf}
use Rattle.fun_laws.specs.Evaluation.{EvaluateAlike}
use Rattle.fun_laws.specs.Rewriting.{AreSimple}
use Rattle.fun_laws.specs.Limits.{IsCert}
use Rattle.fun_laws.specs.Spelling.{cert_text, cert_tree}
use Rattle.mcdec_answers.specs.declared.answer.Answer.{Answer}
use Rattle.mcdec_answers.specs.declared.answer.Answer.TheVariants as answer
use Rattle.mcdec_answers.specs.declared.answer.SimplifyAnswer.TheVariants as simplify
use Rattle.mcdec_answers.specs.Printed.{status}
use Rattle.mcdec_answers.specs.Command.{Simplify, Words}
use Rattle.mcdec_commands.specs.EvalAnswer.{IsNamed, proof_limit}
use Rattle.mcdec_commands.specs.SimplifyAnswer.{IsCertFor, Simplifies, SimplifyGives}
use Rattle.mcdec_commands.specs.Answer.{Gives}
use Rattle.mcdec_commands.specs.inner.Simplifying.{TextGives}
use Rattle.mcdec_commands.specs.inner.Writing.{ToldOrFault}
use Rattle.mcdec_commands.proofs.Answers.{held-with}
use Rattle.mcdec_commands.proofs.Leaving.{has-output}

-- ---- the file that it reads

-- what is answered of the file's text is what the command comes to
pub text-gives : (told : Option Contents) (ws : List (List ℕ)) (proof name out file : List ℕ) (rose wrote : Type 0) → Words ws (Simplify proof name out) → IfSome told (λ files. files proof ≡ Some file)
    → (a : Answer) → (status a ≡ 5 → wrote) → TextGives file name a → Gives told ws rose wrote a
text-gives told ws proof name out file rose wrote w held answer.NotACommand since h = absurd h
text-gives told ws proof name out file rose wrote w held answer.ReadFault since h = absurd h
text-gives told ws proof name out file rose wrote w held answer.WriteFault since h = (Simplify proof name out, w, has-output out, since refl)
text-gives told ws proof name out file rose wrote w held answer.NoMemory since h = tt
text-gives told ws proof name out file rose wrote w held (answer.Eval a) since h = absurd h
text-gives told ws proof name out file rose wrote w held (answer.Run a) since h = absurd h
text-gives told ws proof name out file rose wrote w held (answer.Check a) since h = absurd h
text-gives told ws proof name out file rose wrote w held (answer.Decompile a) since h = absurd h
text-gives told ws proof name out file rose wrote w held (answer.SelfTest a) since h = absurd h
text-gives told ws proof name out file rose wrote w held (answer.Simplify a) since h = (proof, name, out, w, held-with told proof file (λ f. SimplifyGives f name a) held h)
text-gives told ws proof name out file rose wrote w held (answer.Laws a) since h = absurd h
text-gives told ws proof name out file rose wrote w held (answer.Smt a) since h = absurd h
text-gives told ws proof name out file rose wrote w held (answer.Migrate a) since h = absurd h

-- ---- the certificate is written

-- what is known of the certificate that a group's simplification gave
pub record IsMade (g : GroupTree) (c : Cert) : Type 0 where
  pub fits : IsCert (cert_tree c)
  pub accepted : IsCertOf g c
  pub simple : AreSimple (map def_tree c.result)
  pub same : EvaluateAlike g (map def_tree c.result)

pub simplifies : (g : GroupTree) (c : Cert) → IsMade g c → Simplifies g (cert_tree c)
simplifies g c m = record { fits = m.fits; old = m.accepted.old; steps = m.accepted.steps; simple = m.simple; same = m.same }

-- what is answered of it
pub cert-told : (file name : List ℕ) (g : GroupTree) (c : Cert) (steps : ℕ) → length file ≤ proof_limit → IsNamed file name (Some g) → IsMade g c → steps ≡ length c.steps → (a : Answer)
    → ToldOrFault (answer.Simplify (simplify.Simplified steps)) a → TextGives file name a
cert-told file name g c steps small named m count a (inl e) = subst (TextGives file name) (sym e) (small, g, cert_tree c, named, simplifies g c m, count)
cert-told file name g c steps small named m count a (inr (inl e)) = subst (TextGives file name) (sym e) tt
cert-told file name g c steps small named m count a (inr (inr e)) = subst (TextGives file name) (sym e) tt

-- its text, and the answer that tells of it
pub cert-for : (proof name file : List ℕ) → length file ≤ proof_limit → (g : GroupTree) → IsNamed file name (Some g) → (c : Cert) → IsMade g c → (steps : ℕ) → steps ≡ length c.steps
    → (text : List ℕ) → text ≡ cert_text (cert_tree c) → (files : Contents) → files proof ≡ Some file → IsCertFor files proof name (answer.Simplify (simplify.Simplified steps)) text
cert-for proof name file small g named c m steps count text is files holds = record {
  file = file;
  holds = holds;
  within = small;
  group = g;
  named = named;
  cert = cert_tree c;
  simplifies = simplifies g c m;
  spelled = is;
  told = ap (λ (n : ℕ). answer.Simplify (simplify.Simplified n)) count;
}

-- What is answered to the command `laws`.
use Rattle.std.proofs.Common.{◌≡◌, ℕ, cond, ◌+◌, ◌<◌, ◌≤◌, List, [], ◌∷◌, length, take, get_or, map, Option, Some, Ok, Err, sym, ap, subst, ◌∙◌, arith}
use Rattle.std.specs.Prelude.{IfSome}
use Rattle.std.proofs.lemmas.Bool.{ne_eqb}
use Rattle.std.proofs.lemmas.List.{take_all, take_more}
use Rattle.mc_shelf.specs.Shelf.{Contents}
use Rattle.mc_text.specs.Fault.{IsBadAt, newlines}
use Rattle.mc_text.proofs.FaultLine.{newlines-append}
use Rattle.tailrec_lang.specs.declared.group.Group.{Group}
use Rattle.tailrec_lang.specs.Tree.{GroupTree, def_tree, group_tree}
use Rattle.fun_laws.specs.declared.cert.Cert.{Cert}
use Rattle.fun_laws.specs.declared.judge.CertFault.TheVariants as fault
use Rattle.fun_laws.specs.Certs.{IsCertFault, IsCertOf, IsFirstBad}
use Rattle.fun_laws.specs.Rewriting.{AreRewritingSteps}
use Rattle.fun_laws.specs.Evaluation.{EvaluateAlike}
use Rattle.fun_laws.specs.Limits.{cert_texts}
use Rattle.fun_laws.specs.Spelling.{cert_tree}
use Rattle.mcdec_answers.specs.declared.answer.Answer.{Answer}
use Rattle.mcdec_answers.specs.declared.answer.Answer.TheVariants as answer
use Rattle.mcdec_answers.specs.declared.answer.LawsAnswer.{LawsAnswer}
use Rattle.mcdec_answers.specs.declared.answer.LawsAnswer.TheVariants as laws
use Rattle.mcdec_answers.specs.Command.{Laws, Words}
use Rattle.mcdec_commands.specs.declared.search.Refusal.TheVariants as refusal
use Rattle.mcdec_commands.specs.EvalAnswer.{IsNamed, proof_limit}
use Rattle.mcdec_commands.specs.LawsAnswer.{IsCertText, LawsGives, TextsGive, cert_limit, step_line}
use Rattle.mcdec_commands.specs.Answer.{Gives}
use Rattle.mcdec_commands.specs.inner.Judging.{CertGives}
use Rattle.mcdec_commands.specs.inner.Search.{Finds}
use Rattle.mcdec_commands.proofs.Answers.{held-with}
use Rattle.mcdec_commands.proofs.Checking.{two-files}

-- ---- the files that it reads

-- ---- what is found of the certificate's name

-- what is said of a certificate of that group
pub accepted-says : (file text : List ℕ) (g : Group) (c : Cert) (steps : ℕ) → IsCertText text (cert_tree c) → IsNamed file (cert_tree c).old.name (Some (group_tree g)) → IsCertOf (group_tree g) c
    → EvaluateAlike (group_tree g) (map def_tree c.result) → steps ≡ length c.steps → TextsGive file text (laws.Accepted steps)
accepted-says file text g c steps is named of same count =
    let at = sym of.old in (
      cert_tree c,
      is,
      subst (λ (x : GroupTree). IsNamed file (cert_tree c).old.name (Some x)) at named,
      of-steps (group_tree g) of,
      subst (λ (x : GroupTree). EvaluateAlike x (map def_tree c.result)) at same,
      count,
    )
  where
    of-steps : (x : GroupTree) → IsCertOf x c → AreRewritingSteps c.steps (cert_tree c).old.defs (cert_tree c).result
    of-steps x o = subst (λ (y : GroupTree). AreRewritingSteps c.steps y.defs (map def_tree c.result)) (sym o.old) o.steps

pub fault-says : (file text : List ℕ) (g : Group) (c : Cert) (line : ℕ) → IsCertText text (cert_tree c) → IsNamed file (cert_tree c).old.name (Some (group_tree g)) → (i : ℕ)
    → IsCertFault (group_tree g) c (fault.Step i) → line ≡ step_line (cert_tree c).old i → TextsGive file text (laws.BadStep line)
fault-says file text g c line is named i bad at = (
  cert_tree c,
  i,
  is,
  subst (λ (x : GroupTree). IsNamed file (cert_tree c).old.name (Some x)) (sym bad.0) named,
  bad-in (group_tree g) (cert_tree c).old (sym bad.0) bad.1,
  at,
)
  where
    bad-in : (x y : GroupTree) → x ≡ y → IsFirstBad c.steps x.defs i → IsFirstBad c.steps y.defs i
    bad-in x y e b = subst (λ (z : GroupTree). IsFirstBad c.steps z.defs i) e b

pub other-says : (file text : List ℕ) (g : Group) (c : Cert) → IsCertText text (cert_tree c) → IsNamed file (cert_tree c).old.name (Some (group_tree g)) → IsCertFault (group_tree g) c fault.Group
    → TextsGive file text laws.OtherGroup
other-says file text g c is named other = (cert_tree c, group_tree g, is, named, other)

pub result-says : (file text : List ℕ) (g : Group) (c : Cert) → IsCertText text (cert_tree c) → IsNamed file (cert_tree c).old.name (Some (group_tree g)) → IsCertFault (group_tree g) c fault.Result
    → TextsGive file text laws.OtherResult
result-says file text g c is named bad = (
  cert_tree c,
  bad.result,
  is,
  subst (λ (x : GroupTree). IsNamed file (cert_tree c).old.name (Some x)) (sym bad.old) named,
  subst (λ (x : GroupTree). AreRewritingSteps c.steps x.defs bad.result) (sym bad.old) bad.steps,
  bad.others,
)

pub none-says : (file text : List ℕ) (c : Cert) → IsCertText text (cert_tree c) → Finds file (cert_tree c).old.name (Err refusal.NoFunction) → TextsGive file text laws.NoFunction
none-says file text c is found = (cert_tree c, is, found)

-- where the second text is no certificate, whatever name was looked for
pub unreadable-found : (file text name : List ℕ) (g : Group) (line : ℕ) → Finds file name (Ok g) → IsBadAt cert_texts text line → TextsGive file text (laws.UnreadableCert line)
unreadable-found file text name g line found bad = ((found.0.groups, found.0.listed, found.0.well_formed), bad)

pub unreadable-none : (file text name : List ℕ) (line : ℕ) → Finds file name (Err refusal.NoFunction) → IsBadAt cert_texts text line → TextsGive file text (laws.UnreadableCert line)
unreadable-none file text name line found bad = ((found.groups, found.listed, found.well_formed), bad)

-- ---- files

-- what is said of two texts within their limits
pub held-gives : (told : Option Contents) (cert file text : List ℕ) → length file ≤ proof_limit → IfSome told (λ files. files cert ≡ Some text) → length text ≤ cert_limit → (a : LawsAnswer)
    → TextsGive file text a → LawsGives told cert file a
held-gives told cert file text small held within laws.ProofOverLimit h = absurd h
held-gives told cert file text small held within laws.CertOverLimit h = absurd h
held-gives told cert file text small held within (laws.Unreadable line) h = (small, held-with told cert text (λ t. (length t ≤ cert_limit) × TextsGive file t (laws.Unreadable line)) held (within, h))
held-gives told cert file text small held within (laws.IllFormed group def) h = (small, held-with told cert text (λ t. (length t ≤ cert_limit) × TextsGive file t (laws.IllFormed group def)) held (within, h))
held-gives told cert file text small held within (laws.UnreadableCert line) h = (small, held-with told cert text (λ t. (length t ≤ cert_limit) × TextsGive file t (laws.UnreadableCert line)) held (within, h))
held-gives told cert file text small held within laws.NoFunction h = (small, held-with told cert text (λ t. (length t ≤ cert_limit) × TextsGive file t laws.NoFunction) held (within, h))
held-gives told cert file text small held within laws.OtherGroup h = (small, held-with told cert text (λ t. (length t ≤ cert_limit) × TextsGive file t laws.OtherGroup) held (within, h))
held-gives told cert file text small held within (laws.BadStep line) h = (small, held-with told cert text (λ t. (length t ≤ cert_limit) × TextsGive file t (laws.BadStep line)) held (within, h))
held-gives told cert file text small held within laws.OtherResult h = (small, held-with told cert text (λ t. (length t ≤ cert_limit) × TextsGive file t laws.OtherResult) held (within, h))
held-gives told cert file text small held within (laws.Accepted steps) h = (small, held-with told cert text (λ t. (length t ≤ cert_limit) × TextsGive file t (laws.Accepted steps)) held (within, h))

-- what is answered of the certificate's file is what the command comes to
pub cert-gives : (told : Option Contents) (ws : List (List ℕ)) (proof cert file : List ℕ) (rose wrote later : Type 0) → Words ws (Laws proof cert) → IfSome told (λ files. files proof ≡ Some file) → (later → rose)
    → (a : Answer) → CertGives told cert file later a → Gives told ws rose wrote a
cert-gives told ws proof cert file rose wrote later w held since answer.NotACommand h = absurd h
cert-gives told ws proof cert file rose wrote later w held since answer.WriteFault h = absurd h
cert-gives told ws proof cert file rose wrote later w held since (answer.Eval a) h = absurd h
cert-gives told ws proof cert file rose wrote later w held since (answer.Run a) h = absurd h
cert-gives told ws proof cert file rose wrote later w held since (answer.Check a) h = absurd h
cert-gives told ws proof cert file rose wrote later w held since (answer.Decompile a) h = absurd h
cert-gives told ws proof cert file rose wrote later w held since (answer.SelfTest a) h = absurd h
cert-gives told ws proof cert file rose wrote later w held since (answer.Simplify a) h = absurd h
cert-gives told ws proof cert file rose wrote later w held since (answer.Smt a) h = absurd h
cert-gives told ws proof cert file rose wrote later w held since (answer.Migrate a) h = absurd h
cert-gives told ws proof cert file rose wrote later w held since answer.ReadFault h = (Laws proof cert, w, two-files proof cert, since h)
cert-gives told ws proof cert file rose wrote later w held since answer.NoMemory h = tt
cert-gives told ws proof cert file rose wrote later w held since (answer.Laws a) h = (proof, cert, w, held-with told proof file (λ f. LawsGives told cert f a) held h)

-- ---- newlines

-- the newlines of a front that is one byte longer
line-more : (text : List ℕ) (i d : ℕ) → i < length text → newlines (take (i + 1) text) ≡ newlines (take i text) + newlines (get_or text i d ∷ [])
line-more text i d low = ap newlines (take_more text i d low) ∙ newlines-append (take i text) (get_or text i d ∷ [])

pub all-lines : (text : List ℕ) (i : ℕ) → i ≡ length text → newlines (take i text) ≡ newlines text
all-lines text i e = ap newlines (take_all i text (omega (arith, e)))

-- one more, where the byte ends a line, and none where it doesn't
pub line-ends : (text : List ℕ) (i d count : ℕ) → i < length text → get_or text i d ≡ 10 → count ≡ newlines (take i text) → count + 1 ≡ newlines (take (i + 1) text)
line-ends text i d count low is e = (let one : newlines (get_or text i d ∷ []) ≡ 1 = ap (λ b. newlines (b ∷ [])) is in omega (arith, one, e, line-more text i d low))

pub line-goes-on : (text : List ℕ) (i d count : ℕ) → i < length text → (get_or text i d ≡ 10 → ⊥) → count ≡ newlines (take i text) → count ≡ newlines (take (i + 1) text)
line-goes-on text i d count low other e =
    let none : newlines (get_or text i d ∷ []) ≡ 0 = ap (λ t. cond t 1 0) (ne_eqb (get_or text i d) 10 other) in
    omega (arith, none, e, line-more text i d low)

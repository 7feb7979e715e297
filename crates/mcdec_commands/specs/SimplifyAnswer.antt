-- When each answer to `simplify` comes, and what certificate it writes.
use Rattle.std.specs.Prelude.{◌≡◌, ℕ, ◌<◌, ◌≤◌, List, length, Some, None}
use Rattle.mc_shelf.specs.Shelf.{Contents}
use Rattle.tailrec_lang.specs.Tree.{GroupTree}
use Rattle.fun_laws.specs.Rewriting.{AreRewritingSteps, AreSimple}
use Rattle.fun_laws.specs.Evaluation.{EvaluateAlike}
use Rattle.fun_laws.specs.Limits.{IsCert}
use Rattle.fun_laws.specs.Spelling.{CertTree, cert_text}
use Rattle.mcdec_answers.specs.declared.answer.Answer.{Answer}
use Rattle.mcdec_answers.specs.declared.answer.Answer.TheVariants.{Simplify}
use Rattle.mcdec_answers.specs.declared.answer.SimplifyAnswer.{SimplifyAnswer}
use Rattle.mcdec_answers.specs.declared.answer.SimplifyAnswer.TheVariants as answer
use Rattle.mcdec_commands.specs.EvalAnswer.{HasBadDef, HasBadLine, IsNamed, proof_limit}

-- The certificate's steps rewrite the group's definitions until no law matches anywhere in them; they evaluate as before.
pub record Simplifies (g : GroupTree) (c : CertTree) : Type 0 where
  pub fits : IsCert c
  pub old : c.old ≡ g
  pub steps : AreRewritingSteps c.steps g.defs c.result
  pub simple : AreSimple c.result
  pub same : EvaluateAlike g c.result

-- What `simplify` of a name comes to, where the proof file has these bytes.
abbrev pub SimplifyGives : (file name : List ℕ) → SimplifyAnswer → Type 0
SimplifyGives file name answer.OverLimit = proof_limit < length file
SimplifyGives file name (answer.Unreadable line) = (length file ≤ proof_limit) × HasBadLine file line
SimplifyGives file name (answer.IllFormed group def) = (length file ≤ proof_limit) × HasBadDef file group def
SimplifyGives file name answer.NoFunction = (length file ≤ proof_limit) × IsNamed file name None
SimplifyGives file name (answer.Simplified steps) =
    (length file ≤ proof_limit) × (g : GroupTree) × (c : CertTree) × IsNamed file name (Some g) × Simplifies g c × (steps ≡ length c.steps)

-- The answer without the number of steps: how many simplify a group depends on their order.
abbrev pub without_steps : SimplifyAnswer → SimplifyAnswer
without_steps (answer.Simplified steps) = answer.Simplified 0
without_steps a = a

-- The text of a certificate that simplifies the first group of the name, where the name PROOF holds a file. The answer tells how many steps
-- the certificate has.
pub record IsCertFor (files : Contents) (proof name : List ℕ) (a : Answer) (text : List ℕ) : Type 0 where
  pub file : List ℕ
  pub holds : files proof ≡ Some file
  pub within : length file ≤ proof_limit
  pub group : GroupTree
  pub named : IsNamed file name (Some group)
  pub cert : CertTree
  pub simplifies : Simplifies group cert
  pub spelled : text ≡ cert_text cert
  pub told : a ≡ Simplify (answer.Simplified (length cert.steps))

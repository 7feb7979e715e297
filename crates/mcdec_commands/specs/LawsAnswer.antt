-- When each answer to `laws` comes.
use Rattle.std.specs.Prelude.{◌≡◌, ℕ, ◌+◌, ◌<◌, ◌≤◌, List, length, Option, Some, None}
use Rattle.std.specs.List.{AllByRecursion}
use Rattle.mc_shelf.specs.Shelf.{Contents}
use Rattle.mc_text.specs.Fault.{IsBadAt, newlines}
use Rattle.mc_text.specs.Tokens.{spell}
use Rattle.mc_text.specs.declared.token.Before.TheVariants.{Start}
use Rattle.tailrec_lang.specs.Tree.{DefTree, GroupTree}
use Rattle.tailrec_lang.specs.WellFormed.{IsWellFormed}
use Rattle.elf_image.specs.Image.{code_of_file}
use Rattle.rv_machine.specs.State.{IsState}
use Rattle.claims.specs.Headline.{IsRight}
use Rattle.claims.specs.Exact.{Exact, FirstReturns}
use Rattle.claims.specs.LinkExact.{FirstReturnsIn, LinkExact}
use Rattle.claims.specs.Turns.{InFirstMemory, RunsBack}
use Rattle.stack_offsets.specs.SplitExact.{SplitExact, UsesSplit}
use Rattle.mcdec_commands.specs.Within.{IsExactIn, IsRightIn}
use Rattle.group_text.specs.Spelling.{group_tokens}
use Rattle.proof_v2.specs.AnyVerdicts.{IsTextListing}
use Rattle.fun_laws.specs.Rewriting.{AreRewritingSteps, with_defs}
use Rattle.fun_laws.specs.Certs.{IsFirstBad}
use Rattle.fun_laws.specs.Evaluation.{EvaluateAlike}
use Rattle.fun_laws.specs.Limits.{IsCert, cert_texts}
use Rattle.fun_laws.specs.Spelling.{CertTree, cert_text}
use Rattle.mcdec_answers.specs.declared.answer.LawsAnswer.{LawsAnswer}
use Rattle.mcdec_answers.specs.declared.answer.LawsAnswer.TheVariants as answer
use Rattle.mcdec_commands.specs.Held.{HasFile}
use Rattle.mcdec_commands.specs.EvalAnswer.{HasBadDef, HasBadLine, IsNamed, proof_limit}

-- the most bytes of a certificate's file that are read
abbrev pub cert_limit : ℕ
cert_limit = 268435456

-- the text is one of well-formed groups
abbrev pub HasGroups : List ℕ → Type 0
HasGroups text = (gs : List GroupTree) × IsTextListing text gs × AllByRecursion IsWellFormed gs

abbrev pub IsCertText : List ℕ → CertTree → Type 0
IsCertText text c = IsCert c × (text ≡ cert_text c)

-- The line of a step in the text of a certificate of this group: behind the line of the title and those of the group.
abbrev pub step_line : GroupTree → ℕ → ℕ
step_line old i = newlines (spell Start (group_tokens old)) + i + 2

-- What `laws` comes to, where the proof file and the certificate's have these texts. The faults of the first are told before those
-- of the second.
abbrev pub TextsGive : (file text : List ℕ) → LawsAnswer → Type 0
TextsGive file text answer.ProofOverLimit = ⊥
TextsGive file text answer.CertOverLimit = ⊥
TextsGive file text (answer.Unreadable line) = HasBadLine file line
TextsGive file text (answer.IllFormed group def) = HasBadDef file group def
TextsGive file text (answer.UnreadableCert line) = HasGroups file × IsBadAt cert_texts text line
TextsGive file text answer.NoFunction = (c : CertTree) × IsCertText text c × IsNamed file c.old.name None
TextsGive file text answer.OtherGroup = (c : CertTree) × (g : GroupTree) × IsCertText text c × IsNamed file c.old.name (Some g) × (c.old ≡ g → ⊥)
TextsGive file text (answer.BadStep line) =
    (c : CertTree) × (i : ℕ) × IsCertText text c × IsNamed file c.old.name (Some c.old) × IsFirstBad c.steps c.old.defs i × (line ≡ step_line c.old i)
TextsGive file text answer.OtherResult =
    (c : CertTree) × (es : List DefTree) × IsCertText text c × IsNamed file c.old.name (Some c.old) × AreRewritingSteps c.steps c.old.defs es × (es ≡ c.result → ⊥)
TextsGive file text (answer.Accepted steps) =
    (c : CertTree) × IsCertText text c × IsNamed file c.old.name (Some c.old) × AreRewritingSteps c.steps c.old.defs c.result × EvaluateAlike c.old c.result
    × (steps ≡ length c.steps)

-- What `laws` comes to, where the proof file has these bytes. The certificate's is asked for where they are within the limit.
abbrev pub LawsGives : Option Contents → (cert file : List ℕ) → LawsAnswer → Type 0
LawsGives told cert file answer.ProofOverLimit = proof_limit < length file
LawsGives told cert file answer.CertOverLimit = (length file ≤ proof_limit) × HasFile told cert (λ text. cert_limit < length text)
LawsGives told cert file a = (length file ≤ proof_limit) × HasFile told cert (λ text. (length text ≤ cert_limit) × TextsGive file text a)

-- The one name holds a proof file, the other a certificate of its first group of that name. What is claimed of this group's function, of
-- whatever ELF file, is claimed of the one with the certificate's definitions, in each state of the machine.
pub record CarriesOver (files : Contents) (proof cert : List ℕ) : Type 0 where
  pub file : List ℕ
  pub text : List ℕ
  pub holds_proof : files proof ≡ Some file
  pub holds_cert : files cert ≡ Some text
  pub made : CertTree
  pub is : IsCertText text made
  pub named : IsNamed file made.old.name (Some made.old)
  pub right : (elf : List ℕ) → IsRight elf made.old → IsRightIn IsState elf (with_defs made.old made.result)
  pub exact : (elf : List ℕ) → Exact elf made.old → IsExactIn IsState FirstReturns elf (with_defs made.old made.result)
  pub linked : (elf : List ℕ) → LinkExact InFirstMemory elf made.old
      → IsExactIn IsState (RunsBack InFirstMemory) elf (with_defs made.old made.result)
  pub split : (elf : List ℕ) (e : ℕ) → SplitExact elf e made.old
      → IsExactIn IsState (FirstReturnsIn (UsesSplit (code_of_file elf) e)) elf (with_defs made.old made.result)

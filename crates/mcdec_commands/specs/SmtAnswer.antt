-- When each answer to `smt` comes, and what script it writes.
use Rattle.std.specs.Prelude.{◌≡◌, ℕ, ◌<◌, ◌≤◌, List, length, Some, None}
use Rattle.mc_shelf.specs.Shelf.{Contents}
use Rattle.tailrec_lang.specs.Tree.{GroupTree, listed_def}
use Rattle.smt_terms.specs.Meaning.{FunTree}
use Rattle.smt_terms.specs.Sorts.{IsScript}
use Rattle.smt_terms.specs.Text.{script_text}
use Rattle.smt_export.specs.Reach.{IsLeastLoop, IsLoopFree, ReachesByCalls}
use Rattle.smt_export.specs.Telling.{HasFuns, TellsEval}
use Rattle.mcdec_commands.specs.Scripts.{TellsClaims}
use Rattle.mcdec_answers.specs.declared.answer.Answer.{Answer}
use Rattle.mcdec_answers.specs.declared.answer.Answer.TheVariants.{Smt}
use Rattle.mcdec_answers.specs.declared.answer.SmtAnswer.{SmtAnswer}
use Rattle.mcdec_answers.specs.declared.answer.SmtAnswer.TheVariants as answer
use Rattle.mcdec_commands.specs.EvalAnswer.{HasBadDef, HasBadLine, IsNamed, proof_limit}

-- The functions are well-sorted. Those of each definition that this one reaches by calls are among them, and tell its evaluation.
pub record Exports (g : GroupTree) (def : ℕ) (funs : List FunTree) : Type 0 where
  pub script : IsScript funs
  pub sorts : (d : ℕ) → ReachesByCalls g def d → HasFuns g funs d
  pub tells : (d : ℕ) → ReachesByCalls g def d → TellsEval g d funs

-- What `smt` of a definition of a name comes to, where the proof file has these bytes.
abbrev pub SmtGives : (file name : List ℕ) (def : ℕ) → SmtAnswer → Type 0
SmtGives file name def answer.OverLimit = proof_limit < length file
SmtGives file name def (answer.Unreadable line) = (length file ≤ proof_limit) × HasBadLine file line
SmtGives file name def (answer.IllFormed group d) = (length file ≤ proof_limit) × HasBadDef file group d
SmtGives file name def answer.NoFunction = (length file ≤ proof_limit) × IsNamed file name None
SmtGives file name def answer.NoDef = (length file ≤ proof_limit) × (g : GroupTree) × IsNamed file name (Some g) × (length g.defs ≤ def)
SmtGives file name def (answer.Loop least) =
    (length file ≤ proof_limit) × (g : GroupTree) × IsNamed file name (Some g) × (def < length g.defs) × IsLeastLoop g def least
SmtGives file name def (answer.Exported d) =
    (length file ≤ proof_limit) × (g : GroupTree) × IsNamed file name (Some g) × (def < length g.defs) × IsLoopFree g def × (d ≡ def)

-- The text of a script that exports this definition of the first group of the name, where the name PROOF holds a file. Of the group's
-- function it tells what is claimed of that. The answer tells the definition.
pub record IsScriptFor (files : Contents) (proof name : List ℕ) (def : ℕ) (a : Answer) (text : List ℕ) : Type 0 where
  pub file : List ℕ
  pub holds : files proof ≡ Some file
  pub within : length file ≤ proof_limit
  pub group : GroupTree
  pub named : IsNamed file name (Some group)
  pub there : def < length group.defs
  pub loop_free : IsLoopFree group def
  pub funs : List FunTree
  pub exports : Exports group def funs
  pub claims : def ≡ listed_def group → TellsClaims group funs
  pub spelled : text ≡ script_text funs
  pub told : a ≡ Smt (answer.Exported def)

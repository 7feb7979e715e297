-- What is given of a text, by how far it was read before and after.
use Rattle.std.specs.Prelude.{◌≡◌, ℕ, ◌<◌, List, [], ◌∷◌, ◌++◌, length, Option, Some, None}
use Rattle.mc_shelf.specs.Shelf.{Contents}
use Rattle.mc_text.specs.Fault.{IsBadAt}
use Rattle.tailrec_lang.specs.Tree.{GroupTree}
use Rattle.group_text.specs.Version.{version_of}
use Rattle.group_text.specs.declared.read_error.TextFault.{TextFault}
use Rattle.group_text.specs.declared.read_error.TextFault.TheVariants as text
use Rattle.proof_text.specs.declared.pull_fault.PullFault.{PullFault}
use Rattle.proof_text.specs.declared.pull_fault.PullFault.TheVariants as pull
use Rattle.proof_text.specs.Line.{ProofOf}
use Rattle.proof_text.specs.LineGrammar.{LineGrammar, text_over, texts_over}
use Rattle.proof_text.specs.Proofs.{bare}
use Rattle.proof_text.specs.FirstProofs.{Progress, HasGivenOver, MayOpen, ProofEnds, with_line}
use Rattle.proof_text.specs.Answers.{NoItemOver}
use Rattle.proof_text.specs.Pulling.{PullState, progress_in}

-- where it was told before it is told afterwards, and both are so
abbrev pub Both : Option Progress → Option Progress → (Progress → Progress → Type 0) → Type 0
Both None new P = Unit {0}
Both (Some old) None P = ⊥
Both (Some old) (Some new) P = P old new

-- more was read of the same text
pub record GoesOnIn (old new : Progress) : Type 0 where
  pub text : new.text ≡ old.text
  pub version : new.version ≡ old.version
  pub shorter : length new.rest < length old.rest

-- a group was given
pub record GivesGroup (L : LineGrammar) (g : GroupTree) (old new : Progress) : Type 0 where
  pub on : GoesOnIn old new
  pub given : (ps : List (ProofOf L.Line)) → HasGivenOver L ps old → HasGivenOver L (ps ++ bare g ∷ []) new

-- a line was given behind these lines of that group
pub record GivesLine (L : LineGrammar) (g : GroupTree) (before : List L.Line) (l : L.Line) (old new : Progress) : Type 0 where
  pub on : GoesOnIn old new
  pub given : (ps : List (ProofOf L.Line)) (p : ProofOf L.Line) → HasGivenOver L (ps ++ p ∷ []) old → p.group ≡ g → p.lines ≡ before → HasGivenOver L (ps ++ with_line p l ∷ []) new

-- the text ends well
abbrev pub EndsText : LineGrammar → Progress → Type 0
EndsText L r = (ps : List (ProofOf L.Line)) → HasGivenOver L ps r → r.text ≡ text_over L (version_of r.version) ps

-- it is none at that line, and no group comes
abbrev pub BadGroupAt : LineGrammar → ℕ → Progress → Type 0
BadGroupAt L n r = (ps : List (ProofOf L.Line)) → HasGivenOver L ps r → MayOpen ps r.rest → IsBadAt (texts_over L (version_of r.version)) r.text n × NoItemOver L ps r

-- no line of the group's proof comes: where the proof has ended, and where the text is none at that line
abbrev pub EndsLines : Progress → Progress → Type 0
EndsLines old new = (new ≡ old) × ProofEnds old.rest

abbrev pub BadLineAt : (L : LineGrammar) → GroupTree → List L.Line → ℕ → Progress → Type 0
BadLineAt L g before n r = (ps : List (ProofOf L.Line)) (p : ProofOf L.Line) → HasGivenOver L (ps ++ p ∷ []) r → p.group ≡ g → p.lines ≡ before → IsBadAt (texts_over L (version_of r.version)) r.text n × NoItemOver L (ps ++ p ∷ []) r

-- how far the text was read that a name of a shelf holds, where it is told
abbrev pub held_progress : Option (List ℕ) → PullState → Option Progress
held_progress None s = None
held_progress (Some file) s = Some (progress_in s file)

abbrev pub told_progress : Option Contents → PullState → Option Progress
told_progress None s = None
told_progress (Some files) s = held_progress (files s.rows.lines.name) s

-- the fault of a text in memory, as one of a text in a file
abbrev pub pull_fault : TextFault → PullFault
pull_fault (text.Bad n) = pull.Bad n
pull_fault text.NoMemory = pull.NoMemory

-- How a text in which all lines are right becomes one of version 2, group by group.
use Rattle.std.specs.Prelude.{◌≡◌, ◌<◌, ◌≤◌, ℕ, List, [], ◌∷◌, ◌++◌, Option, Some, None, length}
use Rattle.std.specs.List.{AllByRecursion, AllZip}
use Rattle.mc_text.specs.Tokens.{spell}
use Rattle.mc_text.specs.declared.token.Before.TheVariants.{Start}
use Rattle.sep_assert.specs.declared.assertion.Assertion.{Assertion}
use Rattle.tailrec_lang.specs.declared.group.Group.{Group}
use Rattle.tailrec_lang.specs.Tree.{GroupTree, group_tree}
use Rattle.group_text.specs.Limits.{IsGroupIn}
use Rattle.group_text.specs.Spelling.{group_tokens}
use Rattle.group_text.specs.Version.{version_1, version_2}
use Rattle.group_text.specs.declared.version.Version.TheVariants.{One}
use Rattle.term_arena.specs.declared.node.Node.{Node}
use Rattle.proof_text.specs.Line.{LineTree, ProofTree, spelled_tree}
use Rattle.proof_text.specs.LineGrammar.{IsProofOver}
use Rattle.proof_text.specs.LineLimits.{IsLine}
use Rattle.proof_text.specs.Proofs.{bare, line_texts_by, proof_texts_by}
use Rattle.proof_text.specs.FirstProofs.{HasGiven, MayOpen, Progress, ProofEnds, with_line}
use Rattle.proof_text.specs.declared.line.SpelledLine.{SpelledLine}
use Rattle.verdicts.specs.Instance.{History, after_lines, no_rule}
use Rattle.verdicts.specs.LineRules.{IsRightOver, whole_rules}
use Rattle.verdicts.specs.Verdicts.{IsTextOf}
use Rattle.short_text.specs.declared.short.Short.{Short}
use Rattle.short_text.specs.ShortProofs.{AreShortProofs, ShortProof, short_line_tokens, short_lines, text_of_short_proofs}
use Rattle.short_text.specs.ShortSpelling.{short_tokens}
use Rattle.checker.specs.Short.{IsFineShort, IsRightFor}
use Rattle.held_terms.specs.Terms.{AreTermsPutIn}
use Rattle.proof_v2.specs.MigratedText.{IsMigratedProof}
use Rattle.proof_v2.specs.Preconditions.{ArePreconditions}
use Rattle.proof_v2.specs.ShortTerms.{line_terms}
use Rattle.proof_v2.specs.inner.Migrating.{AreMigrated}

-- the text is that of proofs all of whose lines are right
pub record IsRightText (text : List ℕ) : Type 0 where
  pub proofs : List ProofTree
  pub spelled : IsTextOf text proofs
  pub right : AllByRecursion (IsRightOver (whole_rules no_rule)) proofs

-- .. and these become the other text
pub record BecomesText (text more : List ℕ) : Type 0 where
  pub old : List ProofTree
  pub spelled : IsTextOf text old
  pub new : List ShortProof
  pub migrated : AllZip IsMigratedProof old new
  pub fit : AreShortProofs new
  pub is : more ≡ text_of_short_proofs new

-- ---- what is read

-- the text of the reader, which goes on in it
pub record GoesOn (old new : Progress) : Type 0 where
  pub text : new.text ≡ old.text
  pub version : new.version ≡ old.version
  pub no_longer : length new.rest ≤ length old.rest

-- some groups with their lines were given, and the next group may follow; a group was given
abbrev pub HasPassed : Progress → Type 0
HasPassed r = (ps : List ProofTree) × HasGiven ps r × MayOpen ps r.rest

abbrev pub HasOpened : GroupTree → Progress → Type 0
HasOpened g r = (ps : List ProofTree) × HasGiven (ps ++ bare g ∷ []) r

-- the next group of a text, or its end
abbrev pub GroupIsNext : Progress → Progress → Option Group → Type 0
GroupIsNext old new (Some g) = GoesOn old new × (length new.rest < length old.rest) × IsGroupIn version_1 (group_tree g) × ((ps : List ProofTree) → HasGiven ps old → HasGiven (ps ++ bare (group_tree g) ∷ []) new)
GroupIsNext old new None = (ps : List ProofTree) → HasGiven ps old → IsTextOf old.text ps

-- the next line of a group's proof, or its end
abbrev pub LineIsNext : GroupTree → Progress → Progress → Option SpelledLine → Type 0
LineIsNext g old new (Some l) = GoesOn old new × (length new.rest < length old.rest) × IsLine (spelled_tree g.code l)
    × ((ps : List ProofTree) (p : ProofTree) → HasGiven (ps ++ p ∷ []) old → p.group ≡ g → HasGiven (ps ++ with_line p (spelled_tree g.code l) ∷ []) new)
LineIsNext g old new None = (new ≡ old) × ProofEnds old.rest

-- ---- what is written

-- the lines of a group's proof
abbrev pub with_lines : GroupTree → List LineTree → ProofTree
with_lines g ls = record { group = g; lines = ls }

-- the text of a short line that is right for the line was written, and the line's terms were put into the table
pub record LineIsPut (g : GroupTree) (h : History) (l : LineTree) (ns ms : List Node) (out more : List ℕ) : Type 0 where
  pub short : Short
  pub right : IsRightFor g h ms short l
  pub fine : IsFineShort ms short
  pub terms : AreTermsPutIn ns (line_terms h l) ms
  pub put : more ≡ out ++ spell Start (short_tokens g.code short)

-- the lines that were read of a group's proof are short ones over the table, and this is the text of these
pub record LinesAreShort (g : GroupTree) (old new : Progress) (ns : List Node) (text : List ℕ) : Type 0 where
  pub lines : List LineTree
  pub goes : GoesOn old new
  pub given : (ps : List ProofTree) → HasGiven (ps ++ bare g ∷ []) old → HasGiven (ps ++ with_lines g lines ∷ []) new
  pub short : List Short
  pub migrated : AreMigrated g ns short lines
  pub put : text ≡ line_texts_by (short_tokens g.code) short

-- the text of a group, and those of its table and lines behind it
abbrev pub text_of_short_proof : ShortProof → List ℕ
text_of_short_proof q = spell Start (group_tokens q.group) ++ line_texts_by (short_line_tokens q.group.code) q.lines

-- the lines of a group's proof were read, and it was written with what they become
pub record ProofIsPut (g : GroupTree) (old new : Progress) (out more : List ℕ) : Type 0 where
  pub lines : List LineTree
  pub goes : GoesOn old new
  pub given : (ps : List ProofTree) → HasGiven (ps ++ bare g ∷ []) old → HasGiven (ps ++ with_lines g lines ∷ []) new
  pub over : ProofEnds new.rest
  pub short : ShortProof
  pub migrated : IsMigratedProof (with_lines g lines) short
  pub fit : IsProofOver short_lines version_2 short
  pub put : more ≡ out ++ text_of_short_proof short

-- so far, with what is kept of the lines
pub record LinesSoFar (g : GroupTree) (old new : Progress) (kept : List (Option Assertion)) (ns : List Node) (text : List ℕ) : Type 0 where
  pub are : LinesAreShort g old new ns text
  pub keeps : ArePreconditions kept (after_lines are.lines)

-- the groups that were read of a text, and what was written of them behind a title
pub record GroupsSoFar (of : List ℕ) (r : Progress) (title out : List ℕ) : Type 0 where
  pub old : List ProofTree
  pub text : r.text ≡ of
  pub version : r.version ≡ One
  pub given : HasGiven old r
  pub over : MayOpen old r.rest
  pub new : List ShortProof
  pub migrated : AllZip IsMigratedProof old new
  pub fit : AreShortProofs new
  pub put : out ≡ title ++ proof_texts_by short_line_tokens new

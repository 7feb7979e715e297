-- How groups are written with the lines of their proofs. A group without lines is written as it is alone.
--
--   TEXT  = mcproof V eol PROOF* end eol
--   PROOF = GROUP LINE*
use Rattle.std.specs.Prelude.{ℕ, List, [], ◌∷◌, ◌++◌, map}
use Rattle.std.specs.List.{AllByRecursion, flat_map}
use Rattle.mc_text.specs.Tokens.{Tok, spell}
use Rattle.mc_text.specs.Fault.{Grammar}
use Rattle.mc_text.specs.declared.token.Before.TheVariants.{Start}
use Rattle.rv_words.specs.declared.range.Range.{Range}
use Rattle.tailrec_lang.specs.Tree.{GroupTree}
use Rattle.group_text.specs.Version.{Version, version_1}
use Rattle.proof_text.specs.Line.{LineTree, ProofOf, ProofTree}
use Rattle.group_text.specs.Spelling.{group_tokens, title_tokens, end_tokens}
use Rattle.proof_text.specs.LineSpelling.{line_tokens_in}
use Rattle.group_text.specs.Limits.{IsGroupIn}
use Rattle.proof_text.specs.LineLimits.{IsLineIn}

abbrev pub proof_tokens_in : Version → ProofTree → List Tok
proof_tokens_in v p = group_tokens p.group ++ flat_map (line_tokens_in v p.group.code) p.lines

-- the text of a list of proofs in that version
abbrev pub text_of_proofs_in : Version → List ProofTree → List ℕ
text_of_proofs_in v ps = spell Start (title_tokens v ++ (flat_map (proof_tokens_in v) ps ++ end_tokens))

-- with lines that may stand one after the other
pub record IsProofOf {L : Type 0} (v : Version) (Are : List L → Type 0) (p : ProofOf L) : Type 0 where
  pub group : IsGroupIn v p.group
  pub lines : Are p.lines

abbrev pub AreProofsIn : Version → List ProofTree → Type 0
AreProofsIn v ps = AllByRecursion (IsProofOf v (AllByRecursion (IsLineIn v))) ps

abbrev pub IsProofIn : Version → ProofTree → Type 0
IsProofIn v p = IsProofOf v (AllByRecursion (IsLineIn v)) p

-- the texts of lists of proofs in that version
abbrev pub texts_of_proofs_in : Version → Grammar (List ProofTree)
texts_of_proofs_in v = record { Has = AreProofsIn v; text = text_of_proofs_in v }

abbrev pub groups_of : {L : Type 0} → List (ProofOf L) → List GroupTree
groups_of {L} ps = map (λ (p : ProofOf L). p.group) ps

-- a group as a proof without lines
abbrev pub bare : {L : Type 0} → GroupTree → ProofOf L
bare g = record { group = g; lines = [] }

-- ---- the parts of a text, which are printed one by one

-- the lines' texts, one after the other, by the tokens of each
abbrev pub line_texts_by : {L : Type 0} → (L → List Tok) → List L → List ℕ
line_texts_by tokens [] = []
line_texts_by tokens (l ∷ ls) = spell Start (tokens l) ++ line_texts_by tokens ls

-- each group's text, and those of its lines after it, by their tokens beside the group's own code
abbrev pub proof_texts_by : {L : Type 0} → (List Range → L → List Tok) → List (ProofOf L) → List ℕ
proof_texts_by tokens [] = []
proof_texts_by tokens (p ∷ ps) = (spell Start (group_tokens p.group) ++ line_texts_by (tokens p.group.code) p.lines) ++ proof_texts_by tokens ps

abbrev pub line_texts_in : Version → List Range → List LineTree → List ℕ
line_texts_in v own ls = line_texts_by (line_tokens_in v own) ls

abbrev pub proof_texts_in : Version → List ProofTree → List ℕ
proof_texts_in v ps = proof_texts_by (line_tokens_in v) ps

-- ---- the version that is written

abbrev pub proof_tokens : ProofTree → List Tok
proof_tokens p = proof_tokens_in version_1 p

abbrev pub proof_texts_of : List ProofTree → List ℕ
proof_texts_of ps = proof_texts_in version_1 ps

abbrev pub text_of_proofs : List ProofTree → List ℕ
text_of_proofs ps = text_of_proofs_in version_1 ps

abbrev pub AreProofs : List ProofTree → Type 0
AreProofs ps = AreProofsIn version_1 ps

abbrev pub texts_of_proofs : Grammar (List ProofTree)
texts_of_proofs = texts_of_proofs_in version_1

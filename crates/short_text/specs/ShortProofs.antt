-- How groups are written with a table of terms, and the short lines of their proofs, behind them.
--
--   TEXT  = mcproof 2 eol PROOF* end eol
--   PROOF = GROUP TERM* LINE*
use Rattle.std.specs.Prelude.{◌≡◌, ℕ, List, [], ◌∷◌}
use Rattle.std.specs.List.{AllByRecursion}
use Rattle.mc_text.specs.Tokens.{Tok}
use Rattle.mc_text.specs.Fault.{Grammar}
use Rattle.rv_words.specs.declared.range.Range.{Range}
use Rattle.term_arena.specs.declared.node.Node.{Node}
use Rattle.group_text.specs.Version.{version_2}
use Rattle.proof_text.specs.Line.{ProofOf}
use Rattle.proof_text.specs.LineGrammar.{LineGrammar, text_over, AreProofsOver, texts_over}
use Rattle.short_text.specs.declared.short.Short.{Short}
use Rattle.short_text.specs.declared.short.ShortLine.{ShortLine}
use Rattle.short_text.specs.declared.short.ShortLine.TheVariants.{Term, Proof}
use Rattle.short_text.specs.Table.{IsNextTerm, IsTable}
use Rattle.short_text.specs.ShortSpelling.{table_line, short_tokens}
use Rattle.short_text.specs.ShortLimits.{IsShort}

-- the terms among these lines
abbrev pub table_of : List ShortLine → List Node
table_of [] = []
table_of (Term n ∷ ls) = n ∷ table_of ls
table_of (Proof s ∷ ls) = table_of ls

-- the lines of the proof among them
abbrev pub proof_lines : List ShortLine → List Short
proof_lines [] = []
proof_lines (Term n ∷ ls) = proof_lines ls
proof_lines (Proof s ∷ ls) = s ∷ proof_lines ls

-- no term stands behind a line of the proof
abbrev pub AreTermsFirst : List ShortLine → Type 0
AreTermsFirst [] = Unit {0}
AreTermsFirst (Term n ∷ ls) = AreTermsFirst ls
AreTermsFirst (Proof s ∷ ls) = table_of ls ≡ []

-- a table, and the lines of a proof over it
pub record AreShortLines (ls : List ShortLine) : Type 0 where
  pub order : AreTermsFirst ls
  pub table : IsTable (table_of ls)
  pub proof : AllByRecursion (IsShort (table_of ls)) (proof_lines ls)

-- a line may stand behind these
abbrev pub IsNextLine : List ShortLine → ShortLine → Type 0
IsNextLine before (Term n) = (proof_lines before ≡ []) × IsNextTerm (table_of before) n
IsNextLine before (Proof s) = IsShort (table_of before) s

-- a line, beside the group's own code
abbrev pub short_line_tokens : List Range → ShortLine → List Tok
short_line_tokens own (Term n) = table_line n
short_line_tokens own (Proof s) = short_tokens own s

abbrev pub short_lines : LineGrammar
short_lines = record { Line = ShortLine; tokens = λ v. short_line_tokens; Are = λ v. AreShortLines }

-- a group with its table and the lines of its proof
abbrev pub ShortProof : Type 0
ShortProof = ProofOf ShortLine

abbrev pub AreShortProofs : List ShortProof → Type 0
AreShortProofs ps = AreProofsOver short_lines version_2 ps

-- the text of a list of proofs
abbrev pub text_of_short_proofs : List ShortProof → List ℕ
text_of_short_proofs ps = text_over short_lines version_2 ps

-- the texts of version 2
abbrev pub short_texts : Grammar (List ShortProof)
short_texts = texts_over short_lines version_2

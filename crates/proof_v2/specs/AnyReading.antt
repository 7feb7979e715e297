-- What a reader of texts of each version has read, and what it answers.
use Rattle.std.specs.Prelude.{◌≡◌, ℕ, Bool, true, false, List, [], ◌∷◌, ◌++◌, map, Option, Some, None, Result, Ok, Err}
use Rattle.mc_text.specs.Fault.{IsBadAt}
use Rattle.tailrec_lang.specs.Tree.{GroupTree}
use Rattle.term_arena.specs.declared.node.Node.{Node}
use Rattle.group_text.specs.declared.version.Version.{Version as Known}
use Rattle.group_text.specs.declared.version.Version.TheVariants.{One, Two, Three, Four}
use Rattle.proof_text.specs.Line.{LineTree, ProofOf, line_tree}
use Rattle.group_text.specs.Version.{version_of}
use Rattle.group_text.specs.declared.read_error.TextFault.{TextFault}
use Rattle.proof_text.specs.FirstProofs.{Progress, HasGivenOver, MayOpen}
use Rattle.proof_text.specs.LineGrammar.{text_over}
use Rattle.proof_text.specs.Proofs.{bare}
use Rattle.proof_text.specs.Answers.{NoItemOver}
use Rattle.short_text.specs.declared.short.Short.{Short}
use Rattle.short_text.specs.declared.short.ShortLine.TheVariants.{Term, Proof}
use Rattle.short_text.specs.ShortProofs.{table_of}
use Rattle.short_text.specs.inner.ShortReaders.{AreKept, KeptLines}
use Rattle.proof_v2.specs.declared.any_reader.AnyLine.{AnyLine}
use Rattle.proof_v2.specs.declared.any_reader.AnyLine.TheVariants as any
use Rattle.proof_v2.specs.AnyText.{AnyProof, any_lines, any_texts}

-- How far the text was read, and what is kept of the lines behind the last group: the terms of its table so far, and whether lines of
-- its proof have begun.
pub record AnyState : Type 0 where
  pub progress : Progress
  pub kept : KeptLines

abbrev pub reading_state : Progress → KeptLines → AnyState
reading_state progress kept = record { progress = progress; kept = kept }

-- the table that lines of that version have: but in version 2 none
abbrev pub table_in : (k : Known) → List (any_lines k).Line → List Node
table_in One ls = []
table_in Two ls = table_of ls
table_in Three ls = []
table_in Four ls = []

-- it is kept of these lines
abbrev pub AreKeptIn : (k : Known) → KeptLines → List (any_lines k).Line → Type 0
AreKeptIn One kept ls = kept.table ≡ []
AreKeptIn Two kept ls = AreKept kept ls
AreKeptIn Three kept ls = kept.table ≡ []
AreKeptIn Four kept ls = kept.table ≡ []

-- what stands behind the last group
abbrev pub lines_of_last : {L : Type 0} → List (ProofOf L) → List L
lines_of_last [] = []
lines_of_last (p ∷ []) = p.lines
lines_of_last (p ∷ q ∷ ps) = lines_of_last (q ∷ ps)

-- these were given of a text of that version, and are all that stands before the rest
pub record HasGivenAny (k : Known) (ps : List (AnyProof k)) (s : AnyState) : Type 0 where
  pub version : s.progress.version ≡ k
  pub given : HasGivenOver (any_lines k) ps s.progress
  pub kept : AreKeptIn k s.kept (lines_of_last ps)

-- with further lines
abbrev pub with_lines : {L : Type 0} → ProofOf L → List L → ProofOf L
with_lines p ls = record { group = p.group; lines = p.lines ++ ls }

-- terms of a table, of which there are none but in version 2
abbrev pub AreTermsIn : (k : Known) → List (any_lines k).Line → Type 0
AreTermsIn One ls = ls ≡ []
AreTermsIn Two ls = (ns : List Node) × (ls ≡ map Term ns)
AreTermsIn Three ls = ls ≡ []
AreTermsIn Four ls = ls ≡ []

-- a line that states a whole triple, and nothing else
abbrev pub IsWhole : AnyLine → List LineTree → Type 0
IsWhole (any.One l) ls = ls ≡ line_tree l ∷ []
IsWhole (any.Two s) ls = ⊥

-- the line of a proof, with the terms that stand before it
abbrev pub AreLinesIn : (k : Known) → AnyLine → List (any_lines k).Line → Type 0
AreLinesIn One l ls = IsWhole l ls
AreLinesIn Two (any.One l) ls = ⊥
AreLinesIn Two (any.Two s) ls = (ns : List Node) × (ls ≡ map Term ns ++ Proof s ∷ [])
AreLinesIn Three l ls = IsWhole l ls
AreLinesIn Four l ls = IsWhole l ls

-- .. where nothing is told of that line
abbrev pub AreSomeLinesIn : (k : Known) → List (any_lines k).Line → Type 0
AreSomeLinesIn One ls = (l : LineTree) × (ls ≡ l ∷ [])
AreSomeLinesIn Two ls = (s : Short) × AreLinesIn Two (any.Two s) ls
AreSomeLinesIn Three ls = (l : LineTree) × (ls ≡ l ∷ [])
AreSomeLinesIn Four ls = (l : LineTree) × (ls ≡ l ∷ [])

-- whether there was an item, as an answer that gives one of which nothing is told
abbrev pub as_item : Result Bool TextFault → Result (Option (Unit {0})) TextFault
as_item (Ok true) = Ok (Some tt)
as_item (Ok false) = Ok None
as_item (Err e) = Err e

-- a group was given
abbrev pub GivesGroupAny : GroupTree → AnyState → AnyState → Type 0
GivesGroupAny g old new = (k : Known) (ps : List (AnyProof k)) → HasGivenAny k ps old → HasGivenAny k (ps ++ bare g ∷ []) new

-- behind the last group, which is that one, such lines were given
abbrev pub GivesLines : GroupTree → ((k : Known) → List (any_lines k).Line → Type 0) → AnyState → AnyState → Type 0
GivesLines g Are old new = (k : Known) (ps : List (AnyProof k)) (p : AnyProof k) → HasGivenAny k (ps ++ p ∷ []) old → p.group ≡ g
    → (ls : List (any_lines k).Line) × Are k ls × HasGivenAny k (ps ++ with_lines p ls ∷ []) new

-- the text is that of what was given
abbrev pub EndsAny : AnyState → Type 0
EndsAny s = (k : Known) (ps : List (AnyProof k)) → HasGivenAny k ps s → s.progress.text ≡ text_over (any_lines k) (version_of k) ps

-- The text is none at that line. No group comes ..
abbrev pub StopsGroups : ℕ → AnyState → Type 0
StopsGroups n s = (k : Known) (ps : List (AnyProof k)) → HasGivenAny k ps s → MayOpen ps s.progress.rest
    → IsBadAt (any_texts k) s.progress.text n × NoItemOver (any_lines k) ps s.progress

-- .. or only terms of a table, and behind them no line of a proof
abbrev pub StopsLines : GroupTree → ℕ → AnyState → AnyState → Type 0
StopsLines g n old new = (k : Known) (ps : List (AnyProof k)) (p : AnyProof k) → HasGivenAny k (ps ++ p ∷ []) old → p.group ≡ g
    → IsBadAt (any_texts k) old.progress.text n
    × (ls : List (any_lines k).Line) × AreTermsIn k ls × HasGivenAny k (ps ++ with_lines p ls ∷ []) new × NoItemOver (any_lines k) (ps ++ with_lines p ls ∷ []) new.progress

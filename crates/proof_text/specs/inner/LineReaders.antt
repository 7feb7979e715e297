-- Lines behind groups are read by computing, whatever lines these are, and so are whole texts of groups with them.
use Rattle.std.specs.Prelude.{◌≡◌, ℕ, zero, suc, ◌-◌, ◌<◌, Bool, false, ◌||◌, List, [], ◌∷◌, ◌++◌, length, codes, Option, Some, None, Ok, Err, if◌then◌else◌}
use Rattle.std.specs.Str.{bytes_eq}
use Rattle.mc_text.specs.Tokens.{Tok, Atom}
use Rattle.mc_text.specs.Reading.{Reader, pair, with, made, many, goes_on, refused}
use Rattle.mc_text.specs.inner.Reading.{eol, keyed}
use Rattle.mc_text.proofs.Lines.{AreTokens, IsLines}
use Rattle.mc_text.proofs.ReaderLaws.{Reads}
use Rattle.rv_words.specs.declared.range.Range.{Range}
use Rattle.tailrec_lang.specs.Tree.{DefTree}
use Rattle.group_text.specs.declared.version.Version.{Version as Known}
use Rattle.group_text.specs.Limits.{def_limit}
use Rattle.group_text.specs.Version.{Version, version_of}
use Rattle.group_text.specs.inner.Reading.{Head, def_at, is_def, head_at, group_of, title_row}
use Rattle.proof_text.specs.Line.{ProofOf}
use Rattle.proof_text.specs.LineGrammar.{LineGrammar}
use Rattle.proof_text.specs.inner.OwnCode.{IsOwnCode}

pub record LineReaders : Type 1 where
  pub grammar : LineGrammar
  -- a line may stand behind these
  pub Fits : Version → List grammar.Line → grammar.Line → Type 0
  -- the next line behind these, by the group's own code
  pub line_at : Version → List Range → List grammar.Line → Reader grammar.Line

-- ---- one line

-- whether a token is the first of the next group, or of the line that ends the text
abbrev pub ends_proof : Tok → Bool
ends_proof (Atom a) = bytes_eq a (codes "group") || bytes_eq a (codes "end")
ends_proof _ = false

-- what one call reads: the next line behind these, or none where the proof ends
abbrev pub turn_over : (R : LineReaders) → Version → List Range → List R.grammar.Line → Reader (Option R.grammar.Line)
turn_over R v own before ts = if goes_on ends_proof ts then Ok (None, ts) else made Some (R.line_at v own before) ts

-- ---- whole texts

-- how many definitions may follow the first
abbrev pub more_defs : ℕ
more_defs = def_limit - 1

abbrev pub defs_at : Reader (List DefTree)
defs_at = many more_defs is_def def_at

-- the further lines of a group, and the proofs behind them
abbrev pub TailOf : Type 0 → Type 0
TailOf L = List L × List (ProofOf L)

abbrev pub proof_of : {L : Type 0} → Head → List DefTree → List L → ProofOf L
proof_of h defs lines = record { group = group_of h defs; lines = lines }

-- what stands behind the head of a group, by what reads what stands behind its definitions
abbrev pub behind_head : {L : Type 0} → Reader (TailOf L) → Reader (DefTree × (List DefTree × TailOf L))
behind_head tail = pair def_at (pair defs_at tail)

-- no lines, and a group with its lines and the proofs behind it
abbrev pub group_first : {L : Type 0} → Head × (DefTree × (List DefTree × TailOf L)) → TailOf L
group_first x = ([], proof_of x.0 (x.1.0 ∷ x.1.1.0) x.1.1.1.0 ∷ x.1.1.1.1)

-- a line, and what stands behind it
abbrev pub line_first : {L : Type 0} → L × TailOf L → TailOf L
line_first x = (x.0 ∷ x.1.0, x.1.1)

-- nothing, behind the word that ends a text
abbrev pub nothing_more : {L : Type 0} → Reader (TailOf L)
nothing_more = made (λ _. ([], [])) eol

-- a group behind its first word, with what is read behind it by its code
abbrev pub group_then : {L : Type 0} → Version → (List Range → Reader (TailOf L)) → Reader (TailOf L)
group_then v tail = made group_first (with (head_at v) (λ h. behind_head (tail h.code)))

-- the end of the text, or a group, or else
abbrev pub end_or_group : {L : Type 0} → Version → (List Range → Reader (TailOf L)) → Reader (TailOf L) → Reader (TailOf L)
end_or_group v tail other = keyed (codes "end") nothing_more (keyed (codes "group") (group_then v tail) other)

-- at most so many lines and groups behind these lines of a group, by its code, and the end of the text
unfoldable pub tail_at : (R : LineReaders) → Version → ℕ → List Range → List R.grammar.Line → Reader (TailOf R.grammar.Line)
tail_at R v zero own before ts = keyed (codes "end") nothing_more refused ts
tail_at R v (suc n) own before ts = end_or_group v (λ code. tail_at R v n code []) (made line_first (with (R.line_at v own before) (λ l. tail_at R v n own (before ++ l ∷ [])))) ts

-- the end of the text, or a group with at most so many lines and groups behind it
abbrev pub first_at : (R : LineReaders) → Version → ℕ → Reader (TailOf R.grammar.Line)
first_at R v n = end_or_group v (λ code. tail_at R v n code []) refused

abbrev pub all_at : (R : LineReaders) → Version → Reader (TailOf R.grammar.Line)
all_at R v ts = first_at R v (length ts) ts

abbrev pub proofs_text_at : (R : LineReaders) → Version → Reader (List (ProofOf R.grammar.Line))
proofs_text_at R v = made (λ x. x.1.1) (pair (title_row v) (all_at R v))

-- ---- laws

-- readers of lines: they read lines as they are spelled, which are told from groups, definitions and the end by their first word
pub record ReadsLines (R : LineReaders) (v : Version) : Type 0 where
  pub none : R.grammar.Are v []
  pub more : (ls : List R.grammar.Line) (l : R.grammar.Line) → R.grammar.Are v ls → R.Fits v ls l → R.grammar.Are v (ls ++ l ∷ [])
  pub fewer : (ls : List R.grammar.Line) (l : R.grammar.Line) → R.grammar.Are v (ls ++ l ∷ []) → R.grammar.Are v ls × R.Fits v ls l
  pub reads : (own : List Range) → IsOwnCode own → (ls : List R.grammar.Line) → R.grammar.Are v ls → Reads (R.line_at v own ls) (R.Fits v ls) (R.grammar.tokens v own)
  pub some : (ls : List R.grammar.Line) → R.grammar.Are v ls → (l : R.grammar.Line) × R.Fits v ls l
  pub long : (own : List Range) (l : R.grammar.Line) → 0 < length (R.grammar.tokens v own l)
  pub whole : (own : List Range) (l : R.grammar.Line) → IsLines (R.grammar.tokens v own l)
  pub real : (own : List Range) (ls : List R.grammar.Line) (l : R.grammar.Line) → R.Fits v ls l → AreTokens (R.grammar.tokens v own l)
  pub begins : (own : List Range) (l : R.grammar.Line) (us : List Tok) → goes_on ends_proof (R.grammar.tokens v own l ++ us) ≡ false
  pub no_def : (own : List Range) (l : R.grammar.Line) (us : List Tok) → goes_on is_def (R.grammar.tokens v own l ++ us) ≡ false
  pub refuses_def : (own : List Range) (ls : List R.grammar.Line) (us : List Tok) → R.line_at v own ls (Atom (codes "def") ∷ us) ≡ Err (Atom (codes "def") ∷ us)

-- texts of a version, with readers of their lines
pub record KnownTexts : Type 1 where
  pub readers : LineReaders
  pub version : Known
  pub laws : ReadsLines readers (version_of version)

-- what is kept may be that behind some lines, which may stand behind a group
abbrev pub IsBehindLines : (R : LineReaders) → Version → (List R.grammar.Line → Type 0) → Type 0
IsBehindLines R v Behind = (before : List R.grammar.Line) × Behind before × R.grammar.Are v before

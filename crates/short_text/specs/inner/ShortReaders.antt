-- Lines of version 2 are read by those before them: a term is put behind the table so far, and a line of the proof goes by the table.
use Rattle.std.specs.Prelude.{◌≡◌, Bool, true, false, List, [], ◌∷◌, if◌then◌else◌}
use Rattle.mc_text.specs.Reading.{Reader, made, choice, refused}
use Rattle.rv_words.specs.declared.range.Range.{Range}
use Rattle.term_arena.specs.declared.node.Node.{Node}
use Rattle.proof_text.specs.inner.LineReaders.{LineReaders}
use Rattle.short_text.specs.declared.short.ShortLine.{ShortLine}
use Rattle.short_text.specs.declared.short.ShortLine.TheVariants.{Term, Proof}
use Rattle.short_text.specs.ShortProofs.{table_of, IsNextLine, short_lines}
use Rattle.short_text.specs.inner.ShortReading.{is_term, term_row, short_at}

-- whether the lines of a proof have begun
abbrev pub has_begun : List ShortLine → Bool
has_begun [] = false
has_begun (Term n ∷ ls) = has_begun ls
has_begun (Proof s ∷ ls) = true

-- a term behind that table, unless the lines of the proof have begun
abbrev pub term_line_at : Bool → List Node → Reader ShortLine
term_line_at begun ns ts = if begun then refused ts else made Term (term_row ns) ts

abbrev pub proof_line_at : List Node → List Range → Reader ShortLine
proof_line_at ns own = made Proof (short_at ns own)

-- the next line, by the table so far and whether the lines of the proof have begun
abbrev pub line_behind : Bool → List Node → List Range → Reader ShortLine
line_behind begun ns own = choice is_term (term_line_at begun ns) (proof_line_at ns own)

-- lines of version 2
abbrev pub short_readers : LineReaders
short_readers = record { grammar = short_lines; Fits = λ v. IsNextLine; line_at = λ v own before. line_behind (has_begun before) (table_of before) own }

-- what is kept of lines
pub record KeptLines : Type 0 where
  pub table : List Node
  pub begun : Bool

-- it may be that of these
pub record AreKept (kept : KeptLines) (before : List ShortLine) : Type 0 where
  pub table : kept.table ≡ table_of before
  pub begun : kept.begun ≡ has_begun before

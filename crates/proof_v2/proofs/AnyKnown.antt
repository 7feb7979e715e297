-- Texts of each version are read by computing.
use Rattle.std.proofs.Common.{List}
use Rattle.mc_text.specs.Reading.{Reader}
use Rattle.rv_words.specs.declared.range.Range.{Range}
use Rattle.group_text.specs.declared.version.Version.{Version as Known}
use Rattle.group_text.specs.declared.version.Version.TheVariants.{One, Two, Three, Four}
use Rattle.group_text.specs.Version.{Version, version_of}
use Rattle.proof_text.specs.LineLimits.{IsLineIn}
use Rattle.proof_text.specs.inner.LineReading.{line_at}
use Rattle.proof_text.specs.inner.LineReaders.{KnownTexts, LineReaders, ReadsLines}
use Rattle.proof_text.proofs.WholeLaws.{lines-read}
use Rattle.short_text.specs.ShortProofs.{IsNextLine, table_of}
use Rattle.short_text.specs.inner.ShortReaders.{has_begun, line_behind}
use Rattle.short_text.proofs.ReadLaws.{short-read}
use Rattle.proof_v2.specs.AnyText.{any_lines}

abbrev pub any_fits : (k : Known) → Version → List (any_lines k).Line → (any_lines k).Line → Type 0
any_fits One v ls l = IsLineIn v l
any_fits Two v ls l = IsNextLine ls l
any_fits Three v ls l = IsLineIn v l
any_fits Four v ls l = IsLineIn v l

abbrev pub any_line_at : (k : Known) → Version → List Range → List (any_lines k).Line → Reader (any_lines k).Line
any_line_at One v own ls = line_at v own
any_line_at Two v own ls = line_behind (has_begun ls) (table_of ls) own
any_line_at Three v own ls = line_at v own
any_line_at Four v own ls = line_at v own

abbrev pub any_readers : Known → LineReaders
any_readers k = record { grammar = any_lines k; Fits = any_fits k; line_at = any_line_at k }

pub any_laws : (k : Known) → ReadsLines (any_readers k) (version_of k)
any_laws One = lines-read One
any_laws Two = short-read (version_of Two)
any_laws Three = lines-read Three
any_laws Four = lines-read Four

abbrev pub any_known : Known → KnownTexts
any_known k = record { readers = any_readers k; version = k; laws = any_laws k }

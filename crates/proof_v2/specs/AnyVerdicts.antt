-- What a verdict says of a text of each version.
use Rattle.std.specs.Prelude.{ℕ, List}
use Rattle.tailrec_lang.specs.Tree.{GroupTree}
use Rattle.group_text.specs.declared.version.Version.{Version as Known}
use Rattle.group_text.specs.declared.version.Version.TheVariants.{One, Two, Three, Four}
use Rattle.group_text.specs.Version.{version_of}
use Rattle.verdicts.specs.Further.{further_of}
use Rattle.verdicts.specs.Verdicts.{SaysBy, SaysOver}
use Rattle.verdicts.specs.declared.verdict.Verdict.{Verdict}
use Rattle.checker.specs.ShortRules.{short_rules}
use Rattle.proof_v2.specs.AnyText.{ListsIn}
use Rattle.proof_v2.specs.Titles.{any_version, named_version}

-- in that version
abbrev pub SaysIn : Known → (file text : List ℕ) → Verdict → Type 0
SaysIn One = SaysBy (further_of One) (version_of One)
SaysIn Two = SaysOver short_rules (version_of Two)
SaysIn Three = SaysBy (further_of Three) (version_of Three)
SaysIn Four = SaysBy (further_of Four) (version_of Four)

-- of a text of version 1 or 2
abbrev pub SaysAny : (file text : List ℕ) → Verdict → Type 0
SaysAny file text = SaysIn (any_version text) file text

-- in the version that its first line names
abbrev pub SaysOf : (file text : List ℕ) → Verdict → Type 0
SaysOf file text = SaysIn (named_version text) file text

-- the text is one of these groups, in the version that its first line names
abbrev pub IsTextListing : (text : List ℕ) → List GroupTree → Type 0
IsTextListing text gs = ListsIn (named_version text) text gs

-- What is kept while a text of version 2 is read.
use Rattle.std.specs.Prelude.{◌≡◌, List}
use Rattle.group_text.specs.declared.version.Version.TheVariants.{Two}
use Rattle.short_text.specs.declared.short.ShortLine.{ShortLine}
use Rattle.short_text.specs.ShortProofs.{AreShortLines, ShortProof}
use Rattle.short_text.specs.inner.ShortReaders.{AreKept, KeptLines}
use Rattle.proof_v2.specs.AnyReading.{AnyState, HasGivenAny}

-- it is kept of some lines that may stand behind a group
abbrev pub IsOpen : KeptLines → Type 0
IsOpen kept = (before : List ShortLine) × AreKept kept before × AreShortLines before

-- nothing was given
abbrev pub Stays : AnyState → AnyState → Type 0
Stays old new = (new.progress ≡ old.progress) × ((ps : List ShortProof) → HasGivenAny Two ps old → HasGivenAny Two ps new)

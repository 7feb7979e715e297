-- The code of a group, by which the lines of its proof are read.
use Rattle.std.specs.Prelude.{◌<◌, List}
use Rattle.std.specs.List.{AllByRecursion}
use Rattle.rv_words.specs.declared.range.Range.{Range}
use Rattle.rv_words.specs.Ranges.{AreRanges}

abbrev pub IsOwnCode : List Range → Type 0
IsOwnCode ranges = AreRanges ranges × AllByRecursion (λ r. AllByRecursion (λ b. b < 256) r.bytes) ranges

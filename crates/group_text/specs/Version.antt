-- What the versions of a text differ in.
use Rattle.std.specs.Prelude.{ℕ, Bool, false, List, codes, Option, Some, None}
use Rattle.std.specs.Str.{bytes_eq}
use Rattle.group_text.specs.declared.version.Version.{Version as Known}
use Rattle.group_text.specs.declared.version.Version.TheVariants.{One, Two, Three, Four}

pub record Version : Type 0 where
  -- what follows `mcproof` in the first line
  pub title : List ℕ
  -- the fewest and the most memories of a group
  pub least_mems : ℕ
  pub most_mems : ℕ
  -- the first word of a line that states a triple by the further rule, where there is one
  pub further : Option (List ℕ)

abbrev pub version_1 : Version
version_1 = record { title = codes "1"; least_mems = 0; most_mems = 1; further = None }

abbrev pub version_2 : Version
version_2 = record { title = codes "2"; least_mems = 0; most_mems = 1; further = None }

abbrev pub version_3 : Version
version_3 = record { title = codes "3"; least_mems = 0; most_mems = 1; further = Some (codes "steer") }

abbrev pub version_4 : Version
version_4 = record { title = codes "4"; least_mems = 2; most_mems = 2; further = Some (codes "exchange") }

-- the versions that are read and written
abbrev pub version_of : Known → Version
version_of One = version_1
version_of Two = version_2
version_of Three = version_3
version_of Four = version_4

-- whether that is the word
abbrev pub is_word_of : Option (List ℕ) → List ℕ → Bool
is_word_of None name = false
is_word_of (Some word) name = bytes_eq name word

-- whether a line by the further rule begins with that word
abbrev pub is_further : Version → List ℕ → Bool
is_further v name = is_word_of v.further name

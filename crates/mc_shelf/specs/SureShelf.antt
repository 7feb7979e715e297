-- What a shelf holds on which no name is missing.
use Rattle.std.specs.Prelude.{ℕ, List, [], Some, unwrap_or}
use Rattle.mc_shelf.specs.Files.{Files, held}
use Rattle.mc_shelf.specs.Shelf.{Contents}

-- a name that was never given holds nothing
abbrev pub surely_held : Files → List ℕ → List ℕ
surely_held files name = unwrap_or (held files name) []

abbrev pub sure_contents : Files → Contents
sure_contents files name = Some (surely_held files name)

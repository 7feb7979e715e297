-- The space before a token, where one stands.
use Rattle.std.specs.Prelude.{ℕ, List, [], codes}
use Rattle.mc_text.specs.declared.token.Before.{Before}
use Rattle.mc_text.specs.declared.token.Before.TheVariants.{Start, Open, Later}

-- the space before an atom
abbrev pub space : Before → List ℕ
space Start = []
space Open = []
space Later = codes " "

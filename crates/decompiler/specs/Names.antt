-- The address that a name stands for.
use Rattle.std.specs.Prelude.{◌≡◌, ℕ, ◌<◌, ◌^◌, List, Result, Ok, ◌⊎◌}
use Rattle.elf_image.specs.Symbol.{symbols_of, value_of_name}
use Rattle.elf_image.specs.declared.symbol.NameFault.{NameFault}
use Rattle.mc_text.specs.Number.{hex}

-- the name is the spelling of that address
abbrev pub Spells : List ℕ → ℕ → Type 0
Spells name a = (a < 2 ^ 64) × (name ≡ hex a)

-- what a name stands for in a file: the address that it spells; where it spells none, the value of the function symbols of that name
abbrev pub StandsFor : List ℕ → List ℕ → Result ℕ NameFault → Type 0
StandsFor file name value =
    ((a : ℕ) × Spells name a × (value ≡ Ok a)) ⊎ (((a : ℕ) → Spells name a → ⊥) × (value ≡ value_of_name name (symbols_of file)))

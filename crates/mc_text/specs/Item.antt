-- What reading an item answers, by the item's spelling alone.
use Rattle.std.specs.Prelude.{◌≡◌, ◌≢◌, List, ◌++◌, Result, Ok, Err}
use Rattle.mc_text.specs.Tokens.{Tok, Position}
use Rattle.mc_text.specs.Scanning.{tokens_at}
use Rattle.mc_text.specs.declared.cursor.TokenError.{TokenError}
use Rattle.mc_text.specs.declared.cursor.TokenError.TheVariants as stop

-- The tokens begin with the spelling of an item that fits, and those after it are the tokens of the new place; or they
-- begin with the spelling of none. Out of memory nothing is said.
abbrev pub ReadsItem : {X Y : Type 0} → (X → Y) → (Y → Type 0) → (Y → List Tok) → Result X TokenError → Position → Position → Type 0
ReadsItem view Fits spelling (Ok x) old new = Fits (view x) × (tokens_at old ≡ spelling (view x) ++ tokens_at new)
ReadsItem {X} {Y} view Fits spelling (Err stop.Bad) old new = (y : Y) (rest : List Tok) → Fits y → tokens_at old ≢ spelling y ++ rest
ReadsItem view Fits spelling (Err stop.NoMemory) old new = Unit {0}

-- What a reader of the code answers, against a reading function of tokens.
use Rattle.std.specs.Prelude.{◌≡◌, ℕ, ◌+◌, Result, Ok, Err}
use Rattle.mc_text.specs.Tokens.{Position}
use Rattle.mc_text.specs.Scanning.{tokens_at, eols}
use Rattle.mc_text.specs.Reading.{Reader}
use Rattle.mc_text.specs.declared.cursor.TokenError.{TokenError}
use Rattle.mc_text.specs.declared.cursor.TokenError.TheVariants as stop

-- From the old place it reads what the function reads and stands after it, or stands before the token that fits
-- nothing. Out of memory nothing is said.
abbrev pub Gives : {X Y : Type 0} → (X → Y) → Result X TokenError → Position → Position → Reader Y → Type 0
Gives view (Ok x) old new read = read (tokens_at old) ≡ Ok (view x, tokens_at new)
Gives view (Err stop.Bad) old new read = read (tokens_at old) ≡ Err (tokens_at new)
Gives view (Err stop.NoMemory) old new read = Unit {0}

-- the number of the text's last line, by a place of it
abbrev pub last_line : Position → ℕ
last_line p = p.line + eols (tokens_at p)

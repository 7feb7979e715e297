-- Where a reader stands after a token.
use Rattle.std.specs.Prelude.{◌≡◌, List, [], ◌∷◌, Option, Some, None, Result, Ok, Err}
use Rattle.mc_text.specs.declared.token.Token.{Token}
use Rattle.mc_text.specs.declared.token.Token.TheVariants as token
use Rattle.mc_text.specs.Tokens.{Tok, Stuck, Position, tok}
use Rattle.mc_text.specs.Scanning.{tokens_at}
use Rattle.mc_text.specs.declared.cursor.TokenError.{TokenError}
use Rattle.mc_text.specs.declared.cursor.TokenError.TheVariants as stop

-- ---- a token ahead

-- after the end of the text there is nothing
abbrev pub after_token : Token → List Tok → List Tok
after_token token.Done ts = []
after_token t ts = ts

-- the token that stands at the place, and the place after it; none where no token begins
abbrev pub IsAhead : Option (Token × Position) → Position → Type 0
IsAhead None p = tokens_at p ≡ Stuck ∷ []
IsAhead (Some q) p = tokens_at p ≡ tok q.0 ∷ after_token q.0 (tokens_at q.1)

-- after the token where it gave something, else before it
abbrev pub Accepts : {X : Type 0} → Option X → Result X TokenError → Position → Position → Position → Type 0
Accepts (Some x) result old ahead new = (result ≡ Ok x) × (new ≡ ahead)
Accepts None result old ahead new = (result ≡ Err stop.Bad) × (new ≡ old)

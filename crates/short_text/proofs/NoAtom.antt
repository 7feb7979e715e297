-- Where no atom stands, no line of a table begins.
use Rattle.std.proofs.Common.{◌≡◌, false, List, [], ◌∷◌, refl}
use Rattle.mc_text.specs.Tokens.{Tok, Left, Right, Semi, Atom, Eol, Done, Stuck}
use Rattle.mc_text.specs.Reading.{begins_atom, goes_on}
use Rattle.short_text.specs.inner.ShortReading.{is_term}

pub no_term : (ts : List Tok) → goes_on begins_atom ts ≡ false → false ≡ goes_on is_term ts
no_term [] e = refl
no_term (Left ∷ ts) e = refl
no_term (Right ∷ ts) e = refl
no_term (Semi ∷ ts) e = refl
no_term (Atom a ∷ ts) e = absurd cc
no_term (Eol ∷ ts) e = refl
no_term (Done ∷ ts) e = refl
no_term (Stuck ∷ ts) e = refl

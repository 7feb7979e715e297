-- Where no atom stands, no line begins that ends a proof.
use Rattle.std.proofs.Common.{◌≡◌, false, List, [], ◌∷◌, refl}
use Rattle.mc_text.specs.Tokens.{Tok, Left, Right, Semi, Atom, Eol, Done, Stuck}
use Rattle.mc_text.specs.Reading.{begins_atom, goes_on}
use Rattle.proof_text.specs.inner.LineReaders.{ends_proof}

pub no_end : (ts : List Tok) → goes_on begins_atom ts ≡ false → false ≡ goes_on ends_proof ts
no_end [] e = refl
no_end (Left ∷ ts) e = refl
no_end (Right ∷ ts) e = refl
no_end (Semi ∷ ts) e = refl
no_end (Atom a ∷ ts) e = absurd cc
no_end (Eol ∷ ts) e = refl
no_end (Done ∷ ts) e = refl
no_end (Stuck ∷ ts) e = refl

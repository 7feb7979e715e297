-- Where no atom stands, a term begins with a left parenthesis.
use Rattle.std.proofs.Common.{◌≡◌, false, List, [], ◌∷◌, refl}
use Rattle.mc_text.specs.Tokens.{Tok, Left, Right, Semi, Atom, Eol, Done, Stuck}
use Rattle.mc_text.specs.Reading.{begins_atom, goes_on, is_open}
use Rattle.group_text.specs.TermReading.{begins_word, begins_mem}

pub word_without_atom : (ts : List Tok) → goes_on begins_atom ts ≡ false → goes_on is_open ts ≡ goes_on begins_word ts
word_without_atom [] e = refl
word_without_atom (Left ∷ ts) e = refl
word_without_atom (Right ∷ ts) e = refl
word_without_atom (Semi ∷ ts) e = refl
word_without_atom (Atom a ∷ ts) e = absurd cc
word_without_atom (Eol ∷ ts) e = refl
word_without_atom (Done ∷ ts) e = refl
word_without_atom (Stuck ∷ ts) e = refl

pub mem_without_atom : (ts : List Tok) → goes_on begins_atom ts ≡ false → goes_on is_open ts ≡ goes_on begins_mem ts
mem_without_atom [] e = refl
mem_without_atom (Left ∷ ts) e = refl
mem_without_atom (Right ∷ ts) e = refl
mem_without_atom (Semi ∷ ts) e = refl
mem_without_atom (Atom a ∷ ts) e = absurd cc
mem_without_atom (Eol ∷ ts) e = refl
mem_without_atom (Done ∷ ts) e = refl
mem_without_atom (Stuck ∷ ts) e = refl

-- Readers of single tokens, and readers put together from others.
use Rattle.std.specs.Prelude.{ℕ, zero, suc, Bool, List, [], ◌∷◌, ◌++◌, Option, Some, None, Result, Ok, Err, if◌then◌else◌}
use Rattle.std.specs.Str.{bytes_eq}
use Rattle.mc_text.specs.Number.{number_of}
use Rattle.mc_text.specs.Tokens.{Tok, Semi, Atom, Eol}
use Rattle.mc_text.specs.Reading.{◌>>=◌, Reader, atom_of, below, goes_on, made, one, pair}

abbrev pub is_semi : Tok → Option (Unit {0})
is_semi Semi = Some tt
is_semi _ = None

abbrev pub is_eol : Tok → Option (Unit {0})
is_eol Eol = Some tt
is_eol _ = None

abbrev pub is_word : List ℕ → Tok → Option (Unit {0})
is_word k (Atom a) = if bytes_eq a k then Some tt else None
is_word k _ = None

abbrev pub is_atom : Tok → Option (List ℕ)
is_atom (Atom a) = Some a
is_atom _ = None

-- just so many
unfoldable pub times : {X : Type 0} → ℕ → Reader X → Reader (List X)
times zero r ts = Ok ([], ts)
times (suc n) r ts = made (λ x. x.0 ∷ x.1) (pair r (times n r)) ts

abbrev pub eol : Reader (Unit {0})
eol = one is_eol

abbrev pub word : List ℕ → Reader (Unit {0})
word k = one (is_word k)

-- a decimal below the limit
abbrev pub number_at : ℕ → Reader ℕ
number_at limit = one (atom_of (λ a. below limit (number_of 10 a)))

-- what a word leads to, and else
abbrev pub keyed : {X : Type 0} → List ℕ → Reader X → Reader X → Reader X
keyed k r other [] = other []
keyed k r other (Atom a ∷ ts) = if bytes_eq a k then r ts else other (Atom a ∷ ts)
keyed k r other (t ∷ ts) = other (t ∷ ts)

-- what was read, if it passes the test
abbrev pub checked : {X : Type 0} → (X → Bool) → Reader X → Reader X
checked {X} test r ts = ◌>>=◌ {A = X × List Tok} {B = X × List Tok} (r ts) (λ p. if test p.0 then Ok (p.0, p.1) else Err p.1)

-- what was read, if no such token follows it
abbrev pub unless : {X : Type 0} → (Tok → Bool) → Reader X → Reader X
unless {X} go r ts = ◌>>=◌ {A = X × List Tok} {B = X × List Tok} (r ts) (λ p. if goes_on go p.1 then Err p.1 else Ok (p.0, p.1))

-- what was read before comes first
abbrev pub with_prefix : {X : Type 0} → List X → Result (List X × List Tok) (List Tok) → Result (List X × List Tok) (List Tok)
with_prefix front (Ok x) = Ok (front ++ x.0, x.1)
with_prefix front (Err bad) = Err bad

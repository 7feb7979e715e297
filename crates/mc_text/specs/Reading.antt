-- Reading tokens from left to right: an item and the tokens after it, or the tokens from the first on that fits nothing.
use Rattle.std.specs.Prelude.{ℕ, zero, suc, Bool, true, false, List, [], ◌∷◌, length, Option, Some, None, Result, Ok, Err, nat_lt, if◌then◌else◌}
use Rattle.mc_text.specs.Number.{hex_of, bytes_of_digits}
use Rattle.mc_text.specs.Tokens.{Tok, Left, Right, Atom}

abbrev pub Reader : Type 0 → Type 0
Reader X = List Tok → Result (X × List Tok) (List Tok)

infixl 10 ◌>>=◌
abbrev pub ◌>>=◌ : {A B : Type 0} → Result A (List Tok) → (A → Result B (List Tok)) → Result B (List Tok)
(Ok x) >>= f = f x
(Err e) >>= f = Err e

-- one after the other
abbrev pub pair : {X Y : Type 0} → Reader X → Reader Y → Reader (X × Y)
pair a b ts = a ts >>= λ p. b p.1 >>= λ q. Ok ((p.0, q.0), q.1)

abbrev pub with : {X Y : Type 0} → Reader X → (X → Reader Y) → Reader (X × Y)
with a b ts = a ts >>= λ p. b p.0 p.1 >>= λ q. Ok ((p.0, q.0), q.1)

-- what was read, put together
abbrev pub made : {X Y : Type 0} → (X → Y) → Reader X → Reader Y
made make r ts = r ts >>= λ p. Ok (make p.0, p.1)

abbrev pub or_else : {X : Type 0} → Option X → List Tok → List Tok → Result (X × List Tok) (List Tok)
or_else (Some x) rest bad = Ok (x, rest)
or_else None rest bad = Err bad

-- one token that f takes
unfoldable pub one : {X : Type 0} → (Tok → Option X) → Reader X
one f [] = Err []
one f (t ∷ ts) = or_else (f t) ts (t ∷ ts)

abbrev pub is_left : Tok → Option (Unit {0})
is_left Left = Some tt
is_left _ = None

abbrev pub is_right : Tok → Option (Unit {0})
is_right Right = Some tt
is_right _ = None

abbrev pub below : ℕ → Option ℕ → Option ℕ
below limit (Some n) = if nat_lt n limit then Some n else None
below limit None = None

abbrev pub is_open : Tok → Bool
is_open Left = true
is_open _ = false

abbrev pub begins_atom : Tok → Bool
begins_atom (Atom a) = true
begins_atom _ = false

-- an atom that the test takes
abbrev pub atom_of : {X : Type 0} → (List ℕ → Option X) → Tok → Option X
atom_of f (Atom a) = f a
atom_of f _ = None

-- whether an item follows
abbrev pub goes_on : (Tok → Bool) → List Tok → Bool
goes_on go [] = false
goes_on go (t ∷ ts) = go t

-- each one that begins with a token that go takes; n is at least the number of tokens
unfoldable pub many : {X : Type 0} → ℕ → (Tok → Bool) → Reader X → Reader (List X)
many zero go r ts = Ok ([], ts)
many (suc n) go r [] = Ok ([], [])
many (suc n) go r (t ∷ ts) = if go t then made (λ x. x.0 ∷ x.1) (pair r (many n go r)) (t ∷ ts) else Ok ([], t ∷ ts)

abbrev pub star : {X : Type 0} → (Tok → Bool) → Reader X → Reader (List X)
star go r ts = many (length ts) go r ts

-- a hexadecimal number
abbrev pub address_at : Reader ℕ
address_at = one (atom_of hex_of)

-- two digits for each byte
abbrev pub bytes_at : Reader (List ℕ)
bytes_at = one (atom_of bytes_of_digits)

abbrev pub refused : {X : Type 0} → Reader X
refused ts = Err ts

-- the first reader where the first token passes the test, else the second
abbrev pub choice : {X : Type 0} → (Tok → Bool) → Reader X → Reader X → Reader X
choice go a b ts = if goes_on go ts then a ts else b ts

-- An atom stands at a place where its bytes do, behind the space that belongs there.
use Rattle.std.proofs.Common.{◌≡◌, ◌≢◌, ℕ, ◌<◌, ◌≤◌, true, false, List, [], ◌∷◌, ◌++◌, length, get_or, take, Err, Option, None, refl, sym, ap, subst, ◌∙◌, arith, append_assoc}
use Rattle.std.proofs.lemmas.Bool.{false≢true}
use Rattle.std.proofs.lemmas.List.{get_or-take, length-take-le}
use Rattle.std.proofs.lemmas.List.Elements.{All-from_get_or}
use Rattle.std.specs.List.{AllPass}
use Rattle.mc_text.specs.Tokens.{Tok, Left, Right, Semi, Atom, Eol, Done, Stuck, gap, token_text, is_atom_byte, IsAtom, HasNoAtomByte, Stands, Position, Passes}
use Rattle.mc_text.specs.declared.token.Before.{Before}
use Rattle.mc_text.specs.declared.token.Before.TheVariants.{Start, Open, Later}
use Rattle.mc_text.specs.Scanning.{tokens_at}
use Rattle.mc_text.specs.Reading.{one, or_else, atom_of, begins_atom, goes_on}
use Rattle.mc_text.specs.inner.Reading.{is_atom, is_word}
use Rattle.mc_text.proofs.Atoms.{atom-text}
use Rattle.mc_text.proofs.Lines.{follows}
use Rattle.mc_text.proofs.Parentheses.{passed-tokens}

-- ---- the space before it

gap-any : (m : Before) (a : List ℕ) → gap m (Atom a) ≡ gap m (Atom [])
gap-any Start a = refl
gap-any Open a = refl
gap-any Later a = refl

gap-cancel : (m : Before) (x y : List ℕ) → gap m (Atom []) ++ x ≡ gap m (Atom []) ++ y → x ≡ y
gap-cancel Start x y e = e
gap-cancel Open x y e = e
gap-cancel Later x y e = cc

text-split : (m : Before) (a rest : List ℕ) → token_text m (Atom a) ++ rest ≡ gap m (Atom []) ++ (a ++ rest)
text-split m a rest = append_assoc (gap m (Atom a)) a rest ∙ ap (λ (g : List ℕ). g ++ (a ++ rest)) (gap-any m a)

-- ---- where none stands

abbrev pub NoAtomStands : Before → List ℕ → Type 0
NoAtomStands m bytes = (a rest : List ℕ) → IsAtom a → bytes ≡ token_text m (Atom a) ++ rest → ⊥

-- without its space
pub no-gap : (m : Before) (bytes : List ℕ) → ((rest : List ℕ) → bytes ≡ gap m (Atom []) ++ rest → ⊥) → NoAtomStands m bytes
no-gap m bytes none a rest is e = none (a ++ rest) (e ∙ text-split m a rest)

no-byte : (a rest : List ℕ) → IsAtom a → HasNoAtomByte (a ++ rest) → ⊥
no-byte [] rest is h = is.0 refl
no-byte (b ∷ a) rest is h = false≢true (sym h ∙ (atom-text (b ∷ a) is).0)

without : (a rest : List ℕ) → length a ≡ 0 → rest ≡ a ++ rest
without [] rest e = refl
without (b ∷ a) rest e = absurd (omega (arith, e))

-- without a byte
pub no-bytes : (m : Before) (bytes behind : List ℕ) → bytes ≡ gap m (Atom []) ++ behind → HasNoAtomByte behind → NoAtomStands m bytes
no-bytes m bytes behind parts whole a rest is e =
    let same : behind ≡ a ++ rest = gap-cancel m behind (a ++ rest) (sym parts ∙ e ∙ text-split m a rest) in
    no-byte a rest is (subst HasNoAtomByte same whole)

-- ---- where one stands

pub stands-atom : (m : Before) (bytes behind a rest : List ℕ) → bytes ≡ gap m (Atom []) ++ behind → a ++ rest ≡ behind → a ≢ [] → AllPass is_atom_byte a → HasNoAtomByte rest → Stands m bytes (Atom a) rest
stands-atom m bytes behind a rest parts is some fits whole = record {
  spelled = parts ∙ ap (λ (x : List ℕ). gap m (Atom []) ++ x) (sym is) ∙ sym (text-split m a rest);
  may = ((some, fits), whole);
}

some-bytes : (a : List ℕ) → a ≢ [] → length a ≡ 0 → ⊥
some-bytes [] some e = some refl
some-bytes (b ∷ a) some e = omega (arith, e)

-- ---- at a scanner's place

module _ (m : Before) (bytes : List ℕ) (line : ℕ) (p : Position) (e : record { before = m; rest = bytes; line = line } ≡ p) where
  pub no-gap-at : ((rest : List ℕ) → bytes ≡ gap m (Atom []) ++ rest → ⊥) → NoAtomStands p.before p.rest
  no-gap-at none = subst (λ (q : Position). NoAtomStands q.before q.rest) e (no-gap m bytes none)

  pub no-bytes-at : (behind a rest : List ℕ) → bytes ≡ gap m (Atom []) ++ behind → a ++ rest ≡ behind → length a ≡ 0 → HasNoAtomByte rest → NoAtomStands p.before p.rest
  no-bytes-at behind a rest parts is none whole =
      subst (λ (q : Position). NoAtomStands q.before q.rest) e (no-bytes m bytes behind parts (subst HasNoAtomByte (without a rest none ∙ is) whole))

  pub atom-passed : (behind a rest : List ℕ) → bytes ≡ gap m (Atom []) ++ behind → a ++ rest ≡ behind → (length a ≡ 0 → ⊥) → AllPass is_atom_byte a → HasNoAtomByte rest
      → Passes (Atom a) p (record { before = Later; rest = rest; line = line })
  atom-passed behind a rest parts is some fits whole =
      subst (λ (q : Position). Passes (Atom a) q (record { before = Later; rest = rest; line = line })) e (record {
        stands = stands-atom m bytes behind a rest parts is (λ none. some (ap length none)) fits whole;
        before = refl;
        line = omega arith;
      })

  pub spelled-passed : (behind a rest : List ℕ) → bytes ≡ gap m (Atom []) ++ behind → a ++ rest ≡ behind → IsAtom a → HasNoAtomByte rest → Passes (Atom a) p (record { before = Later; rest = rest; line = line })
  spelled-passed behind a rest parts is atom whole = atom-passed behind a rest parts is (some-bytes a atom.0) atom.1 whole

-- ---- its bytes

pub take-pass : (bs : List ℕ) (n : ℕ) → n ≤ length bs → ((k : ℕ) → k < n → is_atom_byte (get_or bs k 0) ≡ true) → AllPass is_atom_byte (take n bs)
take-pass bs n le each = All-from_get_or (λ b. is_atom_byte b ≡ true) (take n bs) 0 (λ i lt.
    let low : i < n = omega (arith, lt, length-take-le n bs le) in
    ap is_atom_byte (get_or-take n bs i 0 low) ∙ each i low)

-- ---- and in tokens

pub passed-atom : (a : List ℕ) (old new : Position) → Passes (Atom a) old new → tokens_at old ≡ Atom a ∷ tokens_at new
passed-atom a old new p = passed-tokens (Atom a) old new (λ e. cc) p

other-atom : (ts : List Tok) → ((a : List ℕ) (us : List Tok) → ts ≡ Atom a ∷ us → ⊥) → goes_on begins_atom ts ≡ false
other-atom [] h = refl
other-atom (Atom a ∷ ts) h = absurd (h a ts refl)
other-atom (Left ∷ ts) h = refl
other-atom (Right ∷ ts) h = refl
other-atom (Semi ∷ ts) h = refl
other-atom (Eol ∷ ts) h = refl
other-atom (Done ∷ ts) h = refl
other-atom (Stuck ∷ ts) h = refl

pub none-ahead : (p : Position) → NoAtomStands p.before p.rest → goes_on begins_atom (tokens_at p) ≡ false
none-ahead p none = other-atom (tokens_at p) (λ a us e.
    let f = follows p.before p.rest (Atom a) us tt e in
    none a f.rest f.fits (f.is ∙ sym (append_assoc (gap p.before (Atom a)) a f.rest)))

-- ---- readers of atoms take no other token

other-one : {X : Type 0} (g : Tok → Option X) (ts : List Tok) → ((t : Tok) → begins_atom t ≡ false → g t ≡ None) → goes_on begins_atom ts ≡ false → one g ts ≡ Err ts
unfolding one
other-one g [] h e = refl
other-one g (t ∷ ts) h e = ap (λ o. or_else o ts (t ∷ ts)) (h t e)

of-other : {X : Type 0} (f : List ℕ → Option X) (t : Tok) → begins_atom t ≡ false → atom_of f t ≡ None
of-other f (Atom a) e = absurd cc
of-other f Left e = refl
of-other f Right e = refl
of-other f Semi e = refl
of-other f Eol e = refl
of-other f Done e = refl
of-other f Stuck e = refl

any-other : (t : Tok) → begins_atom t ≡ false → is_atom t ≡ None
any-other (Atom a) e = absurd cc
any-other Left e = refl
any-other Right e = refl
any-other Semi e = refl
any-other Eol e = refl
any-other Done e = refl
any-other Stuck e = refl

word-other : (k : List ℕ) (t : Tok) → begins_atom t ≡ false → is_word k t ≡ None
word-other k (Atom a) e = absurd cc
word-other k Left e = refl
word-other k Right e = refl
word-other k Semi e = refl
word-other k Eol e = refl
word-other k Done e = refl
word-other k Stuck e = refl

pub no_atom_of : {X : Type 0} (f : List ℕ → Option X) (ts : List Tok) → goes_on begins_atom ts ≡ false → one (atom_of f) ts ≡ Err ts
no_atom_of f ts e = other-one (atom_of f) ts (of-other f) e

pub no_atom : (ts : List Tok) → goes_on begins_atom ts ≡ false → one is_atom ts ≡ Err ts
no_atom ts e = other-one is_atom ts any-other e

pub no_word : (k : List ℕ) (ts : List Tok) → goes_on begins_atom ts ≡ false → one (is_word k) ts ≡ Err ts
no_word k ts e = other-one (is_word k) ts (word-other k) e

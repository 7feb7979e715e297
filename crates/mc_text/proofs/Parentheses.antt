-- A parenthesis stands at a place where its byte does, behind the space that belongs there.
use Rattle.std.proofs.Common.{◌≡◌, ℕ, ◌+◌, true, false, List, [], ◌∷◌, ◌++◌, Option, Some, None, Ok, Err, refl, sym, ap, ◌∙◌, arith, append_assoc}
use Rattle.std.specs.Prelude.{IfSome, IfNone}
use Rattle.std.specs.Option.{is_some}
use Rattle.mc_text.specs.Tokens.{Tok, Left, Right, Semi, Atom, Eol, Done, Stuck, token_text, token_bytes, eol, Stands, Position, Passes}
use Rattle.mc_text.specs.declared.token.Before.{Before}
use Rattle.mc_text.specs.Scanning.{lex, At, tokens_at, eols}
use Rattle.mc_text.specs.Reading.{one, is_left, is_right, is_open, goes_on}
use Rattle.mc_text.specs.Outcome.{last_line}
use Rattle.mc_text.proofs.Lines.{follows, stands-lex}

abbrev NoneStands : Tok → Before → List ℕ → Type 0
NoneStands t m bytes = (rest : List ℕ) → Stands m bytes t rest → ⊥

-- ---- what stands there is read there

pub passed-tokens : (t : Tok) (old new : Position) → (t ≡ Done → ⊥) → Passes t old new → tokens_at old ≡ t ∷ tokens_at new
passed-tokens t old new n p = stands-lex old.before old.rest t new.rest n p.stands ∙ ap (λ (m : Before). t ∷ lex new.rest (At m)) (sym p.before)

pub left-taken : (old new : Position) → Passes Left old new → one is_left (tokens_at old) ≡ Ok (tt, tokens_at new)
unfolding one
left-taken old new p = ap (one is_left) (passed-tokens Left old new (λ e. cc) p)

pub right-taken : (old new : Position) → Passes Right old new → one is_right (tokens_at old) ≡ Ok (tt, tokens_at new)
unfolding one
right-taken old new p = ap (one is_right) (passed-tokens Right old new (λ e. cc) p)

pub passed-last : (t : Tok) (old new : Position) → (t ≡ Done → ⊥) → Passes t old new → last_line new ≡ last_line old
passed-last t old new n p = let e : eols (tokens_at old) ≡ eol t + eols (tokens_at new) = ap eols (passed-tokens t old new n p) in omega (arith, p.line, e)

left-open : (m : Before) (bytes rest : List ℕ) → bytes ≡ token_text m Left ++ rest → goes_on is_open (lex bytes (At m)) ≡ true
left-open m bytes rest e = ap (goes_on is_open) (stands-lex m bytes Left rest (λ k. cc) (record { spelled = e; may = tt }))

-- ---- and what is read there stands there

read-left : (m : Before) (bytes : List ℕ) (us : List Tok) → NoneStands Left m bytes → lex bytes (At m) ≡ Left ∷ us → ⊥
read-left m bytes us none e =
    let f = follows m bytes Left us tt e in
    none f.rest (record { spelled = f.is ∙ sym (append_assoc _ (token_bytes Left) f.rest); may = tt })

read-right : (m : Before) (bytes : List ℕ) (us : List Tok) → NoneStands Right m bytes → lex bytes (At m) ≡ Right ∷ us → ⊥
read-right m bytes us none e =
    let f = follows m bytes Right us tt e in
    none f.rest (record { spelled = f.is ∙ sym (append_assoc _ (token_bytes Right) f.rest); may = tt })

other-left : (ts : List Tok) → ((us : List Tok) → ts ≡ Left ∷ us → ⊥) → (one is_left ts ≡ Err ts) × (goes_on is_open ts ≡ false)
unfolding one
other-left [] h = (refl, refl)
other-left (Left ∷ ts) h = absurd (h ts refl)
other-left (Right ∷ ts) h = (refl, refl)
other-left (Semi ∷ ts) h = (refl, refl)
other-left (Atom a ∷ ts) h = (refl, refl)
other-left (Eol ∷ ts) h = (refl, refl)
other-left (Done ∷ ts) h = (refl, refl)
other-left (Stuck ∷ ts) h = (refl, refl)

other-right : (ts : List Tok) → ((us : List Tok) → ts ≡ Right ∷ us → ⊥) → one is_right ts ≡ Err ts
unfolding one
other-right [] h = refl
other-right (Right ∷ ts) h = absurd (h ts refl)
other-right (Left ∷ ts) h = refl
other-right (Semi ∷ ts) h = refl
other-right (Atom a ∷ ts) h = refl
other-right (Eol ∷ ts) h = refl
other-right (Done ∷ ts) h = refl
other-right (Stuck ∷ ts) h = refl

pub left-refused : (old new : Position) → NoneStands Left old.before old.rest → new ≡ old → one is_left (tokens_at old) ≡ Err (tokens_at new)
left-refused old new none e = (other-left (tokens_at old) (λ us. read-left old.before old.rest us none)).0 ∙ ap (λ (p : Position). Err (tokens_at p)) (sym e)

pub right-refused : (old new : Position) → NoneStands Right old.before old.rest → new ≡ old → one is_right (tokens_at old) ≡ Err (tokens_at new)
right-refused old new none e = other-right (tokens_at old) (λ us. read-right old.before old.rest us none) ∙ ap (λ (p : Position). Err (tokens_at p)) (sym e)

not-open : (m : Before) (bytes : List ℕ) → ((rest : List ℕ) → bytes ≡ token_text m Left ++ rest → ⊥) → goes_on is_open (lex bytes (At m)) ≡ false
not-open m bytes none = (other-left (lex bytes (At m)) (λ us. read-left m bytes us (λ rest s. none rest s.spelled))).1

-- whether one stands there, as the code asks
open-is : {S : Type 0} (now : S → List ℕ) (m : Before) (bytes : List ℕ) (o : Option S) → IfSome o (λ r. bytes ≡ token_text m Left ++ now r) → IfNone o ((rest : List ℕ) → bytes ≡ token_text m Left ++ rest → ⊥) → is_some o ≡ goes_on is_open (lex bytes (At m))
open-is now m bytes (Some r) some none = sym (left-open m bytes (now r) some)
open-is now m bytes None some none = sym (not-open m bytes none)

pub open-at : {S : Type 0} (now : S → List ℕ) (m : Before) (bytes : List ℕ) (line : ℕ) (p : Position) (o : Option S) → record { before = m; rest = bytes; line = line } ≡ p → IfSome o (λ r. bytes ≡ token_text m Left ++ now r)
    → IfNone o ((rest : List ℕ) → bytes ≡ token_text m Left ++ rest → ⊥) → is_some o ≡ goes_on is_open (tokens_at p)
open-at now m bytes line p o e some none = open-is now m bytes o some none ∙ ap (λ (q : Position). goes_on is_open (tokens_at q)) e

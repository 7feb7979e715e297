-- The token ahead, and the line in which the text ends.
use Rattle.std.proofs.Common.{◌≡◌, ◌+◌, List, [], ◌∷◌, Some, refl, sym, ap, ◌∙◌, arith, inl, inr}
use Rattle.mc_text.specs.declared.token.Token.{Token}
use Rattle.mc_text.specs.declared.token.Token.TheVariants as token
use Rattle.mc_text.specs.Tokens.{Tok, Done, Position, Passes, tok, eol}
use Rattle.mc_text.specs.Scanning.{tokens_at, eols, ScansOne}
use Rattle.mc_text.specs.Outcome.{last_line}
use Rattle.mc_text.specs.inner.Outcome.{after_token, IsAhead}

not-done : (t : Token) (ts : List Tok) → (tok t ≡ Done → ⊥) → after_token t ts ≡ ts
not-done token.Left ts h = refl
not-done token.Right ts h = refl
not-done token.Semi ts h = refl
not-done (token.Atom a) ts h = refl
not-done token.Eol ts h = refl
not-done token.Done ts h = absurd (h refl)

is-done : (t : Token) (ts : List Tok) → tok t ≡ Done → after_token t ts ≡ []
is-done token.Left ts e = absurd cc
is-done token.Right ts e = absurd cc
is-done token.Semi ts e = absurd cc
is-done (token.Atom a) ts e = absurd cc
is-done token.Eol ts e = absurd cc
is-done token.Done ts e = refl

pub ahead_is : (t : Token) (old new : Position) → ScansOne (tok t) old new → IsAhead (Some (t, new)) old
ahead_is t old new (inl h) = h.1 ∙ rw (h.0, is-done t (tokens_at new) h.0) refl
ahead_is t old new (inr h) = h.1 ∙ ap (λ (ts : List Tok). tok t ∷ ts) (sym (not-done t (tokens_at new) h.0))

pub ahead_last : (t : Token) (old new : Position) → ScansOne (tok t) old new → Passes (tok t) old new → last_line new ≡ last_line old
ahead_last t old new (inl h) p = ap last_line h.2
ahead_last t old new (inr h) p = let e : eols (tokens_at old) ≡ eol (tok t) + eols (tokens_at new) = ap eols h.1 in omega (arith, p.line, e)

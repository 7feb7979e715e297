-- Writing tokens one by one.
use Rattle.std.specs.Prelude.{◌≡◌, ℕ, List, [], ◌∷◌, ◌++◌}
use base.Fml.{GName}
use Rattle.mc_text.specs.Tokens.{Tok, before_next, token_text}
use Rattle.mc_text.specs.declared.token.Before.{Before}
use Rattle.mc_text.specs.declared.token.Before.TheVariants.{Start}
use Rattle.mc_text.specs.declared.pen.Pen.{Pen}

-- which text is written, its bytes, and what stands before the next token
pub record Page : Type 0 where
  pub place : GName
  pub bytes : List ℕ
  pub before : Before

-- what a pen has written
abbrev pub page : Pen → Page
page p = record { place = p.out.ghost_name; bytes = p.out.now; before = p.before }

-- a page on which nothing was written after those bytes
abbrev pub begun : GName → List ℕ → Page
begun place bytes = record { place = place; bytes = bytes; before = Start }

-- the page with a further token
unfoldable pub put : Tok → Page → Page
put t p = record { place = p.place; bytes = p.bytes ++ token_text p.before t; before = before_next t }

-- the page with further tokens
unfoldable pub print : List Tok → Page → Page
print [] p = p
print (t ∷ ts) p = print ts (put t p)

-- the text begins with those bytes
pub record BeginsWith (prefix whole : List ℕ) : Type 0 where
  pub rest : List ℕ
  pub is : whole ≡ prefix ++ rest

-- the same text, and what stood on the page before is a prefix of it
pub record Keeps (old new : Page) : Type 0 where
  pub place : new.place ≡ old.place
  pub prefix : BeginsWith old.bytes new.bytes

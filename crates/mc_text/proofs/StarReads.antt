-- A loop that reads items as long as one follows stops where the reading function does.
use Rattle.std.proofs.Common.{◌≡◌, true, Bool, List, Err}
use Rattle.mc_text.specs.Tokens.{Tok, Position}
use Rattle.mc_text.specs.Reading.{Reader, star, goes_on}
use Rattle.mc_text.specs.inner.Reading.{with_prefix}
use Rattle.mc_text.specs.Scanning.{tokens_at}
use Rattle.mc_text.proofs.Star.{Shrinks, star-fails}
use Rattle.mc_text.specs.declared.cursor.TokenError.{TokenError}
use Rattle.mc_text.specs.declared.cursor.TokenError.TheVariants as stop
use Rattle.mc_text.specs.Outcome.{Gives}

pub star-stopped : {X Y Z : Type 0} (view : X → Y) (views : Z → List Y) (go : Tok → Bool) (r : Reader Y) (small : Shrinks r) (e : TokenError) (front : List Y) (old at new : Position)
    → goes_on go (tokens_at at) ≡ true → Gives view (Err e) at new r → with_prefix front (star go r (tokens_at at)) ≡ star go r (tokens_at old) → Gives views (Err e) old new (star go r)
star-stopped view views go r small stop.Bad front old at new g h told = star-fails go r small front (tokens_at at) (tokens_at new) (star go r (tokens_at old)) g h told
star-stopped view views go r small stop.NoMemory front old at new g h told = tt

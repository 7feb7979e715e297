-- A reader with a law reads an item by its spelling, and an item has one spelling.
use Rattle.std.proofs.Common.{◌≡◌, List, ◌++◌, Result, Ok, Err, sym, ap, ◌∙◌}
use Rattle.mc_text.specs.Tokens.{Tok, Position}
use Rattle.mc_text.specs.Scanning.{tokens_at}
use Rattle.mc_text.specs.Reading.{Reader}
use Rattle.mc_text.specs.Outcome.{Gives}
use Rattle.mc_text.specs.Item.{ReadsItem}
use Rattle.mc_text.specs.declared.cursor.TokenError.{TokenError}
use Rattle.mc_text.specs.declared.cursor.TokenError.TheVariants as stop
use Rattle.mc_text.proofs.ReaderLaws.{Reads, ok-not-err, ok-value, ok-rest}

pub reads-item : {X Y : Type 0} (view : X → Y) (read : Reader Y) (Fits : Y → Type 0) (spelling : Y → List Tok) → Reads read Fits spelling → (result : Result X TokenError) (old new : Position) → Gives view result old new read → ReadsItem view Fits spelling result old new
reads-item view read Fits spelling law (Ok x) old new e = let h = law.takes (tokens_at old) (view x) (tokens_at new) e in (h.1, h.0)
reads-item view read Fits spelling law (Err stop.Bad) old new e = λ y rest h is. ok-not-err y rest (tokens_at new) (sym (law.again y rest h) ∙ sym (ap read is) ∙ e)
reads-item view read Fits spelling law (Err stop.NoMemory) old new e = tt

pub item-once : {X : Type 0} (read : Reader X) (Fits : X → Type 0) (spelling : X → List Tok) → Reads read Fits spelling → (x y : X) (rest more : List Tok) → Fits x → Fits y → spelling x ++ rest ≡ spelling y ++ more → (x ≡ y) × (rest ≡ more)
item-once {X} read Fits spelling law x y rest more h k e =
    let same : Ok (x, rest) ≡ Ok (y, more) = sym (law.again x rest h) ∙ ap read e ∙ law.again y more k in
    (ok-value x y rest more same, ok-rest x y rest more same)

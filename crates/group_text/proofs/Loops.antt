-- Loops that read at most, or just, so many items.
use Rattle.std.proofs.Common.{◌≡◌, ℕ, zero, suc, ◌+◌, ◌-◌, ◌<◌, ◌≤◌, arith, length, length-append, refl, false, true≢false, true, Bool, List, [], ◌∷◌, ◌++◌, map, Ok, sym, ap, ◌∙◌}
use Rattle.std.proofs.lemmas.List.{map-append}
use Rattle.mc_text.specs.Tokens.{Tok}
use Rattle.mc_text.specs.Reading.{Reader, many, goes_on}
use Rattle.mc_text.specs.inner.Reading.{times, with_prefix}
use Rattle.mc_text.proofs.ReaderLaws.{Out}
use Rattle.mc_text.proofs.Turns.{times-more, times-ends, many-more}

pub times-pushed : {X Y : Type 0} (view : X → Y) (r : Reader Y) (n m : ℕ) (items : List X) (x : X) (more : List X) (ts rest : List Tok) (total : Out (List Y))
    → n ≡ suc m → more ≡ items ++ x ∷ [] → r ts ≡ Ok (view x, rest) → with_prefix (map view items) (times n r ts) ≡ total → with_prefix (map view more) (times m r rest) ≡ total
times-pushed view r n m items x more ts rest total count p e h =
    rw (p, map-append) (times-more r m (map view items) ts (view x) rest total e (ap (λ (k : ℕ). with_prefix (map view items) (times k r ts)) (sym count) ∙ h))

pub many-pushed : {X Y : Type 0} (view : X → Y) (go : Tok → Bool) (r : Reader Y) (n m : ℕ) (items : List X) (x : X) (more : List X) (ts rest : List Tok) (total : Out (List Y))
    → n ≡ suc m → more ≡ items ++ x ∷ [] → goes_on go ts ≡ true → r ts ≡ Ok (view x, rest) → with_prefix (map view items) (many n go r ts) ≡ total → with_prefix (map view more) (many m go r rest) ≡ total
many-pushed view go r n m items x more ts rest total count p g e h =
    rw (p, map-append) (many-more go r m (map view items) ts (view x) rest total g e (ap (λ (k : ℕ). with_prefix (map view items) (many k go r ts)) (sym count) ∙ h))

-- what is left of a number that isn't zero
pub one-less : (n : ℕ) → 0 < n → n ≡ suc (n - 1)
one-less n lt = omega (arith, lt)

pub none-left : {X : Type 0} (r : Reader X) (front : List X) (n : ℕ) (ts : List Tok) (total : Out (List X)) → n ≤ 0 → with_prefix front (times n r ts) ≡ total → total ≡ Ok (front, ts)
none-left r front zero ts total le h = times-ends r front ts total h
none-left r front (suc n) ts total le h = absurd (omega (arith, le))

pub one-longer : {X : Type 0} (items : List X) (x : X) (more : List X) → more ≡ items ++ x ∷ [] → length more ≡ length items + 1
one-longer items x more e = let len : length more ≡ length (items ++ x ∷ []) = ap length e in omega (arith, len, length-append items (x ∷ []))

pub none-mapped : {X Y : Type 0} (f : X → Y) (items : List X) → items ≡ [] → map f items ≡ []
none-mapped f items e = ap (map f) e

pub some-mapped : {X Y : Type 0} (f : X → Y) (items : List X) (b : Bool) → (items ≡ [] → b ≡ true) → b ≡ false → 1 ≤ length (map f items)
some-mapped f [] b h e = absurd (true≢false (sym (h refl) ∙ e))
some-mapped f (x ∷ items) b h e = omega arith

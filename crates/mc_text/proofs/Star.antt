-- A list is read item by item, whatever bound it is read with.
use Rattle.std.proofs.Common.{◌≡◌, ℕ, zero, suc, ◌<◌, ◌≤◌, Bool, true, false, cond, List, [], ◌∷◌, ◌++◌, length, map, Result, Ok, Err, refl, sym, ap, ◌∙◌, arith, append_assoc}
use Rattle.std.proofs.lemmas.List.{append-nil, map-append}
use Rattle.mc_text.specs.Tokens.{Tok}
use Rattle.mc_text.specs.Reading.{Reader, ◌>>=◌, pair, made, many, star, goes_on}
use Rattle.mc_text.specs.inner.Reading.{with_prefix}

-- what is read takes at least one token
abbrev pub Shrinks : {X : Type 0} → Reader X → Type 0
Shrinks {X} r = (ts : List Tok) (x : X) (rest : List Tok) → r ts ≡ Ok (x, rest) → length rest < length ts

abbrev Out : Type 0 → Type 0
Out Y = Result (Y × List Tok) (List Tok)

-- what was read before is in front of what is read now
pub again-front : {X : Type 0} (front : List X) (x : X) (q : Out (List X)) → with_prefix front (◌>>=◌ {A = List X × List Tok} {B = List X × List Tok} q (λ xs. Ok (x ∷ xs.0, xs.1))) ≡ with_prefix (front ++ x ∷ []) q
again-front {X} front x (Ok xs) = ap (λ (ys : List X). Ok (ys, xs.1)) (sym (append_assoc front (x ∷ []) xs.0))
again-front front x (Err bad) = refl

pub item-is : {X : Type 0} (x : X) (q : Out (List X)) → ◌>>=◌ {A = (X × List X) × List Tok} {B = List X × List Tok} (◌>>=◌ {A = List X × List Tok} {B = (X × List X) × List Tok} q (λ xs. Ok ((x, xs.0), xs.1))) (λ p. Ok (p.0.0 ∷ p.0.1, p.1)) ≡ ◌>>=◌ {A = List X × List Tok} {B = List X × List Tok} q (λ xs. Ok (x ∷ xs.0, xs.1))
item-is x (Ok xs) = refl
item-is x (Err bad) = refl

module _ {X : Type 0} (go : Tok → Bool) (r : Reader X) (small : Shrinks r) where
  -- an item, and the others as f reads them
  abbrev item : Reader (List X) → Out X → Out (List X)
  item f q = ◌>>=◌ {A = (X × List X) × List Tok} {B = List X × List Tok} (◌>>=◌ {A = X × List Tok} {B = (X × List X) × List Tok} q (λ p. ◌>>=◌ {A = List X × List Tok} {B = (X × List X) × List Tok} (f p.1) (λ xs. Ok ((p.0, xs.0), xs.1)))) (λ p. Ok (p.0.0 ∷ p.0.1, p.1))

  alike-item : (f g : Reader (List X)) (ts : List Tok) (q : Out X) → r ts ≡ q → ((us : List Tok) → length us < length ts → f us ≡ g us) → item f q ≡ item g q
  alike-item f g ts (Ok p) e h = rw (h p.1 (small ts p.0 p.1 e)) refl
  alike-item f g ts (Err bad) e h = refl

  pub enough : (n m : ℕ) (ts : List Tok) → length ts ≤ n → length ts ≤ m → many n go r ts ≡ many m go r ts
  unfolding many
  enough zero zero ts a b = refl
  enough zero (suc m) [] a b = refl
  enough zero (suc m) (t ∷ ts) a b = absurd (omega arith)
  enough (suc n) zero [] a b = refl
  enough (suc n) zero (t ∷ ts) a b = absurd (omega arith)
  enough (suc n) (suc m) [] a b = refl
  enough (suc n) (suc m) (t ∷ ts) a b =
      ap (λ (y : Out (List X)). cond (go t) y (Ok ([], t ∷ ts))) (alike-item (many n go r) (many m go r) (t ∷ ts) (r (t ∷ ts)) refl (λ us lt. enough n m us (omega arith) (omega arith)))

  pub star-item : (t : Tok) (ts : List Tok) → go t ≡ true → star go r (t ∷ ts) ≡ made (λ (x : X × List X). x.0 ∷ x.1) (pair r (star go r)) (t ∷ ts)
  unfolding many
  star-item t ts e = rw e (alike-item (many (length ts) go r) (star go r) (t ∷ ts) (r (t ∷ ts)) refl (λ us lt. enough (length ts) (length us) us (omega arith) (omega arith)))

  pub star-end : (t : Tok) (ts : List Tok) → go t ≡ false → star go r (t ∷ ts) ≡ Ok ([], t ∷ ts)
  unfolding many
  star-end t ts e = rw e refl

  -- the item at the front, and the others
  pub star-more : (front : List X) (ts : List Tok) (x : X) (rest : List Tok) (total : Out (List X)) → goes_on go ts ≡ true → r ts ≡ Ok (x, rest) → with_prefix front (star go r ts) ≡ total → with_prefix (front ++ x ∷ []) (star go r rest) ≡ total
  star-more front [] x rest total g e h = absurd cc
  star-more front (t ∷ ts) x rest total g e h =
      let one : star go r (t ∷ ts) ≡ ◌>>=◌ {A = List X × List Tok} {B = List X × List Tok} (star go r rest) (λ xs. Ok (x ∷ xs.0, xs.1)) = star-item t ts g ∙ rw e (item-is x (star go r rest)) in
      sym (again-front front x (star go r rest)) ∙ sym (ap (with_prefix front) one) ∙ h

  pub star-fails : (front : List X) (ts bad : List Tok) (total : Out (List X)) → goes_on go ts ≡ true → r ts ≡ Err bad → with_prefix front (star go r ts) ≡ total → total ≡ Err bad
  star-fails front [] bad total g e h = absurd cc
  star-fails front (t ∷ ts) bad total g e h =
      let one : star go r (t ∷ ts) ≡ Err bad = star-item t ts g ∙ rw e refl in
      sym h ∙ ap (with_prefix front) one

  pub star-ends : (front : List X) (ts : List Tok) (total : Out (List X)) → goes_on go ts ≡ false → with_prefix front (star go r ts) ≡ total → total ≡ Ok (front, ts)
  unfolding many
  star-ends front [] total g h = sym h ∙ ap (λ (xs : List X). Ok (xs, [])) (append-nil front)
  star-ends front (t ∷ ts) total g h = sym h ∙ ap (with_prefix front) (star-end t ts g) ∙ ap (λ (xs : List X). Ok (xs, t ∷ ts)) (append-nil front)

pub star-pushed : {X Y : Type 0} (view : X → Y) (go : Tok → Bool) (r : Reader Y) (small : Shrinks r) (items : List X) (x : X) (more : List X) (ts rest : List Tok) (total : Result (List Y × List Tok) (List Tok))
    → more ≡ items ++ x ∷ [] → goes_on go ts ≡ true → r ts ≡ Ok (view x, rest) → with_prefix (map view items) (star go r ts) ≡ total → with_prefix (map view more) (star go r rest) ≡ total
star-pushed view go r small items x more ts rest total p g e h =
    rw (p, map-append) (star-more go r small (map view items) ts (view x) rest total g e h)

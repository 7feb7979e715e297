-- Loops that read at most, or just, so many items: what was read, in front of what is left to read.
use Rattle.std.proofs.Common.{◌≡◌, ℕ, zero, suc, Bool, true, false, List, [], ◌∷◌, ◌++◌, Ok, Err, refl, sym, ap, ◌∙◌}
use Rattle.std.proofs.lemmas.List.{append-nil}
use Rattle.mc_text.specs.Tokens.{Tok}
use Rattle.mc_text.specs.Reading.{Reader, ◌>>=◌, many, goes_on}
use Rattle.mc_text.specs.inner.Reading.{times, with_prefix}
use Rattle.mc_text.proofs.ReaderLaws.{Out}
use Rattle.mc_text.proofs.Star.{again-front, item-is}

module _ {X : Type 0} (go : Tok → Bool) (r : Reader X) where
  pub many-one : (n : ℕ) (ts : List Tok) (x : X) (rest : List Tok) → goes_on go ts ≡ true → r ts ≡ Ok (x, rest) → many (suc n) go r ts ≡ ◌>>=◌ {A = List X × List Tok} {B = List X × List Tok} (many n go r rest) (λ xs. Ok (x ∷ xs.0, xs.1))
  unfolding many
  many-one n [] x rest g e = absurd cc
  many-one n (t ∷ ts) x rest g e = rw (g, e) (item-is x (many n go r rest))

  pub many-more : (n : ℕ) (front : List X) (ts : List Tok) (x : X) (rest : List Tok) (total : Out (List X)) → goes_on go ts ≡ true → r ts ≡ Ok (x, rest) → with_prefix front (many (suc n) go r ts) ≡ total → with_prefix (front ++ x ∷ []) (many n go r rest) ≡ total
  many-more n front ts x rest total g e h = sym (again-front front x (many n go r rest)) ∙ sym (ap (with_prefix front) (many-one n ts x rest g e)) ∙ h

  pub many-stop : (n : ℕ) (ts bad : List Tok) → goes_on go ts ≡ true → r ts ≡ Err bad → many (suc n) go r ts ≡ Err bad
  unfolding many
  many-stop n [] bad g e = absurd cc
  many-stop n (t ∷ ts) bad g e = rw (g, e) refl

  pub many-fails : (n : ℕ) (front : List X) (ts bad : List Tok) (total : Out (List X)) → goes_on go ts ≡ true → r ts ≡ Err bad → with_prefix front (many (suc n) go r ts) ≡ total → total ≡ Err bad
  many-fails n front ts bad total g e h = sym h ∙ ap (with_prefix front) (many-stop n ts bad g e)

  pub many-none : (n : ℕ) (ts : List Tok) → goes_on go ts ≡ false → many n go r ts ≡ Ok ([], ts)
  unfolding many
  many-none zero ts g = refl
  many-none (suc n) [] g = refl
  many-none (suc n) (t ∷ ts) g = rw g refl

  pub many-ends : (n : ℕ) (front : List X) (ts : List Tok) (total : Out (List X)) → goes_on go ts ≡ false → with_prefix front (many n go r ts) ≡ total → total ≡ Ok (front, ts)
  many-ends n front ts total g h = sym h ∙ ap (with_prefix front) (many-none n ts g) ∙ ap (λ (xs : List X). Ok (xs, ts)) (append-nil front)

  pub many-full : (front : List X) (ts : List Tok) (total : Out (List X)) → with_prefix front (many zero go r ts) ≡ total → total ≡ Ok (front, ts)
  unfolding many
  many-full front ts total h = sym h ∙ ap (λ (xs : List X). Ok (xs, ts)) (append-nil front)

module _ {X : Type 0} (r : Reader X) where
  times-one : (n : ℕ) (ts : List Tok) (x : X) (rest : List Tok) → r ts ≡ Ok (x, rest) → times (suc n) r ts ≡ ◌>>=◌ {A = List X × List Tok} {B = List X × List Tok} (times n r rest) (λ xs. Ok (x ∷ xs.0, xs.1))
  unfolding times
  times-one n ts x rest e = rw e (item-is x (times n r rest))

  pub times-more : (n : ℕ) (front : List X) (ts : List Tok) (x : X) (rest : List Tok) (total : Out (List X)) → r ts ≡ Ok (x, rest) → with_prefix front (times (suc n) r ts) ≡ total → with_prefix (front ++ x ∷ []) (times n r rest) ≡ total
  times-more n front ts x rest total e h = sym (again-front front x (times n r rest)) ∙ sym (ap (with_prefix front) (times-one n ts x rest e)) ∙ h

  times-stop : (n : ℕ) (ts bad : List Tok) → r ts ≡ Err bad → times (suc n) r ts ≡ Err bad
  unfolding times
  times-stop n ts bad e = rw e refl

  pub times-fails : (n : ℕ) (front : List X) (ts bad : List Tok) (total : Out (List X)) → r ts ≡ Err bad → with_prefix front (times (suc n) r ts) ≡ total → total ≡ Err bad
  times-fails n front ts bad total e h = sym h ∙ ap (with_prefix front) (times-stop n ts bad e)

  pub times-ends : (front : List X) (ts : List Tok) (total : Out (List X)) → with_prefix front (times zero r ts) ≡ total → total ≡ Ok (front, ts)
  unfolding times
  times-ends front ts total h = sym h ∙ ap (λ (xs : List X). Ok (xs, ts)) (append-nil front)

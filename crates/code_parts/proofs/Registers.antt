-- Registers that pass a test.
use Rattle.std.proofs.Common.{◌≡◌, ℕ, zero, suc, ◌+◌, ◌<◌, ◌≤◌, List, [], ◌∷◌, filter, Bool, true, false, cond, eqb, ◌||◌, refl, sym, ap, ◌∙◌, subst, arith, Contains, eqb-true}
use Rattle.std.proofs.lemmas.Bool.{eqb-false}
use Rattle.std.specs.List.{range_with_len}
use Rattle.tailrec_lang.specs.Registers.{AreRegistersFrom}
use Rattle.code_parts.proofs.Lists.{later}

pub filter-rise : (p : ℕ → Bool) (a n : ℕ) → a + n ≤ 32 → AreRegistersFrom a (filter p (range_with_len a n))
filter-rise p a zero le = tt
filter-rise p a (suc n) le = go (p a) (filter-rise p (a + 1) n (omega arith))
  where
    up : (b c : ℕ) (xs : List ℕ) → b ≤ c → AreRegistersFrom c xs → AreRegistersFrom b xs
    up b c [] low h = tt
    up b c (x ∷ xs) low h = (omega (arith, h.0, low), h.1, h.2)

    go : (b : Bool) → AreRegistersFrom (a + 1) (filter p (range_with_len (a + 1) n)) → AreRegistersFrom a (cond b (a ∷ filter p (range_with_len (a + 1) n)) (filter p (range_with_len (a + 1) n)))
    go true h = (omega arith, omega arith, h)
    go false h = up a (a + 1) (filter p (range_with_len (a + 1) n)) (omega arith) h

pub filter-has : (p : ℕ → Bool) (a n r : ℕ) → a ≤ r → r < a + n → p r ≡ true → Contains (filter p (range_with_len a n)) r
filter-has p a zero r low high e = absurd (omega arith)
filter-has p a (suc n) r low high e = go (eqb a r) refl (λ more. filter-has p (a + 1) n r more (omega (arith, high)) e)
  where
    put : (b : Bool) → Contains (filter p (range_with_len (a + 1) n)) r → Contains (cond b (a ∷ filter p (range_with_len (a + 1) n)) (filter p (range_with_len (a + 1) n))) r
    put true c = later a (filter p (range_with_len (a + 1) n)) r c
    put false c = c

    go : (b : Bool) → eqb a r ≡ b → (a + 1 ≤ r → Contains (filter p (range_with_len (a + 1) n)) r) → Contains (cond (p a) (a ∷ filter p (range_with_len (a + 1) n)) (filter p (range_with_len (a + 1) n))) r
    go true is on =
        let same : a ≡ r = eqb-true a r is in
        subst (λ b. Contains (cond b (a ∷ filter p (range_with_len (a + 1) n)) (filter p (range_with_len (a + 1) n))) r) (sym (ap p same ∙ e)) (0, omega arith, same)
    go false is on = let ne = eqb-false a r is in put (p a) (on (above a r low ne))
      where
        above : (a r : ℕ) → a ≤ r → (a ≡ r → ⊥) → a + 1 ≤ r
        above a r low ne = omega (arith, low, ne)

pub or_left : (b c : Bool) → b ≡ true → (b || c) ≡ true
or_left true c e = refl
or_left false c e = absurd (cc)

pub or_right : (b c : Bool) → c ≡ true → (b || c) ≡ true
or_right true c e = refl
or_right false c e = e

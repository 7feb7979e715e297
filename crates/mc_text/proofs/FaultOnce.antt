-- A text leaves a grammar at one line.
use Rattle.std.proofs.Common.{◌≡◌, ℕ, zero, suc, ◌+◌, ◌-◌, ◌<◌, Bool, true, false, eqb, List, [], ◌∷◌, ◌++◌, Option, Some, None, refl, sym, ap, subst, ◌∙◌, append_assoc, arith}
use Rattle.std.specs.Prelude.{option_map}
use Rattle.mc_text.specs.Fault.{first_lines, Grammar, LinesBegin, IsBadAt}
use Rattle.mc_text.proofs.FaultLine.{AreThere, there, first-step}

-- ---- one line less

abbrev Fewer : ℕ → List ℕ → List ℕ → Type 0
Fewer n p w = (v : List ℕ) × (first_lines n p ≡ Some v) × (more : List ℕ) × (w ≡ v ++ more)

behind-byte : (b : ℕ) (o : Option (List ℕ)) (w : List ℕ) → option_map (λ (f : List ℕ). b ∷ f) o ≡ Some w → (m : List ℕ) × (o ≡ Some m) × (b ∷ m ≡ w)
behind-byte b None w e = absurd cc
behind-byte b (Some m) w e = (m, refl, cc)

none-there : (w : List ℕ) → None ≡ Some w → ⊥
none-there w e = cc

one-less : (n b : ℕ) (bs w m : List ℕ) (o : Option (List ℕ)) → first_lines (suc n) (b ∷ bs) ≡ option_map (λ (f : List ℕ). b ∷ f) o → b ∷ m ≡ w → (v : List ℕ) × (o ≡ Some v) × (more : List ℕ) × (m ≡ v ++ more) → Fewer (suc n) (b ∷ bs) w
one-less n b bs w m o e same r = (b ∷ r.0, e ∙ ap (option_map (λ (f : List ℕ). b ∷ f)) r.1, r.2, sym same ∙ ap (λ (v : List ℕ). b ∷ v) r.3)

fewer-by : (n b : ℕ) (bs w : List ℕ) (f : Bool) → eqb b 10 ≡ f → ((k : ℕ) (m : List ℕ) → first_lines (suc k) bs ≡ Some m → Fewer k bs m) → first_lines (suc (suc n)) (b ∷ bs) ≡ Some w → Fewer (suc n) (b ∷ bs) w
fewer-by n b bs w true g ih e =
    let m = behind-byte b (first_lines (suc n) bs) w (sym (first-step b bs (suc n) true g) ∙ e) in
    one-less n b bs w m.0 (first_lines n bs) (first-step b bs n true g) m.2 (ih n m.0 m.1)
fewer-by n b bs w false g ih e =
    let m = behind-byte b (first_lines (suc (suc n)) bs) w (sym (first-step b bs (suc n) false g) ∙ e) in
    one-less n b bs w m.0 (first_lines (suc n) bs) (first-step b bs n false g) m.2 (ih (suc n) m.0 m.1)

fewer : (p : List ℕ) (n : ℕ) (w : List ℕ) → first_lines (suc n) p ≡ Some w → Fewer n p w
unfolding first_lines
fewer p zero w e = ([], refl, w, refl)
fewer [] (suc n) w e = absurd (none-there w e)
fewer (b ∷ bs) (suc n) w e = fewer-by n b bs w (eqb b 10) refl (λ k m q. fewer bs k m q) e

-- ---- fewer lines

module _ {X : Type 0} (g : Grammar X) (p : List ℕ) where
  begins-less : (n : ℕ) → LinesBegin g p (suc n) → LinesBegin g p n
  begins-less n h =
      let t = there g (first_lines (suc n) p) h in
      let f = fewer p n t.0 t.1 in
      let b = t.2 in
      subst (AreThere g) (sym f.1) (b.0, b.1, f.2 ++ b.2, b.3 ∙ ap (λ (v : List ℕ). v ++ b.2) f.3 ∙ append_assoc f.0 f.2 b.2)

  begins-up-to : (k m n : ℕ) → n ≡ k + m → LinesBegin g p n → LinesBegin g p m
  begins-up-to zero m n e h = subst (LinesBegin g p) (let same : n ≡ m = omega (arith, e) in same) h
  begins-up-to (suc k) m n e h = begins-up-to k m (k + m) refl (begins-less (k + m) (subst (LinesBegin g p) (let same : n ≡ suc (k + m) = omega (arith, e) in same) h))

  not-before : (m n : ℕ) → IsBadAt g p (suc m) → IsBadAt g p (suc n) → m < n → ⊥
  not-before m n h k lt = h.2 (begins-up-to (n - suc m) (suc m) n (omega (arith, lt)) k.1)

  pub bad-once : (m n : ℕ) → IsBadAt g p m → IsBadAt g p n → m ≡ n
  bad-once zero n h k = absurd h
  bad-once (suc m) zero h k = absurd k
  bad-once (suc m) (suc n) h k = omega (arith, not-before m n h k, not-before n m k h)

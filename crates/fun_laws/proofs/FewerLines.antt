-- Where some lines begin a text of a grammar, fewer do.
use Rattle.std.proofs.Common.{◌≡◌, ℕ, zero, suc, ◌+◌, ◌-◌, ◌≤◌, Bool, true, false, eqb, List, [], ◌∷◌, ◌++◌, Option, Some, None, refl, sym, ap, subst, ◌∙◌, append_assoc, arith}
use Rattle.std.specs.Prelude.{option_map}
use Rattle.mc_text.specs.Fault.{first_lines, Grammar, LinesBegin}
use Rattle.mc_text.proofs.FaultLine.{AreThere, there, first-step}

-- one line less of these lines
abbrev Fewer : ℕ → List ℕ → List ℕ → Type 0
Fewer n p w = (v : List ℕ) × (first_lines n p ≡ Some v) × (more : List ℕ) × (w ≡ v ++ more)

behind-byte : (b : ℕ) (o : Option (List ℕ)) (w : List ℕ) → option_map (λ (f : List ℕ). b ∷ f) o ≡ Some w → (m : List ℕ) × (o ≡ Some m) × (b ∷ m ≡ w)
behind-byte b None w e = absurd cc
behind-byte b (Some m) w e = (m, refl, cc)

by-byte : (n b : ℕ) (bs w : List ℕ) (f : Bool) → eqb b 10 ≡ f → ((k : ℕ) (m : List ℕ) → first_lines (suc k) bs ≡ Some m → Fewer k bs m) → first_lines (suc (suc n)) (b ∷ bs) ≡ Some w → Fewer (suc n) (b ∷ bs) w
by-byte n b bs w true g ih e =
    let m = behind-byte b (first_lines (suc n) bs) w (sym (first-step b bs (suc n) true g) ∙ e) in
    let r = ih n m.0 m.1 in
    (b ∷ r.0, first-step b bs n true g ∙ ap (option_map (λ (f : List ℕ). b ∷ f)) r.1, r.2, sym m.2 ∙ ap (λ (v : List ℕ). b ∷ v) r.3)
by-byte n b bs w false g ih e =
    let m = behind-byte b (first_lines (suc (suc n)) bs) w (sym (first-step b bs (suc n) false g) ∙ e) in
    let r = ih (suc n) m.0 m.1 in
    (b ∷ r.0, first-step b bs n false g ∙ ap (option_map (λ (f : List ℕ). b ∷ f)) r.1, r.2, sym m.2 ∙ ap (λ (v : List ℕ). b ∷ v) r.3)

fewer : (p : List ℕ) (n : ℕ) (w : List ℕ) → first_lines (suc n) p ≡ Some w → Fewer n p w
unfolding first_lines
fewer p zero w e = ([], refl, w, refl)
fewer [] (suc n) w e = absurd cc
fewer (b ∷ bs) (suc n) w e = by-byte n b bs w (eqb b 10) refl (λ k m q. fewer bs k m q) e

module _ {X : Type 0} (g : Grammar X) (p : List ℕ) where
  begins-less : (n : ℕ) → LinesBegin g p (suc n) → LinesBegin g p n
  begins-less n h =
      let t = there g (first_lines (suc n) p) h in
      let f = fewer p n t.0 t.1 in
      let b = t.2 in
      subst (AreThere g) (sym f.1) (b.0, b.1, f.2 ++ b.2, b.3 ∙ ap (λ (v : List ℕ). v ++ b.2) f.3 ∙ append_assoc f.0 f.2 b.2)

  begins-by : (k m n : ℕ) → n ≡ k + m → LinesBegin g p n → LinesBegin g p m
  begins-by zero m n e h = subst (LinesBegin g p) (let same : n ≡ m = omega (arith, e) in same) h
  begins-by (suc k) m n e h = begins-by k m (k + m) refl (begins-less (k + m) (subst (LinesBegin g p) (let same : n ≡ suc (k + m) = omega (arith, e) in same) h))

  pub begins-up-to : (m n : ℕ) → m ≤ n → LinesBegin g p n → LinesBegin g p m
  begins-up-to m n le = begins-by (n - m) m n (omega (arith, le))

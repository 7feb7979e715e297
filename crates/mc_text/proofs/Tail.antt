-- A rest without a newline is no line: what was said of the lines before holds with it, and it ends no text.
use Rattle.std.proofs.Common.{◌≡◌, ℕ, zero, suc, Bool, true, false, cond, eqb, List, [], ◌∷◌, ◌++◌, None, refl, sym, ap, subst, ◌∙◌, arith}
use Rattle.std.specs.Prelude.{option_map}
use Rattle.std.proofs.lemmas.List.{append-nil}
use Rattle.mc_text.specs.Fault.{first_lines, Grammar, InGrammar, IsBadAt, newlines}
use Rattle.mc_text.proofs.FaultLine.{AreLines, AreThere, EndsByte, one-newline, first-step, lines-zeroth, lines-next}

-- a byte more
pub count-cons : (b : ℕ) (bs : List ℕ) (f : Bool) → eqb b 10 ≡ f → newlines (b ∷ bs) ≡ cond f (suc (newlines bs)) (newlines bs)
count-cons b bs f e = ap (λ (g : Bool). cond g (suc (newlines bs)) (newlines bs)) e

none-step : (n b : ℕ) (bs : List ℕ) (f : Bool) → eqb b 10 ≡ f → newlines (b ∷ bs) ≡ 0 → (newlines bs ≡ 0 → first_lines (suc n) bs ≡ None) → first_lines (suc n) (b ∷ bs) ≡ None
none-step n b bs true g e ih = absurd (omega (arith, sym (count-cons b bs true g) ∙ e))
none-step n b bs false g e ih = first-step b bs n false g ∙ ap (option_map (λ (x : List ℕ). b ∷ x)) (ih (sym (count-cons b bs false g) ∙ e))

none-first : (n : ℕ) (tail : List ℕ) → newlines tail ≡ 0 → first_lines (suc n) tail ≡ None
unfolding first_lines
none-first n [] e = refl
none-first n (b ∷ bs) e = none-step n b bs (eqb b 10) refl e (none-first n bs)

-- the lines are those of the bytes before
pub first-before : (n : ℕ) (p tail : List ℕ) → newlines tail ≡ 0 → first_lines n (p ++ tail) ≡ first_lines n p
unfolding first_lines
first-before zero p tail e = refl
first-before (suc n) [] tail e = none-first n tail e
first-before (suc n) (b ∷ p) tail e = rw (first-before n p tail e, first-before (suc n) p tail e) refl

ends-with : (c b : ℕ) (w bs : List ℕ) → EndsByte c (w ++ b ∷ bs) → EndsByte b bs
ends-with c b [] bs h = h
ends-with c b (d ∷ w) bs h = ends-with d b w bs h

-- whole lines don't end so
no-lines : (p : List ℕ) (b : ℕ) (bs : List ℕ) → newlines (b ∷ bs) ≡ 0 → AreLines (p ++ b ∷ bs) → ⊥
no-lines [] b bs e h = let i = one-newline b bs h in omega (arith, e, i.1)
no-lines (c ∷ p) b bs e h = let i = one-newline b bs (ends-with c b p bs h) in omega (arith, e, i.1)

module _ {X : Type 0} (g : Grammar X) (lines : (x : X) → g.Has x → AreLines (g.text x)) where
  not-whole : (p : List ℕ) (b : ℕ) (bs : List ℕ) → newlines (b ∷ bs) ≡ 0 → InGrammar g (p ++ b ∷ bs) → ⊥
  not-whole p b bs e h = no-lines p b bs e (subst AreLines (sym h.2) (lines h.0 h.1))

  still-out : (p tail : List ℕ) → newlines tail ≡ 0 → (InGrammar g p → ⊥) → InGrammar g (p ++ tail) → ⊥
  still-out p [] e out h = out (subst (InGrammar g) (append-nil p) h)
  still-out p (b ∷ bs) e out h = not-whole p b bs e h

  pub bad-tail : (p tail : List ℕ) (n : ℕ) → newlines tail ≡ 0 → IsBadAt g p n → IsBadAt g (p ++ tail) n
  bad-tail p tail zero e h = h
  bad-tail p tail (suc n) e h =
      (still-out p tail e h.0, subst (AreThere g) (sym (first-before n p tail e)) h.1, λ k. h.2 (subst (AreThere g) (first-before (suc n) p tail e) k))

  -- behind a whole text
  pub bad-end : (x : X) (tail : List ℕ) → g.Has x → (tail ≡ [] → ⊥) → newlines tail ≡ 0 → IsBadAt g (g.text x ++ tail) (suc (newlines (g.text x)))
  bad-end x [] h some e = absurd (some refl)
  bad-end x (b ∷ bs) h some e =
      let w : List ℕ = g.text x in
      let p : List ℕ = w ++ b ∷ bs in
      let next : first_lines (suc (newlines w)) p ≡ None = lines-next w p (b ∷ bs) refl (lines x h) ∙ ap (option_map (λ (f : List ℕ). w ++ f)) (none-first 0 (b ∷ bs) e) in
      (not-whole w b bs e, subst (AreThere g) (sym (lines-zeroth w p (b ∷ bs) refl (lines x h))) (x, h, [], sym (append-nil w)), λ k. subst (AreThere g) next k)

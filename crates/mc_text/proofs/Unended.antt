-- Where no line ends, no token ends one.
use Rattle.std.proofs.Common.{◌≡◌, ℕ, ◌+◌, Bool, true, false, eqb, List, [], ◌∷◌, Option, Some, None, refl, sym, ap, ◌∙◌}
use Rattle.std.specs.Prelude.{option_map}
use Rattle.std.proofs.lemmas.Bool.{eqb-false}
use Rattle.mc_text.specs.Tokens.{Tok, Left, Right, Semi, Atom, Eol, Done, Stuck}
use Rattle.mc_text.specs.declared.token.Before.TheVariants.{Start, Open, Later}
use Rattle.mc_text.specs.declared.token.Class.{Class}
use Rattle.mc_text.specs.declared.token.Class.TheVariants.{Letter, LeftMark, RightMark, SemiMark, Newline, Space, Other}
use Rattle.mc_text.specs.Scanning.{class_of, State, At, Spaced, Within, lex, byte_step, prepend, or_stuck, ended, loose, tight, grows, parts, at_end, eols}
use Rattle.mc_text.specs.Fault.{first_lines}
use Rattle.mc_text.proofs.Lines.{newline-is}
use Rattle.mc_text.proofs.FaultLine.{first-step}

or-eols : (f : Bool) (ts : List Tok) → eols ts ≡ 0 → eols (or_stuck f ts) ≡ 0
or-eols true ts e = e
or-eols false ts e = refl

ended-eols : (s : State) (ts : List Tok) → eols ts ≡ 0 → eols (ended s ts) ≡ 0
ended-eols (At m) ts e = e
ended-eols Spaced ts e = e
ended-eols Within ts e = ap (λ (n : ℕ). 0 + n) e

prepend-eols : (b : ℕ) (ts : List Tok) → eols ts ≡ 0 → eols (prepend b ts) ≡ 0
prepend-eols b [] e = refl
prepend-eols b (Atom a ∷ ts) e = e
prepend-eols b (Left ∷ ts) e = refl
prepend-eols b (Right ∷ ts) e = refl
prepend-eols b (Semi ∷ ts) e = refl
prepend-eols b (Eol ∷ ts) e = refl
prepend-eols b (Done ∷ ts) e = refl
prepend-eols b (Stuck ∷ ts) e = refl

step-eols : (c : Class) (b : ℕ) (s : State) (k : State → List Tok) → (c ≡ Newline → ⊥) → ((s : State) → eols (k s) ≡ 0) → eols (byte_step c b s k) ≡ 0
step-eols Letter b s k n h = or-eols (grows s) _ (prepend-eols b (k Within) (h Within))
step-eols LeftMark b s k n h = ended-eols s _ (or-eols (loose s) _ (ap (λ (n : ℕ). 0 + n) (h (At Open))))
step-eols RightMark b s k n h = ended-eols s _ (or-eols (tight s) _ (ap (λ (n : ℕ). 0 + n) (h (At Later))))
step-eols SemiMark b s k n h = ended-eols s _ (or-eols (loose s) _ (ap (λ (n : ℕ). 0 + n) (h (At Later))))
step-eols Newline b s k n h = absurd (n refl)
step-eols Space b s k n h = ended-eols s _ (or-eols (parts s) _ (h Spaced))
step-eols Other b s k n h = ended-eols s _ refl

end-eols : (s : State) → eols (at_end s) ≡ 0
end-eols (At Start) = refl
end-eols (At Open) = refl
end-eols (At Later) = refl
end-eols Spaced = refl
end-eols Within = refl

none-mapped : (b : ℕ) (o : Option (List ℕ)) → option_map (λ (f : List ℕ). b ∷ f) o ≡ None → o ≡ None
none-mapped b None e = refl
none-mapped b (Some f) e = absurd cc

-- the first byte ends no line
not-here : (b : ℕ) (bs : List ℕ) (f : Bool) → eqb b 10 ≡ f → first_lines 1 (b ∷ bs) ≡ None → (f ≡ false) × (first_lines 1 bs ≡ None)
unfolding first_lines
not-here b bs true g e = absurd (clash (none-mapped b (Some []) (sym (first-step b bs 0 true g) ∙ e)))
  where
    clash : ◌≡◌ {A = Option (List ℕ)} (Some []) None → ⊥
    clash e = cc
not-here b bs false g e = (refl, none-mapped b (first_lines 1 bs) (sym (first-step b bs 0 false g) ∙ e))

pub no-eols : (bs : List ℕ) (s : State) → first_lines 1 bs ≡ None → eols (lex bs s) ≡ 0
unfolding lex
no-eols [] s e = end-eols s
no-eols (b ∷ bs) s e =
    let h = not-here b bs (eqb b 10) refl e in
    step-eols (class_of b) b s (lex bs) (λ n. eqb-false b 10 h.0 (newline-is b n)) (λ t. no-eols bs t h.1)

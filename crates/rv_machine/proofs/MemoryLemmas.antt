-- The first absent one of n addresses from a on, modulo 2 ^ 64.
use Rattle.std.proofs.Common.{◌≡◌, ℕ, zero, suc, ◌^◌, ◌<◌, true, false, cond, ◌&&◌, ◌↔◌, Option, Some, None, is_some, refl, sym, ap, ◌∙◌, arith}
use Rattle.std.proofs.lemmas.Bool.{cond-true, cond-false}
use Rattle.rv_words.specs.Bytes.{Bytes, after, away, inside}
use Rattle.rv_words.proofs.MemoryLemmas.{after_small, away-suc, away-zero}
use Rattle.rv_machine.specs.Step.{first_absent}

-- q is the first of n addresses from a on that has no byte
pub record IsFirstAbsent (n : ℕ) (m : Bytes) (a q : ℕ) : Type 0 where
  pub place : ℕ
  pub within : place < n
  pub there : q ≡ away a place
  pub absent : m q ≡ None
  pub before : (j : ℕ) → j < place → is_some (m (away a j)) ≡ true

-- not all of them have a byte, and the first that has none is q
abbrev pub IsFound : ℕ → Bytes → ℕ → ℕ → Type 0
IsFound n m a q = (inside n m a ≡ false) × (first_absent n m a ≡ q)

found-absent : (n : ℕ) (m : Bytes) (a q : ℕ) → a < 2 ^ 64 → IsFound n m a q → IsFirstAbsent n m a q
found-absent zero m a q h e = let never = e.0 in absurd (cc)
found-absent (suc n) m a q h e = here (m a) refl (found-absent n m (after a) q (after_small a)) e.0 e.1
  where
    earlier : (b place : ℕ) → m a ≡ Some b → ((j : ℕ) → j < place → is_some (m (away (after a) j)) ≡ true) → (j : ℕ) → j < suc place → is_some (m (away a j)) ≡ true
    earlier b place some before zero l = ap (λ x. is_some (m x)) (away-zero a h) ∙ ap is_some some
    earlier b place some before (suc j) l = ap (λ x. is_some (m x)) (sym (away-suc a j)) ∙ before j (omega arith)

    here : (o : Option ℕ) → m a ≡ o → (IsFound n m (after a) q → IsFirstAbsent n m (after a) q) → (is_some o && inside n m (after a)) ≡ false
        → cond (is_some o) (first_absent n m (after a)) a ≡ q → IsFirstAbsent (suc n) m a q
    here None none rest out e = let same = sym e in record {
      place = 0;
      within = omega arith;
      there = same ∙ sym (away-zero a h);
      absent = ap m same ∙ none;
      before = λ j l. absurd (omega arith);
    }
    here (Some b) some rest out e = let f = rest (out, e) in record {
      place = suc f.place;
      within = (let l = f.within in omega arith);
      there = f.there ∙ away-suc a f.place;
      absent = f.absent;
      before = earlier b f.place some f.before;
    }

absent-found : (n : ℕ) (m : Bytes) (a q place : ℕ) → a < 2 ^ 64 → place < n → q ≡ away a place → m q ≡ None
    → ((j : ℕ) → j < place → is_some (m (away a j)) ≡ true) → IsFound n m a q
absent-found zero m a q place h l e none before = absurd (omega arith)
absent-found (suc n) m a q zero h l e none before =
    let same : q ≡ a = e ∙ away-zero a h in
    let absent : is_some (m a) ≡ false = ap (λ x. is_some (m x)) (sym same) ∙ ap is_some none in
    ((λ i. absent i && inside n m (after a)), cond-false (is_some (m a)) _ _ absent ∙ sym same)
absent-found (suc n) m a q (suc k) h l e none before =
    let first : is_some (m a) ≡ true = ap (λ x. is_some (m x)) (sym (away-zero a h)) ∙ before 0 (omega arith) in
    let rest = absent-found n m (after a) q k (after_small a) (omega arith) (e ∙ sym (away-suc a k)) none
    (λ j s. ap (λ x. is_some (m x)) (away-suc a j) ∙ before (suc j) (omega arith)) in
    ((λ i. first i && inside n m (after a)) ∙ rest.0, cond-true (is_some (m a)) _ _ first ∙ rest.1)

pub first_absent-is : (n : ℕ) (m : Bytes) (a q : ℕ) → a < 2 ^ 64 → IsFound n m a q ↔ IsFirstAbsent n m a q
first_absent-is n m a q h = (found-absent n m a q h, λ f. absent-found n m a q f.place h f.within f.there f.absent f.before)

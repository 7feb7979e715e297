-- Digits that are written from the last to the first.
use Rattle.std.proofs.Common.{◌≡◌, ℕ, suc, ◌+◌, ◌-◌, ◌*◌, ◌/◌, ◌%◌, ◌^◌, ◌<◌, ◌≤◌, true, false, cond, eqb, List, ◌∷◌, length, drop, set, refl, sym, ap, ◌∙◌, arith, subst}
use Rattle.std.specs.Fmt.{digits, digits_onto, digit_glyph}
use Rattle.std.proofs.lemmas.Bool.{ne_eqb}
use Rattle.std.proofs.Math.Nat.{pow-suc}
use Rattle.std.proofs.lemmas.List.{drop-set, drop_all, length-set}

-- how far the writing has come: `start` digits may follow in front of those that stand from there on
pub record IsWriting (n rest start : ℕ) (into : List ℕ) : Type 0 where
  pub long : length into ≡ 16
  pub room : start ≤ 16
  pub small : rest < 16 ^ start
  pub more : start < 16 → 0 < rest
  pub same : digits_onto (48 + start) 16 false rest (drop start into) ≡ digits 16 false n

pub starts_writing : (n : ℕ) (into : List ℕ) → n < 2 ^ 64 → length into ≡ 16 → IsWriting n n 16 into
unfolding digits
starts_writing n into lt len = record {
  long = len;
  room = omega arith;
  small = omega arith;
  more = λ h. omega arith;
  same = ap (digits_onto 64 16 false n) (drop_all 16 into (omega arith));
}

-- one digit more in front
digits_onto-one : (k rest : ℕ) (acc : List ℕ) → digits_onto (suc k) 16 false rest acc ≡ cond (eqb (rest / 16) 0) (digit_glyph false (rest % 16) ∷ acc) (digits_onto k 16 false (rest / 16) (digit_glyph false (rest % 16) ∷ acc))
digits_onto-one k rest acc = refl

-- the two ways on after a digit was written at the place k in front
module _ (n rest k d : ℕ) (into : List ℕ) (is : d ≡ digit_glyph false (rest % 16)) (here : IsWriting n rest (suc k) into) where
  there : drop k (set into k d) ≡ d ∷ drop (suc k) into
  there = let e : k + 1 ≡ suc k = omega arith in drop-set into k d (omega (arith, here.long, here.room)) ∙ ap (λ (i : ℕ). d ∷ drop i into) e

  step : cond (eqb (rest / 16) 0) (drop k (set into k d)) (digits_onto (48 + k) 16 false (rest / 16) (drop k (set into k d))) ≡ digits 16 false n
  step =
      let e : 48 + suc k ≡ suc (48 + k) = omega arith in
      let acc : digit_glyph false (rest % 16) ∷ drop (suc k) into ≡ drop k (set into k d) = ap (λ (g : ℕ). g ∷ drop (suc k) into) (sym is) ∙ sym there in
      (λ i. cond (eqb (rest / 16) 0) (sym acc i) (digits_onto (48 + k) 16 false (rest / 16) (sym acc i)))
      ∙ sym (digits_onto-one (48 + k) rest (drop (suc k) into)) ∙ (λ i. digits_onto (sym e i) 16 false rest (drop (suc k) into)) ∙ here.same

  pub ends_writing : rest / 16 ≡ 0 → drop k (set into k d) ≡ digits 16 false n
  ends_writing z = (λ i. cond (sym (eqb-zero z) i) (drop k (set into k d)) (digits_onto (48 + k) 16 false (rest / 16) (drop k (set into k d)))) ∙ step
    where
      eqb-zero : rest / 16 ≡ 0 → eqb (rest / 16) 0 ≡ true
      eqb-zero z = rw z refl

  pub goes_on_writing : (rest / 16 ≡ 0 → ⊥) → IsWriting n (rest / 16) k (set into k d)
  goes_on_writing h =
      let f : eqb (rest / 16) 0 ≡ false = ne_eqb (rest / 16) 0 h in
      let p : 16 ^ suc k ≡ 16 ^ k * 16 = pow-suc 16 k in
      record {
        long = length-set into k d ∙ here.long;
        room = omega (arith, here.room);
        small = omega (arith, here.small, p);
        more = λ lt. omega (arith, h);
        same = (λ i. cond (sym f i) (drop k (set into k d)) (digits_onto (48 + k) 16 false (rest / 16) (drop k (set into k d)))) ∙ step;
      }

-- the same at a place that is counted from the end of what is free
module _ (n rest start d : ℕ) (into : List ℕ) (left : 0 < start) (is : d ≡ digit_glyph false (rest % 16)) (here : IsWriting n rest start into) where
  down : start ≡ suc (start - 1)
  down = omega arith

  at_place : IsWriting n rest (suc (start - 1)) into
  at_place = subst (λ (s : ℕ). IsWriting n rest s into) down here

  pub is_written : rest / 16 ≡ 0 → drop (start - 1) (set into (start - 1) d) ≡ digits 16 false n
  is_written = ends_writing n rest (start - 1) d into is at_place

  pub is_writing : (rest / 16 ≡ 0 → ⊥) → IsWriting n (rest / 16) (start - 1) (set into (start - 1) d)
  is_writing = goes_on_writing n rest (start - 1) d into is at_place

-- there is always a digit before the room ends
pub no_room_left : (n rest start : ℕ) (into : List ℕ) → start ≡ 0 → IsWriting n rest start into → ⊥
no_room_left n rest start into z here =
    let one : rest < 16 ^ 0 = subst (λ (s : ℕ). rest < 16 ^ s) z here.small in
    omega (arith, one, here.more (omega arith))

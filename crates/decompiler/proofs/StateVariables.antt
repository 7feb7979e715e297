-- Which variables stand for the registers and the memory of a state.
use Rattle.std.proofs.Common.{◌≡◌, ℕ, zero, suc, ◌+◌, ◌<◌, ◌≤◌, Bool, true, false, cond, not, eqb, eqb-true, eq-eqb, List, [], ◌∷◌, map, length, Contains, refl, sym, ap, subst, ◌∙◌, arith}
use Rattle.std.specs.Prelude.{◌==◌}
use Rattle.std.specs.List.{position_or_len, range_with_len}
use Rattle.word_terms.specs.Tree.{Var, MemVar}
use Rattle.word_terms.specs.Environment.{Environment, no_variables}
use Rattle.word_terms.specs.Value.{word_value}
use Rattle.tailrec_lang.specs.Eval.{Arguments, arguments_of, with_arguments}
use Rattle.tailrec_lang.specs.Registers.{AreRegistersFrom}
use Rattle.code_parts.specs.Bodies.{Flow, VariableMap, fresh, start, current, with_pc}
use Rattle.loop_rule.specs.Leaves.{variables_after}
use Rattle.loop_rule.proofs.Variables.{with_arguments-words, with_arguments-mems, arguments-are}

-- The counts of variables are those of the environment, the group's registers and memory have these values in it, and the
-- variables that stand for them are in scope.
pub record Stands (f : Flow) (v : VariableMap) (e : Environment) (x : Arguments) : Type 0 where
  pub words : v.words ≡ e.words
  pub mems : v.mems ≡ e.mems
  pub same : arguments_of (current f v) e ≡ x
  pub regs_in : (r : ℕ) → Contains f.regs r → v.reg r < v.words
  pub memory_in : (q : ℕ) → q < f.mems → v.memory q < v.mems

-- ---- fresh variables are the next ones

pub differs : (a b : ℕ) → (a ≡ b → ⊥) → eqb a b ≡ false
differs a b ne = by (eqb a b) refl
  where
    by : (t : Bool) → eqb a b ≡ t → t ≡ false
    by true e = absurd (ne (eqb-true a b e))
    by false e = refl

pub contains-least : (least : ℕ) (rs : List ℕ) → AreRegistersFrom least rs → (r : ℕ) → Contains rs r → least ≤ r
contains-least least [] are r (k, l, e) = absurd (omega arith)
contains-least least (x ∷ rs) are r (zero, l, e) = let q : x ≡ r = e in omega (arith, are.0)
contains-least least (x ∷ rs) are r (suc k, l, e) = omega (arith, contains-least (x + 1) rs are.2 r (k, omega arith, e), are.0)

-- the variables of rising registers, by their places, are the next ones
by-places : (t : ℕ → ℕ) (w least : ℕ) (rs : List ℕ) → AreRegistersFrom least rs → ((r : ℕ) → Contains rs r → t r ≡ w + position_or_len (λ q. q == r) rs)
    → map (λ r. Var (t r)) rs ≡ map Var (range_with_len w (length rs))
by-places t w least [] are at = refl
by-places t w least (x ∷ rs) are at =
    let self : eqb x x ≡ true = eq-eqb x x refl in
    let none : w + 0 ≡ w = omega arith in
    let here : t x ≡ w = at x (0, omega arith, refl) ∙ (λ i. w + cond (not (self i)) (1 + position_or_len (λ q. q == x) rs) 0) ∙ none in
    let later : (r : ℕ) → Contains rs r → t r ≡ w + 1 + position_or_len (λ q. q == r) rs = (λ r c.
    let least = contains-least (x + 1) rs are.2 r c in
    let other : eqb x r ≡ false = differs x r (λ e. above x r least e) in
    let one : w + (1 + position_or_len (λ q. q == r) rs) ≡ w + 1 + position_or_len (λ q. q == r) rs = omega arith in
    at r (suc c.0, omega (arith, c.1), c.2) ∙ (λ i. w + cond (not (other i)) (1 + position_or_len (λ q. q == r) rs) 0) ∙ one) in
    λ i. Var (here i) ∷ by-places t (w + 1) (x + 1) rs are.2 later i
  where
    above : (a b : ℕ) → a + 1 ≤ b → a ≡ b → ⊥
    above a b l e = omega arith

by-count : (w q n : ℕ) → map (λ k. MemVar (w + k)) (range_with_len q n) ≡ map MemVar (range_with_len (w + q) n)
by-count w q zero = refl
by-count w q (suc n) = let next : w + (q + 1) ≡ w + q + 1 = omega arith in λ i. MemVar (w + q) ∷ (by-count w (q + 1) n ∙ (λ j. map MemVar (range_with_len (next j) n))) i

by-count_from : (w n : ℕ) → map (λ k. MemVar (w + k)) (range_with_len 0 n) ≡ map MemVar (range_with_len w n)
by-count_from w n = let none : w + 0 ≡ w = omega arith in by-count w 0 n ∙ (λ j. map MemVar (range_with_len (none j) n))

module _ (f : Flow) (rise : AreRegistersFrom 1 f.regs) where
  pub current-fresh : (w q : ℕ) → current f (fresh f w q) ≡ variables_after w q (length f.regs) f.mems
  current-fresh w q = λ i. record {
    words = by-places (λ r. w + position_or_len (λ k. k == r) f.regs) w 1 f.regs rise (λ r c. refl) i;
    mems = by-count_from q f.mems i;
  }

  pub returned-fresh : (w q : ℕ) → with_pc (Var w) (current f (fresh f (suc w) q)) ≡ variables_after w q (suc (length f.regs)) f.mems
  returned-fresh w q =
      let next : suc w ≡ w + 1 = omega arith in
      λ i. record {
        words = Var w ∷ by-places (λ r. next i + position_or_len (λ k. k == r) f.regs) (next i) 1 f.regs rise (λ r c. refl) i;
        mems = by-count_from q f.mems i;
      }

  place-within : (r : ℕ) (rs : List ℕ) → Contains rs r → position_or_len (λ q. q == r) rs < length rs
  place-within r [] (k, l, e) = absurd (omega arith)
  place-within r (x ∷ rs) (zero, l, e) = let same : eqb x r ≡ true = eq-eqb x r e in subst (λ b. cond (not b) (1 + position_or_len (λ q. q == r) rs) 0 < suc (length rs)) (sym same) (omega arith)
  place-within r (x ∷ rs) (suc k, l, e) = by (eqb x r) (place-within r rs (k, omega arith, e))
    where
      by : (b : Bool) → position_or_len (λ q. q == r) rs < length rs → cond (not b) (1 + position_or_len (λ q. q == r) rs) 0 < suc (length rs)
      by true h = omega arith
      by false h = omega arith

  -- arguments come to be fresh variables
  pub stands-fresh : (e : Environment) (w q : ℕ) (x : Arguments) → w ≡ e.words → q ≡ e.mems → length x.words ≡ length f.regs → length x.mems ≡ f.mems
      → Stands f (fresh f w q) (with_arguments e x) x
  stands-fresh e w q x we qe words mems = record {
    words = (λ i. we i + sym words i) ∙ sym (with_arguments-words e x);
    mems = (λ i. qe i + sym mems i) ∙ sym (with_arguments-mems e x);
    same =
        ap (λ t. arguments_of t (with_arguments e x)) (current-fresh w q)
        ∙ (λ i. arguments_of (variables_after (we i) (qe i) (length f.regs) f.mems) (with_arguments e x))
        ∙ arguments-are e x (length f.regs) f.mems words mems;
    regs_in = λ r c. (let l = place-within r f.regs c in omega arith);
    memory_in = λ k l. omega arith;
  }

  -- .. and so do results with a returned address in front
  pub returned-values : (e : Environment) (w q : ℕ) (x : Arguments) → w ≡ e.words → q ≡ e.mems → length x.words ≡ suc (length f.regs) → length x.mems ≡ f.mems
      → arguments_of (with_pc (Var w) (current f (fresh f (suc w) q))) (with_arguments e x) ≡ x
  returned-values e w q x we qe words mems =
      ap (λ t. arguments_of t (with_arguments e x)) (returned-fresh w q)
      ∙ (λ i. arguments_of (variables_after (we i) (qe i) (suc (length f.regs)) f.mems) (with_arguments e x))
      ∙ arguments-are e x (suc (length f.regs)) f.mems words mems

  -- the parameters stand for the arguments
  pub stands-start : (x : Arguments) → length x.words ≡ length f.regs → length x.mems ≡ f.mems → Stands f (start f) (with_arguments no_variables x) x
  stands-start x words mems = stands-fresh no_variables 0 0 x refl refl words mems

  -- the registers and the memories of results with a returned address
  pub stands-returned : (e : Environment) (w q pc : ℕ) (x : Arguments) → w ≡ e.words → q ≡ e.mems → length x.words ≡ length f.regs → length x.mems ≡ f.mems
      → Stands f (fresh f (suc w) q) (with_arguments e (record { words = pc ∷ x.words; mems = x.mems })) x × (word_value (Var w) (with_arguments e (record { words = pc ∷ x.words; mems = x.mems })) ≡ pc)
  stands-returned e w q pc x we qe words mems =
      let y : Arguments = record { words = pc ∷ x.words; mems = x.mems } in
      let all = returned-values e w q y we qe (ap suc words) mems in
      let first : word_value (Var w) (with_arguments e y) ∷ (arguments_of (current f (fresh f (suc w) q)) (with_arguments e y)).words ≡ pc ∷ x.words = λ i. (all i).words in (
        record {
          words = (λ i. suc (we i) + sym words i) ∙ more e.words (length x.words) ∙ sym (with_arguments-words e y);
          mems = (λ i. qe i + sym mems i) ∙ sym (with_arguments-mems e y);
          same = (λ i. record { words = tail-same first i; mems = (all i).mems });
          regs_in = λ r c. (let l = place-within r f.regs c in omega arith);
          memory_in = λ k l. omega arith;
        },
        head-same first,
      )
    where
      more : (a b : ℕ) → suc a + b ≡ a + suc b
      more a b = omega arith

      head-same : {a b : ℕ} {xs ys : List ℕ} → a ∷ xs ≡ b ∷ ys → a ≡ b
      head-same e = cc

      tail-same : {a b : ℕ} {xs ys : List ℕ} → a ∷ xs ≡ b ∷ ys → xs ≡ ys
      tail-same e = cc

-- Variables in the order of registers.
use Rattle.std.proofs.Common.{◌≡◌, ℕ, ◌+◌, ◌<◌, ◌≤◌, false, not, eqb, List, length, get_or, ap, sym, ◌∙◌, arith, inl, inr}
use Rattle.std.proofs.lemmas.Bool.{ne_eqb}
use Rattle.std.proofs.lemmas.Bool.Decides.{leb_tells}
use Rattle.std.proofs.lemmas.List.{get_or_default}
use Rattle.std.proofs.lemmas.List.Sums.{position_or_len_is, prefix_len-le-length}
use Rattle.std.proofs.Math.ListN.{get_or-eq_default}
use Rattle.std.specs.List.{All, position_or_len}
use Rattle.word_terms.specs.Tree.{Var, MemVar}
use Rattle.instr_axioms.specs.declared.variables.Variables.{Variables}
use Rattle.instr_axioms.specs.Axiom.{variables_for}
use Rattle.instr_axioms.specs.Variables.{variable_of, names_of}

pub place_most : (regs : List ℕ) (r : ℕ) → position_or_len (λ q. eqb q r) regs ≤ length regs
place_most regs r = prefix_len-le-length (λ q. not (eqb q r)) regs

-- a number that isn't among them comes after them
place-absent : (regs : List ℕ) (r : ℕ) → ((k : ℕ) → k < length regs → eqb (get_or regs k 0) r ≡ false) → position_or_len (λ q. eqb q r) regs ≡ length regs
place-absent regs r none = position_or_len_is (λ q. eqb q r) regs (length regs) 0 (omega arith) none (λ lt. absurd (omega (arith, lt)))

pub numbers_are : (words regs : List ℕ) (first : ℕ) → length words ≡ 32 → All (λ r. (0 < r) × (r < 32)) regs → ((k : ℕ) → k < 32 → get_or words k 0 ≡ first + position_or_len (λ q. eqb q k) regs)
    → (r : ℕ) → variable_of words r ≡ first + position_or_len (λ q. eqb q r) regs
numbers_are words regs first long low each r = elim (leb_tells 32 r) [
  | inl h ↦
      let here = place-absent regs r (λ k lt. let at = low k 0 lt in ne_eqb (get_or regs k 0) r (λ e. absurd (omega (arith, e, at.1, h.1)))) in
      let zero = place-absent regs 0 (λ k lt. let at = low k 0 lt in ne_eqb (get_or regs k 0) 0 (λ e. absurd (omega (arith, e, at.0)))) in
      get_or-eq_default words (get_or words 0 0) {n = r} (omega (arith, h.1, long)) ∙ each 0 (omega arith) ∙ ap (λ n. first + n) (zero ∙ sym here)
  | inr h ↦ get_or_default words r (get_or words 0 0) 0 (omega (arith, h.1, long)) ∙ each r h.1
]

-- from 0 on they are those of an axiom
pub named_for : (v : Variables) (regs : List ℕ) → ((r : ℕ) → variable_of v.words r ≡ 0 + position_or_len (λ q. eqb q r) regs) → v.memory ≡ 0 → names_of v ≡ variables_for regs
named_for v regs words memory =
    let each : (r : ℕ) → variable_of v.words r ≡ position_or_len (λ q. eqb q r) regs = λ (r : ℕ). (let none : 0 + position_or_len (λ q. eqb q r) regs ≡ position_or_len (λ q. eqb q r) regs = omega arith in words r ∙ none) in
    λ j. record { word = λ r. Var (each r j); memory = MemVar (memory j) }

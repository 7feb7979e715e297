-- The preconditions of theorems are kept from line to line.
use Rattle.std.proofs.Common.{◌≡◌, ◌≤◌, ◌<◌, ℕ, zero, suc, ◌+◌, Bool, true, false, if◌then◌else◌, Option, List, [], ◌∷◌, ◌++◌, Some, None, length, refl, sym, ap, ◌∙◌, subst, arith, true≢false}
use Rattle.std.specs.Prelude.{◌==◌, IsSomeAnd, is_some, option_map, slice_get, slice_set}
use Rattle.std.proofs.lemmas.Bool.{eq-eqb, eqb-true}
use Rattle.std.proofs.lemmas.List.{length-append, length-set}
use Rattle.std.proofs.lemmas.Option.{slice_get_past}
use Rattle.sep_assert.specs.declared.assertion.Assertion.{Assertion}
use Rattle.sep_assert.specs.Tree.{AssertionTree, assertion_tree}
use Rattle.triple_kernel.specs.Tree.{TripleTree}
use Rattle.tailrec_lang.specs.Tree.{GroupTree}
use Rattle.frame_compose.specs.Rules.{IsFramed}
use Rattle.proof_text.specs.Line.{RuleTree, Axiom, Inst, Frame, Compose, ExtendCode, Strengthen, Weaken, Discharge, UseExit}
use Rattle.verdicts.specs.Instance.{History, Meets, no_lines, with_theorem, without}
use Rattle.proof_v2.specs.Preconditions.{ArePreconditions, pre_at, pre_tree}
use Rattle.proof_v2.specs.inner.Shortening.{IsPreKept}

pub none-kept : ArePreconditions [] no_lines
none-kept = record { next = refl; each = λ k. refl }

-- ---- one more

elsewhere : (kept : List (Option Assertion)) (x : Option Assertion) (k : ℕ) → (k ≡ length kept → ⊥) → slice_get (kept ++ x ∷ []) k ≡ slice_get kept k
elsewhere [] x zero other = absurd (other refl)
elsewhere [] x (suc k) other = refl
elsewhere (y ∷ kept) x zero other = refl
elsewhere (y ∷ kept) x (suc k) other = elsewhere kept x k (λ e. other (ap suc e))

at-end : (kept : List (Option Assertion)) (x : Option Assertion) → slice_get (kept ++ x ∷ []) (length kept) ≡ Some x
at-end [] x = refl
at-end (y ∷ kept) x = at-end kept x

other-than : (k n : ℕ) → (k == n) ≡ false → k ≡ n → ⊥
other-than k n e same = true≢false (sym (eq-eqb k n same) ∙ e)

at-more : (kept : List (Option Assertion)) (x : Option Assertion) (k : ℕ) → pre_at (kept ++ x ∷ []) k ≡ (if k == length kept then pre_tree (Some x) else pre_at kept k)
at-more kept x k = by (k == length kept) refl
  where
    by : (b : Bool) → (k == length kept) ≡ b → pre_at (kept ++ x ∷ []) k ≡ (if b then pre_tree (Some x) else pre_at kept k)
    by true e = ap (λ (n : ℕ). pre_at (kept ++ x ∷ []) n) (eqb-true k (length kept) e) ∙ ap pre_tree (at-end kept x)
    by false e = ap pre_tree (elsewhere kept x k (other-than k (length kept) e))

chosen-more : (b : Bool) (o : Option AssertionTree) (t : TripleTree) (p : Option TripleTree) → o ≡ option_map (λ q. q.pre) p
    → (if b then Some t.pre else o) ≡ option_map (λ q. q.pre) (if b then Some t else p)
chosen-more true o t p e = refl
chosen-more false o t p e = e

pub kept-more : (kept : List (Option Assertion)) (h : History) (pre : Assertion) (t : TripleTree) → assertion_tree pre ≡ t.pre → ArePreconditions kept h → ArePreconditions (kept ++ Some pre ∷ []) (with_theorem t h)
kept-more kept h pre t is keeps = record {
  next = ap (λ (n : ℕ). n + 1) keeps.next ∙ sym (length-append kept (Some pre ∷ []));
  each = λ k.
      at-more kept (Some pre) k
      ∙ (λ i. if k == sym keeps.next i then Some (is i) else pre_at kept k)
      ∙ chosen-more (k == h.next) (pre_at kept k) t (h.theorem k) (keeps.each k);
}

-- ---- one less

set-elsewhere : (kept : List (Option Assertion)) (j : ℕ) (x : Option Assertion) (k : ℕ) → (k ≡ j → ⊥) → slice_get (slice_set kept j x) k ≡ slice_get kept k
set-elsewhere [] j x k other = refl
set-elsewhere (y ∷ kept) zero x zero other = absurd (other refl)
set-elsewhere (y ∷ kept) zero x (suc k) other = refl
set-elsewhere (y ∷ kept) (suc j) x zero other = refl
set-elsewhere (y ∷ kept) (suc j) x (suc k) other = set-elsewhere kept j x k (λ e. other (ap suc e))

set-there : (kept : List (Option Assertion)) (j : ℕ) (x : Option Assertion) → j < length kept → slice_get (slice_set kept j x) j ≡ Some x
set-there [] j x low = absurd (omega (arith, low))
set-there (y ∷ kept) zero x low = refl
set-there (y ∷ kept) (suc j) x low = set-there kept j x (omega (arith, low))

at-less : (kept : List (Option Assertion)) (j k : ℕ) → j < length kept → pre_at (slice_set kept j None) k ≡ (if k == j then None else pre_at kept k)
at-less kept j k low = by (k == j) refl
  where
    by : (b : Bool) → (k == j) ≡ b → pre_at (slice_set kept j None) k ≡ (if b then None else pre_at kept k)
    by true e = ap (λ (n : ℕ). pre_at (slice_set kept j None) n) (eqb-true k j e) ∙ ap pre_tree (set-there kept j None low)
    by false e = ap pre_tree (set-elsewhere kept j None k (other-than k j e))

at-none : (kept : List (Option Assertion)) (j k : ℕ) (b : Bool) → length kept ≤ j → (k == j) ≡ b → pre_at kept k ≡ (if b then None else pre_at kept k)
at-none kept j k true past e = ap pre_tree (slice_get_past kept k (subst (λ (n : ℕ). length kept ≤ n) (sym (eqb-true k j e)) past))
at-none kept j k false past e = refl

chosen-less : (b : Bool) (o : Option AssertionTree) (p : Option TripleTree) → o ≡ option_map (λ q. q.pre) p → (if b then None else o) ≡ option_map (λ (q : TripleTree). q.pre) (if b then None else p)
chosen-less true o p e = refl
chosen-less false o p e = e

pub kept-less : (kept : List (Option Assertion)) (h : History) (j : ℕ) → j < length kept → ArePreconditions kept h → ArePreconditions (slice_set kept j None) (without j h)
kept-less kept h j low keeps = record {
  next = keeps.next ∙ sym (length-set kept j None);
  each = λ k. at-less kept j k low ∙ chosen-less (k == j) (pre_at kept k) (h.theorem k) (keeps.each k);
}

-- .. that is none of them
pub kept-none : (kept : List (Option Assertion)) (h : History) (j : ℕ) → length kept ≤ j → ArePreconditions kept h → ArePreconditions kept (without j h)
kept-none kept h j past keeps = record {
  next = keeps.next;
  each = λ k. at-none kept j k (k == j) past refl ∙ chosen-less (k == j) (pre_at kept k) (h.theorem k) (keeps.each k);
}

-- ---- what a line cites is there

pub cited-kept : (kept : List (Option Assertion)) (g : GroupTree) (h : History) (rule : RuleTree) (t : TripleTree) → ArePreconditions kept h → Meets g h rule t → IsPreKept kept rule
cited-kept kept g h (Axiom a w form) t keeps meets = tt
cited-kept kept g h (Inst p words mems) t keeps meets = tt
cited-kept kept g h (Frame p) t keeps meets = ap is_some (keeps.each p) ∙ there (h.theorem p) meets
  where
    there : (o : Option TripleTree) → IsSomeAnd o (λ q. IsFramed q t) → is_some (option_map (λ (q : TripleTree). q.pre) o) ≡ true
    there None m = absurd m
    there (Some q) m = refl
cited-kept kept g h (Compose p q) t keeps meets = tt
cited-kept kept g h (ExtendCode p) t keeps meets = tt
cited-kept kept g h (Strengthen p) t keeps meets = tt
cited-kept kept g h (Weaken p) t keeps meets = tt
cited-kept kept g h (Discharge p) t keeps meets = tt
cited-kept kept g h (UseExit d e) t keeps meets = tt

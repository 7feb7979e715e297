-- Tables over whole assertions.
use Rattle.std.proofs.Common.{◌≡◌, ℕ, ◌<◌, List, [], length, get_or, subst, inl, inr}
use Rattle.std.specs.List.{Contains}
use Rattle.std.proofs.lemmas.List.Elements.{Contains-append_cases}
use Rattle.term_arena.specs.declared.node.Node.{Node}
use Rattle.term_arena.specs.Arena.{Tree}
use Rattle.term_arena.proofs.Places.{at_contains}
use Rattle.triple_kernel.specs.Tree.{FactTree}
use Rattle.held_consequence.specs.inner.Table.{HasBoth, Entry, IsKnown, AreDecided, Went}
use Rattle.held_consequence.specs.inner.SideTables.{HasBothRegisters, HasBothMems, AreRight}
use Rattle.held_consequence.proofs.TableLemmas.{went_under, went_both}

module _ (ns : List Node) (facts : List FactTree) where
  pub right_none : AreRight ns facts []
  right_none = record { each = λ p c. let at = at_contains [] p c in cc }

  pub right_known : (known : List Entry) (n : ℕ) → AreRight ns facts known → IsKnown ns facts known n
  right_known known n r = record { each = λ p c lt. r.each p c }

  pub right_kept : (old new : List Entry) → AreRight ns facts old → AreDecided ns facts old new → AreRight ns facts new
  right_kept old new r d = record {
    each = λ p c. elim (Contains-append_cases old d.more p (subst (λ (l : List Entry). Contains l p) d.is c)) [ inl was ↦ r.each p was | inr came ↦ d.each p came ];
  }

module _ (ns : List Node) where
  -- .. of the same lists
  pub went_at : {A : Type 0} {a b x y : List A} {old new : List Entry} {s t : ℕ} (P : List A → List A → List Tree → Type 0) → x ≡ a → y ≡ b → Went ns (P x y) old new s t → Went ns (P a b) old new s t
  went_at {A} {a} {b} {x} {y} {old} {new} {s} {t} P e f w = subst (λ (l : List A). Went ns (P l b) old new s t) e (subst (λ (l : List A). Went ns (P x l) old new s t) f w)

  pub registers_next : (a b : List (ℕ × ℕ)) (i : ℕ) (old mid new : List Entry) (s r t : ℕ) → i < length a → i < length b → Went ns (HasBothRegisters ns a b) old mid s r
      → Went ns (HasBoth ns (get_or a i (0, 0)).1 (get_or b i (0, 0)).1) mid new r t → Went ns (HasBothRegisters ns a b) old new s t
  registers_next a b i old mid new s r t la lb v w =
      went_both ns (HasBothRegisters ns a b) old mid new s r t v
      (went_under ns (HasBothRegisters ns a b) (HasBoth ns (get_or a i (0, 0)).1 (get_or b i (0, 0)).1) mid new r t (λ ts h. (h.0 i (0, 0) la, h.1 i (0, 0) lb)) w)

  pub mems_next : (a b : List ℕ) (i : ℕ) (old mid new : List Entry) (s r t : ℕ) → i < length a → i < length b → Went ns (HasBothMems ns a b) old mid s r
      → Went ns (HasBoth ns (get_or a i 0) (get_or b i 0)) mid new r t → Went ns (HasBothMems ns a b) old new s t
  mems_next a b i old mid new s r t la lb v w =
      went_both ns (HasBothMems ns a b) old mid new s r t v
      (went_under ns (HasBothMems ns a b) (HasBoth ns (get_or a i 0) (get_or b i 0)) mid new r t (λ ts h. (h.0 i 0 la, h.1 i 0 lb)) w)

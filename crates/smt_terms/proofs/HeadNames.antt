-- Operators by their names, looked for from the first one on.
use Rattle.std.proofs.Common.{◌≡◌, ℕ, ◌+◌, ◌<◌, ◌≤◌, Bool, true, false, cond, List, length, get_or, drop, Some, None, sym, ap, ◌∙◌}
use Rattle.std.specs.Str.{bytes_eq}
use Rattle.std.proofs.lemmas.List.{drop_more, drop_all}
use Rattle.smt_terms.specs.declared.operator.Operator.{Operator}
use Rattle.smt_terms.specs.inner.Operators.{operator_name, operator_named}

named-at : (ops : List Operator) (i : ℕ) (name : List ℕ) (op d : Operator) (b : Bool) → i < length ops → bytes_eq name (operator_name (get_or ops i d)) ≡ b
    → operator_named name (drop i ops) ≡ cond b (Some (get_or ops i d)) (operator_named name (drop (i + 1) ops))
named-at ops i name op d b lt e = ap (operator_named name) (drop_more ops i d lt) ∙ (λ j. cond (e j) (Some (get_or ops i d)) (operator_named name (drop (i + 1) ops)))

-- none of the operators before the i-th has the name
pub record NamedFrom (ops : List Operator) (name : List ℕ) (i : ℕ) : Type 0 where
  pub from : operator_named name (drop i ops) ≡ operator_named name ops

pub named_next : (ops : List Operator) (i : ℕ) (name : List ℕ) (d : Operator) → i < length ops → bytes_eq name (operator_name (get_or ops i d)) ≡ false → NamedFrom ops name i → NamedFrom ops name (i + 1)
named_next ops i name d lt e h = record { from = sym (named-at ops i name d d false lt e) ∙ h.from }

pub named_here : (ops : List Operator) (i : ℕ) (name : List ℕ) (d : Operator) → i < length ops → bytes_eq name (operator_name (get_or ops i d)) ≡ true → NamedFrom ops name i → Some (get_or ops i d) ≡ operator_named name ops
named_here ops i name d lt e h = sym (named-at ops i name d d true lt e) ∙ h.from

pub named_nowhere : (ops : List Operator) (i : ℕ) (name : List ℕ) → length ops ≤ i → NamedFrom ops name i → None ≡ operator_named name ops
named_nowhere ops i name le h = sym (ap (operator_named name) (drop_all i ops le)) ∙ h.from

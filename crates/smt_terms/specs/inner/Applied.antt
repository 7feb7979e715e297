-- Operators applied to what is computed.
use Rattle.std.specs.Prelude.{ℕ, List, [], ◌∷◌, map, None}
use Rattle.smt_terms.specs.Operators.{Value, Bits, unsorted, Rule, Head, Operator as OperatorHead}
use Rattle.smt_terms.specs.declared.datum.Datum.{Datum}
use Rattle.smt_terms.specs.declared.operator.Binary.{Binary}
use Rattle.smt_terms.specs.declared.operator.Operator.{Operator}
use Rattle.smt_terms.specs.declared.operator.Operator.TheVariants as operator
use Rattle.smt_terms.specs.inner.Datum.{sorted, meaning, StandsFor}
use Rattle.smt_terms.specs.inner.Operators.{row_of}

abbrev pub head_rule : Head → Rule
head_rule (OperatorHead rule value) ss = rule ss
head_rule _ ss = None

abbrev pub head_value : Head → List Value → Value
head_value (OperatorHead rule value) vs = value vs
head_value _ vs = unsorted

abbrev pub Applied : Operator → List Datum → Datum → Type 0
Applied op ds d = StandsFor (head_rule (row_of op) (map sorted ds)) (head_value (row_of op) (map meaning ds)) d

abbrev pub binary_value : Binary → ℕ → ℕ → ℕ → Value
binary_value op w a b = head_value (row_of (operator.Binary op)) (Bits w a ∷ Bits w b ∷ [])

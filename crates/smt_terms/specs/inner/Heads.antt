-- What stands at heads of terms.
use Rattle.std.specs.Prelude.{◌≡◌, List, map, Option, Some}
use Rattle.smt_terms.specs.declared.sort.Sort.{Sort}
use Rattle.smt_terms.specs.Operators.{Head, LetHead, LiteralHead, Operator, Function, NoHead}
use Rattle.smt_terms.specs.declared.datum.Datum.{Datum}
use Rattle.smt_terms.specs.declared.head.Head.{Head as Found}
use Rattle.smt_terms.specs.declared.head.Head.TheVariants as found
use Rattle.smt_terms.specs.declared.operator.Operator.{Operator as Op}
use Rattle.smt_terms.specs.inner.Datum.{sorted}
use Rattle.smt_terms.specs.inner.Operators.{row_of}
use Rattle.smt_terms.specs.inner.Applied.{head_rule, head_value}

-- each has a sort
abbrev pub AreSorts : List (Option Sort) → Type 0
AreSorts os = (ss : List Sort) × (os ≡ map Some ss)

-- where operands have sorts for which the rule gives one, it is this operator
pub record IsOperator (op : Op) (head : Head) : Type 0 where
  pub operator : head ≡ Operator (head_rule head) (head_value head)
  pub operands : (os : List (Option Sort)) (s : Sort) → head_rule head os ≡ Some s → AreSorts os
  pub same : (ds : List Datum) (s : Sort) → head_rule head (map sorted ds) ≡ Some s → head ≡ row_of op

abbrev pub IsHead : Found → Head → Type 0
IsHead found.Let head = head ≡ LetHead
IsHead found.Literal head = head ≡ LiteralHead
IsHead (found.Operator op) head = IsOperator op head
IsHead (found.Function name) head = head ≡ Function name.now
IsHead found.Nothing head = head ≡ NoHead

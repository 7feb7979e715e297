-- A function of a script and those before it.
use Rattle.std.specs.Prelude.{◌≡◌, ℕ, ◌+◌, ◌≤◌, List, sum_by, Some, None}
use Rattle.smt_terms.specs.Expression.{Expr, Atom, Node, Exprs, End, Then}
use Rattle.smt_terms.specs.Meaning.{FunTree, no_names, fun_value, functions_after}
use Rattle.smt_terms.specs.Sorts.{rule_of, rules_after, IsFun, IsScript}
use Rattle.smt_terms.specs.Values.{funs_after}

-- how many nodes
abbrev mutual
  pub weight : Expr → ℕ
  weight (Atom a) = 1
  weight (Node es) = 1 + weights es

  pub weights : Exprs → ℕ
  weights End = 0
  weights (Then e es) = weight e + weights es

abbrev pub fun_weight : FunTree → ℕ
fun_weight f = 1 + weight f.body

abbrev pub script_weight : List FunTree → ℕ
script_weight funs = sum_by fun_weight funs

-- among these functions the last of that name
pub record IsFound (funs : List FunTree) (name : List ℕ) (before : List FunTree) (f : FunTree) : Type 0 where
  pub named : funs_after no_names funs name ≡ Some f
  pub value : functions_after no_names funs name ≡ Some (fun_value (functions_after no_names before) f)
  pub rule : rules_after no_names funs name ≡ Some (rule_of f)
  pub weight : script_weight before + fun_weight f ≤ script_weight funs
  pub script : IsScript funs → IsScript before × IsFun (rules_after no_names before) f

pub record IsMissing (funs : List FunTree) (name : List ℕ) : Type 0 where
  pub named : funs_after no_names funs name ≡ None
  pub value : functions_after no_names funs name ≡ None
  pub rule : rules_after no_names funs name ≡ None

-- Scripts as text: SMT-LIB 2.6, a `define-fun` command a line. An atom is its bytes; what a node holds stands in parentheses,
-- with one space between neighbours and none elsewhere.
use Rattle.std.specs.Prelude.{ℕ, List, [], ◌∷◌, ◌++◌, map, codes, flat_map}
use Rattle.std.specs.Fmt.{decimal}
use Rattle.mc_text.specs.Tokens.{Tok, Left, Right, Atom as Name, Eol, spell}
use Rattle.mc_text.specs.declared.token.Before.TheVariants.{Start}
use Rattle.smt_terms.specs.declared.sort.Sort.{Sort}
use Rattle.smt_terms.specs.declared.sort.Sort.TheVariants as sort
use Rattle.smt_terms.specs.Expression.{Expr, Atom, Node, Exprs, End, Then, exprs, apply}
use Rattle.smt_terms.specs.Meaning.{FunTree}

abbrev mutual
  pub tokens : Expr → List Tok
  tokens (Atom name) = Name name ∷ []
  tokens (Node items) = Left ∷ (tokens_of items ++ Right ∷ [])

  pub tokens_of : Exprs → List Tok
  tokens_of End = []
  tokens_of (Then x more) = tokens x ++ tokens_of more

abbrev pub bit_vector : List ℕ → Expr
bit_vector n = apply (codes "_") (Atom (codes "BitVec") ∷ Atom n ∷ [])

abbrev pub sort_expr : Sort → Expr
sort_expr sort.Bool = Atom (codes "Bool")
sort_expr (sort.Bits n) = bit_vector (decimal n)
sort_expr (sort.Array n) = apply (codes "Array") (bit_vector (codes "64") ∷ bit_vector (decimal n) ∷ [])

abbrev pub param_expr : List ℕ × Sort → Expr
param_expr p = Node (Then (Atom p.0) (Then (sort_expr p.1) End))

-- (define-fun NAME PARAMS SORT BODY)
abbrev pub fun_expr : FunTree → Expr
fun_expr f = apply (codes "define-fun") (Atom f.name ∷ Node (exprs (map param_expr f.params)) ∷ sort_expr f.sort ∷ f.body ∷ [])

abbrev pub fun_tokens : FunTree → List Tok
fun_tokens f = tokens (fun_expr f) ++ Eol ∷ []

abbrev pub script_text : List FunTree → List ℕ
script_text funs = spell Start (flat_map fun_tokens funs)

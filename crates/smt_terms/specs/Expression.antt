-- S-expressions, as SMT-LIB 2.6 writes its terms.
use Rattle.std.specs.Prelude.{ℕ, Bool, true, false, ◌||◌, List, [], ◌∷◌, ◌++◌, codes}
use Rattle.std.specs.Fmt.{decimal}
use Rattle.std.specs.Str.{bytes_eq}

mutual
  pub data Expr : Type 0 where
    Atom : (name : List ℕ) → Expr
    Node : (items : Exprs) → Expr

  pub data Exprs : Type 0 where
    End : Exprs
    Then : (first : Expr) (rest : Exprs) → Exprs

abbrev pub exprs : List Expr → Exprs
exprs [] = End
exprs (x ∷ xs) = Then x (exprs xs)

-- an operator or a function applied to terms
abbrev pub apply : List ℕ → List Expr → Expr
apply name xs = Node (Then (Atom name) (exprs xs))

abbrev pub atoms : List (List ℕ) → List Expr
atoms [] = []
atoms (a ∷ more) = Atom a ∷ atoms more

-- (ite C X Y): X where C is true, else Y
abbrev pub ite : Expr → Expr → Expr → Expr
ite c x y = apply (codes "ite") (c ∷ x ∷ y ∷ [])

-- ((_ NAME K ..) X ..): an operator with numerals applied to terms
abbrev pub indexed : List ℕ → List (List ℕ) → List Expr → Expr
indexed name ks xs = Node (Then (apply (codes "_") (Atom name ∷ atoms ks)) (exprs xs))

-- (let ((NAME X)) BODY)
abbrev pub let_in : List ℕ → Expr → Expr → Expr
let_in name x body = apply (codes "let") (Node (Then (Node (Then (Atom name) (Then x End))) End) ∷ body ∷ [])

-- (_ bvN W): the bit-vector of W bits that is the number N
abbrev pub literal : List ℕ → List ℕ → Expr
literal w n = apply (codes "_") (Atom (codes "bv" ++ n) ∷ Atom w ∷ [])

-- the word of that number
abbrev pub word : ℕ → Expr
word n = literal (codes "64") (decimal n)

-- ---- bindings of names that occur

abbrev mutual
  pub occurs : List ℕ → Expr → Bool
  occurs x (Atom a) = bytes_eq a x
  occurs x (Node es) = occurs_in x es

  pub occurs_in : List ℕ → Exprs → Bool
  occurs_in x End = false
  occurs_in x (Then e es) = occurs x e || occurs_in x es

abbrev pub is_atom : List ℕ → Expr → Bool
is_atom x (Atom a) = bytes_eq a x
is_atom x (Node es) = false

abbrev pub bound_where : Bool → Bool → List ℕ → Expr → Expr → Expr
bound_where true used x e body = e
bound_where false true x e body = let_in x e body
bound_where false false x e body = body

-- the body, where x stands for e
abbrev pub bound : List ℕ → Expr → Expr → Expr
bound x e body = bound_where (is_atom x body) (occurs x body) x e body

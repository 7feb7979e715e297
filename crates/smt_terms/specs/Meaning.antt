-- What SMT-LIB terms and scripts of `define-fun` commands stand for.
use Rattle.std.specs.Prelude.{ℕ, ◌%◌, ◌^◌, ◌==◌, ◌&&◌, Bool, true, false, not, if◌then◌else◌, List, [], ◌∷◌, length, nat_lt, codes, Option, Some, None, option_map, unwrap_or}
use Rattle.std.specs.Char.{is_digit}
use Rattle.std.specs.Str.{bytes_eq}
use Rattle.std.specs.Str.Parse.{digits_value}
use Rattle.smt_terms.specs.declared.sort.Sort.{Sort}
use Rattle.smt_terms.specs.Expression.{Expr, Atom, Node, Exprs, End, Then}
use Rattle.smt_terms.specs.Operators.{Value, Truth, Bits, unsorted, Head, LetHead, LiteralHead, Operator, Function, NoHead, operators, with_numeral, with_numerals, found}

-- what names stand for
abbrev pub Named : Type 0 → Type 0
Named A = List ℕ → Option A

abbrev pub no_names : {A : Type 0} → Named A
no_names y = None

abbrev pub bind : {A : Type 0} → Named A → List ℕ → A → Named A
bind s x v y = if bytes_eq y x then Some v else s y

-- ---- numerals and heads

abbrev pub are_digits : List ℕ → Bool
are_digits [] = true
are_digits (c ∷ cs) = is_digit c 10 && are_digits cs

abbrev pub has_leading_zero : List ℕ → Bool
has_leading_zero (c ∷ d ∷ ds) = c == 48
has_leading_zero _ = false

-- 0, or digits of which the first isn't 0
abbrev pub is_numeral : List ℕ → Bool
is_numeral ds = nat_lt 0 (length ds) && are_digits ds && not (has_leading_zero ds)

abbrev pub numeral : List ℕ → Option ℕ
numeral ds = if is_numeral ds then Some (digits_value 10 ds) else None

abbrev pub one_numeral : List ℕ → Option ℕ → Head
one_numeral name (Some k) = found name (with_numeral k) NoHead
one_numeral name _ = NoHead

abbrev pub two_numerals : List ℕ → Option ℕ → Option ℕ → Head
two_numerals name (Some i) (Some j) = found name (with_numerals i j) NoHead
two_numerals name _ _ = NoHead

abbrev pub term_head : Expr → Head
term_head (Atom name) = found name operators (Function name)
term_head (Node (Then (Atom underscore) (Then (Atom name) (Then (Atom k) End)))) = if bytes_eq underscore (codes "_") then one_numeral name (numeral k) else NoHead
term_head (Node (Then (Atom underscore) (Then (Atom name) (Then (Atom i) (Then (Atom j) End))))) = if bytes_eq underscore (codes "_") then two_numerals name (numeral i) (numeral j) else NoHead
term_head _ = NoHead

-- the numeral behind these letters
abbrev pub numeral_after : List ℕ → List ℕ → Option ℕ
numeral_after [] ds = numeral ds
numeral_after (p ∷ ps) (d ∷ ds) = if p == d then numeral_after ps ds else None
numeral_after (p ∷ ps) [] = None

-- the number of a literal `(_ bvN W)`
abbrev pub literal_number : List ℕ → Option ℕ
literal_number name = numeral_after (codes "bv") name

-- ---- values of terms

abbrev pub Variables : Type 0
Variables = Named Value

abbrev pub Functions : Type 0
Functions = Named (List Value → Value)

abbrev pub applied : Functions → List ℕ → List Value → Value
applied fs f vs = unwrap_or (option_map (λ (g : List Value → Value). g vs) (fs f)) unsorted

abbrev pub constant : List ℕ → Value
constant a = if bytes_eq a (codes "true") then Truth true else unsorted

-- a variable, a function without parameters, or a constant
abbrev pub atom_value : Option Value → Option (List Value → Value) → List ℕ → Value
atom_value (Some v) f a = v
atom_value None (Some f) a = f []
atom_value None None a = constant a

abbrev pub literal_of : Option ℕ → Option ℕ → Value
literal_of (Some n) (Some w) = Bits w (n % 2 ^ w)
literal_of _ _ = unsorted

abbrev pub literal_value : Exprs → Value
literal_value (Then (Atom n) (Then (Atom w) End)) = literal_of (literal_number n) (numeral w)
literal_value _ = unsorted

-- what a term is by its head: a binding, a literal, or an operator or a function of its parts' values
abbrev pub by_head : Functions → Head → (Unit {0} → Value) → Value → (Unit {0} → List Value) → Value
by_head fs LetHead binding literal parts = binding tt
by_head fs LiteralHead binding literal parts = literal
by_head fs (Operator rule op) binding literal parts = op (parts tt)
by_head fs (Function f) binding literal parts = applied fs f (parts tt)
by_head fs NoHead binding literal parts = unsorted

abbrev mutual
  pub value : Functions → Variables → Expr → Value
  value fs s (Atom a) = atom_value (s a) (fs a) a
  value fs s (Node End) = unsorted
  value fs s (Node (Then head rest)) = by_head fs (term_head head) (λ _. binding_value fs s rest) (literal_value rest) (λ _. values fs s rest)

  -- ((X E)) and a body, in which X stands for the value of E
  pub binding_value : Functions → Variables → Exprs → Value
  binding_value fs s (Then (Node (Then (Node (Then (Atom x) (Then e End))) End)) (Then body End)) = value fs (bind s x (value fs s e)) body
  binding_value fs s _ = unsorted

  pub values : Functions → Variables → Exprs → List Value
  values fs s End = []
  values fs s (Then e es) = value fs s e ∷ values fs s es

-- ---- scripts

pub record FunTree : Type 0 where
  pub name : List ℕ
  pub params : List (List ℕ × Sort)
  pub sort : Sort
  pub body : Expr

-- the parameters as variables
abbrev pub bind_all : Variables → List (List ℕ × Sort) → List Value → Variables
bind_all s [] vs = s
bind_all s (p ∷ ps) [] = s
bind_all s (p ∷ ps) (v ∷ vs) = bind_all (bind s p.0 v) ps vs

-- a function's value on values, where those before it stand for these
abbrev pub fun_value : Functions → FunTree → List Value → Value
fun_value fs f vs = value fs (bind_all no_names f.params vs) f.body

abbrev pub with_fun : Functions → FunTree → Functions
with_fun fs f name = if bytes_eq name f.name then Some (fun_value fs f) else fs name

-- the functions of a script, each of which may apply those before it
abbrev pub functions_after : Functions → List FunTree → Functions
functions_after fs [] = fs
functions_after fs (f ∷ more) = functions_after (with_fun fs f) more

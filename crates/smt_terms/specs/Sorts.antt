-- The sorts of terms, and which lists of functions are scripts: each name is a symbol, those of functions differ, and each
-- body has its function's sort and applies operators and earlier functions alone.
use Rattle.std.specs.Prelude.{◌≡◌, ℕ, ◌^◌, ◌==◌, nat_lt, Bool, true, false, ◌&&◌, ◌||◌, if◌then◌else◌, List, [], ◌∷◌, codes, Option, Some, None, option_map, unwrap_or}
use Rattle.std.specs.List.{AllByRecursion}
use Rattle.std.specs.Str.{bytes_eq}
use Rattle.smt_terms.specs.declared.sort.Sort.{Sort}
use Rattle.smt_terms.specs.declared.sort.Sort.TheVariants as sort
use Rattle.smt_terms.specs.Expression.{Expr, Atom, Node, Exprs, End, Then}
use Rattle.smt_terms.specs.Symbols.{is_symbol, IsSymbol}
use Rattle.smt_terms.specs.Operators.{Rule, is_width, vector_sort, same_sort, Head, LetHead, LiteralHead, Operator, Function, NoHead}
use Rattle.smt_terms.specs.Meaning.{Named, no_names, bind, term_head, numeral, literal_number, FunTree}

-- the sorts of variables, and what functions' sorts are of their arguments'
abbrev pub Sorts : Type 0
Sorts = Named Sort

abbrev pub Rules : Type 0
Rules = Named Rule

abbrev pub constant_sort : List ℕ → Option Sort
constant_sort a = if bytes_eq a (codes "true") then Some sort.Bool else None

abbrev pub atom_sort : Option Sort → Option Rule → List ℕ → Option Sort
atom_sort (Some s) f a = Some s
atom_sort None (Some f) a = f []
atom_sort None None a = constant_sort a

-- a literal's number has no more bits than its width
abbrev pub literal_sort_of : Option ℕ → Option ℕ → Option Sort
literal_sort_of (Some n) (Some w) = if nat_lt n (2 ^ w) then vector_sort w else None
literal_sort_of _ _ = None

abbrev pub literal_sort : Exprs → Option Sort
literal_sort (Then (Atom n) (Then (Atom w) End)) = literal_sort_of (literal_number n) (numeral w)
literal_sort _ = None

abbrev pub applied_sort : Rules → List ℕ → List (Option Sort) → Option Sort
applied_sort fs f ss = unwrap_or (option_map (λ (rule : Rule). rule ss) (fs f)) None

abbrev pub sort_by_head : Rules → Head → (Unit {0} → Option Sort) → Option Sort → (Unit {0} → List (Option Sort)) → Option Sort
sort_by_head fs LetHead binding literal parts = binding tt
sort_by_head fs LiteralHead binding literal parts = literal
sort_by_head fs (Operator rule op) binding literal parts = rule (parts tt)
sort_by_head fs (Function f) binding literal parts = applied_sort fs f (parts tt)
sort_by_head fs NoHead binding literal parts = None

-- the sort of a body in which the name, a symbol, stands for a term of that sort
abbrev pub bound_sort : Sorts → List ℕ → Option Sort → (Sorts → Option Sort) → Option Sort
bound_sort s x (Some r) body = if is_symbol x then body (bind s x r) else None
bound_sort s x None body = None

abbrev mutual
  pub sort_of : Rules → Sorts → Expr → Option Sort
  sort_of fs s (Atom a) = atom_sort (s a) (fs a) a
  sort_of fs s (Node End) = None
  sort_of fs s (Node (Then head rest)) = sort_by_head fs (term_head head) (λ _. binding_sort fs s rest) (literal_sort rest) (λ _. sorts_of fs s rest)

  pub binding_sort : Rules → Sorts → Exprs → Option Sort
  binding_sort fs s (Then (Node (Then (Node (Then (Atom x) (Then e End))) End)) (Then body End)) = bound_sort s x (sort_of fs s e) (λ r. sort_of fs r body)
  binding_sort fs s _ = None

  pub sorts_of : Rules → Sorts → Exprs → List (Option Sort)
  sorts_of fs s End = []
  sorts_of fs s (Then e es) = sort_of fs s e ∷ sorts_of fs s es

-- ---- scripts

-- the sorts of arguments are those of the parameters
abbrev pub sorts_fit : List (List ℕ × Sort) → List (Option Sort) → Bool
sorts_fit [] [] = true
sorts_fit (p ∷ ps) (Some s ∷ ss) = same_sort s p.1 && sorts_fit ps ss
sorts_fit _ _ = false

abbrev pub rule_of : FunTree → Rule
rule_of f ss = if sorts_fit f.params ss then Some f.sort else None

abbrev pub with_rule : Rules → FunTree → Rules
with_rule fs f name = if bytes_eq name f.name then Some (rule_of f) else fs name

abbrev pub rules_after : Rules → List FunTree → Rules
rules_after fs [] = fs
rules_after fs (f ∷ more) = rules_after (with_rule fs f) more

-- the parameters as variables
abbrev pub sorts_with : Sorts → List (List ℕ × Sort) → Sorts
sorts_with s [] = s
sorts_with s (p ∷ ps) = sorts_with (bind s p.0 p.1) ps

-- bit-vectors of 1 to 128 bits, and arrays of bits or of bytes
abbrev pub is_sort : Sort → Bool
is_sort sort.Bool = true
is_sort (sort.Bits w) = is_width w
is_sort (sort.Array w) = w == 1 || w == 8

abbrev pub IsParam : List ℕ × Sort → Type 0
IsParam p = IsSymbol p.0 × (is_sort p.1 ≡ true)

pub record IsFun (fs : Rules) (f : FunTree) : Type 0 where
  pub new : fs f.name ≡ None
  pub symbol : IsSymbol f.name
  pub named : term_head (Atom f.name) ≡ Function f.name
  pub params : AllByRecursion IsParam f.params
  pub sort : is_sort f.sort ≡ true
  pub body : sort_of fs (sorts_with no_names f.params) f.body ≡ Some f.sort

-- functions that stand after those of the rules
abbrev pub AreFuns : Rules → List FunTree → Type 0
AreFuns fs [] = Unit {0}
AreFuns fs (f ∷ more) = IsFun fs f × AreFuns (with_rule fs f) more

abbrev pub IsScript : List FunTree → Type 0
IsScript funs = AreFuns no_names funs

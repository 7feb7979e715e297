-- Branches both of whose sides apply one function. Solvers write the term of a function out wherever it is applied, so what they see of a chain of
-- such branches doubles with each. Such a branch is therefore one application, to arguments that the branch's condition chooses.
use Rattle.std.specs.Prelude.{ℕ, ◌==◌, Bool, true, false, ◌&&◌, if◌then◌else◌, List, [], ◌∷◌, codes, Option, Some, None, option_map}
use Rattle.std.specs.Str.{bytes_eq}
use Rattle.smt_terms.specs.Expression.{Expr, Atom, Node, Exprs, End, Then, is_atom, bound, ite}
use Rattle.smt_export.specs.Terms.{falsity}

abbrev pub same_count : Exprs → Exprs → Bool
same_count End End = true
same_count End (Then y ys) = false
same_count (Then x xs) End = false
same_count (Then x xs) (Then y ys) = same_count xs ys

-- ---- applications

-- a function of a definition applied; where there is a guard, the term is false where that is
pub record Application : Type 0 where
  pub guard : Option Expr
  pub name : List ℕ
  pub args : Exprs

abbrev pub guarded : Option Expr → Expr → Expr
guarded None x = x
guarded (Some c) x = ite c x falsity

abbrev pub application_expr : Application → Expr
application_expr a = guarded a.guard (Node (Then (Atom a.name) a.args))

-- the names of definitions' functions begin with an f, those of operators don't
abbrev pub is_fun_name : List ℕ → Bool
is_fun_name [] = false
is_fun_name (c ∷ cs) = c == 102

abbrev pub bound_each : List ℕ → Expr → Exprs → Exprs
bound_each x e End = End
bound_each x e (Then y ys) = Then (bound x e y) (bound_each x e ys)

-- where the name stands for a term
abbrev pub with_binding : List ℕ → Expr → Application → Application
with_binding x e a = record { guard = option_map (bound x e) a.guard; name = a.name; args = bound_each x e a.args }

abbrev pub both_guards : Expr → Option Expr → Expr
both_guards c None = c
both_guards c (Some d) = ite c d falsity

abbrev pub with_guard : Expr → Application → Application
with_guard c a = record { guard = Some (both_guards c a.guard); name = a.name; args = a.args }

abbrev pub plain : List ℕ → Exprs → Application
plain f args = record { guard = None; name = f; args = args }

abbrev pub plain_of : Expr → Exprs → Option Application
plain_of (Atom f) args = if is_fun_name f then Some (plain f args) else None
plain_of (Node es) args = None

-- ((X E)) around what is applied; `true` keeps its meaning
abbrev pub under_pair : Expr → Expr → Option Application → Option Application
under_pair (Atom x) e o = if bytes_eq (codes "true") x then None else option_map (with_binding x e) o
under_pair (Node es) e o = None

abbrev pub under_parts : Exprs → Option Application → Option Application
under_parts (Then x (Then e End)) o = under_pair x e o
under_parts _ o = None

abbrev pub under_binding : Expr → Option Application → Option Application
under_binding (Atom a) o = None
under_binding (Node es) o = under_parts es o

abbrev pub under_list : Exprs → Option Application → Option Application
under_list (Then b End) o = under_binding b o
under_list _ o = None

abbrev pub under_bindings : Expr → Option Application → Option Application
under_bindings (Atom a) o = None
under_bindings (Node bs) o = under_list bs o

abbrev pub is_not_true : Exprs → Bool
is_not_true (Then f (Then t End)) = is_atom (codes "not") f && is_atom (codes "true") t
is_not_true _ = false

abbrev pub is_falsity : Expr → Bool
is_falsity (Atom a) = false
is_falsity (Node es) = is_not_true es

abbrev pub under_choice : Expr → Expr → Option Application → Option Application
under_choice c y o = if is_falsity y then option_map (with_guard c) o else None

abbrev pub under_let : Expr → Expr → Option Application → Option Application
under_let head bindings o = if is_atom (codes "let") head then under_bindings bindings o else None

abbrev pub under_ite : Expr → Expr → Expr → Option Application → Option Application
under_ite head c y o = if is_atom (codes "ite") head then under_choice c y o else None

abbrev pub plain_items : Exprs → Option Application
plain_items End = None
plain_items (Then head rest) = plain_of head rest

-- the first of these that there is
abbrev pub first_applied : Option Application → Option Application → Option Application → Option Application
first_applied (Some a) p q = Some a
first_applied None (Some b) q = Some b
first_applied None None q = q

-- what a term applies, if it is an application under bindings and guards
abbrev mutual
  pub application : Expr → Option Application
  application (Atom a) = None
  application (Node es) = first_applied (in_let es) (in_ite es) (plain_items es)

  pub in_let : Exprs → Option Application
  in_let (Then head (Then bindings (Then body End))) = under_let head bindings (application body)
  in_let _ = None

  pub in_ite : Exprs → Option Application
  in_ite (Then head (Then c (Then x (Then y End)))) = under_ite head c y (application x)
  in_ite _ = None

-- ---- branches

abbrev pub same_atom : Expr → Expr → Bool
same_atom (Atom a) x = is_atom a x
same_atom (Node es) x = false

-- x where c is true, else y
abbrev pub chosen : Expr → Expr → Expr → Expr
chosen c x y = if same_atom x y then x else ite c x y

abbrev pub chosen_each : Expr → Exprs → Exprs → Exprs
chosen_each c (Then x xs) (Then y ys) = Then (chosen c x y) (chosen_each c xs ys)
chosen_each c _ _ = End

abbrev pub chosen_guard : Expr → Option Expr → Option Expr → Option Expr
chosen_guard c None None = None
chosen_guard c None (Some y) = Some (chosen c (Atom (codes "true")) y)
chosen_guard c (Some x) None = Some (chosen c x (Atom (codes "true")))
chosen_guard c (Some x) (Some y) = Some (chosen c x y)

abbrev pub joined_applications : Expr → Application → Application → Application
joined_applications c a b = record { guard = chosen_guard c a.guard b.guard; name = a.name; args = chosen_each c a.args b.args }

abbrev pub branch_of : Expr → Option Application → Option Application → Expr → Expr
branch_of c (Some a) (Some b) otherwise = if bytes_eq a.name b.name && same_count a.args b.args then application_expr (joined_applications c a b) else otherwise
branch_of c _ _ otherwise = otherwise

-- x where c is true, else y; one application where both are applications of one function
abbrev pub branch_expr : Expr → Expr → Expr → Expr
branch_expr c x y = branch_of c (application x) (application y) (ite c x y)

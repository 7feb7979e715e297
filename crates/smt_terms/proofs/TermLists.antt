-- Lists of terms: what is told of each is told of all, and how many nodes they have.
use Rattle.std.proofs.Common.{◌≡◌, ℕ, zero, suc, ◌+◌, ◌<◌, ◌≤◌, List, [], ◌∷◌, ◌++◌, length, get_or, map, drop, Option, Some, refl, sym, ap, subst, ◌∙◌, arith}
use Rattle.std.proofs.lemmas.List.{drop_more, drop_all, append_assoc, append-nil}
use Rattle.smt_terms.specs.declared.sort.Sort.{Sort}
use Rattle.smt_terms.specs.declared.tree.Tree.{Tree}
use Rattle.smt_terms.specs.Expression.{Expr, Exprs, End, Then, exprs}
use Rattle.smt_terms.specs.Meaning.{FunTree, no_names}
use Rattle.smt_terms.specs.Sorts.{rules_after, sort_of, sorts_of}
use Rattle.smt_terms.specs.Views.{expr}
use Rattle.smt_terms.specs.declared.datum.Datum.{Datum}
use Rattle.smt_terms.specs.declared.scope.Binding.{Binding}
use Rattle.smt_terms.specs.inner.Finding.{weight, weights}
use Rattle.smt_terms.specs.inner.Scope.{sorts_in}
use Rattle.smt_terms.specs.inner.Telling.{Tells, TellsAll}

module _ (funs : List FunTree) (scope : List Binding) where
  abbrev sort : Expr → Option Sort
  sort e = sort_of (rules_after no_names funs) (sorts_in scope) e

  abbrev sorts : Exprs → List (Option Sort)
  sorts es = sorts_of (rules_after no_names funs) (sorts_in scope) es

  tells-none : TellsAll funs scope End []
  tells-none = record { sorts = λ ss h. none ss h; told = λ ss h. refl }
    where
      none : (ss : List Sort) → [] ≡ map Some ss → [] ≡ ss
      none [] h = refl
      none (s ∷ ss) h = absurd (cc)

  first-and-rest : (o : Option Sort) (os : List (Option Sort)) (ss : List Sort) → o ∷ os ≡ map Some ss → (s : Sort) × (r : List Sort) × (ss ≡ s ∷ r) × (o ≡ Some s) × (os ≡ map Some r)
  first-and-rest o os [] h = absurd (cc)
  first-and-rest o os (s ∷ r) h = (s, r, refl, (cc), (cc))

  tells-more : (e : Expr) (es : Exprs) (d : Datum) (ds : List Datum) → Tells funs scope e d → TellsAll funs scope es ds → TellsAll funs scope (Then e es) (d ∷ ds)
  tells-more e es d ds first rest = record {
    sorts = λ ss h. let t = first-and-rest (sort e) (sorts es) ss h in (λ j. (first.tells t.0 t.3).0 j ∷ rest.sorts t.1 t.4 j) ∙ sym t.2;
    told = λ ss h. let t = first-and-rest (sort e) (sorts es) ss h in λ j. (first.tells t.0 t.3).1 j ∷ rest.told t.1 t.4 j;
  }

  -- the terms from the i-th on are left to tell
  pub record AllLeft (trees : List Tree) (i : ℕ) (ds : List Datum) : Type 0 where
    pub left : (more : List Datum) → TellsAll funs scope (exprs (map expr (drop i trees))) more → TellsAll funs scope (exprs (map expr trees)) (ds ++ more)

  pub all_left_first : (trees : List Tree) (ds : List Datum) → ds ≡ [] → AllLeft trees 0 ds
  all_left_first trees ds e = record { left = λ more h. subst (λ (xs : List Datum). TellsAll funs scope (exprs (map expr trees)) (xs ++ more)) (sym e) h }

  pub all_left_more : (trees : List Tree) (i : ℕ) (ds after : List Datum) (t : Tree) (d : Datum) → i < length trees → t ≡ get_or trees i t → after ≡ ds ++ d ∷ [] → Tells funs scope (expr t) d → AllLeft trees i ds → AllLeft trees (i + 1) after
  all_left_more trees i ds after t d lt is e told h = record {
    left = λ more g.
        let split : drop i trees ≡ t ∷ drop (i + 1) trees = drop_more trees i t lt ∙ (λ j. sym is j ∷ drop (i + 1) trees) in
        let all : TellsAll funs scope (exprs (map expr (drop i trees))) (d ∷ more) = subst (λ (xs : List Tree). TellsAll funs scope (exprs (map expr xs)) (d ∷ more)) (sym split) (tells-more (expr t) (exprs (map expr (drop (i + 1) trees))) d more told g) in
        let same : ds ++ (d ∷ more) ≡ after ++ more = sym (append_assoc ds (d ∷ []) more) ∙ (λ j. sym e j ++ more) in
        subst (λ (xs : List Datum). TellsAll funs scope (exprs (map expr trees)) xs) same (h.left (d ∷ more) all);
  }

  pub all_left_done : (trees : List Tree) (i : ℕ) (ds : List Datum) → length trees ≤ i → AllLeft trees i ds → TellsAll funs scope (exprs (map expr trees)) ds
  all_left_done trees i ds le h =
      let none : TellsAll funs scope (exprs (map expr (drop i trees))) [] = subst (λ (xs : List Tree). TellsAll funs scope (exprs (map expr xs)) []) (sym (drop_all i trees le)) tells-none in
      subst (λ (xs : List Datum). TellsAll funs scope (exprs (map expr trees)) xs) (append-nil ds) (h.left [] none)

-- ---- how many nodes

pub weights_at : (trees : List Tree) (i : ℕ) (t : Tree) → i < length trees → t ≡ get_or trees i t → weight (expr t) ≤ weights (exprs (map expr trees))
weights_at trees i t lt is = at trees i lt is
  where
    at : (xs : List Tree) (k : ℕ) → k < length xs → t ≡ get_or xs k t → weight (expr t) ≤ weights (exprs (map expr xs))
    at [] k l e = absurd (omega arith)
    at (x ∷ xs) zero l e = let same : weight (expr t) ≡ weight (expr x) = ap (λ (y : Tree). weight (expr y)) e in omega arith
    at (x ∷ xs) (suc k) l e = let rest : weight (expr t) ≤ weights (exprs (map expr xs)) = at xs k (omega arith) e in omega arith

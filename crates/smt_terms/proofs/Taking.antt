-- Inputs that are taken one after the other.
use Rattle.std.proofs.Common.{◌≡◌, ℕ, zero, suc, ◌+◌, ◌<◌, ◌≤◌, true, List, [], ◌∷◌, ◌++◌, length, get_or, drop, Some, None, refl, sym, ap, subst, ◌∙◌, arith}
use Rattle.std.specs.Prelude.{◌&&◌}
use Rattle.std.specs.List.{AllByRecursion}
use Rattle.std.proofs.lemmas.List.{drop_more, drop_all, append_assoc, append-nil}
use Rattle.std.proofs.lemmas.Bool.{eq-eqb}
use Rattle.smt_terms.specs.declared.sort.Sort.{Sort}
use Rattle.smt_terms.specs.declared.sort.Sort.TheVariants as sort
use Rattle.smt_terms.specs.Operators.{same_sort}
use Rattle.smt_terms.specs.Sorts.{is_sort}
use Rattle.smt_terms.specs.declared.datum.Datum.{Datum}
use Rattle.smt_terms.specs.declared.smt.Smt.{Smt}
use Rattle.smt_terms.specs.Values.{AreOfSorts}
use Rattle.smt_terms.specs.inner.Taking.{Takes, TakesAll}

same-itself : (s : Sort) → same_sort s s ≡ true
same-itself sort.Bool = refl
same-itself (sort.Bits w) = eq-eqb w w refl
same-itself (sort.Array w) = eq-eqb w w refl

more-sorts : (p : List ℕ × Sort) (ps : List (List ℕ × Sort)) (x : Smt) (xs : List Smt) (d : Datum) (ds : List Datum) → Takes p.1 x (Some d) → TakesAll ps xs (Some ds) → TakesAll (p ∷ ps) (x ∷ xs) (Some (d ∷ ds))
more-sorts p ps x xs d ds h g = (
  (h.0, g.0),
  (λ j. same_sort (h.1 j) p.1 && g.1 j) ∙ (λ j. same-itself p.1 j && true),
  (λ j. h.2 j ∷ g.2 j),
)

-- the inputs from the i-th on are left to take
pub record TakenTo (ps : List (List ℕ × Sort)) (xs : List Smt) (i : ℕ) (ds : List Datum) : Type 0 where
  pub some : (more : List Datum) → TakesAll (drop i ps) (drop i xs) (Some more) → TakesAll ps xs (Some (ds ++ more))
  pub none : TakesAll (drop i ps) (drop i xs) None → TakesAll ps xs None

pub taken_first : (ps : List (List ℕ × Sort)) (xs : List Smt) (ds : List Datum) → ds ≡ [] → TakenTo ps xs 0 ds
taken_first ps xs ds e = record { some = λ more h. subst (λ (all : List Datum). TakesAll ps xs (Some (all ++ more))) (sym e) h; none = λ h. h }

module _ (ps : List (List ℕ × Sort)) (xs : List Smt) (i : ℕ) (p : List ℕ × Sort) (x : Smt) (lp : i < length ps) (lx : i < length xs) (ip : p ≡ get_or ps i p) (ix : x ≡ get_or xs i x) where
  rest-ps : drop i ps ≡ p ∷ drop (i + 1) ps
  rest-ps = drop_more ps i p lp ∙ (λ j. sym ip j ∷ drop (i + 1) ps)

  rest-xs : drop i xs ≡ x ∷ drop (i + 1) xs
  rest-xs = drop_more xs i x lx ∙ (λ j. sym ix j ∷ drop (i + 1) xs)

  pub taken_more : (ds after : List Datum) (d : Datum) → after ≡ ds ++ d ∷ [] → Takes p.1 x (Some d) → TakenTo ps xs i ds → TakenTo ps xs (i + 1) after
  taken_more ds after d e t h = record {
    some = λ more g.
        let all : TakesAll (drop i ps) (drop i xs) (Some (d ∷ more)) = subst (λ (qs : List (List ℕ × Sort)). TakesAll qs (drop i xs) (Some (d ∷ more))) (sym rest-ps)
        (subst (λ (ys : List Smt). TakesAll (p ∷ drop (i + 1) ps) ys (Some (d ∷ more))) (sym rest-xs) (more-sorts p (drop (i + 1) ps) x (drop (i + 1) xs) d more t g)) in
        let same : ds ++ (d ∷ more) ≡ after ++ more = sym (append_assoc ds (d ∷ []) more) ∙ (λ j. sym e j ++ more) in
        subst (λ (all : List Datum). TakesAll ps xs (Some all)) same (h.some (d ∷ more) all);
    none = λ g. h.none (subst (λ (qs : List (List ℕ × Sort)). AreOfSorts qs (drop i xs) → ⊥) (sym rest-ps) (subst (λ (ys : List Smt). AreOfSorts (p ∷ drop (i + 1) ps) ys → ⊥) (sym rest-xs) (λ a. g a.1)));
  }

  pub taken_none : (ds : List Datum) → Takes p.1 x None → TakenTo ps xs i ds → TakesAll ps xs None
  taken_none ds t h = h.none (subst (λ (qs : List (List ℕ × Sort)). AreOfSorts qs (drop i xs) → ⊥) (sym rest-ps) (subst (λ (ys : List Smt). AreOfSorts (p ∷ drop (i + 1) ps) ys → ⊥) (sym rest-xs) (λ a. t a.0)))

pub taken_done : (ps : List (List ℕ × Sort)) (xs : List Smt) (i : ℕ) (ds : List Datum) → length ps ≤ i → length ps ≡ length xs → TakenTo ps xs i ds → TakesAll ps xs (Some ds)
taken_done ps xs i ds le e h =
    let lx : length xs ≤ i = omega arith in
    let none : TakesAll (drop i ps) (drop i xs) (Some []) = subst (λ (qs : List (List ℕ × Sort)). TakesAll qs (drop i xs) (Some [])) (sym (drop_all i ps le)) (subst (λ (ys : List Smt). TakesAll [] ys (Some [])) (sym (drop_all i xs lx)) (tt, refl, refl)) in
    subst (λ (all : List Datum). TakesAll ps xs (Some all)) (append-nil ds) (h.some [] none)

pub taken_unequal : (ps : List (List ℕ × Sort)) (xs : List Smt) → (length ps ≡ length xs → ⊥) → TakesAll ps xs None
taken_unequal [] [] h a = h refl
taken_unequal [] (x ∷ xs) h a = a
taken_unequal (p ∷ ps) [] h a = a
taken_unequal (p ∷ ps) (x ∷ xs) h a = taken_unequal ps xs (λ e. h (omega arith)) a.1

pub sort_at : (ps : List (List ℕ × Sort)) (i : ℕ) (p : List ℕ × Sort) → i < length ps → p ≡ get_or ps i p → AllByRecursion (λ p. is_sort p.1 ≡ true) ps → is_sort p.1 ≡ true
sort_at [] i p lt e h = absurd (omega arith)
sort_at (q ∷ qs) zero p lt e h = ap (λ (r : List ℕ × Sort). is_sort r.1) e ∙ h.0
sort_at (q ∷ qs) (suc i) p lt e h = sort_at qs i p (omega arith) e h.1

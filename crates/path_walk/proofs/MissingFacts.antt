-- Facts that aren't known yet, one after the other.
use Rattle.std.proofs.Common.{◌≡◌, ℕ, ◌+◌, ◌<◌, List, [], ◌∷◌, ◌++◌, map, take, length, get_or, refl, sym, ap, ◌∙◌, subst, inl, inr, Contains}
use Rattle.std.proofs.lemmas.List.{map-append, take_more}
use Rattle.triple_kernel.specs.declared.triple.Fact.{Fact}
use Rattle.triple_kernel.specs.Tree.{FactTree, fact_tree}
use Rattle.frame_compose.specs.Rules.{AreMissing}
use Rattle.path_walk.specs.inner.Acts.{IsAdded}

pub missing_known : {A : Type 0} (known xs more : List A) (x : A) → AreMissing known xs more → Contains known x → AreMissing known (xs ++ x ∷ []) more
missing_known known [] more x are c = inl (c, are)
missing_known known (y ∷ ys) more x (inl a) c = inl (a.0, missing_known known ys more x a.1 c)
missing_known known (y ∷ ys) [] x (inr a) c = absurd a.1
missing_known known (y ∷ ys) (z ∷ more) x (inr a) c = inr (a.0, (a.1.0, missing_known known ys more x a.1.1 c))

pub missing_new : {A : Type 0} (known xs more : List A) (x : A) → AreMissing known xs more → (Contains known x → ⊥) → AreMissing known (xs ++ x ∷ []) (more ++ x ∷ [])
missing_new known [] more x are n = subst (λ (m : List _). AreMissing known (x ∷ []) (m ++ x ∷ [])) are (inr (n, (refl, refl)))
missing_new known (y ∷ ys) more x (inl a) n = inl (a.0, missing_new known ys more x a.1 n)
missing_new known (y ∷ ys) [] x (inr a) n = absurd a.1
missing_new known (y ∷ ys) (z ∷ more) x (inr a) n = inr (a.0, (a.1.0, missing_new known ys more x a.1.1 n))

pub missing_step : (known xs old new : List FactTree) (x : FactTree) → AreMissing known xs old → IsAdded known x old new → AreMissing known (xs ++ x ∷ []) new
missing_step known xs old new x are (inl a) = subst (AreMissing known (xs ++ x ∷ [])) (sym a.1) (missing_known known xs old x are a.0)
missing_step known xs old new x are (inr a) = subst (AreMissing known (xs ++ x ∷ [])) (sym a.1) (missing_new known xs old x are a.0)

-- .. of the first i facts and the next one
pub missing_more : (known : List FactTree) (facts : List Fact) (i : ℕ) (x : Fact) (old new : List FactTree) → i < length facts → x ≡ get_or facts i x → AreMissing known (map fact_tree (take i facts)) old →
    IsAdded known (fact_tree x) old new → AreMissing known (map fact_tree (take (i + 1) facts)) new
missing_more known facts i x old new lt is are added =
    subst (λ (xs : List FactTree). AreMissing known xs new) (sym (ap (map fact_tree) (take_more facts i x lt) ∙ map-append fact_tree (take i facts) (get_or facts i x ∷ []) ∙ (λ j. map fact_tree (take i facts) ++ fact_tree (sym is j) ∷ [])))
    (missing_step known (map fact_tree (take i facts)) old new (fact_tree x) are added)

-- Places in a term: the numbers of the children on the way, from 0.
use Rattle.std.specs.Prelude.{◌≡◌, ℕ, zero, suc, List, [], ◌∷◌, slice_get, Some}
use Rattle.word_terms.specs.Tree.{Const, Var, Bin, Extend, Load, MemVar, Store, Compare, Neg, Inside}
use Rattle.fun_laws.specs.Laws.{Law, LawGives, Term, OfWord, OfMem, OfCond}

-- the children of a term, in the order of its text
abbrev pub children : Term → List Term
children (OfWord (Const n)) = []
children (OfWord (Var i)) = []
children (OfWord (Bin op a b)) = OfWord a ∷ OfWord b ∷ []
children (OfWord (Extend ext a)) = OfWord a ∷ []
children (OfWord (Load width m a)) = OfMem m ∷ OfWord a ∷ []
children (OfMem (MemVar i)) = []
children (OfMem (Store width m a v)) = OfMem m ∷ OfWord a ∷ OfWord v ∷ []
children (OfCond (Compare cmp a b)) = OfWord a ∷ OfWord b ∷ []
children (OfCond (Neg c)) = OfCond c ∷ []
children (OfCond (Inside width m a)) = OfMem m ∷ OfWord a ∷ []

-- the term with another child of that number, which is of the same kind
abbrev pub with_child : Term → ℕ → Term → Term
with_child (OfWord (Bin op a b)) zero (OfWord x) = OfWord (Bin op x b)
with_child (OfWord (Bin op a b)) (suc k) (OfWord x) = OfWord (Bin op a x)
with_child (OfWord (Extend ext a)) k (OfWord x) = OfWord (Extend ext x)
with_child (OfWord (Load width m a)) zero (OfMem x) = OfWord (Load width x a)
with_child (OfWord (Load width m a)) (suc k) (OfWord x) = OfWord (Load width m x)
with_child (OfMem (Store width m a v)) zero (OfMem x) = OfMem (Store width x a v)
with_child (OfMem (Store width m a v)) (suc zero) (OfWord x) = OfMem (Store width m x v)
with_child (OfMem (Store width m a v)) (suc (suc k)) (OfWord x) = OfMem (Store width m a x)
with_child (OfCond (Compare cmp a b)) zero (OfWord x) = OfCond (Compare cmp x b)
with_child (OfCond (Compare cmp a b)) (suc k) (OfWord x) = OfCond (Compare cmp a x)
with_child (OfCond (Neg c)) k (OfCond x) = OfCond (Neg x)
with_child (OfCond (Inside width m a)) zero (OfMem x) = OfCond (Inside width x a)
with_child (OfCond (Inside width m a)) (suc k) (OfWord x) = OfCond (Inside width m x)
with_child t k x = t

-- the law rewrites the first term at that place to the second
abbrev pub Rewrites : Law → List ℕ → Term → Term → Type 0
Rewrites law [] t u = LawGives law t u
Rewrites law (k ∷ ks) t u = (s v : Term) × (slice_get (children t) k ≡ Some s) × Rewrites law ks s v × (u ≡ with_child t k v)

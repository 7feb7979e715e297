-- Steps that rewrite one term, as they are noted one after the other.
use Rattle.std.specs.Prelude.{◌≡◌, ℕ, List, [], ◌∷◌, ◌++◌, slice_get, Some}
use Rattle.fun_laws.specs.declared.step.Rw.{Rw}
use Rattle.fun_laws.specs.declared.log.Log.{Log}
use Rattle.fun_laws.specs.Laws.{Law, law_at, LawGives, Term}
use Rattle.fun_laws.specs.Places.{children, Rewrites}
use Rattle.fun_laws.specs.Simple.{IsSimple}

-- ---- terms that no law rewrites

-- no law matches in the children
abbrev pub HasSimpleChildren : Term → Type 0
HasSimpleChildren t = (j : ℕ) (s : Term) → slice_get (children t) j ≡ Some s → IsSimple s

-- the law of that number gives u of t
abbrev pub GivesBy : ℕ → Term → Term → Type 0
GivesBy n t u = (law : Law) × (law_at n ≡ Some law) × LawGives law t u

-- the law of that number gives nothing of t
abbrev pub IsFree : ℕ → Term → Type 0
IsFree n t = (u : Term) → GivesBy n t u → ⊥

-- no law matches at the term itself
abbrev pub IsSettled : Term → Type 0
IsSettled t = (n : ℕ) → IsFree n t

-- ---- steps

-- the step rewrites t to u, where t stands at the place `front` of term k of definition d
pub record IsTermStep (d k : ℕ) (front : List ℕ) (r : Rw) (t u : Term) : Type 0 where
  pub law : Law
  pub place : List ℕ
  pub def : r.def ≡ d
  pub term : r.term ≡ k
  pub behind : r.place ≡ front ++ place
  pub numbered : law_at r.law ≡ Some law
  pub rewrites : Rewrites law place t u

-- the steps, one after the other, rewrite x to y there; these are words, memories or conditions
abbrev pub AreTermSteps : {A : Type 0} → (A → Term) → ℕ → ℕ → List ℕ → List Rw → A → A → Type 0
AreTermSteps of d k front [] x y = x ≡ y
AreTermSteps {A} of d k front (r ∷ rs) x y = (z : A) × IsTermStep d k front r (of x) (of z) × AreTermSteps of d k front rs z y

-- one step more is noted: the law at the log's place
pub record IsOneMore (law : ℕ) (old new : Log) : Type 0 where
  pub def : new.def ≡ old.def
  pub term : new.term ≡ old.term
  pub place : new.place ≡ old.place
  pub steps : new.steps ≡ old.steps ++ record { def = old.def; term = old.term; place = old.place; law = law } ∷ []

-- a child of that number is gone on to
pub record IsEntered (child : ℕ) (old new : Log) : Type 0 where
  pub def : new.def ≡ old.def
  pub term : new.term ≡ old.term
  pub place : new.place ≡ old.place ++ child ∷ []
  pub steps : new.steps ≡ old.steps

-- the log is back from a child
pub record IsLeft (old new : Log) : Type 0 where
  pub def : new.def ≡ old.def
  pub term : new.term ≡ old.term
  pub place : (front : List ℕ) (child : ℕ) → old.place ≡ front ++ child ∷ [] → new.place ≡ front
  pub steps : new.steps ≡ old.steps

-- further steps are noted, which rewrite x to y at the place below that of the log
pub record IsNoted {A : Type 0} (of : A → Term) (below : List ℕ) (old new : Log) (x y : A) : Type 0 where
  pub def : new.def ≡ old.def
  pub term : new.term ≡ old.term
  pub place : new.place ≡ old.place
  pub made : List Rw
  pub steps : new.steps ≡ old.steps ++ made
  pub are : AreTermSteps of old.def old.term (old.place ++ below) made x y

-- Parts of a definition whose terms are simplified one after the other, in the order of its text.
use Rattle.std.specs.Prelude.{◌≡◌, ℕ, zero, suc, ◌+◌, List, [], ◌∷◌, ◌++◌, Option, Some, option_map, slice_get}
use Rattle.std.specs.List.{AllByRecursion}
use Rattle.word_terms.specs.Tree.{WordTree, MemTree}
use Rattle.tailrec_lang.specs.Tree.{ValuesTree, StepTree, Bind, BindMem, Need, BodyTree, Do, Branch, Call, Again, Leave, ArmTrees, NoArm, Arm, DefTree}
use Rattle.fun_laws.specs.declared.step.Rw.{Rw}
use Rattle.fun_laws.specs.declared.log.Log.{Log}
use Rattle.fun_laws.specs.Laws.{Law, law_at, Term, OfWord, OfMem, OfCond}
use Rattle.fun_laws.specs.Places.{Rewrites}
use Rattle.fun_laws.specs.Simple.{IsSimple}
use Rattle.fun_laws.specs.inner.Steps.{IsNoted}
use Rattle.fun_laws.specs.Rewriting.{step_term, term_at, arm_term_at, value_at, with_step_term, with_word_term, with_mem_term, with_value, with_term, with_arm_term}

-- ---- what has terms: which one has a number, and the same with another term there

pub record Parts (A : Type 0) : Type 1 where
  pub at : A → ℕ → Option Term
  pub put : A → ℕ → Term → A

-- the step rewrites x to y, whose first term is number o of definition d; the places of its terms begin with `front`
pub record IsPartStep {A : Type 0} (p : Parts A) (d o : ℕ) (front : List ℕ) (r : Rw) (x y : A) : Type 0 where
  pub law : Law
  pub place : List ℕ
  pub number : ℕ
  pub old : Term
  pub new : Term
  pub def : r.def ≡ d
  pub term : r.term ≡ o + number
  pub behind : r.place ≡ front ++ place
  pub numbered : law_at r.law ≡ Some law
  pub there : p.at x number ≡ Some old
  pub rewrites : Rewrites law place old new
  pub stated : y ≡ p.put x number new

abbrev pub ArePartSteps : {A : Type 0} → Parts A → ℕ → ℕ → List ℕ → List Rw → A → A → Type 0
ArePartSteps p d o front [] x y = x ≡ y
ArePartSteps {A} p d o front (r ∷ rs) x y = (z : A) × IsPartStep p d o front r x z × ArePartSteps p d o front rs z y

-- further steps are noted, which rewrite x, whose first term has number o, to y
pub record AreMade {A : Type 0} (p : Parts A) (o : ℕ) (old new : Log) (x y : A) : Type 0 where
  pub def : new.def ≡ old.def
  pub place : new.place ≡ old.place
  pub made : List Rw
  pub steps : new.steps ≡ old.steps ++ made
  pub are : ArePartSteps p old.def o old.place made x y

-- that, where the first term of x is the one that is looked at; and n terms are passed
pub record ArePassed {A : Type 0} (p : Parts A) (n : ℕ) (old new : Log) (x y : A) : Type 0 where
  pub terms : new.term ≡ old.term + n
  pub made : AreMade p old.term old new x y

-- steps are noted that rewrite the step's term
abbrev pub IsNotedStep : Log → Log → StepTree → StepTree → Type 0
IsNotedStep old new (Bind t) (Bind u) = IsNoted OfWord [] old new t u
IsNotedStep old new (BindMem m) (BindMem n) = IsNoted OfMem [] old new m n
IsNotedStep old new (Need c) (Need d) = IsNoted OfCond [] old new c d
IsNotedStep old new _ _ = ⊥

-- the next term is looked at
pub record IsNext (old new : Log) : Type 0 where
  pub def : new.def ≡ old.def
  pub term : new.term ≡ old.term + 1
  pub place : new.place ≡ old.place
  pub steps : new.steps ≡ old.steps

-- ---- the parts of a definition

-- the steps with another term in the one of that number
abbrev pub steps_with : Term → List StepTree → ℕ → List StepTree
steps_with x [] k = []
steps_with x (s ∷ ss) zero = with_step_term s x ∷ ss
steps_with x (s ∷ ss) (suc k) = s ∷ steps_with x ss k

abbrev pub word_parts : Parts (List WordTree)
word_parts = record { at = λ ts k. option_map OfWord (slice_get ts k); put = with_word_term }

abbrev pub mem_parts : Parts (List MemTree)
mem_parts = record { at = λ ms k. option_map OfMem (slice_get ms k); put = with_mem_term }

abbrev pub value_parts : Parts ValuesTree
value_parts = record { at = value_at; put = with_value }

abbrev pub step_parts : Parts (List StepTree)
step_parts = record { at = λ ss k. option_map step_term (slice_get ss k); put = λ ss k x. steps_with x ss k }

abbrev pub body_parts : Parts BodyTree
body_parts = record { at = term_at; put = with_term }

abbrev pub arm_parts : Parts ArmTrees
arm_parts = record { at = arm_term_at; put = with_arm_term }

-- ---- each term is simple

abbrev pub AreSimpleWords : List WordTree → Type 0
AreSimpleWords ts = AllByRecursion (λ t. IsSimple (OfWord t)) ts

abbrev pub AreSimpleMems : List MemTree → Type 0
AreSimpleMems ms = AllByRecursion (λ m. IsSimple (OfMem m)) ms

abbrev pub AreSimpleValues : ValuesTree → Type 0
AreSimpleValues v = AreSimpleWords v.words × AreSimpleMems v.mems

abbrev pub AreSimpleSteps : List StepTree → Type 0
AreSimpleSteps ss = AllByRecursion (λ s. IsSimple (step_term s)) ss

abbrev mutual
  pub IsSimpleBody : BodyTree → Type 0
  IsSimpleBody (Do step rest) = IsSimple (step_term step) × IsSimpleBody rest
  IsSimpleBody (Branch c a b) = IsSimple (OfCond c) × IsSimpleBody a × IsSimpleBody b
  IsSimpleBody (Call def v arms) = AreSimpleValues v × AreSimpleArms arms
  IsSimpleBody (Again v) = AreSimpleValues v
  IsSimpleBody (Leave exit v) = AreSimpleValues v

  pub AreSimpleArms : ArmTrees → Type 0
  AreSimpleArms NoArm = Unit {0}
  AreSimpleArms (Arm b bs) = IsSimpleBody b × AreSimpleArms bs

abbrev pub AreSimpleDefs : List DefTree → Type 0
AreSimpleDefs ds = AllByRecursion (λ (d : DefTree). IsSimpleBody d.body) ds

-- the definition d, of which the log tells the number, is rewritten to e, which is simple
pub record IsSimplifiedDef (old new : Log) (d e : DefTree) : Type 0 where
  pub entry : e.entry ≡ d.entry
  pub exits : e.exits ≡ d.exits
  pub made : AreMade body_parts old.term old new d.body e.body
  pub simple : IsSimpleBody e.body

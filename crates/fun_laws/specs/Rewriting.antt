-- Rewriting of a definition's terms: a step names a definition, one of its terms, a place in that term and a law.
use Rattle.std.specs.Prelude.{◌≡◌, ℕ, zero, suc, ◌+◌, ◌-◌, nat_lt, if◌then◌else◌, List, [], ◌∷◌, length, slice_get, slice_set, Option, Some, None, option_map}
use Rattle.word_terms.specs.Tree.{WordTree, MemTree, CondTree}
use Rattle.tailrec_lang.specs.Tree.{ValuesTree, StepTree, Bind, BindMem, Need, BodyTree, Do, Branch, Call, Again, Leave, ArmTrees, NoArm, Arm, DefTree, GroupTree}
use Rattle.fun_laws.specs.declared.step.Rw.{Rw}
use Rattle.fun_laws.specs.Laws.{Law, law_at, Term, OfWord, OfMem, OfCond}
use Rattle.fun_laws.specs.Places.{Rewrites}

-- ---- the terms of a definition: its words, memories and conditions, counted from 0 in the order of its text

abbrev pub step_term : StepTree → Term
step_term (Bind t) = OfWord t
step_term (BindMem m) = OfMem m
step_term (Need c) = OfCond c

-- how many terms there are in a body, and in arms
abbrev mutual
  pub count : BodyTree → ℕ
  count (Do step rest) = 1 + count rest
  count (Branch c a b) = 1 + (count a + count b)
  count (Call def v arms) = length v.words + length v.mems + arm_term_count arms
  count (Again v) = length v.words + length v.mems
  count (Leave exit v) = length v.words + length v.mems

  pub arm_term_count : ArmTrees → ℕ
  arm_term_count NoArm = 0
  arm_term_count (Arm b bs) = count b + arm_term_count bs

-- the first if k is below n, else the second, at the number that is left
abbrev pub below_or : {X : Type 0} → ℕ → ℕ → (ℕ → X) → (ℕ → X) → X
below_or k n first second = if nat_lt k n then first k else second (k - n)

abbrev pub value_at : ValuesTree → ℕ → Option Term
value_at v k = below_or k (length v.words) (λ i. option_map OfWord (slice_get v.words i)) (λ i. option_map OfMem (slice_get v.mems i))

-- the term of that number in a body, and in arms
abbrev mutual
  pub term_at : BodyTree → ℕ → Option Term
  term_at (Do step rest) zero = Some (step_term step)
  term_at (Do step rest) (suc k) = term_at rest k
  term_at (Branch c a b) zero = Some (OfCond c)
  term_at (Branch c a b) (suc k) = below_or k (count a) (term_at a) (term_at b)
  term_at (Call def v arms) k = below_or k (length v.words + length v.mems) (value_at v) (arm_term_at arms)
  term_at (Again v) k = value_at v k
  term_at (Leave exit v) k = value_at v k

  pub arm_term_at : ArmTrees → ℕ → Option Term
  arm_term_at NoArm k = None
  arm_term_at (Arm b bs) k = below_or k (count b) (term_at b) (arm_term_at bs)

-- ---- the same with another term of that number, which is of the same kind

abbrev pub with_step_term : StepTree → Term → StepTree
with_step_term (Bind t) (OfWord x) = Bind x
with_step_term (BindMem m) (OfMem x) = BindMem x
with_step_term (Need c) (OfCond x) = Need x
with_step_term step x = step

abbrev pub with_word_term : List WordTree → ℕ → Term → List WordTree
with_word_term ts k (OfWord x) = slice_set ts k x
with_word_term ts k _ = ts

abbrev pub with_mem_term : List MemTree → ℕ → Term → List MemTree
with_mem_term ms k (OfMem x) = slice_set ms k x
with_mem_term ms k _ = ms

abbrev pub with_cond : CondTree → Term → CondTree
with_cond c (OfCond x) = x
with_cond c _ = c

abbrev pub with_value : ValuesTree → ℕ → Term → ValuesTree
with_value v k x =
    below_or k (length v.words)
    (λ i. record { words = with_word_term v.words i x; mems = v.mems })
    (λ i. record { words = v.words; mems = with_mem_term v.mems i x })

abbrev mutual
  pub with_term : BodyTree → ℕ → Term → BodyTree
  with_term (Do step rest) zero x = Do (with_step_term step x) rest
  with_term (Do step rest) (suc k) x = Do step (with_term rest k x)
  with_term (Branch c a b) zero x = Branch (with_cond c x) a b
  with_term (Branch c a b) (suc k) x = below_or k (count a) (λ i. Branch c (with_term a i x) b) (λ i. Branch c a (with_term b i x))
  with_term (Call def v arms) k x =
      below_or k (length v.words + length v.mems) (λ i. Call def (with_value v i x) arms) (λ i. Call def v (with_arm_term arms i x))
  with_term (Again v) k x = Again (with_value v k x)
  with_term (Leave exit v) k x = Leave exit (with_value v k x)

  pub with_arm_term : ArmTrees → ℕ → Term → ArmTrees
  with_arm_term NoArm k x = NoArm
  with_arm_term (Arm b bs) k x = below_or k (count b) (λ i. Arm (with_term b i x) bs) (λ i. Arm b (with_arm_term bs i x))

-- ---- steps

-- the definition with another term of that number
abbrev pub with_def_term : DefTree → ℕ → Term → DefTree
with_def_term d k x = record { entry = d.entry; exits = d.exits; body = with_term d.body k x }

-- the step rewrites the first definitions to the second
pub record IsRewritingStep (r : Rw) (ds es : List DefTree) : Type 0 where
  pub law : Law
  pub def : DefTree
  pub old : Term
  pub new : Term
  pub numbered : law_at r.law ≡ Some law
  pub named : slice_get ds r.def ≡ Some def
  pub there : term_at def.body r.term ≡ Some old
  pub rewrites : Rewrites law r.place old new
  pub stated : es ≡ slice_set ds r.def (with_def_term def r.term new)

-- the steps, one after the other, rewrite the first definitions to the second
abbrev pub AreRewritingSteps : List Rw → List DefTree → List DefTree → Type 0
AreRewritingSteps [] ds es = ds ≡ es
AreRewritingSteps (r ∷ rs) ds es = (ms : List DefTree) × IsRewritingStep r ds ms × AreRewritingSteps rs ms es

-- the group with other definitions
abbrev pub with_defs : GroupTree → List DefTree → GroupTree
with_defs g ds = record { name = g.name; regs = g.regs; mems = g.mems; code = g.code; defs = ds }

-- no step rewrites the definitions: no law matches anywhere in them
abbrev pub AreSimple : List DefTree → Type 0
AreSimple ds = (r : Rw) (es : List DefTree) → IsRewritingStep r ds es → ⊥

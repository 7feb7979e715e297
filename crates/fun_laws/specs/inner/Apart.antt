-- Definitions taken apart: a skeleton, in which a fixed term of its kind stands for each one, and the terms in the order of the text.
use Rattle.std.specs.Prelude.{◌≡◌, ℕ, zero, suc, List, [], ◌∷◌, ◌++◌, map, slice_get, slice_set, Some}
use Rattle.rv_words.specs.declared.comparison.Cmp.TheVariants.{Eq}
use Rattle.word_terms.specs.Tree.{WordTree, Const, MemTree, MemVar, CondTree, Compare}
use Rattle.tailrec_lang.specs.Tree.{ValuesTree, StepTree, Bind, BindMem, Need, BodyTree, Do, Branch, Call, Again, Leave, ArmTrees, NoArm, Arm, DefTree}
use Rattle.fun_laws.specs.declared.step.Rw.{Rw}
use Rattle.fun_laws.specs.Laws.{Law, law_at, Term, OfWord, OfMem, OfCond}
use Rattle.fun_laws.specs.Places.{Rewrites}
use Rattle.fun_laws.specs.Rewriting.{step_term, AreRewritingSteps}

-- ---- the skeleton

abbrev pub blank_word : WordTree → WordTree
blank_word t = Const 0

abbrev pub blank_mem : MemTree → MemTree
blank_mem m = MemVar 0

abbrev pub blank_cond : CondTree
blank_cond = Compare Eq (Const 0) (Const 0)

abbrev pub blank_step : StepTree → StepTree
blank_step (Bind t) = Bind (blank_word t)
blank_step (BindMem m) = BindMem (blank_mem m)
blank_step (Need c) = Need blank_cond

abbrev pub blank_values : ValuesTree → ValuesTree
blank_values v = record { words = map blank_word v.words; mems = map blank_mem v.mems }

abbrev mutual
  pub skeleton : BodyTree → BodyTree
  skeleton (Do step rest) = Do (blank_step step) (skeleton rest)
  skeleton (Branch c a b) = Branch blank_cond (skeleton a) (skeleton b)
  skeleton (Call def v arms) = Call def (blank_values v) (arm_skeletons arms)
  skeleton (Again v) = Again (blank_values v)
  skeleton (Leave exit v) = Leave exit (blank_values v)

  pub arm_skeletons : ArmTrees → ArmTrees
  arm_skeletons NoArm = NoArm
  arm_skeletons (Arm b bs) = Arm (skeleton b) (arm_skeletons bs)

-- ---- the terms

abbrev pub value_terms : ValuesTree → List Term
value_terms v = map OfWord v.words ++ map OfMem v.mems

abbrev mutual
  pub terms : BodyTree → List Term
  terms (Do step rest) = step_term step ∷ terms rest
  terms (Branch c a b) = OfCond c ∷ (terms a ++ terms b)
  terms (Call def v arms) = value_terms v ++ arm_terms arms
  terms (Again v) = value_terms v
  terms (Leave exit v) = value_terms v

  pub arm_terms : ArmTrees → List Term
  arm_terms NoArm = []
  arm_terms (Arm b bs) = terms b ++ arm_terms bs

-- ---- definitions

pub record ApartTree : Type 0 where
  pub skeleton : DefTree
  pub terms : List Term

abbrev pub taken_apart : DefTree → ApartTree
taken_apart d = record { skeleton = record { entry = d.entry; exits = d.exits; body = skeleton d.body }; terms = terms d.body }

-- those with another term of that number in the one of number d
abbrev pub with_new_term : List ApartTree → ℕ → ℕ → Term → List ApartTree
with_new_term [] d k x = []
with_new_term (p ∷ ps) zero k x = record { skeleton = p.skeleton; terms = slice_set p.terms k x } ∷ ps
with_new_term (p ∷ ps) (suc d) k x = p ∷ with_new_term ps d k x

-- the step rewrites the term that it names to this one
pub record IsNewTerm (r : Rw) (ps : List ApartTree) (new : Term) : Type 0 where
  pub law : Law
  pub def : ApartTree
  pub old : Term
  pub numbered : law_at r.law ≡ Some law
  pub named : slice_get ps r.def ≡ Some def
  pub there : slice_get def.terms r.term ≡ Some old
  pub rewrites : Rewrites law r.place old new

-- the steps rewrite the definitions to those that were taken apart
pub record AreRewritten (rs : List Rw) (ds : List DefTree) (ps : List ApartTree) : Type 0 where
  pub result : List DefTree
  pub steps : AreRewritingSteps rs ds result
  pub parts : ps ≡ map taken_apart result

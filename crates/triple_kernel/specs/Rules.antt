-- The rules: when a stated triple is an instance of one. A rule that changes nothing is an instance too.
-- In the figures `F ⊢ {P} code {Q}` is a triple with the facts F, above the line the premise p and what has to hold, and
-- below it the stated triple t.
use Rattle.std.specs.Prelude.{◌≡◌, ◌⊎◌, ℕ, List, map, IsTrue}
use Rattle.std.specs.List.{Contains}
use Rattle.rv_words.specs.declared.comparison.Cmp.{Cmp}
use Rattle.rv_words.specs.declared.width.Width.{Width}
use Rattle.word_terms.specs.Tree.{WordTree, MemTree, CondTree, MemVar, Store, Compare, Neg, Inside}
use Rattle.word_terms.specs.Scope.{CondInScope}
use Rattle.word_terms.specs.Environment.{no_variables}
use Rattle.word_terms.specs.Value.{cond_holds}
use Rattle.word_terms.specs.Substitution.{Substitution, put_in_word, put_in_mem, put_in_cond}
use Rattle.tailrec_lang.specs.Tree.{ValuesTree}
use Rattle.sep_assert.specs.Tree.{AssertionTree}
use Rattle.triple_kernel.specs.Tree.{FactTree, WordIs, MemIs, So, Gives, TripleTree}
use Rattle.triple_kernel.specs.Swap.{SwapWord, SwapMem, SwapAssertion}

-- each fact of the first list is in the second
pub record AreAmong (some all : List FactTree) : Type 0 where
  pub each : (f : FactTree) → Contains some f → Contains all f

-- ---- terms put in for variables

abbrev pub put_in_values : Substitution → ValuesTree → ValuesTree
put_in_values s v = record { words = map (put_in_word s) v.words; mems = map (put_in_mem s) v.mems }

abbrev pub put_in_fact : Substitution → FactTree → FactTree
put_in_fact s (WordIs a b) = WordIs (put_in_word s a) (put_in_word s b)
put_in_fact s (MemIs a b) = MemIs (put_in_mem s a) (put_in_mem s b)
put_in_fact s (So c) = So (put_in_cond s c)
put_in_fact s (Gives def exit args results) = Gives def exit (put_in_values s args) (put_in_values s results)

abbrev pub put_in_register : Substitution → ℕ × WordTree → ℕ × WordTree
put_in_register s r = (r.0, put_in_word s r.1)

abbrev pub put_in_assertion : Substitution → AssertionTree → AssertionTree
put_in_assertion s a = record { pc = put_in_word s a.pc; regs = map (put_in_register s) a.regs; mems = map (put_in_mem s) a.mems }

--     F ⊢ {P} code {Q}
--   ──────────────────────────────
--     F[s] ⊢ {P[s]} code {Q[s]}
--
-- t is p with terms put in everywhere at once, but for its code
pub record IsInst (s : Substitution) (p t : TripleTree) : Type 0 where
  pub facts : map (put_in_fact s) p.facts ≡ t.facts
  pub pre : put_in_assertion s p.pre ≡ t.pre
  pub code : p.code ≡ t.code
  pub post : put_in_assertion s p.post ≡ t.post

-- ---- terms that facts let stand for one another

--     F ⊢ {P} code {Q}     F ⊆ G     P = P' by G
--   ────────────────────────────────────────────────
--     G ⊢ {P'} code {Q}
--
-- t is p with more facts, and with another precondition that is the same by these
pub record IsStrengthened (p t : TripleTree) : Type 0 where
  pub code : p.code ≡ t.code
  pub post : p.post ≡ t.post
  pub facts : AreAmong p.facts t.facts
  pub pre : SwapAssertion t.facts p.pre t.pre

--     F ⊢ {P} code {Q}     F ⊆ G     Q = Q' by G
--   ────────────────────────────────────────────────
--     G ⊢ {P} code {Q'}
--
-- t is p with more facts, and with another postcondition that is the same by these
pub record IsWeakened (p t : TripleTree) : Type 0 where
  pub code : p.code ≡ t.code
  pub pre : p.pre ≡ t.pre
  pub facts : AreAmong p.facts t.facts
  pub post : SwapAssertion t.facts p.post t.post

-- ---- facts that follow from others

-- the memory before all outer stores: it has the same addresses
abbrev pub before_stores : MemTree → MemTree
before_stores (MemVar i) = MemVar i
before_stores (Store width m a v) = before_stores m

-- the condition is that comparison of two terms with P and Q
abbrev pub IsCompare : Cmp → (WordTree → Type 0) → (WordTree → Type 0) → CondTree → Type 0
IsCompare cmp P Q (Compare c a b) = (cmp ≡ c) × P a × Q b
IsCompare cmp P Q c = ⊥

-- the condition is the contrary of one with P
abbrev pub IsNeg : (CondTree → Type 0) → CondTree → Type 0
IsNeg P (Neg c) = P c
IsNeg P c = ⊥

-- the condition is that bytes of that width are in a memory with P at an address with Q
abbrev pub IsInside : Width → (MemTree → Type 0) → (WordTree → Type 0) → CondTree → Type 0
IsInside width P Q (Inside w m a) = (width ≡ w) × P m × Q a
IsInside width P Q c = ⊥

-- memories that may be swapped, or that may be swapped without their outer stores: these add and take away no address
abbrev pub SameAddresses : List FactTree → MemTree → MemTree → Type 0
SameAddresses facts m n = SwapMem facts m n ⊎ SwapMem facts (before_stores m) (before_stores n)

-- both conditions have the same form, and their children may be swapped in order
abbrev pub Alike : List FactTree → CondTree → CondTree → Type 0
Alike facts (Compare cmp a b) d = IsCompare cmp (SwapWord facts a) (SwapWord facts b) d
Alike facts (Neg c) d = IsNeg (Alike facts c) d
Alike facts (Inside width m a) d = IsInside width (SameAddresses facts m) (SwapWord facts a) d

-- the condition has no variables and is true
abbrev pub IsAlwaysTrue : CondTree → Type 0
IsAlwaysTrue c = CondInScope c 0 0 × IsTrue (cond_holds c no_variables)

-- the fact follows from the stated ones
abbrev pub Follows : List FactTree → FactTree → Type 0
Follows facts (WordIs a b) = SwapWord facts a b
Follows facts (MemIs a b) = SwapMem facts a b
Follows facts (So c) = IsAlwaysTrue c ⊎ ((d : CondTree) × Contains facts (So d) × Alike facts c d)
Follows facts (Gives def exit args results) = ⊥

-- each fact of the first list is in the second or follows from it
pub record AreAmongOrFollow (some all : List FactTree) : Type 0 where
  pub each : (f : FactTree) → Contains some f → Contains all f ⊎ Follows all f

--     F ⊢ {P} code {Q}     each fact of F is in G or follows from G
--   ───────────────────────────────────────────────────────────────────
--     G ⊢ {P} code {Q}
--
-- t is p but for its facts, among which those of p are, or from which they follow
pub record IsDischarged (p t : TripleTree) : Type 0 where
  pub pre : p.pre ≡ t.pre
  pub code : p.code ≡ t.code
  pub post : p.post ≡ t.post
  pub facts : AreAmongOrFollow p.facts t.facts

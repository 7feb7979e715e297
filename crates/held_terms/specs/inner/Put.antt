-- Terms that were put into an arena: numbers that stand for given trees.
use Rattle.std.specs.Prelude.{◌≡◌, ℕ, All, List, map}
use Rattle.term_arena.specs.declared.node.Node.{Node}
use Rattle.term_arena.specs.Arena.{word_of, mem_of, cond_of, IsWordAt, IsMemAt, IsCondAt}
use Rattle.word_terms.specs.Tree.{WordTree, MemTree, CondTree}
use Rattle.tailrec_lang.specs.Tree.{ValuesTree}
use Rattle.sep_assert.specs.Tree.{AssertionTree}
use Rattle.triple_kernel.specs.Tree.{FactTree, TripleTree}
use Rattle.held_terms.specs.declared.held.HeldValues.{HeldValues}
use Rattle.held_terms.specs.declared.held.HeldFact.{HeldFact}
use Rattle.held_terms.specs.declared.held.HeldSide.{HeldSide}
use Rattle.held_terms.specs.declared.held.Held.{Held}
use Rattle.held_terms.specs.Held.{values_over, fact_of, register_of, side_of, triple_of, AreValuesAt, IsFactAt, IsSideAt, IsHeldAt}

-- the numbers in x are there, and x stands for t
pub record IsPut {A T : Type 0} (there : A → Type 0) (of : A → T) (x : A) (t : T) : Type 0 where
  pub at : there x
  pub is : of x ≡ t

-- .. of each item of a list
abbrev pub ArePut : {A T : Type 0} → (A → Type 0) → (A → T) → List A → List T → Type 0
ArePut there of xs ts = IsPut (All there) (map of) xs ts

abbrev pub IsWordPut : List Node → ℕ → WordTree → Type 0
IsWordPut ns k t = IsPut (IsWordAt ns) (word_of ns) k t

abbrev pub IsMemPut : List Node → ℕ → MemTree → Type 0
IsMemPut ns k t = IsPut (IsMemAt ns) (mem_of ns) k t

abbrev pub IsCondPut : List Node → ℕ → CondTree → Type 0
IsCondPut ns k t = IsPut (IsCondAt ns) (cond_of ns) k t

abbrev pub AreWordsPut : List Node → List ℕ → List WordTree → Type 0
AreWordsPut ns ks ts = ArePut (IsWordAt ns) (word_of ns) ks ts

abbrev pub AreMemsPut : List Node → List ℕ → List MemTree → Type 0
AreMemsPut ns ks ts = ArePut (IsMemAt ns) (mem_of ns) ks ts

-- words beside numbers, as registers are and terms that are put in for variables; and memories beside numbers
abbrev pub AreRegistersPut : List Node → List (ℕ × ℕ) → List (ℕ × WordTree) → Type 0
AreRegistersPut ns rs ts = ArePut (λ r. IsWordAt ns r.1) (register_of ns) rs ts

abbrev pub mem_term_of : List Node → ℕ × ℕ → ℕ × MemTree
mem_term_of ns p = (p.0, mem_of ns p.1)

abbrev pub AreMemTermsPut : List Node → List (ℕ × ℕ) → List (ℕ × MemTree) → Type 0
AreMemTermsPut ns ps ts = ArePut (λ p. IsMemAt ns p.1) (mem_term_of ns) ps ts

abbrev pub IsValuesPut : List Node → HeldValues → ValuesTree → Type 0
IsValuesPut ns v t = IsPut (AreValuesAt ns) (values_over ns) v t

abbrev pub IsFactPut : List Node → HeldFact → FactTree → Type 0
IsFactPut ns f t = IsPut (IsFactAt ns) (fact_of ns) f t

abbrev pub AreFactsPut : List Node → List HeldFact → List FactTree → Type 0
AreFactsPut ns fs ts = ArePut (IsFactAt ns) (fact_of ns) fs ts

abbrev pub IsSidePut : List Node → HeldSide → AssertionTree → Type 0
IsSidePut ns s t = IsPut (IsSideAt ns) (side_of ns) s t

abbrev pub IsHeldPut : List Node → Held → TripleTree → Type 0
IsHeldPut ns h t = IsPut (IsHeldAt ns) (triple_of ns) h t

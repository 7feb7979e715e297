-- Lists that have each subterm of terms: by their length the steps of a rule are bounded.
use Rattle.std.specs.Prelude.{ℕ, All, List, Option, Some, None, ◌≡◌}
use Rattle.std.specs.List.{Contains}
use Rattle.word_terms.specs.Tree.{WordTree, MemTree, CondTree, Const, Var, Bin, Extend, Load, MemVar, Store, Compare, Neg, Inside}
use Rattle.term_arena.specs.declared.node.Node.{Node}
use Rattle.term_arena.specs.Arena.{Tree, OfWord, OfMem, OfCond, tree_of}
use Rattle.held_terms.specs.declared.held.HeldValues.{HeldValues}
use Rattle.held_terms.specs.declared.held.HeldFact.{HeldFact}
use Rattle.held_terms.specs.declared.held.HeldFact.TheVariants as held
use Rattle.held_terms.specs.declared.held.HeldSide.{HeldSide}
use Rattle.held_terms.specs.declared.held.Held.{Held}

-- ---- of one term

abbrev mutual
  -- the list has the term and each of its subterms
  pub HasWord : List Tree → WordTree → Type 0
  HasWord ts (Const n) = Contains ts (OfWord (Const n))
  HasWord ts (Var i) = Contains ts (OfWord (Var i))
  HasWord ts (Bin op a b) = Contains ts (OfWord (Bin op a b)) × HasWord ts a × HasWord ts b
  HasWord ts (Extend ext a) = Contains ts (OfWord (Extend ext a)) × HasWord ts a
  HasWord ts (Load width m a) = Contains ts (OfWord (Load width m a)) × HasMem ts m × HasWord ts a

  pub HasMem : List Tree → MemTree → Type 0
  HasMem ts (MemVar i) = Contains ts (OfMem (MemVar i))
  HasMem ts (Store width m a v) = Contains ts (OfMem (Store width m a v)) × HasMem ts m × HasWord ts a × HasWord ts v

abbrev pub HasCond : List Tree → CondTree → Type 0
HasCond ts (Compare cmp a b) = Contains ts (OfCond (Compare cmp a b)) × HasWord ts a × HasWord ts b
HasCond ts (Neg c) = Contains ts (OfCond (Neg c)) × HasCond ts c
HasCond ts (Inside width m a) = Contains ts (OfCond (Inside width m a)) × HasMem ts m × HasWord ts a

-- .. of the term of a number, if there is one
abbrev pub HasTree : List Tree → Option Tree → Type 0
HasTree ts (Some (OfWord t)) = HasWord ts t
HasTree ts (Some (OfMem m)) = HasMem ts m
HasTree ts (Some (OfCond c)) = HasCond ts c
HasTree ts None = Unit {0}

-- ---- of the terms of an assertion

-- the list has each subterm of the numbers' terms, of what the registers hold, of the assertion
abbrev pub HasTerms : List Node → List ℕ → List Tree → Type 0
HasTerms ns ks ts = All (λ k. HasTree ts (tree_of ns k)) ks

abbrev pub HasRegisters : List Node → List (ℕ × ℕ) → List Tree → Type 0
HasRegisters ns rs ts = All (λ r. HasTree ts (tree_of ns r.1)) rs

pub record HasSide (ns : List Node) (s : HeldSide) (ts : List Tree) : Type 0 where
  pub pc : HasTree ts (tree_of ns s.pc)
  pub regs : HasRegisters ns s.regs ts
  pub mems : HasTerms ns s.mems ts

-- .. of two assertions
abbrev pub HasSides : List Node → HeldSide → HeldSide → List Tree → Type 0
HasSides ns a b ts = HasSide ns a ts × HasSide ns b ts

-- ---- of the terms of a triple

-- the list has each subterm of the values, of the fact, of the facts, of the triple
pub record HasValues (ns : List Node) (v : HeldValues) (ts : List Tree) : Type 0 where
  pub words : HasTerms ns v.words ts
  pub mems : HasTerms ns v.mems ts

abbrev pub HasFact : List Node → HeldFact → List Tree → Type 0
HasFact ns (held.WordIs a b) ts = HasTree ts (tree_of ns a) × HasTree ts (tree_of ns b)
HasFact ns (held.MemIs a b) ts = HasTree ts (tree_of ns a) × HasTree ts (tree_of ns b)
HasFact ns (held.So c) ts = HasTree ts (tree_of ns c)
HasFact ns (held.Gives def exit args results) ts = HasValues ns args ts × HasValues ns results ts

abbrev pub HasFacts : List Node → List HeldFact → List Tree → Type 0
HasFacts ns fs ts = All (λ f. HasFact ns f ts) fs

pub record HasHeld (ns : List Node) (h : Held) (ts : List Tree) : Type 0 where
  pub facts : HasFacts ns h.facts ts
  pub pre : HasSide ns h.pre ts
  pub post : HasSide ns h.post ts

-- ---- of a number

-- the number's tree is in the list
pub record IsIn (ns : List Node) (ts : List Tree) (k : ℕ) : Type 0 where
  pub tree : Tree
  pub at : tree_of ns k ≡ Some tree
  pub here : Contains ts tree

-- the list has each subterm of the number's term
abbrev pub HasTerm : List Node → ℕ → List Tree → Type 0
HasTerm ns x ts = HasTree ts (tree_of ns x)

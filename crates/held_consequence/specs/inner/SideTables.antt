-- Tables over whole assertions.
use Rattle.std.specs.Prelude.{ℕ, List, map}
use Rattle.std.specs.List.{Contains, AllZip}
use Rattle.term_arena.specs.declared.node.Node.{Node}
use Rattle.term_arena.specs.Arena.{Tree, mem_of}
use Rattle.triple_kernel.specs.Tree.{FactTree}
use Rattle.triple_kernel.specs.Swap.{SwapMem, SwapRegister}
use Rattle.held_terms.specs.Held.{register_of}
use Rattle.held_terms.specs.Subterms.{HasRegisters, HasTerms}
use Rattle.held_consequence.specs.inner.Table.{Entry, IsDecided, Went}

-- the list has each subterm of both lists' terms
abbrev pub HasBothRegisters : List Node → List (ℕ × ℕ) → List (ℕ × ℕ) → List Tree → Type 0
HasBothRegisters ns a b ts = HasRegisters ns a ts × HasRegisters ns b ts

abbrev pub HasBothMems : List Node → List ℕ → List ℕ → List Tree → Type 0
HasBothMems ns a b ts = HasTerms ns a ts × HasTerms ns b ts

-- each entry of the table is right
pub record AreRight (ns : List Node) (facts : List FactTree) (known : List Entry) : Type 0 where
  pub each : (p : Entry) → Contains known p → IsDecided ns facts p

-- so far all registers may be swapped
pub record RegistersSwap (ns : List Node) (facts : List FactTree) (a b first second : List (ℕ × ℕ)) (old known : List Entry) (s t : ℕ) : Type 0 where
  pub zip : AllZip (SwapRegister facts) (map (register_of ns) first) (map (register_of ns) second)
  pub right : AreRight ns facts known
  pub went : Went ns (HasBothRegisters ns a b) old known s t

pub record MemsSwap (ns : List Node) (facts : List FactTree) (a b first second : List ℕ) (old known : List Entry) (s t : ℕ) : Type 0 where
  pub zip : AllZip (SwapMem facts) (map (mem_of ns) first) (map (mem_of ns) second)
  pub right : AreRight ns facts known
  pub went : Went ns (HasBothMems ns a b) old known s t

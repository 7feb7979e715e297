-- Parts of lines and triples over the numbers of an arena that are within the limits of version 1.
use Rattle.std.specs.Prelude.{ℕ, List, map}
use Rattle.std.specs.List.{AllByRecursion}
use Rattle.tailrec_lang.specs.Registers.{AreRegistersFrom}
use Rattle.term_arena.specs.declared.node.Node.{Node}
use Rattle.term_arena.specs.Arena.{mem_of}
use Rattle.group_text.specs.TermLimits.{IsWord, IsMem}
use Rattle.held_terms.specs.declared.held.HeldFact.{HeldFact}
use Rattle.held_terms.specs.declared.held.HeldSide.{HeldSide}
use Rattle.held_terms.specs.declared.held.Held.{Held}
use Rattle.held_terms.specs.Held.{fact_of, register_of, side_of, triple_of, AreFactsAt, AreMemsAt, AreRegistersAt, IsSideAt, IsHeldAt}
use Rattle.proof_text.specs.LineLimits.{IsAssertion, IsFact, IsTriple}

-- the numbers of facts, of an assertion are there, and what they stand for is within the limits of version 1
abbrev pub AreFineFacts : List Node → List HeldFact → Type 0
AreFineFacts ns facts = AreFactsAt ns facts × AllByRecursion IsFact (map (fact_of ns) facts)

abbrev pub IsFineSide : List Node → HeldSide → Type 0
IsFineSide ns s = IsSideAt ns s × IsAssertion (side_of ns s)

-- .. of registers, of memories
pub record AreFineRegisters (ns : List Node) (regs : List (ℕ × ℕ)) : Type 0 where
  pub there : AreRegistersAt ns regs
  pub rise : AreRegistersFrom 1 (map (λ r. r.0) regs)
  pub words : AllByRecursion (λ r. IsWord r.1) (map (register_of ns) regs)

abbrev pub AreFineMems : List Node → List ℕ → Type 0
AreFineMems ns ks = AreMemsAt ns ks × AllByRecursion IsMem (map (mem_of ns) ks)

-- .. of a triple
pub record IsFineHeld (ns : List Node) (h : Held) : Type 0 where
  pub there : IsHeldAt ns h
  pub fits : IsTriple (triple_of ns h)

-- Leaves over the numbers of an arena, and what is told of values that judge them.
use Rattle.std.specs.Prelude.{◌≡◌, ◌++◌, List, map}
use Rattle.tailrec_lang.specs.Tree.{def_tree, group_tree}
use Rattle.triple_kernel.specs.Tree.{FactTree, fact_tree}
use Rattle.term_arena.specs.declared.node.Node.{Node}
use Rattle.term_arena.specs.Arena.{Extends}
use Rattle.held_terms.specs.declared.held.HeldFact.{HeldFact}
use Rattle.held_terms.specs.declared.held.HeldSide.{HeldSide}
use Rattle.held_terms.specs.Held.{fact_of, side_of, AreFactsAt}
use Rattle.loop_rule.specs.Tree.{LeafTree}
use Rattle.loop_rule.specs.Leaves.{at_entry, parameters}
use Rattle.loop_rule.specs.Judge.{Judge}
use Rattle.held_definitions.specs.declared.closing.HeldLeaves.{HeldLeaves}
use Rattle.held_definitions.specs.Theorems.{AreHeldAt, theorem_at}
use Rattle.held_definitions.specs.inner.Asked.{AreAsked, closing_with}
use Rattle.held_definitions.specs.inner.Marks.{AreMarked}
use Rattle.held_definitions.specs.ClosingTerms.{leaf_terms}
use Rattle.held_terms.specs.Terms.{nodes_of}

-- the leaf that numbers stand for
abbrev pub leaf_over : List Node → List HeldFact → HeldSide → LeafTree
leaf_over ns facts post = record { facts = map (fact_of ns) facts; post = side_of ns post }

-- the numbers stand for the first facts of the way
pub record AreFirstOf (ns : List Node) (put : List HeldFact) (way : List FactTree) : Type 0 where
  pub at : AreFactsAt ns put
  pub rest : List FactTree
  pub is : way ≡ map (fact_of ns) put ++ rest

-- the theorems' numbers are there, and those of the facts that were put; what is kept of theorems is right, and the marks are right
pub record IsReady {L : Type 0} (k : HeldLeaves L) : Type 0 where
  pub held : AreHeldAt k.arena.now k.held.now.entries
  pub marked : AreMarked k.group.now.code.ranges k.held.now.entries k.marked.now
  pub first : AreFirstOf k.arena.now k.put.now (map fact_tree k.way.now)
  pub asked : AreAsked (closing_with (group_tree k.group.now) (def_tree k.def.now) (theorem_at k.arena.now k.held.now.entries)) (map fact_tree k.way.now) k.asked.now

-- the same arena, which grew, and the same counter
pub record GrewFrom {L : Type 0} (old new : HeldLeaves L) : Type 0 where
  pub arena : new.arena.ghost_name ≡ old.arena.ghost_name
  pub grows : Extends old.arena.now new.arena.now
  pub steps : new.steps.ghost_name ≡ old.steps.ghost_name

abbrev pub held_judge : {L : Type 0} → Judge (HeldLeaves L)
held_judge = record {
  closing = λ k. record { group = group_tree k.group.now; def = def_tree k.def.now; theorem = theorem_at k.arena.now k.held.now.entries };
  way = λ k. map fact_tree k.way.now;
  IsReady = IsReady;
  Since = GrewFrom;
  steps = λ k. k.steps.now;
  most = λ c l. nodes_of (leaf_terms (at_entry c.group c.def (parameters c.group)) l);
  Holds = λ g t. Unit {0};
}

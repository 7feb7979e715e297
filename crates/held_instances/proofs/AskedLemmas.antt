-- Lists that have the subterms of the parts of a triple, in an arena that grows.
use Rattle.std.proofs.Common.{ℕ, List}
use Rattle.term_arena.specs.declared.node.Node.{Node}
use Rattle.term_arena.specs.Arena.{Tree, Extends}
use Rattle.term_arena.proofs.TreeLemmas.{number_within}
use Rattle.held_terms.specs.declared.held.HeldValues.{HeldValues}
use Rattle.held_terms.specs.declared.held.HeldFact.{HeldFact}
use Rattle.held_terms.specs.declared.held.HeldFact.TheVariants as held
use Rattle.held_terms.specs.declared.held.HeldSide.{HeldSide}
use Rattle.held_terms.specs.declared.held.Held.{Held}
use Rattle.held_terms.specs.Held.{AreFactsAt, AreRegistersAt, AreValuesAt, IsFactAt, IsHeldAt, IsSideAt}
use Rattle.held_terms.specs.Subterms.{HasTerms, HasRegisters, HasValues, HasFact, HasFacts, HasSide, HasHeld}
use Rattle.held_instances.specs.inner.Instances.{AreWithin}
use Rattle.held_terms.proofs.ChildLemmas.{has_still}
use Rattle.held_instances.proofs.InstanceLemmas.{mems_within, words_within}

module _ (ms ns : List Node) (e : Extends ms ns) (ts : List Tree) where
  pub terms_asked : (ks : List ℕ) → AreWithin ms ks → HasTerms ms ks ts → HasTerms ns ks ts
  terms_asked ks w h = λ i d low. has_still ms ns e _ ts (w i d low) (h i d low)

  pub registers_asked : (rs : List (ℕ × ℕ)) → AreRegistersAt ms rs → HasRegisters ms rs ts → HasRegisters ns rs ts
  registers_asked rs w h = λ i d low. has_still ms ns e _ ts (number_within ms _ _ (w i d low)) (h i d low)

  pub values_asked : (v : HeldValues) → AreValuesAt ms v → HasValues ms v ts → HasValues ns v ts
  values_asked v w h = record { words = terms_asked v.words (words_within ms v.words w.words) h.words; mems = terms_asked v.mems (mems_within ms v.mems w.mems) h.mems }

  pub fact_asked : (f : HeldFact) → IsFactAt ms f → HasFact ms f ts → HasFact ns f ts
  fact_asked (held.WordIs a b) w h = (has_still ms ns e a ts (number_within ms _ _ w.0) h.0, has_still ms ns e b ts (number_within ms _ _ w.1) h.1)
  fact_asked (held.MemIs a b) w h = (has_still ms ns e a ts (number_within ms _ _ w.0) h.0, has_still ms ns e b ts (number_within ms _ _ w.1) h.1)
  fact_asked (held.So c) w h = has_still ms ns e c ts (number_within ms _ _ w) h
  fact_asked (held.Gives def exit args results) w h = (values_asked args w.0 h.0, values_asked results w.1 h.1)

  pub side_asked : (a : HeldSide) → IsSideAt ms a → HasSide ms a ts → HasSide ns a ts
  side_asked a w h = record {
    pc = has_still ms ns e a.pc ts (number_within ms _ _ w.pc) h.pc;
    regs = registers_asked a.regs w.regs h.regs;
    mems = terms_asked a.mems (mems_within ms a.mems w.mems) h.mems;
  }

  pub facts_asked : (fs : List HeldFact) → AreFactsAt ms fs → HasFacts ms fs ts → HasFacts ns fs ts
  facts_asked fs w h = λ i d low. fact_asked _ (w i d low) (h i d low)

  pub held_asked : (p : Held) → IsHeldAt ms p → HasHeld ms p ts → HasHeld ns p ts
  held_asked p w h = record { facts = facts_asked p.facts w.facts h.facts; pre = side_asked p.pre w.pre h.pre; post = side_asked p.post w.post h.post }

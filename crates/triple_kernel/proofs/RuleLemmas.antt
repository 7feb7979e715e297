-- The rules on facts and assertions keep validity.
use Rattle.std.proofs.Common.{◌⊎◌, inl, inr, List, sym, ◌∙◌, subst, arith, IsTrue}
use Rattle.std.specs.List.{Contains}
use Rattle.word_terms.specs.Environment.{Environment, Extends, no_variables}
use Rattle.word_terms.proofs.Agreement.{cond_holds-extends}
use Rattle.tailrec_lang.specs.Tree.{GroupTree}
use Rattle.sep_assert.specs.Part.{◌⊕◌, code_part, part_of}
use Rattle.triple_kernel.specs.Tree.{FactTree, WordIs, MemIs, So, Gives, TripleTree}
use Rattle.triple_kernel.specs.Fact.{Holds, AllHold}
use Rattle.triple_kernel.specs.Valid.{Valid}
use Rattle.triple_kernel.specs.Rules.{Follows, IsStrengthened, IsWeakened, IsDischarged}
use Rattle.triple_kernel.proofs.SwapLemmas.{swap_word-value, swap_mem-value, swap-part, alike-holds}

-- any environment has the variables of the empty one
no_variables-extends : (e : Environment) → Extends no_variables e
no_variables-extends e = record {
  words = omega arith;
  mems = omega arith;
  word = λ i lt. absurd (omega arith);
  mem = λ i lt. absurd (omega arith);
}

module _ (g : GroupTree) (e : Environment) (facts : List FactTree) (holds : AllHold g e facts) where
  -- what follows from the facts holds where they do
  pub follows-holds : (f : FactTree) → Follows facts f → Holds g e f
  follows-holds (WordIs a b) swap = swap_word-value g e facts holds a b swap
  follows-holds (MemIs a b) swap = swap_mem-value g e facts holds a b swap
  follows-holds (So c) (inl is) = subst IsTrue (cond_holds-extends no_variables e (no_variables-extends e) c is.0) is.1
  follows-holds (So c) (inr is) = subst IsTrue (sym (alike-holds g e facts holds c is.0 is.2)) (holds (So is.0) is.1)
  follows-holds (Gives def exit args results) follows = absurd follows

  stated-holds : (f : FactTree) → Contains facts f ⊎ Follows facts f → Holds g e f
  stated-holds f (inl is) = holds f is
  stated-holds f (inr follows) = follows-holds f follows

pub valid_strengthened : (g : GroupTree) (p t : TripleTree) → IsStrengthened p t → Valid g p → Valid g t
valid_strengthened g p t is v = record {
  runs = λ e holds rest s whole.
      let pre = swap-part g e t.facts holds p.pre t.pre is.pre in
      let r = v.runs e (λ f c. holds f (is.facts.each f c)) rest s (whole ∙ (λ i. sym pre i ⊕ (code_part (sym is.code i) ⊕ rest))) in
      (r.0, r.1, r.2 ∙ (λ i. part_of (is.post i) e ⊕ (code_part (is.code i) ⊕ rest)));
}

pub valid_weakened : (g : GroupTree) (p t : TripleTree) → IsWeakened p t → Valid g p → Valid g t
valid_weakened g p t is v = record {
  runs = λ e holds rest s whole.
      let post = swap-part g e t.facts holds p.post t.post is.post in
      let r = v.runs e (λ f c. holds f (is.facts.each f c)) rest s (whole ∙ (λ i. part_of (sym is.pre i) e ⊕ (code_part (sym is.code i) ⊕ rest))) in
      (r.0, r.1, r.2 ∙ (λ i. post i ⊕ (code_part (is.code i) ⊕ rest)));
}

pub valid_discharged : (g : GroupTree) (p t : TripleTree) → IsDischarged p t → Valid g p → Valid g t
valid_discharged g p t is v = record {
  runs = λ e holds rest s whole.
      let known = λ (f : FactTree) (c : Contains p.facts f). stated-holds g e t.facts holds f (is.facts.each f c) in
      let r = v.runs e known rest s (whole ∙ (λ i. part_of (sym is.pre i) e ⊕ (code_part (sym is.code i) ⊕ rest))) in
      (r.0, r.1, r.2 ∙ (λ i. part_of (is.post i) e ⊕ (code_part (is.code i) ⊕ rest)));
}

-- A short line over a table is the same over a larger one.
use Rattle.std.proofs.Common.{◌≡◌, ℕ, Option, Some, None, List, get_or, map, refl, sym, ◌∙◌, subst}
use Rattle.std.specs.Prelude.{◌↔◌, IsSomeAnd}
use Rattle.std.specs.List.{AllByRecursion}
use Rattle.word_terms.specs.Tree.{WordTree}
use Rattle.tailrec_lang.specs.Tree.{GroupTree}
use Rattle.triple_kernel.specs.Tree.{TripleTree}
use Rattle.group_text.specs.TermLimits.{IsMem, IsWord}
use Rattle.proof_text.specs.Line.{Inst, LineTree, States, Loop, Forget, Further}
use Rattle.proof_text.specs.LineLimits.{AreRisingFrom, IsAssertion, IsFact}
use Rattle.term_arena.specs.declared.node.Node.{Node}
use Rattle.term_arena.specs.Arena.{Extends, mem_of}
use Rattle.held_terms.specs.declared.held.HeldFact.{HeldFact}
use Rattle.held_terms.specs.declared.held.HeldSide.{HeldSide}
use Rattle.held_terms.specs.Held.{AreFactsAt, AreMemsAt, AreRegistersAt, fact_of, register_of}
use Rattle.held_instances.specs.Image.{IsSubAt}
use Rattle.held_terms.proofs.GrowthLemmas.{mem_still, word_still, facts_still, same_fact, same_map, same_mem, same_side, same_word, side_still}
use Rattle.held_instances.proofs.ImageLemmas.{still_there}
use Rattle.short_text.specs.declared.short.Short.{Short}
use Rattle.short_text.specs.declared.short.Short.TheVariants as short
use Rattle.short_text.specs.FullLine.{HasStated, IsFullLine, mems_for, rule_over, words_for}
use Rattle.verdicts.specs.Instance.{History}
use Rattle.derived_triples.specs.Fine.{AreFineFacts, AreFineMems, AreFineRegisters, IsFineSide}
use Rattle.checker.specs.Short.{HasFurtherAfter, IsFineShort, IsRightFor, IsShortInstance, LeavesBehind}

some-as : {A : Type 0} (o : Option A) (P R : A → Type 0) → ((x : A) → P x → R x) → IsSomeAnd o P → IsSomeAnd o R
some-as None P R f h = h
some-as (Some x) P R f h = f x h

module _ (ns ms : List Node) (e : Extends ns ms) where
  -- ---- the terms are the same

  facts-same : (facts : List HeldFact) → AreFactsAt ns facts → map (fact_of ms) facts ≡ map (fact_of ns) facts
  facts-same facts at = same_map ns ms e (fact_of ms) (fact_of ns) facts (λ i d low. same_fact ns ms e _ (at i d low))

  registers-same : (regs : List (ℕ × ℕ)) → AreRegistersAt ns regs → map (register_of ms) regs ≡ map (register_of ns) regs
  registers-same regs at = same_map ns ms e (register_of ms) (register_of ns) regs (λ i d low. λ j. ((get_or regs i d).0, same_word ns ms e _ (at i d low) j))

  mems-same : (mems : List ℕ) → AreMemsAt ns mems → map (mem_of ms) mems ≡ map (mem_of ns) mems
  mems-same mems at = same_map ns ms e (mem_of ms) (mem_of ns) mems (λ i d low. same_mem ns ms e _ (at i d low))

  words-for-same : (words mems : List (ℕ × ℕ)) → IsSubAt ns words mems → words_for ms words ≡ words_for ns words
  words-for-same words mems sub = registers-same words sub.each_word

  mems-for-same : (words mems : List (ℕ × ℕ)) → IsSubAt ns words mems → mems_for ms mems ≡ mems_for ns mems
  mems-for-same words mems sub =
      same_map ns ms e (λ (p : ℕ × ℕ). (p.0, mem_of ms p.1)) (λ (p : ℕ × ℕ). (p.0, mem_of ns p.1)) mems (λ i d low. λ j. ((get_or mems i d).0, same_mem ns ms e _ (sub.each_mem i d low) j))

  -- ---- and so is what the line states

  rule-same : (s : Short) → IsFineShort ns s → rule_over ms s ≡ rule_over ns s
  rule-same (short.Axiom a word form) fine = refl
  rule-same (short.Inst p words mems) fine = λ i. Some (Inst p (words-for-same words mems fine.1 i) (mems-for-same words mems fine.1 i))
  rule-same (short.Frame p regs mems) fine = refl
  rule-same (short.ExtendCode p code) fine = refl
  rule-same (short.Compose p q) fine = refl
  rule-same (short.Strengthen p facts pre) fine = refl
  rule-same (short.Weaken p facts post) fine = refl
  rule-same (short.Discharge p facts) fine = refl
  rule-same (short.UseExit def exit) fine = refl
  rule-same (short.Loop def cited) fine = refl
  rule-same (short.Forget k) fine = refl

  stated-same : (s : Short) → IsFineShort ns s → (t : TripleTree) → HasStated ns s t ↔ HasStated ms s t
  stated-same (short.Axiom a word form) fine t = (λ x. x, λ x. x)
  stated-same (short.Inst p words mems) fine t = (λ x. x, λ x. x)
  stated-same (short.Frame p regs mems) fine t = (λ x. x, λ x. x)
  stated-same (short.ExtendCode p code) fine t = (λ x. x, λ x. x)
  stated-same (short.Compose p q) fine t = (λ x. x, λ x. x)
  stated-same (short.Strengthen p facts pre) fine t =
      let f = facts-same facts fine.1.0 in
      let a = same_side ns ms e pre fine.2.0 in
      (λ x. (x.0 ∙ sym f, x.1 ∙ sym a), λ x. (x.0 ∙ f, x.1 ∙ a))
  stated-same (short.Weaken p facts post) fine t =
      let f = facts-same facts fine.1.0 in
      let a = same_side ns ms e post fine.2.0 in
      (λ x. (x.0 ∙ sym f, x.1 ∙ sym a), λ x. (x.0 ∙ f, x.1 ∙ a))
  stated-same (short.Discharge p facts) fine t = let f = facts-same facts fine.1.0 in (λ x. x ∙ sym f, λ x. x ∙ f)
  stated-same (short.UseExit def exit) fine t = (λ x. x, λ x. x)
  stated-same (short.Loop def cited) fine t = (λ x. x, λ x. x)
  stated-same (short.Forget k) fine t = (λ x. x, λ x. x)

  full-same : (s : Short) → IsFineShort ns s → (l : LineTree) → IsFullLine ns s l ↔ IsFullLine ms s l
  full-same s fine (States rule t) =
      let same = rule-same s fine in
      let stated = stated-same s fine t in
      (λ x. (same ∙ x.0, stated.0 x.1), λ x. (sym same ∙ x.0, stated.1 x.1))
  full-same s fine (Loop def cited) = (λ x. x, λ x. x)
  full-same s fine (Forget k) = (λ x. x, λ x. x)
  full-same s fine (Further p t) = (λ x. x, λ x. x)

  further-same : (h : History) (s : Short) → IsFineShort ns s → (l : LineTree) → HasFurtherAfter h ns s l ↔ HasFurtherAfter h ms s l
  further-same h (short.Frame p regs mems) fine (States rule t) =
      let r = registers-same regs fine.1.there in
      let m = mems-same mems fine.2.0 in
      (λ x. some-as (h.theorem p) _ _ (λ q y. (y.0 ∙ sym r, y.1 ∙ sym m)) x, λ x. some-as (h.theorem p) _ _ (λ q y. (y.0 ∙ r, y.1 ∙ m)) x)
  further-same h (short.Frame p regs mems) fine (Loop def cited) = (λ x. x, λ x. x)
  further-same h (short.Frame p regs mems) fine (Forget k) = (λ x. x, λ x. x)
  further-same h (short.Frame p regs mems) fine (Further q t) = (λ x. x, λ x. x)
  further-same h (short.Axiom a word form) fine l = (λ x. x, λ x. x)
  further-same h (short.Inst p words mems) fine l = (λ x. x, λ x. x)
  further-same h (short.ExtendCode p code) fine l = (λ x. x, λ x. x)
  further-same h (short.Compose p q) fine l = (λ x. x, λ x. x)
  further-same h (short.Strengthen p facts pre) fine l = (λ x. x, λ x. x)
  further-same h (short.Weaken p facts post) fine l = (λ x. x, λ x. x)
  further-same h (short.Discharge p facts) fine l = (λ x. x, λ x. x)
  further-same h (short.UseExit def exit) fine l = (λ x. x, λ x. x)
  further-same h (short.Loop def cited) fine l = (λ x. x, λ x. x)
  further-same h (short.Forget k) fine l = (λ x. x, λ x. x)

  right-same : (g : GroupTree) (h : History) (s : Short) → IsFineShort ns s → (l : LineTree) → IsRightFor g h ns s l ↔ IsRightFor g h ms s l
  right-same g h s fine l =
      let full = full-same s fine l in
      let more = further-same h s fine l in (
        λ r. record { full = full.0 r.full; further = more.0 r.further; fits = r.fits; right = r.right },
        λ r. record { full = full.1 r.full; further = more.1 r.further; fits = r.fits; right = r.right },
      )

  pub right_grows : (g : GroupTree) (h : History) (s : Short) (l : LineTree) → IsFineShort ns s → IsRightFor g h ns s l → IsRightFor g h ms s l
  right_grows g h s l fine r = (right-same g h s fine l).0 r

  pub instance_grows : (g : GroupTree) (h : History) (s : Short) → IsFineShort ns s → IsShortInstance g h ns s → IsShortInstance g h ms s
  instance_grows g h s fine x = (x.0, (right-same g h s fine x.0).0 x.1)

  pub left_of_table : (g : GroupTree) (h : History) (s : Short) (after : History) → IsFineShort ns s → LeavesBehind g h ms s after → LeavesBehind g h ns s after
  left_of_table g h s after fine x = (x.0, (right-same g h s fine x.0).1 x.1, x.2)

  -- ---- the line is within the limits there

  facts-fine : (facts : List HeldFact) → AreFineFacts ns facts → AreFineFacts ms facts
  facts-fine facts f = (facts_still ns ms e facts f.0, subst (AllByRecursion IsFact) (sym (facts-same facts f.0)) f.1)

  side-fine : (s : HeldSide) → IsFineSide ns s → IsFineSide ms s
  side-fine s f = (side_still ns ms e s f.0, subst IsAssertion (sym (same_side ns ms e s f.0)) f.1)

  registers-fine : (regs : List (ℕ × ℕ)) → AreFineRegisters ns regs → AreFineRegisters ms regs
  registers-fine regs f = record {
    there = λ i d low. word_still ns ms _ e (f.there i d low);
    rise = f.rise;
    words = subst (AllByRecursion (λ (r : ℕ × WordTree). IsWord r.1)) (sym (registers-same regs f.there)) f.words;
  }

  mems-fine : (mems : List ℕ) → AreFineMems ns mems → AreFineMems ms mems
  mems-fine mems f = (λ i d low. mem_still ns ms _ e (f.0 i d low), subst (AllByRecursion IsMem) (sym (mems-same mems f.0)) f.1)

  pub fine_grows : (s : Short) → IsFineShort ns s → IsFineShort ms s
  fine_grows (short.Axiom a word form) f = f
  fine_grows (short.Inst p words mems) f = (
    f.0,
    still_there ns ms words mems e f.1,
    subst (AreRisingFrom IsWord 0) (sym (words-for-same words mems f.1)) f.2,
    subst (AreRisingFrom IsMem 0) (sym (mems-for-same words mems f.1)) f.3,
  )
  fine_grows (short.Frame p regs mems) f = (f.0, registers-fine regs f.1, mems-fine mems f.2)
  fine_grows (short.ExtendCode p code) f = f
  fine_grows (short.Compose p q) f = f
  fine_grows (short.Strengthen p facts pre) f = (f.0, facts-fine facts f.1, side-fine pre f.2)
  fine_grows (short.Weaken p facts post) f = (f.0, facts-fine facts f.1, side-fine post f.2)
  fine_grows (short.Discharge p facts) f = (f.0, facts-fine facts f.1)
  fine_grows (short.UseExit def exit) f = f
  fine_grows (short.Loop def cited) f = f
  fine_grows (short.Forget k) f = f

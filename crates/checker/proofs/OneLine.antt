-- A short line stands for one line of version 1 alone, after the lines before it.
use Rattle.std.proofs.Common.{◌≡◌, List, map, sym, ap, ◌∙◌}
use Rattle.std.proofs.lemmas.Option.{none-some, same_Some}
use Rattle.tailrec_lang.specs.Tree.{GroupTree}
use Rattle.sep_assert.proofs.SameCode.{same_ranges}
use Rattle.triple_kernel.specs.Tree.{TripleTree}
use Rattle.proof_text.specs.Line.{Forget, Further, Inst, LineTree, Loop, States}
use Rattle.term_arena.specs.declared.node.Node.{Node}
use Rattle.term_arena.specs.Arena.{mem_of}
use Rattle.held_terms.specs.Held.{fact_of, register_of, side_of}
use Rattle.short_text.specs.declared.short.Short.{Short}
use Rattle.short_text.specs.declared.short.Short.TheVariants as short
use Rattle.short_text.specs.FullLine.{mems_for, rule_over, words_for}
use Rattle.verdicts.specs.Instance.{History, put_for}
use Rattle.checker.specs.Short.{IsRightFor, IsStatedBy}
use Rattle.derived_triples.proofs.ShortLemmas.{of_both, one_composed, one_discharged, one_exit, one_extended, one_framed, one_inst, one_strengthened, one_weakened}
use Rattle.checker.proofs.StatingLemmas.{axiom_from, compose_from, discharge_from, extend_from, frame_from, rule_of, strengthen_from, use_from, weaken_from}

module _ (g : GroupTree) (h : History) (ns : List Node) where
  one-triple : (s : Short) (t u : TripleTree) → IsStatedBy g h ns s t → IsStatedBy g h ns s u → t ≡ u
  one-triple (short.Axiom a w form) t u x y = same_Some t u (sym (axiom_from g h ns t x.1.fits.1 a w form x) ∙ axiom_from g h ns u y.1.fits.1 a w form y)
  one-triple (short.Inst p words mems) t u x y =
      let s = short.Inst p words mems in
      let rule = Inst p (words_for ns words) (mems_for ns mems) in
      of_both (h.theorem p) _ _ (rule_of g h ns s t rule x x.1.full.0) (rule_of g h ns s u rule y y.1.full.0) (λ q a b. one_inst q t u (put_for (words_for ns words) (mems_for ns mems)) a b)
  one-triple (short.Frame p regs mems) t u x y =
      of_both (h.theorem p) _ _ (frame_from g h ns t x.1.fits.1 p regs mems x) (frame_from g h ns u y.1.fits.1 p regs mems y)
      (λ q a b. one_framed q t u (map (register_of ns) regs) (map (mem_of ns) mems) a.0 b.0 a.1 b.1 a.2 b.2 x.1.fits.1 y.1.fits.1)
  one-triple (short.ExtendCode p code) t u x y =
      of_both (h.theorem p) _ _ (extend_from g h ns t x.1.fits.1 p code x) (extend_from g h ns u y.1.fits.1 p code y) (λ q a b. one_extended q t u code.ranges a.0 b.0 (sym a.1) (sym b.1))
  one-triple (short.Compose p q) t u x y =
      of_both (h.theorem p) _ _ (compose_from g h ns t x.1.fits.1 p q x) (compose_from g h ns u y.1.fits.1 p q y)
      (λ first c d. of_both (h.theorem q) _ _ c d (λ second a b. one_composed first t u second same_ranges a b x.1.fits.1 y.1.fits.1))
  one-triple (short.Strengthen p facts pre) t u x y =
      of_both (h.theorem p) _ _ (strengthen_from g h ns t x.1.fits.1 p facts pre x) (strengthen_from g h ns u y.1.fits.1 p facts pre y)
      (λ q a b. one_strengthened q t u (map (fact_of ns) facts) (side_of ns pre) a.0 b.0 (sym a.1) (sym b.1) (sym a.2) (sym b.2))
  one-triple (short.Weaken p facts post) t u x y =
      of_both (h.theorem p) _ _ (weaken_from g h ns t x.1.fits.1 p facts post x) (weaken_from g h ns u y.1.fits.1 p facts post y)
      (λ q a b. one_weakened q t u (map (fact_of ns) facts) (side_of ns post) a.0 b.0 (sym a.1) (sym b.1) (sym a.2) (sym b.2))
  one-triple (short.Discharge p facts) t u x y =
      of_both (h.theorem p) _ _ (discharge_from g h ns t x.1.fits.1 p facts x) (discharge_from g h ns u y.1.fits.1 p facts y)
      (λ q a b. one_discharged q t u (map (fact_of ns) facts) a.0 b.0 (sym a.1) (sym b.1))
  one-triple (short.UseExit d e) t u x y = one_exit g d e t u (use_from g h ns t x.1.fits.1 d e x).1 (use_from g h ns u y.1.fits.1 d e y).1
  one-triple (short.Loop d cited) t u x y = absurd (none-some x.0 x.1.full.0)
  one-triple (short.Forget k) t u x y = absurd (none-some x.0 x.1.full.0)

  pub one_line : (s : Short) (l m : LineTree) → IsRightFor g h ns s l → IsRightFor g h ns s m → l ≡ m
  one_line s (States a t) (States b u) x y =
      let rule : a ≡ b = same_Some a b (sym x.full.0 ∙ y.full.0) in
      let triple : t ≡ u = one-triple s t u (a, x) (b, y) in
      λ i. States (rule i) (triple i)
  one_line s (States a t) (Loop d cited) x y = absurd (none-some a (ap (rule_over ns) (sym y.full) ∙ x.full.0))
  one_line s (States a t) (Forget k) x y = absurd (none-some a (ap (rule_over ns) (sym y.full) ∙ x.full.0))
  one_line s (States a t) (Further p u) x y = absurd y.full
  one_line s (Loop d cited) (States b u) x y = absurd (none-some b (ap (rule_over ns) (sym x.full) ∙ y.full.0))
  one_line s (Loop d cited) (Loop e others) x y =
      let same : short.Loop d cited ≡ short.Loop e others = sym x.full ∙ y.full in
      let def : d ≡ e = cc in
      let all : cited ≡ others = cc in
      λ i. Loop (def i) (all i)
  one_line s (Loop d cited) (Forget k) x y = let same : short.Loop d cited ≡ short.Forget k = sym x.full ∙ y.full in absurd (cc)
  one_line s (Loop d cited) (Further p u) x y = absurd y.full
  one_line s (Forget k) (States b u) x y = absurd (none-some b (ap (rule_over ns) (sym x.full) ∙ y.full.0))
  one_line s (Forget k) (Loop d cited) x y = let same : short.Forget k ≡ short.Loop d cited = sym x.full ∙ y.full in absurd (cc)
  one_line s (Forget k) (Forget j) x y =
      let same : short.Forget k ≡ short.Forget j = sym x.full ∙ y.full in
      let number : k ≡ j = cc in
      λ i. Forget (number i)
  one_line s (Forget k) (Further p u) x y = absurd y.full
  one_line s (Further p t) m x y = absurd x.full

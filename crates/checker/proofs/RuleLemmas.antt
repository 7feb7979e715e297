-- Rules over numbers in an arena that grew, as rows of the trees that were put into it.
use Rattle.std.proofs.Common.{◌≡◌, ℕ, Bool, true, false, cond, Option, Some, List, [], ◌∷◌, map, refl, sym, ap, ◌∙◌, subst}
use Rattle.std.specs.Prelude.{◌==◌, ◌↔◌, option_map}
use Rattle.word_terms.specs.Tree.{WordTree, MemTree}
use Rattle.word_terms.specs.Substitution.{Substitution, listed}
use Rattle.triple_kernel.specs.Tree.{TripleTree}
use Rattle.triple_kernel.specs.Rules.{IsInst}
use Rattle.term_arena.specs.declared.node.Node.{Node}
use Rattle.term_arena.specs.Arena.{Extends, word_of, mem_of}
use Rattle.held_terms.specs.declared.held.Held.{Held}
use Rattle.held_terms.specs.Held.{IsHeldAt, triple_of}
use Rattle.held_instances.specs.Image.{IsSubAt, put_for_numbers}
use Rattle.held_terms.proofs.GrowthLemmas.{same_triple}
use Rattle.tailrec_lang.specs.Tree.{GroupTree}
use Rattle.proof_text.specs.Line.{RuleTree, Axiom, Inst, Frame, Compose, ExtendCode, Strengthen, Weaken, Discharge, UseExit}
use Rattle.verdicts.specs.Instance.{History, Meets, put_for}
use Rattle.held_definitions.specs.Theorems.{Theorems, theorem_at}
use Rattle.checker.specs.Bench.{history_from, is_closed_in}
use Rattle.held_terms.specs.inner.Put.{AreRegistersPut, AreMemTermsPut}

-- ---- terms that are put in for variables

listed-step : {A B : Type 0} (f : A → B) (b : Bool) (x : A) (o : Option A) → option_map f (cond b (Some x) o) ≡ cond b (Some (f x)) (option_map f o)
listed-step f true x o = refl
listed-step f false x o = refl

listed-map : {A B : Type 0} (f : A → B) (xs : List (ℕ × A)) (i : ℕ) → option_map f (listed xs i) ≡ listed (map (λ (p : ℕ × A). (p.0, f p.1)) xs) i
listed-map f [] i = refl
listed-map f (x ∷ xs) i = listed-step f (x.0 == i) x.1 (listed xs i) ∙ (λ j. cond (x.0 == i) (Some (f x.1)) (listed-map f xs i j))

module _ (ns : List Node) (words mems : List (ℕ × ℕ)) (ts : List (ℕ × WordTree)) (us : List (ℕ × MemTree)) (p : AreRegistersPut ns words ts) (q : AreMemTermsPut ns mems us) where
  -- the numbers are there
  pub sub_put : IsSubAt ns words mems
  sub_put = record { each_word = p.at; each_mem = q.at }

  -- and stand for these terms
  pub same_put : put_for_numbers ns words mems ≡ put_for ts us
  unfolding put_for_numbers
  same_put =
      let word : (i : ℕ) → option_map (word_of ns) (listed words i) ≡ listed ts i = λ i. listed-map (word_of ns) words i ∙ ap (λ (l : List (ℕ × WordTree)). listed l i) p.is in
      let mem : (i : ℕ) → option_map (mem_of ns) (listed mems i) ≡ listed us i = λ i. listed-map (mem_of ns) mems i ∙ ap (λ (l : List (ℕ × MemTree)). listed l i) q.is in
      λ j. record { word = λ i. word i j; mem = λ i. mem i j }

-- the row over numbers of a larger arena is that over trees
pub inst_row : (ns ms : List Node) (words mems : List (ℕ × ℕ)) (ts : List (ℕ × WordTree)) (us : List (ℕ × MemTree)) (p t : Held) (b : Type 0) → Extends ns ms
    → AreRegistersPut ms words ts → AreMemTermsPut ms mems us → IsHeldAt ns p → IsHeldAt ns t
    → (b ↔ IsInst (put_for_numbers ms words mems) (triple_of ms p) (triple_of ms t)) → b ↔ IsInst (put_for ts us) (triple_of ns p) (triple_of ns t)
inst_row ns ms words mems ts us p t b e w m at_p at_t is =
    subst (λ (s : Substitution). b ↔ IsInst s (triple_of ns p) (triple_of ns t)) (same_put ms words mems ts us w m)
    (subst (λ (x : TripleTree). b ↔ IsInst (put_for_numbers ms words mems) x (triple_of ns t)) (same_triple ns ms e p at_p)
    (subst (λ (x : TripleTree). b ↔ IsInst (put_for_numbers ms words mems) (triple_of ms p) x) (same_triple ns ms e t at_t) is))

-- ---- the row of a rule

-- whichever number the next theorem has
pub meets_next : (g : GroupTree) (n m : ℕ) (theorem : ℕ → Option TripleTree) (closed : ℕ → Bool) (r : RuleTree) (t : TripleTree) → Meets g (record { next = n; theorem = theorem; closed = closed }) r t → Meets g (record { next = m; theorem = theorem; closed = closed }) r t
meets_next g n m theorem closed (Axiom address word form) t is = is
meets_next g n m theorem closed (Inst p words mems) t is = is
meets_next g n m theorem closed (Frame p) t is = is
meets_next g n m theorem closed (Compose p q) t is = is
meets_next g n m theorem closed (ExtendCode p) t is = is
meets_next g n m theorem closed (Strengthen p) t is = is
meets_next g n m theorem closed (Weaken p) t is = is
meets_next g n m theorem closed (Discharge p) t is = is
meets_next g n m theorem closed (UseExit def exit) t is = is

pub same_next : (g : GroupTree) (n : ℕ) (ns : List Node) (held : Theorems) (closed : List Bool) (r : RuleTree) (t : TripleTree) (b : Type 0) → (b ↔ Meets g (history_from 0 ns held closed) r t) → b ↔ Meets g (history_from n ns held closed) r t
same_next g n ns held closed r t b is = (
  λ x. meets_next g 0 n (theorem_at ns held) (is_closed_in closed) r t (is.0 x),
  λ m. is.1 (meets_next g n 0 (theorem_at ns held) (is_closed_in closed) r t m),
)

-- .. of what was put in
pub rule_row : (g : GroupTree) (h : History) (r s : RuleTree) (t u : TripleTree) (b : Type 0) → r ≡ s → u ≡ t → (b ↔ Meets g h s u) → b ↔ Meets g h r t
rule_row g h r s t u b e eu is =
    subst (λ (x : RuleTree). b ↔ Meets g h x t) (sym e) (subst (λ (x : TripleTree). b ↔ Meets g h s x) eu is)

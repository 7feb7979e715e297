-- What short lines state, rule by rule, and what lines leave one after the other.
use Rattle.std.proofs.Common.{◌≡◌, ℕ, ◌==◌, ◌<◌, ◌^◌, Bool, true, false, cond, Option, Some, None, Result, Ok, Err, List, [], ◌∷◌, map, refl, sym, ap, ◌∙◌, subst, fold}
use Rattle.std.specs.Prelude.{IfOk, IfSome, IsSomeAnd, OnOk, is_some, option_map}
use Rattle.std.proofs.lemmas.Option.{none-some, same_Some}
use Rattle.rv_words.specs.declared.memory.NoMemory.{NoMemory}
use Rattle.mc_text.specs.Number.{IsNumber}
use Rattle.word_terms.specs.declared.code.Code.{Code}
use Rattle.word_terms.specs.Substitution.{Substitution}
use Rattle.tailrec_lang.specs.declared.group.Group.{Group}
use Rattle.tailrec_lang.specs.Tree.{GroupTree}
use Rattle.triple_kernel.specs.declared.form.Form.{Form}
use Rattle.triple_kernel.specs.Tree.{TripleTree}
use Rattle.triple_kernel.specs.Rules.{IsDischarged, IsInst, IsStrengthened, IsWeakened}
use Rattle.instr_axioms.specs.Axiom.{axiom_of}
use Rattle.frame_compose.specs.Rules.{IsComposed, IsExtended, IsFramed, further, rest_after}
use Rattle.loop_rule.specs.Rule.{IsClosedBy, IsExit}
use Rattle.group_text.specs.Limits.{index_limit}
use Rattle.group_text.specs.Version.{Version, version_1}
use Rattle.group_text.specs.TermLimits.{IsMem, IsWord}
use Rattle.proof_text.specs.Line.{RuleTree, Axiom, Inst, Frame, Compose, ExtendCode, Strengthen, Weaken, Discharge, UseExit, LineTree, States, Loop, Forget, Further}
use Rattle.proof_text.specs.LineLimits.{AreRisingFrom, IsLineIn, IsTriple}
use Rattle.term_arena.specs.declared.node.Node.{Node}
use Rattle.term_arena.specs.Arena.{mem_of}
use Rattle.held_terms.specs.declared.held.Held.{Held}
use Rattle.held_terms.specs.declared.held.HeldFact.{HeldFact}
use Rattle.held_terms.specs.declared.held.HeldSide.{HeldSide}
use Rattle.held_terms.specs.Held.{IsHeldAt, fact_of, register_of, side_of, triple_of}
use Rattle.held_instances.specs.Image.{IsSubAt, put_for_numbers}
use Rattle.short_text.specs.declared.short.Short.{Short}
use Rattle.short_text.specs.declared.short.Short.TheVariants as short
use Rattle.short_text.specs.FullLine.{mems_for, rule_over, words_for}
use Rattle.verdicts.specs.Instance.{AreInstances, History, Meets, after_line, no_lines, put_for, with_closed, with_theorem, without}
use Rattle.held_definitions.specs.Theorems.{AreHeldAt, Theorems, held_by_number}
use Rattle.checker.specs.Bench.{state_history}
use Rattle.derived_triples.specs.Fine.{IsFineHeld}
use Rattle.checker.specs.Short.{AreFineAt, AreFullLines, AreWithin, HasFurtherAfter, IsFineShort, IsNeverStated, IsShortInstance, IsStatedBy, LeaveAfter, LeavesBehind}
use Rattle.derived_triples.specs.inner.Making.{MadeIf}
use Rattle.derived_triples.proofs.ComputedLemmas.{made_as}
use Rattle.checker.proofs.RuleLemmas.{meets_next, same_put}

-- ---- of what an option holds

some_as : {A : Type 0} (o : Option A) (P R : A → Type 0) → ((x : A) → P x → R x) → IsSomeAnd o P → IsSomeAnd o R
some_as None P R f h = h
some_as (Some x) P R f h = f x h

some_with : {A : Type 0} (o : Option A) (P Q R : A → Type 0) → ((x : A) → P x → Q x → R x) → IsSomeAnd o P → IsSomeAnd o Q → IsSomeAnd o R
some_with None P Q R f h k = h
some_with (Some x) P Q R f h k = f x h k

some_so : {A T : Type 0} (o : Option A) (P : A → Type 0) → ((x : A) → P x → T) → IsSomeAnd o P → T
some_so None P f h = absurd h
some_so (Some x) P f h = f x h

-- ---- what a line of a rule states

pub made_ok : (r : Result (Option Held) NoMemory) (ns : List Node) (P Q : TripleTree → Type 0) → ((t : TripleTree) → IsTriple t → P t → Q t) → ((t : TripleTree) → IsTriple t → Q t → P t) → IfOk r (MadeIf ns P) → IfOk r (MadeIf ns Q)
made_ok (Ok o) ns P Q to from m = made_as ns P Q to from o m
made_ok (Err e) ns P Q to from m = m

pub on_both : {T E P Q R : Type 0} (r : Result T E) → (P → Q → R) → OnOk r P → OnOk r Q → OnOk r R
on_both (Ok x) f p q = f p q
on_both (Err e) f p q = p

module _ (g : GroupTree) (h : History) (ns : List Node) where
  -- the rule is that of the line
  pub rule_of : (s : Short) (t : TripleTree) (rule : RuleTree) (x : IsStatedBy g h ns s t) → Some rule ≡ Some x.0 → Meets g h rule t
  rule_of s t rule x e = subst (λ (r : RuleTree). Meets g h r t) (sym (same_Some rule x.0 e)) x.1.right

  module _ (t : TripleTree) (fits : IsTriple t) where
    pub axiom_to : (a w : ℕ) (form : Form) → (a < 2 ^ 64) × (w < 2 ^ 32) → axiom_of a w form ≡ Some t → IsStatedBy g h ns (short.Axiom a w form) t
    axiom_to a w form n e = (Axiom a w form, record { full = (refl, tt); further = tt; fits = (n, fits); right = (n.0, n.1, e) })

    pub axiom_from : (a w : ℕ) (form : Form) → IsStatedBy g h ns (short.Axiom a w form) t → axiom_of a w form ≡ Some t
    axiom_from a w form x = (rule_of (short.Axiom a w form) t (Axiom a w form) x x.1.full.0).2

    pub inst_to : (p : ℕ) (words mems : List (ℕ × ℕ)) → IsNumber p × IsSubAt ns words mems × AreRisingFrom IsWord 0 (words_for ns words) × AreRisingFrom IsMem 0 (mems_for ns mems)
        → IsSomeAnd (h.theorem p) (λ q. IsInst (put_for_numbers ns words mems) q t) → IsStatedBy g h ns (short.Inst p words mems) t
    inst_to p words mems n m = (
      Inst p (words_for ns words) (mems_for ns mems),
      record {
        full = (refl, tt);
        further = tt;
        fits = ((n.0, n.2, n.3), fits);
        right = subst (λ (s : Substitution). IsSomeAnd (h.theorem p) (λ q. IsInst s q t)) (substitution p words mems n.1) m;
      },
    )
      where
        substitution : (p : ℕ) (words mems : List (ℕ × ℕ)) → IsSubAt ns words mems → put_for_numbers ns words mems ≡ put_for (words_for ns words) (mems_for ns mems)
        substitution p words mems sub = same_put ns words mems (words_for ns words) (mems_for ns mems) (record { at = sub.each_word; is = refl }) (record { at = sub.each_mem; is = refl })

    pub inst_from : (p : ℕ) (words mems : List (ℕ × ℕ)) → IsSubAt ns words mems → IsStatedBy g h ns (short.Inst p words mems) t → IsSomeAnd (h.theorem p) (λ q. IsInst (put_for_numbers ns words mems) q t)
    inst_from p words mems sub x =
        let same : put_for_numbers ns words mems ≡ put_for (words_for ns words) (mems_for ns mems) =
        same_put ns words mems (words_for ns words) (mems_for ns mems) (record { at = sub.each_word; is = refl }) (record { at = sub.each_mem; is = refl }) in
        subst (λ (s : Substitution). IsSomeAnd (h.theorem p) (λ q. IsInst s q t)) (sym same) (rule_of (short.Inst p words mems) t (Inst p (words_for ns words) (mems_for ns mems)) x x.1.full.0)

    pub use_to : (d e : ℕ) → (d < index_limit) × (e < index_limit) → (h.closed d ≡ true) × IsExit g d e t → IsStatedBy g h ns (short.UseExit d e) t
    use_to d e n m = (UseExit d e, record { full = (refl, tt); further = tt; fits = (n, fits); right = m })

    pub use_from : (d e : ℕ) → IsStatedBy g h ns (short.UseExit d e) t → (h.closed d ≡ true) × IsExit g d e t
    use_from d e x = rule_of (short.UseExit d e) t (UseExit d e) x x.1.full.0

    pub frame_to : (p : ℕ) (regs : List (ℕ × ℕ)) (mems : List ℕ) → IsNumber p
        → IsSomeAnd (h.theorem p) (λ q. IsFramed q t × (further q.pre.regs t.pre.regs ≡ map (register_of ns) regs) × (rest_after q.pre.mems t.pre.mems ≡ map (mem_of ns) mems)) → IsStatedBy g h ns (short.Frame p regs mems) t
    frame_to p regs mems n m = (Frame p, record { full = (refl, tt); further = some_as (h.theorem p) _ _ (λ q x. (x.1, x.2)) m; fits = (n, fits); right = some_as (h.theorem p) _ _ (λ q x. x.0) m })

    pub frame_from : (p : ℕ) (regs : List (ℕ × ℕ)) (mems : List ℕ) → IsStatedBy g h ns (short.Frame p regs mems) t
        → IsSomeAnd (h.theorem p) (λ q. IsFramed q t × (further q.pre.regs t.pre.regs ≡ map (register_of ns) regs) × (rest_after q.pre.mems t.pre.mems ≡ map (mem_of ns) mems))
    frame_from p regs mems x = some_with (h.theorem p) _ _ _ (λ q r s. (r, s.0, s.1)) (rule_of (short.Frame p regs mems) t (Frame p) x x.1.full.0) x.1.further

    pub extend_to : (p : ℕ) (code : Code) → IsNumber p → IsSomeAnd (h.theorem p) (λ q. IsExtended q t × (t.code ≡ code.ranges)) → IsStatedBy g h ns (short.ExtendCode p code) t
    extend_to p code n m = (ExtendCode p, record { full = (refl, some_so (h.theorem p) _ (λ q x. x.1) m); further = tt; fits = (n, fits); right = some_as (h.theorem p) _ _ (λ q x. x.0) m })

    pub extend_from : (p : ℕ) (code : Code) → IsStatedBy g h ns (short.ExtendCode p code) t → IsSomeAnd (h.theorem p) (λ q. IsExtended q t × (t.code ≡ code.ranges))
    extend_from p code x = some_as (h.theorem p) _ _ (λ q r. (r, x.1.full.1)) (rule_of (short.ExtendCode p code) t (ExtendCode p) x x.1.full.0)

    pub compose_to : (p q : ℕ) → IsNumber p × IsNumber q → IsSomeAnd (h.theorem p) (λ a. IsSomeAnd (h.theorem q) (λ b. IsComposed a b t)) → IsStatedBy g h ns (short.Compose p q) t
    compose_to p q n m = (Compose p q, record { full = (refl, tt); further = tt; fits = (n, fits); right = m })

    pub compose_from : (p q : ℕ) → IsStatedBy g h ns (short.Compose p q) t → IsSomeAnd (h.theorem p) (λ a. IsSomeAnd (h.theorem q) (λ b. IsComposed a b t))
    compose_from p q x = rule_of (short.Compose p q) t (Compose p q) x x.1.full.0

    pub strengthen_to : (p : ℕ) (facts : List HeldFact) (pre : HeldSide) → IsNumber p → IsSomeAnd (h.theorem p) (λ q. IsStrengthened q t × (t.facts ≡ map (fact_of ns) facts) × (t.pre ≡ side_of ns pre))
        → IsStatedBy g h ns (short.Strengthen p facts pre) t
    strengthen_to p facts pre n m = (Strengthen p, record { full = (refl, some_so (h.theorem p) _ (λ q x. (x.1, x.2)) m); further = tt; fits = (n, fits); right = some_as (h.theorem p) _ _ (λ q x. x.0) m })

    pub strengthen_from : (p : ℕ) (facts : List HeldFact) (pre : HeldSide) → IsStatedBy g h ns (short.Strengthen p facts pre) t
        → IsSomeAnd (h.theorem p) (λ q. IsStrengthened q t × (t.facts ≡ map (fact_of ns) facts) × (t.pre ≡ side_of ns pre))
    strengthen_from p facts pre x = some_as (h.theorem p) _ _ (λ q r. (r, x.1.full.1.0, x.1.full.1.1)) (rule_of (short.Strengthen p facts pre) t (Strengthen p) x x.1.full.0)

    pub weaken_to : (p : ℕ) (facts : List HeldFact) (post : HeldSide) → IsNumber p → IsSomeAnd (h.theorem p) (λ q. IsWeakened q t × (t.facts ≡ map (fact_of ns) facts) × (t.post ≡ side_of ns post))
        → IsStatedBy g h ns (short.Weaken p facts post) t
    weaken_to p facts post n m = (Weaken p, record { full = (refl, some_so (h.theorem p) _ (λ q x. (x.1, x.2)) m); further = tt; fits = (n, fits); right = some_as (h.theorem p) _ _ (λ q x. x.0) m })

    pub weaken_from : (p : ℕ) (facts : List HeldFact) (post : HeldSide) → IsStatedBy g h ns (short.Weaken p facts post) t
        → IsSomeAnd (h.theorem p) (λ q. IsWeakened q t × (t.facts ≡ map (fact_of ns) facts) × (t.post ≡ side_of ns post))
    weaken_from p facts post x = some_as (h.theorem p) _ _ (λ q r. (r, x.1.full.1.0, x.1.full.1.1)) (rule_of (short.Weaken p facts post) t (Weaken p) x x.1.full.0)

    pub discharge_to : (p : ℕ) (facts : List HeldFact) → IsNumber p → IsSomeAnd (h.theorem p) (λ q. IsDischarged q t × (t.facts ≡ map (fact_of ns) facts)) → IsStatedBy g h ns (short.Discharge p facts) t
    discharge_to p facts n m = (Discharge p, record { full = (refl, some_so (h.theorem p) _ (λ q x. x.1) m); further = tt; fits = (n, fits); right = some_as (h.theorem p) _ _ (λ q x. x.0) m })

    pub discharge_from : (p : ℕ) (facts : List HeldFact) → IsStatedBy g h ns (short.Discharge p facts) t → IsSomeAnd (h.theorem p) (λ q. IsDischarged q t × (t.facts ≡ map (fact_of ns) facts))
    discharge_from p facts x = some_as (h.theorem p) _ _ (λ q r. (r, x.1.full.1)) (rule_of (short.Discharge p facts) t (Discharge p) x x.1.full.0)

  -- lines that state no triple
  pub none_by_loop : (d : ℕ) (cited : List ℕ) → MadeIf ns (IsStatedBy g h ns (short.Loop d cited)) None
  none_by_loop d cited t fits x = none-some x.0 x.1.full.0

  pub none_by_forget : (k : ℕ) → MadeIf ns (IsStatedBy g h ns (short.Forget k)) None
  none_by_forget k t fits x = none-some x.0 x.1.full.0

-- ---- lines that close a definition or forget a theorem

module _ (g : GroupTree) (h : History) (ns : List Node) where
  pub loop_left : (s : Short) (d : ℕ) (cited : List ℕ) (after : History) → s ≡ short.Loop d cited → IsFineShort ns s → IsClosedBy g d (map h.theorem cited) → after ≡ with_closed d h → LeavesBehind g h ns s after
  loop_left s d cited after e fine by left =
      subst (λ (x : Short). LeavesBehind g h ns x after) (sym e) (Loop d cited, record { full = refl; further = tt; fits = subst (IsFineShort ns) e fine; right = by }, left)

  pub loop_only : (s : Short) (d : ℕ) (cited : List ℕ) → s ≡ short.Loop d cited → IsShortInstance g h ns s → IsClosedBy g d (map h.theorem cited)
  loop_only s d cited e (States rule t, r) = absurd (none-some rule (ap (rule_over ns) (sym e) ∙ r.full.0))
  loop_only s d cited e (Loop d2 cited2, r) =
      let same : short.Loop d cited ≡ short.Loop d2 cited2 = sym e ∙ r.full in
      let def : d2 ≡ d = cc in
      let all : cited2 ≡ cited = cc in
      subst (λ (x : ℕ). IsClosedBy g x (map h.theorem cited)) def (subst (λ (l : List ℕ). IsClosedBy g d2 (map h.theorem l)) all r.right)
  loop_only s d cited e (Forget k, r) = let same : short.Loop d cited ≡ short.Forget k = sym e ∙ r.full in absurd (cc)
  loop_only s d cited e (Further p t, r) = absurd r.full

  pub forget_left : (s : Short) (k : ℕ) (after : History) → s ≡ short.Forget k → IsFineShort ns s → is_some (h.theorem k) ≡ true → after ≡ without k h → LeavesBehind g h ns s after
  forget_left s k after e fine held left =
      subst (λ (x : Short). LeavesBehind g h ns x after) (sym e) (Forget k, record { full = refl; further = tt; fits = subst (IsFineShort ns) e fine; right = held }, left)

  pub forget_only : (s : Short) (k : ℕ) → s ≡ short.Forget k → IsShortInstance g h ns s → is_some (h.theorem k) ≡ true
  forget_only s k e (States rule t, r) = absurd (none-some rule (ap (rule_over ns) (sym e) ∙ r.full.0))
  forget_only s k e (Loop d cited, r) = let same : short.Forget k ≡ short.Loop d cited = sym e ∙ r.full in absurd (cc)
  forget_only s k e (Forget j, r) =
      let same : short.Forget k ≡ short.Forget j = sym e ∙ r.full in
      let number : j ≡ k = cc in
      subst (λ (x : ℕ). is_some (h.theorem x) ≡ true) number r.right
  forget_only s k e (Further p t, r) = absurd r.full

  -- any other line states a triple
  pub stated_only : (s : Short) → ((d : ℕ) (cited : List ℕ) → s ≡ short.Loop d cited → ⊥) → ((k : ℕ) → s ≡ short.Forget k → ⊥) → IsNeverStated g h ns s → IsShortInstance g h ns s → ⊥
  stated_only s loops forgets never (States rule t, r) = never t (rule, r)
  stated_only s loops forgets never (Loop d cited, r) = loops d cited r.full
  stated_only s loops forgets never (Forget k, r) = forgets k r.full
  stated_only s loops forgets never (Further p t, r) = r.full

  pub stated_left : (s : Short) (t : TripleTree) (after : History) → IsStatedBy g h ns s t → after ≡ with_theorem t h → LeavesBehind g h ns s after
  stated_left s t after x left = (States x.0 t, x.1, left)

-- each triple that is held is within the limits
pub fine_held : (g : Group) (ns : List Node) (held : Theorems) (next : ℕ) (closed : List Bool) → AreHeldAt ns held → AreWithin (state_history (g, ns, held, next, closed)) → AreFineAt ns held
fine_held g ns held next closed there w k = go (held_by_number held k) refl (there k)
  where
    go : (o : Option Held) → held_by_number held k ≡ o → IfSome o (λ x. IsHeldAt ns x) → IfSome o (λ x. IsFineHeld ns x)
    go None e at = tt
    go (Some x) e at = record { there = at; fits = w.each k (triple_of ns x) (ap (option_map (triple_of ns)) e) }

-- ---- whichever number the next theorem has

module _ (n m : ℕ) (theorem : ℕ → Option TripleTree) (closed : ℕ → Bool) (ns : List Node) where
  abbrev one : History
  one = record { next = n; theorem = theorem; closed = closed }

  abbrev two : History
  two = record { next = m; theorem = theorem; closed = closed }

  further-next : (s : Short) (rule : RuleTree) (t : TripleTree) → HasFurtherAfter one ns s (States rule t) → HasFurtherAfter two ns s (States rule t)
  further-next (short.Axiom a word form) rule t is = is
  further-next (short.Inst p words mems) rule t is = is
  further-next (short.Frame p regs mems) rule t is = is
  further-next (short.ExtendCode p code) rule t is = is
  further-next (short.Compose p q) rule t is = is
  further-next (short.Strengthen p facts pre) rule t is = is
  further-next (short.Weaken p facts post) rule t is = is
  further-next (short.Discharge p facts) rule t is = is
  further-next (short.UseExit def exit) rule t is = is
  further-next (short.Loop def cited) rule t is = is
  further-next (short.Forget k) rule t is = is

  pub stated_next : (g : GroupTree) (s : Short) (t : TripleTree) → IsStatedBy g one ns s t → IsStatedBy g two ns s t
  stated_next g s t (rule, r) = (rule, record { full = r.full; further = further-next s rule t r.further; fits = r.fits; right = meets_next g n m theorem closed rule t r.right })

-- ---- one line after the other

pub full_lines : (g : GroupTree) (h : History) (ns : List Node) (lines : List Short) (after : History) → LeaveAfter g h ns lines after → AreFullLines g h ns lines after
full_lines g h ns [] after e = record { full = []; stand = tt; right = tt; fit = tt; left = e }
full_lines g h ns (s ∷ ss) after (next, l, more) =
    let rest = full_lines g next ns ss after more in
    let is : next ≡ after_line h l.0 = l.2 in
    record {
      full = l.0 ∷ rest.full;
      stand = (l.1.full, rest.stand);
      right = (l.1.right, subst (λ (k : History). AreInstances g k rest.full) is rest.right);
      fit = (l.1.fits, rest.fit);
      left = rest.left ∙ (λ i. fold after_line (is i) rest.full);
    }

-- ---- what is left is within the limits

with-one : (h : History) (t : TripleTree) → IsTriple t → AreWithin h → AreWithin (with_theorem t h)
with-one h t fits w = record { each = λ k u e. go (k == h.next) k u e }
  where
    go : (b : Bool) (k : ℕ) (u : TripleTree) → cond b (Some t) (h.theorem k) ≡ Some u → IsTriple u
    go true k u e = subst IsTriple (same_Some t u e) fits
    go false k u e = w.each k u e

pub none_within : AreWithin no_lines
none_within = record { each = λ k t e. absurd (none-some t e) }

pub line_within : (v : Version) (h : History) (l : LineTree) → IsLineIn v l → AreWithin h → AreWithin (after_line h l)
line_within v h (States rule t) fits w = with-one h t fits.1 w
line_within v h (Loop d cited) fits w = record { each = w.each }
line_within v h (Forget j) fits w = record { each = λ k u e. go (k == j) k u e }
  where
    go : (b : Bool) (k : ℕ) (u : TripleTree) → cond b None (h.theorem k) ≡ Some u → IsTriple u
    go true k u e = absurd (none-some u e)
    go false k u e = w.each k u e
line_within v h (Further p t) fits w = with-one h t fits.2 w

pub left_within : (g : GroupTree) (h : History) (ns : List Node) (s : Short) (after : History) → LeavesBehind g h ns s after → AreWithin h → AreWithin after
left_within g h ns s after l w = subst AreWithin (sym l.2) (line_within version_1 h l.0 l.1.fits w)

pub lines_within : (g : GroupTree) (h : History) (ns : List Node) (lines : List Short) (after : History) → LeaveAfter g h ns lines after → AreWithin h → AreWithin after
lines_within g h ns [] after e w = subst AreWithin (sym e) w
lines_within g h ns (s ∷ ss) after (next, l, more) w = lines_within g next ns ss after more (left_within g h ns s next l w)

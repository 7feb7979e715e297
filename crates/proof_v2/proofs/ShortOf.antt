-- Short lines of what was put into a table: each has its line's rule, citations and stated parts, and is within the limits.
use Rattle.std.proofs.Common.{◌≡◌, ℕ, zero, suc, Bool, true, false, cond, Option, None, Some, List, [], ◌∷◌, map, drop, filter, length, refl, sym, ap, ◌∙◌, subst}
use Rattle.std.specs.Prelude.{IsSomeAnd, not, option_map, unwrap_or}
use Rattle.std.specs.List.{AllByRecursion}
use Rattle.rv_words.specs.declared.range.Range.{Range}
use Rattle.word_terms.specs.Tree.{WordTree, MemTree}
use Rattle.word_terms.specs.declared.code.Code.{Code}
use Rattle.tailrec_lang.specs.Tree.{GroupTree}
use Rattle.tailrec_lang.specs.Registers.{AreRegistersFrom}
use Rattle.sep_assert.specs.declared.assertion.Assertion.{Assertion}
use Rattle.sep_assert.specs.Tree.{AssertionTree}
use Rattle.triple_kernel.specs.Tree.{FactTree, TripleTree}
use Rattle.triple_kernel.specs.declared.form.Form.{Form}
use Rattle.group_text.specs.TermLimits.{IsMem, IsWord}
use Rattle.frame_compose.specs.Rules.{further, is_listed, rest_after}
use Rattle.proof_text.specs.Line.{LineTree, States, Loop, Forget, Further, line_or_own, triple_or_own, RuleTree, Axiom, Inst, Frame, Compose, ExtendCode, Strengthen, Weaken, Discharge, UseExit}
use Rattle.proof_text.specs.LineLimits.{AreRisingFrom, IsAssertion, IsFact, IsLine}
use Rattle.proof_text.specs.inner.OwnCode.{IsOwnCode}
use Rattle.term_arena.specs.declared.node.Node.{Node}
use Rattle.held_terms.specs.declared.held.HeldFact.{HeldFact}
use Rattle.held_terms.specs.declared.held.HeldSide.{HeldSide}
use Rattle.short_text.specs.declared.short.Short.{Short}
use Rattle.short_text.specs.declared.short.Short.TheVariants as short
use Rattle.short_text.specs.FullLine.{HasFurther}
use Rattle.verdicts.specs.Instance.{History, Instance}
use Rattle.derived_triples.specs.Fine.{AreFineFacts, AreFineMems, AreFineRegisters, IsFineSide}
use Rattle.checker.specs.Short.{IsRightFor}
use Rattle.held_terms.specs.inner.Put.{AreFactsPut, AreMemTermsPut, AreMemsPut, AreRegistersPut, IsSidePut}
use Rattle.term_arena.specs.Arena.{mem_of}
use Rattle.held_terms.specs.Held.{register_of}
use Rattle.proof_v2.specs.ShortTerms.{further_terms, line_terms}
use Rattle.proof_v2.specs.inner.Shortening.{AreLineTermsPut, IsShortOf, IsShortRule}
use Rattle.proof_v2.proofs.Fits.{numbers_same, rises-some}

-- ---- parts of lists

pub some-fit : {A : Type 0} (P : A → Type 0) (test : A → Bool) (xs : List A) → AllByRecursion P xs → AllByRecursion P (filter test xs)
some-fit P test [] h = h
some-fit {A} P test (x ∷ xs) h = by (test x) (some-fit P test xs h.1)
  where
    by : (b : Bool) → AllByRecursion P (filter test xs) → AllByRecursion P (cond b (x ∷ filter test xs) (filter test xs))
    by true more = (h.0, more)
    by false more = more

pub rest-fits : {A : Type 0} (P : A → Type 0) (k : ℕ) (xs : List A) → AllByRecursion P xs → AllByRecursion P (drop k xs)
rest-fits P zero xs h = h
rest-fits P (suc k) [] h = h
rest-fits P (suc k) (x ∷ xs) h = rest-fits P k xs h.1

-- ---- what was put in is within the limits where what it stands for is

module _ (ns : List Node) where
  facts-fine : (fs : List HeldFact) (ts : List FactTree) → AreFactsPut ns fs ts → AllByRecursion IsFact ts → AreFineFacts ns fs
  facts-fine fs ts put h = (put.at, subst (AllByRecursion IsFact) (sym put.is) h)

  side-fine : (s : HeldSide) (a : AssertionTree) → IsSidePut ns s a → IsAssertion a → IsFineSide ns s
  side-fine s a put h = (put.at, subst IsAssertion (sym put.is) h)

  further-fine : (own all : List (ℕ × WordTree)) (rs : List (ℕ × ℕ)) → AreRegistersPut ns rs (further own all) → AreRegistersFrom 1 (map (λ r. r.0) all) → AllByRecursion (λ r. IsWord r.1) all → AreFineRegisters ns rs
  further-fine own all rs put rise words = record {
    there = put.at;
    rise = subst (AreRegistersFrom 1) (ap (map (λ (r : ℕ × WordTree). r.0)) (sym put.is) ∙ numbers_same ns rs) (rises-some (λ (q : ℕ × WordTree). not (is_listed own q.0)) 1 all rise);
    words = subst (AllByRecursion (λ (r : ℕ × WordTree). IsWord r.1)) (sym put.is) (some-fit (λ (r : ℕ × WordTree). IsWord r.1) (λ q. not (is_listed own q.0)) all words);
  }

  mems-fine : (own all : List MemTree) (ks : List ℕ) → AreMemsPut ns ks (rest_after own all) → AllByRecursion IsMem all → AreFineMems ns ks
  mems-fine own all ks put h = (put.at, subst (AllByRecursion IsMem) (sym put.is) (rest-fits IsMem (length own) all h))

-- ---- the short line of each rule

module _ (h : History) (ns : List Node) (t : TripleTree) where
  pub short_axiom : (a w : ℕ) (form : Form) → IsLine (States (Axiom a w form) t) → IsShortOf h ns (short.Axiom a w form) (States (Axiom a w form) t)
  short_axiom a w form fits = record { full = (refl, tt); further = tt; fine = fits.0 }

  pub short_inst : (p : ℕ) (words : List (ℕ × WordTree)) (mems : List (ℕ × MemTree)) (ws ms : List (ℕ × ℕ)) → IsLine (States (Inst p words mems) t)
      → AreRegistersPut ns ws words → AreMemTermsPut ns ms mems → IsShortOf h ns (short.Inst p ws ms) (States (Inst p words mems) t)
  short_inst p words mems ws ms fits x y = record {
    full = ((λ i. Some (Inst p (x.is i) (y.is i))), tt);
    further = tt;
    fine = (fits.0.0, record { each_word = x.at; each_mem = y.at }, subst (AreRisingFrom IsWord 0) (sym x.is) fits.0.1, subst (AreRisingFrom IsMem 0) (sym y.is) fits.0.2);
  }

  pub short_frame : (p : ℕ) (own : AssertionTree) (rs : List (ℕ × ℕ)) (ks : List ℕ) → option_map (λ q. q.pre) (h.theorem p) ≡ Some own → IsLine (States (Frame p) t)
      → AreRegistersPut ns rs (further own.regs t.pre.regs) → AreMemsPut ns ks (rest_after own.mems t.pre.mems) → IsShortOf h ns (short.Frame p rs ks) (States (Frame p) t)
  short_frame p own rs ks is fits x y = record {
    full = (refl, tt);
    further = of-theorem (h.theorem p) is;
    fine = (fits.0, further-fine ns own.regs t.pre.regs rs x fits.1.pre.registers fits.1.pre.words, mems-fine ns own.mems t.pre.mems ks y fits.1.pre.mems);
  }
    where
      of-theorem : (o : Option TripleTree) → option_map (λ q. q.pre) o ≡ Some own → IsSomeAnd o (λ q. HasFurther ns (short.Frame p rs ks) q t)
      of-theorem None e = absurd cc
      of-theorem (Some q) e =
          let pre : own ≡ q.pre = cc in
          subst (λ (a : AssertionTree). (further a.regs t.pre.regs ≡ map (register_of ns) rs) × (rest_after a.mems t.pre.mems ≡ map (mem_of ns) ks)) pre (sym x.is, sym y.is)

  pub short_compose : (p q : ℕ) → IsLine (States (Compose p q) t) → IsShortOf h ns (short.Compose p q) (States (Compose p q) t)
  short_compose p q fits = record { full = (refl, tt); further = tt; fine = fits.0 }

  pub short_extension : (p : ℕ) (code : Code) → IsLine (States (ExtendCode p) t) → code.ranges ≡ t.code → IsShortOf h ns (short.ExtendCode p code) (States (ExtendCode p) t)
  short_extension p code fits is = record { full = (refl, sym is); further = tt; fine = (fits.0, subst IsOwnCode (sym is) (fits.1.code, fits.1.bytes)) }

  pub short_strengthened : (p : ℕ) (fs : List HeldFact) (s : HeldSide) → IsLine (States (Strengthen p) t) → AreFactsPut ns fs t.facts → IsSidePut ns s t.pre
      → IsShortOf h ns (short.Strengthen p fs s) (States (Strengthen p) t)
  short_strengthened p fs s fits x y = record {
    full = (refl, (sym x.is, sym y.is));
    further = tt;
    fine = (fits.0, facts-fine ns fs t.facts x fits.1.facts, side-fine ns s t.pre y fits.1.pre);
  }

  pub short_weakened : (p : ℕ) (fs : List HeldFact) (s : HeldSide) → IsLine (States (Weaken p) t) → AreFactsPut ns fs t.facts → IsSidePut ns s t.post
      → IsShortOf h ns (short.Weaken p fs s) (States (Weaken p) t)
  short_weakened p fs s fits x y = record {
    full = (refl, (sym x.is, sym y.is));
    further = tt;
    fine = (fits.0, facts-fine ns fs t.facts x fits.1.facts, side-fine ns s t.post y fits.1.post);
  }

  pub short_discharged : (p : ℕ) (fs : List HeldFact) → IsLine (States (Discharge p) t) → AreFactsPut ns fs t.facts → IsShortOf h ns (short.Discharge p fs) (States (Discharge p) t)
  short_discharged p fs fits x = record { full = (refl, sym x.is); further = tt; fine = (fits.0, facts-fine ns fs t.facts x fits.1.facts) }

  pub short_exit : (d e : ℕ) → IsLine (States (UseExit d e) t) → IsShortOf h ns (short.UseExit d e) (States (UseExit d e) t)
  short_exit d e fits = record { full = (refl, tt); further = tt; fine = fits.0 }

module _ (h : History) (ns : List Node) where
  pub short_loop : (d : ℕ) (cited : List ℕ) → IsLine (Loop d cited) → IsShortOf h ns (short.Loop d cited) (Loop d cited)
  short_loop d cited fits = record { full = refl; further = tt; fine = fits }

  pub short_forget : (k : ℕ) → IsLine (Forget k) → IsShortOf h ns (short.Forget k) (Forget k)
  short_forget k fits = record { full = refl; further = tt; fine = fits }

  -- it stands for the line where that is right
  pub right_for : (g : GroupTree) (s : Short) (l : LineTree) → IsLine l → Instance g h l → IsShortOf h ns s l → IsRightFor g h ns s l
  right_for g s l fits right of = record { full = of.full; further = of.further; fits = fits; right = right }

-- ---- a line in place of another

-- a rule that is known
module _ (kept : List (Option Assertion)) (t : TripleTree) (rule known : RuleTree) (is : rule ≡ known) where
  pub of_rule : (ns : List Node) (s : Short) → IsShortRule kept ns known t s → IsShortRule kept ns rule t s
  of_rule ns s of = subst (λ (r : RuleTree). IsShortRule kept ns r t s) (sym is) of

  pub put_rule : (old new : List Node) → AreLineTermsPut kept old (States known t) new → AreLineTermsPut kept old (States rule t) new
  put_rule old new put = subst (λ (r : RuleTree). AreLineTermsPut kept old (States r t) new) (sym is) put

-- what is put beside a precondition
pub framed_terms : (h : History) (p : ℕ) (own : AssertionTree) (t : TripleTree) → option_map (λ q. q.pre) (h.theorem p) ≡ Some own → line_terms h (States (Frame p) t) ≡ further_terms own t.pre
framed_terms h p own t is = by (h.theorem p) is
  where
    by : (o : Option TripleTree) → option_map (λ q. q.pre) o ≡ Some own → unwrap_or (option_map (λ q. further_terms q.pre t.pre) o) [] ≡ further_terms own t.pre
    by None e = absurd cc
    by (Some q) e = let pre : q.pre ≡ own = cc in ap (λ (a : AssertionTree). further_terms a t.pre) pre

-- no code is among a line's terms
stated-own : (own : List Range) (all : Bool) (h : History) (rule : RuleTree) (t : TripleTree) → line_terms h (States rule (triple_or_own own all t)) ≡ line_terms h (States rule t)
stated-own own all h (Axiom a w form) t = refl
stated-own own all h (Inst p words mems) t = refl
stated-own own all h (Frame p) t = refl
stated-own own all h (Compose p q) t = refl
stated-own own all h (ExtendCode p) t = refl
stated-own own all h (Strengthen p) t = refl
stated-own own all h (Weaken p) t = refl
stated-own own all h (Discharge p) t = refl
stated-own own all h (UseExit d e) t = refl

pub line_own : (own : List Range) (all : Bool) (h : History) (l : LineTree) → line_terms h (line_or_own own all l) ≡ line_terms h l
line_own own all h (States rule t) = stated-own own all h rule t
line_own own all h (Loop d cited) = refl
line_own own all h (Forget k) = refl
line_own own all h (Further p t) = refl

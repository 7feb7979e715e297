-- What each rule keeps, each line of a proof keeps.
use Rattle.std.proofs.Common.{◌≡◌, ℕ, zero, suc, ◌<◌, ◌^◌, Bool, true, false, cond, Option, Some, None, List, [], ◌∷◌, map, refl, sym, subst, arith}
use Rattle.std.specs.Prelude.{Contains, IsSomeAnd, ◌==◌}
use Rattle.std.proofs.lemmas.Bool.{eqb-true}
use Rattle.word_terms.specs.Substitution.{Substitution}
use Rattle.tailrec_lang.specs.Tree.{GroupTree}
use Rattle.triple_kernel.specs.Tree.{TripleTree}
use Rattle.triple_kernel.specs.Rules.{IsInst, IsStrengthened, IsWeakened, IsDischarged}
use Rattle.triple_kernel.specs.declared.form.Form.{Form}
use Rattle.instr_axioms.specs.Axiom.{axiom_of}
use Rattle.loop_rule.specs.Rule.{IsClosedBy}
use Rattle.proof_text.specs.Line.{RuleTree, Axiom, Inst, Frame, Compose, ExtendCode, Strengthen, Weaken, Discharge, UseExit, LineTree, States, Loop, Forget, Further}
use Rattle.verdicts.specs.Instance.{FurtherRule, History, InstanceBy, Meets, after_line, no_lines, put_for}
use Rattle.frame_compose.specs.Rules.{IsFramed, IsExtended, IsComposed}
use Rattle.verdicts.specs.Addresses.{AllHave, ExitsHave}

-- each rule keeps P
pub record RulesKeep (P : TripleTree → Type 0) (F : FurtherRule) (g : GroupTree) : Type 0 where
  pub axiom_has : (a w : ℕ) (form : Form) (t : TripleTree) → a < 2 ^ 64 → w < 2 ^ 32 → axiom_of a w form ≡ Some t → P t
  pub inst : (s : Substitution) (p t : TripleTree) → IsInst s p t → P p → P t
  pub framed : (p t : TripleTree) → IsFramed p t → P p → P t
  pub composed : (p q t : TripleTree) → IsComposed p q t → P p → P q → P t
  pub extended : (p t : TripleTree) → IsExtended p t → P p → P t
  pub strengthened : (p t : TripleTree) → IsStrengthened p t → P p → P t
  pub weakened : (p t : TripleTree) → IsWeakened p t → P p → P t
  pub discharged : (p t : TripleTree) → IsDischarged p t → P p → P t
  pub closed : (d : ℕ) (cited : List (Option TripleTree)) → IsClosedBy g d cited → ((p : TripleTree) → Contains cited (Some p) → P p) → ExitsHave P g d
  pub further : (p t : TripleTree) → F p t → P p → P t

-- a premise that a line cites has P
cited : {P Q : TripleTree → Type 0} {R : Type 0} (o : Option TripleTree) → ((p : TripleTree) → o ≡ Some p → P p) → ((p : TripleTree) → P p → Q p → R) → IsSomeAnd o Q → R
cited None has rule is = absurd is
cited (Some p) has rule is = rule p (has p refl) is

some-same : (x y : TripleTree) → Some x ≡ Some y → x ≡ y
some-same x y e = cc

contains-map : {A B : Type 0} (f : A → B) (xs : List A) (y : B) → Contains (map f xs) y → (x : A) × (f x ≡ y)
contains-map f [] y c = absurd (omega (arith, c.1))
contains-map f (x ∷ xs) y (zero, lt, e) = (x, e)
contains-map f (x ∷ xs) y (suc k, lt, e) = contains-map f xs y (k, omega arith, e)

module _ (P : TripleTree → Type 0) (F : FurtherRule) (g : GroupTree) (kept : RulesKeep P F g) where
  from : (h : History) → AllHave P g h → (k : ℕ) (Q : TripleTree → Type 0) (t : TripleTree) → ((p : TripleTree) → P p → Q p → P t) → IsSomeAnd (h.theorem k) Q → P t
  from h all k Q t rule is = cited {P = P} (h.theorem k) (λ p there. all.theorems k p there) rule is

  meets : (h : History) → AllHave P g h → (rule : RuleTree) (t : TripleTree) → Meets g h rule t → P t
  meets h all (Axiom address word form) t is = kept.axiom_has address word form t is.0 is.1 is.2
  meets h all (Inst p words mems) t is = from h all p (λ p. IsInst (put_for words mems) p t) t (λ p v i. kept.inst (put_for words mems) p t i v) is
  meets h all (Frame p) t is = from h all p (λ p. IsFramed p t) t (λ p v i. kept.framed p t i v) is
  meets h all (Compose p q) t is =
      from h all p (λ p. IsSomeAnd (h.theorem q) (λ q. IsComposed p q t)) t
      (λ p v i. from h all q (λ q. IsComposed p q t) t (λ q w j. kept.composed p q t j v w) i) is
  meets h all (ExtendCode p) t is = from h all p (λ p. IsExtended p t) t (λ p v i. kept.extended p t i v) is
  meets h all (Strengthen p) t is = from h all p (λ p. IsStrengthened p t) t (λ p v i. kept.strengthened p t i v) is
  meets h all (Weaken p) t is = from h all p (λ p. IsWeakened p t) t (λ p v i. kept.weakened p t i v) is
  meets h all (Discharge p) t is = from h all p (λ p. IsDischarged p t) t (λ p v i. kept.discharged p t i v) is
  meets h all (UseExit def exit) t is = subst P (sym is.1.same) (all.closed def is.0 is.1.def is.1.is exit is.1.x is.1.at)

  stated : (b : Bool) (o : Option TripleTree) (t p : TripleTree) → P t → (o ≡ Some p → P p) → cond b (Some t) o ≡ Some p → P p
  stated true o t p v old e = subst P (some-same t p e) v
  stated false o t p v old e = old e

  left : (b : Bool) (o : Option TripleTree) (p : TripleTree) → (o ≡ Some p → P p) → cond b None o ≡ Some p → P p
  left true o p old e = absurd (cc)
  left false o p old e = old e

  still-closed : (b : Bool) (was : Bool) (c d : ℕ) → (c == d) ≡ b → ExitsHave P g d → (was ≡ true → ExitsHave P g c) → cond b true was ≡ true → ExitsHave P g c
  still-closed true was c d e new old h = subst (ExitsHave P g) (sym (eqb-true c d e)) new
  still-closed false was c d e new old h = old h

  pub line-has : (h : History) → AllHave P g h → (l : LineTree) → InstanceBy F g h l → AllHave P g (after_line h l)
  line-has h all (States rule t) is = record {
    theorems = λ k p there. stated (k == h.next) (h.theorem k) t p (meets h all rule t is) (all.theorems k p) there;
    closed = all.closed;
  }
  line-has h all (Loop def numbers) is = record {
    theorems = all.theorems;
    closed = λ c there. still-closed (c == def) (h.closed c) c def refl (kept.closed def (map h.theorem numbers) is (λ p c. let from_number = contains-map h.theorem numbers (Some p) c in all.theorems from_number.0 p from_number.1)) (all.closed c) there;
  }
  line-has h all (Forget j) is = record {
    theorems = λ k p there. left (k == j) (h.theorem k) p (all.theorems k p) there;
    closed = all.closed;
  }
  line-has h all (Further p t) is = record {
    theorems = λ k q there. stated (k == h.next) (h.theorem k) t q (from h all p (λ p. F p t) t (λ p v i. kept.further p t i v) is) (all.theorems k q) there;
    closed = all.closed;
  }

pub no_lines-have : (P : TripleTree → Type 0) (g : GroupTree) → AllHave P g no_lines
no_lines-have P g = record { theorems = λ k t e. absurd (cc); closed = λ d e. absurd (cc) }

-- Lines that are right one after the other leave valid triples behind them.
use Rattle.std.proofs.Common.{◌≡◌, ◌≤◌, ℕ, zero, suc, Bool, true, false, cond, Option, Some, None, List, [], ◌∷◌, map, refl, sym, subst, arith}
use Rattle.std.specs.Prelude.{Contains, IsSomeAnd, ◌==◌}
use Rattle.std.specs.List.{AllByRecursion}
use Rattle.std.proofs.lemmas.Bool.{eqb-true}
use Rattle.tailrec_lang.specs.Tree.{GroupTree, listed_def}
use Rattle.tailrec_lang.specs.WellFormed.{IsWellFormed}
use Rattle.triple_kernel.specs.Tree.{TripleTree}
use Rattle.triple_kernel.specs.Valid.{Valid}
use Rattle.triple_kernel.specs.Rules.{IsInst, IsStrengthened, IsWeakened, IsDischarged}
use Rattle.triple_kernel.proofs.PutInLemmas.{valid_inst}
use Rattle.triple_kernel.proofs.RuleLemmas.{valid_strengthened, valid_weakened, valid_discharged}
use Rattle.group_text.specs.declared.version.Version.{Version as Known}
use Rattle.group_text.specs.declared.version.Version.TheVariants.{One, Two, Three, Four}
use Rattle.group_text.specs.Version.{Version, version_1}
use Rattle.group_text.specs.Limits.{AreGroups, IsGroupIn, AreGroupsIn}
use Rattle.instr_axioms.proofs.AxiomLemmas.{axiom_valid}
use Rattle.loop_rule.specs.Rule.{IsClosed}
use Rattle.loop_rule.proofs.LoopLemmas.{closed-valid}
use Rattle.proof_text.specs.Line.{RuleTree, Axiom, Inst, Frame, Compose, ExtendCode, Strengthen, Weaken, Discharge, UseExit, LineTree, States, Loop, Forget, Further, ProofTree}
use Rattle.verdicts.specs.Instance.{History, no_lines, after_line, with_theorem, put_for, Meets, FurtherRule, KeepsValid, InstanceBy, no_rule}
use Rattle.frame_compose.specs.Rules.{IsFramed, IsExtended, IsComposed}
use Rattle.verdicts.specs.Further.{further_of}
use Rattle.verdicts.specs.Sound.{Sound}
use Rattle.proof_text.specs.Proofs.{groups_of}
use Rattle.verdicts.specs.Accepts.{IsAcceptedBy, AcceptsBy, Accepts}
use Rattle.claims.specs.Headline.{IsRight, Headline}
use Rattle.frame_compose.proofs.ExchangeLemmas.{valid_exchanged}
use Rattle.frame_compose.proofs.SteerLemmas.{valid_steered}
use Rattle.frame_compose.proofs.FrameLemmas.{valid_frame}
use Rattle.frame_compose.proofs.ExtendLemmas.{valid_extension}
use Rattle.frame_compose.proofs.ComposeLemmas.{valid_composition}
use Rattle.verdicts.proofs.HeadlineLemmas.{function-right}
use Rattle.verdicts.proofs.WholeLemmas.{lines-keep}

-- a premise that a line cites is valid
cited : {P Q : TripleTree → Type 0} {R : Type 0} (o : Option TripleTree) → ((p : TripleTree) → o ≡ Some p → P p) → ((p : TripleTree) → P p → Q p → R) → IsSomeAnd o Q → R
cited None valid rule is = absurd is
cited (Some p) valid rule is = rule p (valid p refl) is

some-same : (x y : TripleTree) → Some x ≡ Some y → x ≡ y
some-same x y e = cc

contains-map : {A B : Type 0} (f : A → B) (xs : List A) (y : B) → Contains (map f xs) y → (x : A) × (f x ≡ y)
contains-map f [] y c = absurd (omega (arith, c.1))
contains-map f (x ∷ xs) y (zero, lt, e) = (x, e)
contains-map f (x ∷ xs) y (suc k, lt, e) = contains-map f xs y (k, omega arith, e)

-- ---- lines

module _ (g : GroupTree) (well_formed : IsWellFormed g) where
  from : (h : History) → Sound g h → (k : ℕ) (Q : TripleTree → Type 0) (t : TripleTree) → ((p : TripleTree) → Valid g p → Q p → Valid g t) → IsSomeAnd (h.theorem k) Q → Valid g t
  from h sound k Q t rule is = cited {P = Valid g} (h.theorem k) (λ p there. sound.theorems k p there) rule is

  meets-valid : (h : History) → Sound g h → (rule : RuleTree) (t : TripleTree) → Meets g h rule t → Valid g t
  meets-valid h sound (Axiom address word form) t is = axiom_valid g address word form t is.0 is.1 is.2
  meets-valid h sound (Inst p words mems) t is = from h sound p (λ p. IsInst (put_for words mems) p t) t (λ p v i. valid_inst g (put_for words mems) p t i v) is
  meets-valid h sound (Frame p) t is = from h sound p (λ p. IsFramed p t) t (λ p v i. valid_frame g p t i v) is
  meets-valid h sound (Compose p q) t is =
      from h sound p (λ p. IsSomeAnd (h.theorem q) (λ q. IsComposed p q t)) t
      (λ p v i. from h sound q (λ q. IsComposed p q t) t (λ q w j. valid_composition g p q t j v w) i) is
  meets-valid h sound (ExtendCode p) t is = from h sound p (λ p. IsExtended p t) t (λ p v i. valid_extension g p t i v) is
  meets-valid h sound (Strengthen p) t is = from h sound p (λ p. IsStrengthened p t) t (λ p v i. valid_strengthened g p t i v) is
  meets-valid h sound (Weaken p) t is = from h sound p (λ p. IsWeakened p t) t (λ p v i. valid_weakened g p t i v) is
  meets-valid h sound (Discharge p) t is = from h sound p (λ p. IsDischarged p t) t (λ p v i. valid_discharged g p t i v) is
  meets-valid h sound (UseExit def exit) t is = subst (Valid g) (sym is.1.same) (sound.closed def is.0 is.1.def is.1.is exit is.1.x is.1.at)

  stated-valid : (b : Bool) (o : Option TripleTree) (t p : TripleTree) → Valid g t → (o ≡ Some p → Valid g p) → cond b (Some t) o ≡ Some p → Valid g p
  stated-valid true o t p v old e = subst (Valid g) (some-same t p e) v
  stated-valid false o t p v old e = old e

  kept-valid : (b : Bool) (o : Option TripleTree) (p : TripleTree) → (o ≡ Some p → Valid g p) → cond b None o ≡ Some p → Valid g p
  kept-valid true o p old e = absurd (cc)
  kept-valid false o p old e = old e

  still-closed : (b : Bool) (was : Bool) (c d : ℕ) → (c == d) ≡ b → IsClosed g d → (was ≡ true → IsClosed g c) → cond b true was ≡ true → IsClosed g c
  still-closed true was c d e new old h = subst (IsClosed g) (sym (eqb-true c d e)) new
  still-closed false was c d e new old h = old h

  pub theorem-sound : (h : History) → Sound g h → (t : TripleTree) → Valid g t → Sound g (with_theorem t h)
  theorem-sound h sound t valid = record { theorems = λ k p there. stated-valid (k == h.next) (h.theorem k) t p valid (sound.theorems k p) there; closed = sound.closed }

  -- in a text with a further rule that keeps validity
  module _ (F : FurtherRule) (keeps : KeepsValid F g) where
    pub line-sound : (h : History) → Sound g h → (l : LineTree) → InstanceBy F g h l → Sound g (after_line h l)
    line-sound h sound (States rule stated) is = theorem-sound h sound stated (meets-valid h sound rule stated is)
    line-sound h sound (Loop def numbers) is = record {
      theorems = sound.theorems;
      closed = λ c there. still-closed (c == def) (h.closed c) c def refl (closed-valid g def (map h.theorem numbers) is (λ p c. let from_number = contains-map h.theorem numbers (Some p) c in sound.theorems from_number.0 p from_number.1)) (sound.closed c) there;
    }
    line-sound h sound (Forget j) is = record {
      theorems = λ k p there. kept-valid (k == j) (h.theorem k) p (sound.theorems k p) there;
      closed = sound.closed;
    }
    line-sound h sound (Further p stated) is = theorem-sound h sound stated (from h sound p (λ q. F q stated) stated (λ q v i. keeps q stated i v) is)

-- no triple is stated by no rule
pub no_rule-keeps : (g : GroupTree) → KeepsValid no_rule g
no_rule-keeps g p t is valid = absurd is

-- the further rule of each version keeps validity
pub further-keeps : (v : Known) (g : GroupTree) → KeepsValid (further_of v) g
further-keeps One g = no_rule-keeps g
further-keeps Two g = no_rule-keeps g
further-keeps Three g = valid_steered g
further-keeps Four g = valid_exchanged g

pub no_lines-sound : (g : GroupTree) → Sound g no_lines
no_lines-sound g = record { theorems = λ k t e. absurd (cc); closed = λ d e. absurd (cc) }

-- ---- whole proofs

proved-group : {A B : Type 0} (f : A → B) (P : A → Type 0) (xs : List A) (y : B) → AllByRecursion P xs → Contains (map f xs) y → (x : A) × P x × (f x ≡ y)
proved-group f P [] y all c = absurd (omega (arith, c.1))
proved-group f P (x ∷ xs) y all (zero, lt, e) = (x, all.0, e)
proved-group f P (x ∷ xs) y all (suc k, lt, e) = proved-group f P xs y all.1 (k, omega arith, e)

each-group : (ver : Version) (gs : List GroupTree) (g : GroupTree) → AreGroupsIn ver gs → Contains gs g → IsGroupIn ver g
each-group ver [] g all c = absurd (omega (arith, c.1))
each-group ver (x ∷ xs) g all (zero, lt, e) = subst (IsGroupIn ver) e all.0
each-group ver (x ∷ xs) g all (suc k, lt, e) = each-group ver xs g all.1 (k, omega arith, e)

-- What is accepted is right, in a version with one memory at most and a further rule that keeps validity.
pub accepted-right-by : (ver : Version) → ver.most_mems ≤ 1 → (F : FurtherRule) → ((g : GroupTree) → KeepsValid F g) → (file : List ℕ) (ps : List ProofTree) → AreGroupsIn ver (groups_of ps) → AcceptsBy F file ps → Headline file (groups_of ps)
accepted-right-by ver few F keeps file ps limits accepts g c =
    let found = proved-group (λ (p : ProofTree). p.group) (IsAcceptedBy F file) ps g accepts.each c in
    let p = found.0 in
    let is = found.1 in
    let limit = subst (IsGroupIn ver) (sym found.2) (each-group ver (groups_of ps) g limits c) in
    let sound = lines-keep F p.group (Sound p.group) (line-sound p.group is.1.well_formed F (keeps p.group)) [] no_lines (no_lines-sound p.group) p.lines is.0 is.1.lines in
    subst (IsRight file) found.2
    (function-right file p.group is.1.well_formed limit.registers (omega (arith, few, limit.memories.1)) is.2.code (sound.closed (listed_def p.group) is.2.closed))

pub accepted-right : (file : List ℕ) (ps : List ProofTree) → AreGroups (groups_of ps) → Accepts file ps → Headline file (groups_of ps)
accepted-right = accepted-right-by version_1 (omega arith) no_rule no_rule-keeps

-- What steps give has a text, if what they start from has.
use Rattle.std.proofs.Common.{◌≡◌, ℕ, zero, suc, ◌+◌, ◌-◌, ◌^◌, ◌<◌, ◌≤◌, Bool, true, false, cond, nat_lt, List, [], ◌∷◌, length, Some, Option, option_map, map, slice_get, refl, sym, ap, subst, ◌∙◌, arith}
use Rattle.std.specs.Prelude.{slice_set}
use Rattle.std.specs.List.{AllByRecursion}
use Rattle.std.proofs.lemmas.Option.{slice_get_within}
use Rattle.word_terms.specs.Tree.{WordTree, MemTree, CondTree}
use Rattle.group_text.specs.TermLimits.{depth_limit, IsWord, IsMem, IsCond}
use Rattle.tailrec_lang.specs.Tree.{ValuesTree, StepTree, Bind, BindMem, Need, BodyTree, Do, Branch, Call, Again, Leave, ArmTrees, NoArm, Arm, DefTree, GroupTree, def_tree}
use Rattle.group_text.specs.Spelling.{arm_count}
use Rattle.group_text.specs.declared.version.Version.{Version as Known}
use Rattle.group_text.specs.Version.{version_of}
use Rattle.group_text.specs.Limits.{IsValues, IsStep, IsBody, AreArms, IsDef, IsGroupIn, nesting_limit, def_exit_limit, def_limit}
use Rattle.fun_laws.specs.declared.step.Rw.{Rw}
use Rattle.fun_laws.specs.Laws.{Term, OfWord, OfMem, OfCond, laws, law_at, Law}
use Rattle.fun_laws.specs.Rewriting.{step_term, count, value_at, term_at, arm_term_at, with_step_term, with_word_term, with_mem_term, with_cond, with_value, with_term, with_arm_term, with_def_term, IsRewritingStep, AreRewritingSteps}
use Rattle.fun_laws.specs.Limits.{IsCert, IsCertStep}
use Rattle.fun_laws.specs.Spelling.{cert_tree}
use Rattle.fun_laws.specs.declared.cert.Cert.{Cert}
use Rattle.fun_laws.specs.Certs.{IsCertOf}
use Rattle.fun_laws.specs.inner.Numbers.{HaveNumbers}
use Rattle.fun_laws.proofs.TermFits.{FitsTerm, place_fits, rewrites_fit}

-- the second has a text where the first has
abbrev FitsToo : Term → Term → Type 0
FitsToo s v = FitsTerm depth_limit s → FitsTerm depth_limit v

of : (s t v : Term) → Some s ≡ Some t → FitsToo t v → FitsToo s v
of s t v is a = let e : t ≡ s = cc in subst (λ x. FitsToo x v) e a

-- either side of a test
either : {X Y : Type 0} (P : X → Type 0) (t : Bool) (a b : Option Y) (c d : X) (y : Y) → (a ≡ Some y → P c) → (b ≡ Some y → P d) → cond t a b ≡ Some y → P (cond t c d)
either P true a b c d y f g is = f is
either P false a b c d y f g is = g is

-- ---- values

word-fits : (ts : List WordTree) (k : ℕ) (s v : Term) → option_map OfWord (slice_get ts k) ≡ Some s → FitsToo s v → AllByRecursion IsWord ts → AllByRecursion IsWord (with_word_term ts k v)
word-fits [] k s v is a h = absurd (cc)
word-fits (t ∷ ts) zero s (OfWord u) is a h = ((let e : OfWord t ≡ s = cc in subst (λ x. FitsToo x (OfWord u)) (sym e) a h.0), h.1)
word-fits (t ∷ ts) (suc k) s (OfWord u) is a h = (h.0, word-fits ts k s (OfWord u) is a h.1)
word-fits (t ∷ ts) k s v is a h = h

mem-fits : (ms : List MemTree) (k : ℕ) (s v : Term) → option_map OfMem (slice_get ms k) ≡ Some s → FitsToo s v → AllByRecursion IsMem ms → AllByRecursion IsMem (with_mem_term ms k v)
mem-fits [] k s v is a h = absurd (cc)
mem-fits (m ∷ ms) zero s (OfMem u) is a h = ((let e : OfMem m ≡ s = cc in subst (λ x. FitsToo x (OfMem u)) (sym e) a h.0), h.1)
mem-fits (m ∷ ms) (suc k) s (OfMem u) is a h = (h.0, mem-fits ms k s (OfMem u) is a h.1)
mem-fits (m ∷ ms) k s v is a h = h

value-fits : (v : ValuesTree) (k : ℕ) (s x : Term) → value_at v k ≡ Some s → FitsToo s x → IsValues v → IsValues (with_value v k x)
value-fits v k s x is a h =
    either IsValues (nat_lt k (length v.words)) _ _ _ _ s
    (λ e. (word-fits v.words k s x e a h.0, h.1))
    (λ e. (h.0, mem-fits v.mems (k - length v.words) s x e a h.1)) is

-- ---- bodies

step-fits : (s : StepTree) (x : Term) → FitsToo (step_term s) x → IsStep s → IsStep (with_step_term s x)
step-fits (Bind t) (OfWord x) a h = a h
step-fits (BindMem m) (OfMem x) a h = a h
step-fits (Need c) (OfCond x) a h = a h
step-fits s x a h = h

cond-fits : (c : CondTree) (x : Term) → FitsToo (OfCond c) x → IsCond c → IsCond (with_cond c x)
cond-fits c (OfCond x) a h = a h
cond-fits c x a h = h

arms-counted : (bs : ArmTrees) (k : ℕ) (x : Term) → arm_count (with_arm_term bs k x) ≡ arm_count bs
arms-counted NoArm k x = refl
arms-counted (Arm b bs) k x = by (nat_lt k (count b)) (arms-counted bs (k - count b) x)
  where
    by : (v : Bool) → arm_count (with_arm_term bs (k - count b) x) ≡ arm_count bs → arm_count (cond v (Arm (with_term b k x) bs) (Arm b (with_arm_term bs (k - count b) x))) ≡ arm_count (Arm b bs)
    by true e = refl
    by false e = ap suc e

mutual
  body-fits : (n : ℕ) (b : BodyTree) (k : ℕ) (s x : Term) → term_at b k ≡ Some s → FitsToo s x → IsBody n b → IsBody n (with_term b k x)
  body-fits zero b k s x is a h = absurd h
  body-fits (suc n) (Do step rest) zero s x is a h = (step-fits step x (of (step_term step) s x is a) h.0, h.1)
  body-fits (suc n) (Do step rest) (suc k) s x is a h = (h.0, body-fits (suc n) rest k s x is a h.1)
  body-fits (suc n) (Branch c p q) zero s x is a h = (cond-fits c x (of (OfCond c) s x is a) h.0, h.1, h.2)
  body-fits (suc n) (Branch c p q) (suc k) s x is a h =
      either (IsBody (suc n)) (nat_lt k (count p)) _ _ _ _ s
      (λ e. (h.0, body-fits n p k s x e a h.1, h.2))
      (λ e. (h.0, h.1, body-fits n q (k - count p) s x e a h.2)) is
  body-fits (suc n) (Call def v arms) k s x is a h =
      either (IsBody (suc n)) (nat_lt k (length v.words + length v.mems)) _ _ _ _ s
      (λ e. (h.0, h.1, value-fits v k s x e a h.2, h.3))
      (λ e. (
        h.0,
        subst (λ i. i ≤ def_exit_limit) (sym (arms-counted arms (k - (length v.words + length v.mems)) x)) h.1,
        h.2,
        arms-fit n arms (k - (length v.words + length v.mems)) s x e a h.3,
      )) is
  body-fits (suc n) (Again v) k s x is a h = value-fits v k s x is a h
  body-fits (suc n) (Leave exit v) k s x is a h = (h.0, value-fits v k s x is a h.1)

  arms-fit : (n : ℕ) (bs : ArmTrees) (k : ℕ) (s x : Term) → arm_term_at bs k ≡ Some s → FitsToo s x → AreArms n bs → AreArms n (with_arm_term bs k x)
  arms-fit n NoArm k s x is a h = absurd (cc)
  arms-fit n (Arm b bs) k s x is a h =
      either (AreArms n) (nat_lt k (count b)) _ _ _ _ s
      (λ e. (body-fits n b k s x e a h.0, h.1))
      (λ e. (h.0, arms-fit n bs (k - count b) s x e a h.1)) is

-- ---- definitions

at : (ds : List DefTree) (k : ℕ) (d : DefTree) → AllByRecursion IsDef ds → slice_get ds k ≡ Some d → IsDef d
at [] k d h is = absurd (cc)
at (x ∷ ds) zero d h is = let e : x ≡ d = cc in subst IsDef e h.0
at (x ∷ ds) (suc k) d h is = at ds k d h.1 is

set : (ds : List DefTree) (k : ℕ) (d : DefTree) → AllByRecursion IsDef ds → IsDef d → AllByRecursion IsDef (slice_set ds k d)
set [] k d h f = tt
set (x ∷ ds) zero d h f = (f, h.1)
set (x ∷ ds) (suc k) d h f = (h.0, set ds k d h.1 f)

set-length : (ds : List DefTree) (k : ℕ) (d : DefTree) → length (slice_set ds k d) ≡ length ds
set-length [] k d = refl
set-length (x ∷ ds) zero d = refl
set-length (x ∷ ds) (suc k) d = ap suc (set-length ds k d)

step-def_fits : (r : Rw) (ds es : List DefTree) → IsRewritingStep r ds es → AllByRecursion IsDef ds → AllByRecursion IsDef es
step-def_fits r ds es s h =
    let d = at ds r.def s.def h s.named in
    subst (AllByRecursion IsDef) (sym s.stated)
    (set ds r.def (with_def_term s.def r.term s.new) h
    (record {
      entry = d.entry;
      exits = d.exits;
      few = d.few;
      one_return = d.one_return;
      body = body-fits nesting_limit s.def.body r.term s.old s.new s.there (rewrites_fit r.law s.law r.place s.old s.new depth_limit s.numbered s.rewrites) d.body;
    }))

numbered : (n : ℕ) (law : Law) → law_at n ≡ Some law → n < 2 ^ 32
numbered zero law is = omega arith
numbered (suc n) law is = let h = slice_get_within laws n law is in omega (arith, h)

step-number_fits : (r : Rw) (ds es : List DefTree) → IsRewritingStep r ds es → length ds ≤ def_limit → r.term < 2 ^ 32 → IsCertStep r
step-number_fits r ds es s few small = record {
  def = let h = slice_get_within ds r.def s.def s.named in omega (arith, h, few);
  term = small;
  place = place_fits s.law r.place s.old s.new s.rewrites;
  law = numbered r.law s.law s.numbered;
}

record Fit (rs : List Rw) (ds es : List DefTree) : Type 0 where
  pub steps : AllByRecursion IsCertStep rs
  pub defs : AllByRecursion IsDef es
  pub length : length es ≡ length ds

steps_fit : (rs : List Rw) (ds es : List DefTree) → AreRewritingSteps rs ds es → HaveNumbers rs → AllByRecursion IsDef ds → length ds ≤ def_limit → Fit rs ds es
steps_fit [] ds es e numbers h few = record { steps = tt; defs = subst (AllByRecursion IsDef) e h; length = ap length (sym e) }
steps_fit (r ∷ rs) ds es (ms, s, more) numbers h few =
    let same : length ms ≡ length ds = ap length s.stated ∙ set-length ds r.def (with_def_term s.def r.term s.new) in
    let rest = steps_fit rs ms es more numbers.1 (step-def_fits r ds ms s h) (subst (λ n. n ≤ def_limit) (sym same) few) in
    record { steps = (step-number_fits r ds ms s few numbers.0, rest.steps); defs = rest.defs; length = rest.length ∙ same }

pub accepted_fits : (g : GroupTree) (c : Cert) → HaveNumbers c.steps → (k : Known) → IsGroupIn (version_of k) g → IsCertOf g c → IsCert (cert_tree c)
accepted_fits g c numbers k h a =
    let f = steps_fit c.steps g.defs (map def_tree c.result) a.steps numbers h.defs h.few in (
      k,
      record {
        old = subst (IsGroupIn (version_of k)) (sym a.old) h;
        steps = f.steps;
        result = f.defs;
        some = subst (λ n. 1 ≤ n) (sym f.length) h.some;
        few = subst (λ n. n ≤ def_limit) (sym f.length) h.few;
      },
    )

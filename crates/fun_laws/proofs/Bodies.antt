-- A definition with one term rewritten is like it was.
use Rattle.std.proofs.Common.{◌≡◌, ℕ, zero, suc, ◌+◌, ◌-◌, Bool, true, false, cond, nat_lt, List, [], ◌∷◌, Option, Some, option_map, slice_get, length, refl, sym, subst}
use Rattle.std.specs.Prelude.{slice_set}
use Rattle.word_terms.specs.Tree.{WordTree, MemTree, CondTree}
use Rattle.tailrec_lang.specs.Tree.{ValuesTree, StepTree, Bind, BindMem, Need, BodyTree, Do, Branch, Call, Again, Leave, ArmTrees, NoArm, Arm, DefTree}
use Rattle.fun_laws.specs.declared.step.Rw.{Rw}
use Rattle.fun_laws.specs.Laws.{Term, OfWord, OfMem, OfCond}
use Rattle.fun_laws.specs.Rewriting.{step_term, count, value_at, term_at, arm_term_at, with_step_term, with_word_term, with_mem_term, with_cond, with_value, with_term, with_arm_term, with_def_term, IsRewritingStep}
use Rattle.fun_laws.specs.Values.{KeepsValue}
use Rattle.fun_laws.specs.inner.Alike.{EachPair, AlikeWords, AlikeMems, AlikeConds, AlikeValues, AlikeSteps, AlikeBodies, AlikeArms, AlikeDefs}
use Rattle.fun_laws.proofs.Parts.{made-some}
use Rattle.fun_laws.proofs.LawLemmas.{sound_number}
use Rattle.fun_laws.proofs.Places.{alike-refl, rewrites-alike}

-- ---- lists

pub each_pair-refl : {A : Type 0} (R : A → A → Type 0) → ((x : A) → R x x) → (xs : List A) → EachPair R xs xs
each_pair-refl R r [] = tt
each_pair-refl R r (x ∷ xs) = (r x, each_pair-refl R r xs)

pub each_pair-set : {A : Type 0} (R : A → A → Type 0) → ((x : A) → R x x) → (xs : List A) (k : ℕ) (x y : A) → slice_get xs k ≡ Some x → R x y → EachPair R xs (slice_set xs k y)
each_pair-set R r [] k x y is h = absurd (cc)
each_pair-set R r (z ∷ zs) zero x y is h = let e : x ≡ z = cc in (subst (λ v. R v y) e h, each_pair-refl R r zs)
each_pair-set R r (z ∷ zs) (suc k) x y is h = (r z, each_pair-set R r zs k x y is h)

-- ---- values

words-refl : (ts : List WordTree) → EachPair AlikeWords ts ts
words-refl ts = each_pair-refl AlikeWords (λ t. alike-refl (OfWord t)) ts

mems-refl : (ms : List MemTree) → EachPair AlikeMems ms ms
mems-refl ms = each_pair-refl AlikeMems (λ m. alike-refl (OfMem m)) ms

values-refl : (v : ValuesTree) → AlikeValues v v
values-refl v = (words-refl v.words, mems-refl v.mems)

word-alike : (ts : List WordTree) (i : ℕ) (s x : Term) → option_map OfWord (slice_get ts i) ≡ Some s → KeepsValue s x → EachPair AlikeWords ts (with_word_term ts i x)
word-alike ts i s (OfWord u) is a =
    let m = made-some OfWord (slice_get ts i) s is in
    each_pair-set AlikeWords (λ t. alike-refl (OfWord t)) ts i m.0 u m.1 (subst (λ z. KeepsValue z (OfWord u)) (sym m.2) a)
word-alike ts i s (OfMem u) is a = words-refl ts
word-alike ts i s (OfCond u) is a = words-refl ts

mem-alike : (ms : List MemTree) (i : ℕ) (s x : Term) → option_map OfMem (slice_get ms i) ≡ Some s → KeepsValue s x → EachPair AlikeMems ms (with_mem_term ms i x)
mem-alike ms i s (OfMem u) is a =
    let m = made-some OfMem (slice_get ms i) s is in
    each_pair-set AlikeMems (λ t. alike-refl (OfMem t)) ms i m.0 u m.1 (subst (λ z. KeepsValue z (OfMem u)) (sym m.2) a)
mem-alike ms i s (OfWord u) is a = mems-refl ms
mem-alike ms i s (OfCond u) is a = mems-refl ms

-- either side of the test
either : {X Y : Type 0} (P : X → Type 0) (t : Bool) (a b : Option Y) (c d : X) (y : Y) → (a ≡ Some y → P c) → (b ≡ Some y → P d) → cond t a b ≡ Some y → P (cond t c d)
either P true a b c d y f g is = f is
either P false a b c d y f g is = g is

value-alike : (v : ValuesTree) (k : ℕ) (s x : Term) → value_at v k ≡ Some s → KeepsValue s x → AlikeValues v (with_value v k x)
value-alike v k s x is a =
    either (AlikeValues v) (nat_lt k (length v.words)) _ _ _ _ s
    (λ e. (word-alike v.words k s x e a, mems-refl v.mems))
    (λ e. (words-refl v.words, mem-alike v.mems (k - length v.words) s x e a)) is

step-refl : (s : StepTree) → AlikeSteps s s
step-refl (Bind t) = alike-refl (OfWord t)
step-refl (BindMem m) = alike-refl (OfMem m)
step-refl (Need c) = alike-refl (OfCond c)

step-alike : (s : StepTree) (x : Term) → KeepsValue (step_term s) x → AlikeSteps s (with_step_term s x)
step-alike (Bind t) (OfWord x) a = a
step-alike (BindMem m) (OfMem x) a = a
step-alike (Need c) (OfCond x) a = a
step-alike s x a = step-refl s

cond-alike : (c : CondTree) (x : Term) → KeepsValue (OfCond c) x → AlikeConds c (with_cond c x)
cond-alike c (OfCond x) a = a
cond-alike c x a = alike-refl (OfCond c)

-- ---- bodies

mutual
  pub body-refl : (b : BodyTree) → AlikeBodies b b
  body-refl (Do step rest) = (step-refl step, body-refl rest)
  body-refl (Branch c a b) = (alike-refl (OfCond c), body-refl a, body-refl b)
  body-refl (Call def v arms) = (refl, values-refl v, arms-refl arms)
  body-refl (Again v) = values-refl v
  body-refl (Leave exit v) = (refl, values-refl v)

  pub arms-refl : (bs : ArmTrees) → AlikeArms bs bs
  arms-refl NoArm = tt
  arms-refl (Arm b bs) = (body-refl b, arms-refl bs)

there : (s t x : Term) → Some s ≡ Some t → KeepsValue t x → KeepsValue s x
there s t x is a = let e : t ≡ s = cc in subst (λ z. KeepsValue z x) e a

mutual
  body-alike : (b : BodyTree) (k : ℕ) (s x : Term) → term_at b k ≡ Some s → KeepsValue s x → AlikeBodies b (with_term b k x)
  body-alike (Do step rest) zero s x is a = (step-alike step x (there (step_term step) s x is a), body-refl rest)
  body-alike (Do step rest) (suc k) s x is a = (step-refl step, body-alike rest k s x is a)
  body-alike (Branch c a b) zero s x is h = (cond-alike c x (there (OfCond c) s x is h), body-refl a, body-refl b)
  body-alike (Branch c a b) (suc k) s x is h =
      either (AlikeBodies (Branch c a b)) (nat_lt k (count a)) _ _ _ _ s
      (λ e. (alike-refl (OfCond c), body-alike a k s x e h, body-refl b))
      (λ e. (alike-refl (OfCond c), body-refl a, body-alike b (k - count a) s x e h)) is
  body-alike (Call def v arms) k s x is h =
      either (AlikeBodies (Call def v arms)) (nat_lt k (length v.words + length v.mems)) _ _ _ _ s
      (λ e. (refl, value-alike v k s x e h, arms-refl arms))
      (λ e. (refl, values-refl v, arms-alike arms (k - (length v.words + length v.mems)) s x e h)) is
  body-alike (Again v) k s x is h = value-alike v k s x is h
  body-alike (Leave exit v) k s x is h = (refl, value-alike v k s x is h)

  arms-alike : (bs : ArmTrees) (k : ℕ) (s x : Term) → arm_term_at bs k ≡ Some s → KeepsValue s x → AlikeArms bs (with_arm_term bs k x)
  arms-alike NoArm k s x is h = absurd (cc)
  arms-alike (Arm b bs) k s x is h =
      either (AlikeArms (Arm b bs)) (nat_lt k (count b)) _ _ _ _ s
      (λ e. (body-alike b k s x e h, arms-refl bs))
      (λ e. (body-refl b, arms-alike bs (k - count b) s x e h)) is

-- ---- definitions

def-refl : (d : DefTree) → AlikeDefs d d
def-refl d = record { entry = refl; exits = refl; body = body-refl d.body }

-- a step
pub step-alike_defs : (r : Rw) (ds es : List DefTree) → IsRewritingStep r ds es → EachPair AlikeDefs ds es
step-alike_defs r ds es s =
    subst (EachPair AlikeDefs ds) (sym s.stated)
    (each_pair-set AlikeDefs def-refl ds r.def s.def (with_def_term s.def r.term s.new) s.named
    (record { entry = refl; exits = refl; body = body-alike s.def.body r.term s.old s.new s.there (rewrites-alike s.law (sound_number r.law s.law s.numbered) r.place s.old s.new s.rewrites) }))

-- Steps have one result at most.
use Rattle.std.proofs.Common.{◌≡◌, ℕ, zero, suc, ◌<◌, List, [], ◌∷◌, take, Some, slice_get, refl, sym, subst, ◌∙◌, arith}
use Rattle.std.specs.Prelude.{slice_set}
use Rattle.tailrec_lang.specs.Tree.{DefTree}
use Rattle.fun_laws.specs.declared.step.Rw.{Rw}
use Rattle.fun_laws.specs.Places.{Rewrites}
use Rattle.fun_laws.proofs.OneTerm.{function_number, one_rewritten}
use Rattle.fun_laws.specs.Rewriting.{term_at, with_def_term, IsRewritingStep, AreRewritingSteps}
use Rattle.fun_laws.specs.Certs.{IsFirstBad}

one_step : (r : Rw) (ds es fs : List DefTree) → IsRewritingStep r ds es → IsRewritingStep r ds fs → es ≡ fs
one_step r ds es fs a b =
    let law : b.law ≡ a.law = (let p = a.numbered in let q = b.numbered in cc) in
    let def : b.def ≡ a.def = (let p = a.named in let q = b.named in cc) in
    let there : term_at a.def.body r.term ≡ Some b.old = (λ j. term_at (sym def j).body r.term) ∙ b.there in
    let old : b.old ≡ a.old = (let p = a.there in cc) in
    let new : a.new ≡ b.new =
    one_rewritten a.law (function_number r.law a.law a.numbered) r.place a.old a.new b.new a.rewrites
    (subst (λ l. Rewrites l r.place a.old b.new) law (subst (λ o. Rewrites b.law r.place o b.new) old b.rewrites)) in
    a.stated ∙ (λ j. slice_set ds r.def (with_def_term (sym def j) r.term (new j))) ∙ sym b.stated

pub one_result : (rs : List Rw) (ds es fs : List DefTree) → AreRewritingSteps rs ds es → AreRewritingSteps rs ds fs → es ≡ fs
one_result [] ds es fs a b = sym a ∙ b
one_result (r ∷ rs) ds es fs (ms, s, more) (ns, t, others) =
    let same = one_step r ds ns ms t s in
    one_result rs ms es fs more (subst (λ xs. AreRewritingSteps rs xs fs) same others)

-- ---- the first step that rewrites nothing

-- the step of that number rewrites what those before it give
step-there : (rs : List Rw) (i : ℕ) (r : Rw) (ds es : List DefTree) → slice_get rs i ≡ Some r → AreRewritingSteps rs ds es
    → (ms ns : List DefTree) × AreRewritingSteps (take i rs) ds ms × IsRewritingStep r ms ns
step-there [] i r ds es at are = absurd (cc)
step-there (x ∷ rs) zero r ds es at (ms, s, more) = let same : x ≡ r = cc in (ds, ms, refl, subst (λ z. IsRewritingStep z ds ms) same s)
step-there (x ∷ rs) (suc i) r ds es at (ms, s, more) = let h = step-there rs i r ms es at more in (h.0, h.1, (ms, s, h.2), h.3)

-- the same where the first steps alone are looked at
step-before : (rs : List Rw) (i j : ℕ) (r : Rw) (ds es : List DefTree) → i < j → slice_get rs i ≡ Some r → AreRewritingSteps (take j rs) ds es
    → (ms ns : List DefTree) × AreRewritingSteps (take i rs) ds ms × IsRewritingStep r ms ns
step-before rs i zero r ds es low at are = absurd (omega (arith, low))
step-before [] i (suc j) r ds es low at are = absurd (cc)
step-before (x ∷ rs) zero (suc j) r ds es low at (ms, s, more) = let same : x ≡ r = cc in (ds, ms, refl, subst (λ z. IsRewritingStep z ds ms) same s)
step-before (x ∷ rs) (suc i) (suc j) r ds es low at (ms, s, more) = let h = step-before rs i j r ms es (omega (arith, low)) at more in (h.0, h.1, (ms, s, h.2), h.3)

not-bad : (rs : List Rw) (ds : List DefTree) (i : ℕ) (b : IsFirstBad rs ds i) → (ms ns : List DefTree) × AreRewritingSteps (take i rs) ds ms × IsRewritingStep b.step ms ns → ⊥
not-bad rs ds i b (ms, ns, are, s) = b.bad ns (subst (λ z. IsRewritingStep b.step z ns) (one_result (take i rs) ds ms b.before are b.steps) s)

-- where one step rewrites nothing, the steps don't rewrite the definitions
pub no_result : (rs : List Rw) (ds es : List DefTree) (i : ℕ) → IsFirstBad rs ds i → AreRewritingSteps rs ds es → ⊥
no_result rs ds es i b are = not-bad rs ds i b (step-there rs i b.step ds es b.there are)

-- and no other one is the first
pub one_first_bad : (rs : List Rw) (ds : List DefTree) (i j : ℕ) → IsFirstBad rs ds i → IsFirstBad rs ds j → i ≡ j
one_first_bad rs ds i j b c = omega (arith, earlier i j b c, earlier j i c b)
  where
    earlier : (i j : ℕ) → IsFirstBad rs ds i → IsFirstBad rs ds j → i < j → ⊥
    earlier i j b c low = not-bad rs ds i b (step-before rs i j b.step ds c.before low b.there c.steps)

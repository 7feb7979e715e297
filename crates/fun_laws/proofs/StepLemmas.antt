-- Steps of rewriting, applied to the terms of definitions.
use Rattle.std.proofs.Common.{◌≡◌, ℕ, zero, suc, ◌+◌, ◌<◌, ◌≤◌, List, [], ◌∷◌, ◌++◌, length, map, take, get_or, Option, Some, None, option_map, IfSome, IfNone, slice_get, refl, sym, ap, subst, ◌∙◌, arith}
use Rattle.std.specs.Prelude.{slice_set}
use Rattle.std.proofs.lemmas.List.{take_more}
use Rattle.word_terms.specs.Tree.{Bin, Extend, Load, Store, Compare, Neg, Inside}
use Rattle.tailrec_lang.specs.Tree.{DefTree, GroupTree, def_tree, group_tree}
use Rattle.fun_laws.specs.declared.step.Rw.{Rw}
use Rattle.fun_laws.specs.Laws.{Law, OfWords, OfConds, Term, OfWord, OfMem, OfCond, law_at}
use Rattle.fun_laws.specs.Places.{Rewrites, with_child}
use Rattle.fun_laws.specs.declared.apart.ApartDef.{ApartDef}
use Rattle.fun_laws.specs.declared.apart.BodyTerm.{BodyTerm}
use Rattle.fun_laws.specs.Rewriting.{AreRewritingSteps, IsRewritingStep, with_def_term}
use Rattle.fun_laws.specs.declared.cert.Cert.{Cert}
use Rattle.fun_laws.specs.Certs.{HasOtherResult, IsCertOf, IsFirstBad}
use Rattle.fun_laws.specs.inner.Apart.{ApartTree, AreRewritten, IsNewTerm, taken_apart, terms, with_new_term}
use Rattle.fun_laws.specs.inner.Taken.{apart_tree, term_of}
use Rattle.fun_laws.proofs.Parts.{made-some, mapped_at, set_mapped}
use Rattle.fun_laws.proofs.Skeletons.{AreOfOneKind, defs-one, skeleton-kept, term-at, terms-set}

-- ---- the term that a step gives, or that there is none

named-term : (ps : List ApartDef) (d k : ℕ) (p : ApartDef) (q : ApartTree) (t : Term) → slice_get ps d ≡ Some p → slice_get (map apart_tree ps) d ≡ Some q → slice_get q.terms k ≡ Some t
    → slice_get (map term_of p.terms) k ≡ Some t
named-term ps d k p q t is named there =
    let m = mapped_at apart_tree ps d ∙ ap (option_map apart_tree) is in
    let e : q ≡ apart_tree p = cc in
    subst (λ (z : ApartTree). slice_get z.terms k ≡ Some t) e there

pub made_term : (r : Rw) (ps : List ApartDef) (law : Law) (p : ApartDef) (old : BodyTerm) (new : Term) → law_at r.law ≡ Some law → slice_get ps r.def ≡ Some p → slice_get p.terms r.term ≡ Some old
    → Rewrites law r.place (term_of old) new → IsNewTerm r (map apart_tree ps) new
made_term r ps law p old new numbered named there rewrites = record {
  law = law;
  def = apart_tree p;
  old = term_of old;
  numbered = numbered;
  named = mapped_at apart_tree ps r.def ∙ ap (option_map apart_tree) named;
  there = mapped_at term_of p.terms r.term ∙ ap (option_map term_of) there;
  rewrites = rewrites;
}

pub no_law : (r : Rw) (ps : List ApartTree) (new : Term) → law_at r.law ≡ None → IsNewTerm r ps new → ⊥
no_law r ps new none s = let n = s.numbered in absurd (cc)

pub no_def : (r : Rw) (ps : List ApartDef) (new : Term) → slice_get ps r.def ≡ None → IsNewTerm r (map apart_tree ps) new → ⊥
no_def r ps new none s = let n = s.named in let m = mapped_at apart_tree ps r.def ∙ ap (option_map apart_tree) none in absurd (cc)

pub no_term : (r : Rw) (ps : List ApartDef) (p : ApartDef) (new : Term) → slice_get ps r.def ≡ Some p → slice_get p.terms r.term ≡ None → IsNewTerm r (map apart_tree ps) new → ⊥
no_term r ps p new named none s =
    let t = named-term ps r.def r.term p s.def s.old named s.named s.there in
    let m = mapped_at term_of p.terms r.term ∙ ap (option_map term_of) none in absurd (cc)

pub no_rewrite : (r : Rw) (ps : List ApartDef) (law : Law) (p : ApartDef) (old : BodyTerm) (new : Term) → law_at r.law ≡ Some law → slice_get ps r.def ≡ Some p → slice_get p.terms r.term ≡ Some old
    → ((u : Term) → Rewrites law r.place (term_of old) u → ⊥) → IsNewTerm r (map apart_tree ps) new → ⊥
no_rewrite r ps law p old new numbered named there none s =
    let n = s.numbered in
    let l : s.law ≡ law = cc in
    let t = named-term ps r.def r.term p s.def s.old named s.named s.there in
    let m = mapped_at term_of p.terms r.term ∙ ap (option_map term_of) there in
    let o : s.old ≡ term_of old = cc in
    none new (subst (λ z. Rewrites z r.place (term_of old) new) l (subst (λ z. Rewrites s.law r.place z new) o s.rewrites))

-- a law's answer at a place that is told by another equation
pub taken : (law : Law) (p q : List ℕ) (t : Term) (o : Option BodyTerm) (u : BodyTerm) → p ≡ q → o ≡ Some u → IfSome o (λ v. Rewrites law p t (term_of v)) → Rewrites law q t (term_of u)
taken law p q t o u e is h = subst (λ z. Rewrites law z t (term_of u)) e (subst (λ z. IfSome z (λ v. Rewrites law p t (term_of v))) is h)

-- ---- a term that takes another's place

pub term_put : (ps : List ApartDef) (d k : ℕ) (p : ApartDef) (new : List BodyTerm) (x : BodyTerm) → d < length ps → p ≡ get_or ps d p → new ≡ slice_set p.terms k x
    → map apart_tree (slice_set ps d (record { skeleton = p.skeleton; terms = new })) ≡ with_new_term (map apart_tree ps) d k (term_of x)
term_put [] d k p new x h is made = absurd (omega (arith, h))
term_put (y ∷ ps) zero k p new x h is made =
    (λ j. record { skeleton = def_tree (is j).skeleton; terms = (ap (map term_of) made ∙ set_mapped term_of p.terms k x) j } ∷ map apart_tree ps)
    ∙ (λ j. record { skeleton = def_tree y.skeleton; terms = slice_set (map term_of (is j).terms) k (term_of x) } ∷ map apart_tree ps)
term_put (y ∷ ps) (suc d) k p new x h is made = ap (λ zs. apart_tree y ∷ zs) (term_put ps d k p new x (omega (arith, h)) is made)

pub not_put : (ps : List ApartDef) (d k : ℕ) (x : Term) → length ps ≤ d → map apart_tree ps ≡ with_new_term (map apart_tree ps) d k x
not_put [] d k x h = refl
not_put (y ∷ ps) zero k x h = absurd (omega (arith, h))
not_put (y ∷ ps) (suc d) k x h = ap (λ zs. apart_tree y ∷ zs) (not_put ps d k x (omega (arith, h)))

-- ---- a term that is rewritten stays of its kind

child-kind : (t : Term) (k : ℕ) (v : Term) → AreOfOneKind t (with_child t k v)
child-kind (OfWord (Bin op a b)) zero (OfWord x) = tt
child-kind (OfWord (Bin op a b)) (suc k) (OfWord x) = tt
child-kind (OfWord (Extend ext a)) k (OfWord x) = tt
child-kind (OfWord (Load width m a)) zero (OfMem x) = tt
child-kind (OfWord (Load width m a)) (suc k) (OfWord x) = tt
child-kind (OfMem (Store width m a v)) zero (OfMem x) = tt
child-kind (OfMem (Store width m a v)) (suc zero) (OfWord x) = tt
child-kind (OfMem (Store width m a v)) (suc (suc k)) (OfWord x) = tt
child-kind (OfCond (Compare cmp a b)) zero (OfWord x) = tt
child-kind (OfCond (Compare cmp a b)) (suc k) (OfWord x) = tt
child-kind (OfCond (Neg c)) k (OfCond x) = tt
child-kind (OfCond (Inside width m a)) zero (OfMem x) = tt
child-kind (OfCond (Inside width m a)) (suc k) (OfWord x) = tt
child-kind t k v = tt

of-one-kind : (law : Law) (place : List ℕ) (t u : Term) → Rewrites law place t u → AreOfOneKind t u
of-one-kind (OfWords asks left right) [] (OfWord t) (OfWord u) g = tt
of-one-kind (OfConds left right) [] (OfCond t) (OfCond u) g = tt
of-one-kind law (k ∷ ks) t u (s, v, at, r, e) = subst (AreOfOneKind t) (sym e) (child-kind t k v)
of-one-kind law [] t u g = absurd g

-- ---- a step

put-is : (ds : List DefTree) (k n : ℕ) (d new : DefTree) (x : Term) → slice_get ds k ≡ Some d → taken_apart new ≡ record { skeleton = (taken_apart d).skeleton; terms = slice_set (terms d.body) n x }
    → with_new_term (map taken_apart ds) k n x ≡ map taken_apart (slice_set ds k new)
put-is [] k n d new x is made = absurd (cc)
put-is (y ∷ ds) zero n d new x is made =
    let e : y ≡ d = cc in
    (λ j. record { skeleton = (taken_apart (e j)).skeleton; terms = slice_set (terms (e j).body) n x } ∷ map taken_apart ds) ∙ ap (λ z. z ∷ map taken_apart ds) (sym made)
put-is (y ∷ ds) (suc k) n d new x is made = ap (λ zs. taken_apart y ∷ zs) (put-is ds k n d new x is made)

-- the definitions that the step gives, taken apart
step-given : (r : Rw) (ds : List DefTree) (new : Term) → IsNewTerm r (map taken_apart ds) new
    → (es : List DefTree) × IsRewritingStep r ds es × (with_new_term (map taken_apart ds) r.def r.term new ≡ map taken_apart es)
step-given r ds new s =
    let m = made-some taken_apart (slice_get ds r.def) s.def (sym (mapped_at taken_apart ds r.def) ∙ s.named) in
    let d = m.0 in
    let there : slice_get (terms d.body) r.term ≡ Some s.old = ap (λ (z : ApartTree). slice_get z.terms r.term) m.2 ∙ s.there in
    let made : taken_apart (with_def_term d r.term new) ≡ record { skeleton = (taken_apart d).skeleton; terms = slice_set (terms d.body) r.term new } =
    (λ j. record {
      skeleton = record { entry = d.entry; exits = d.exits; body = skeleton-kept d.body r.term new j };
      terms = terms-set d.body r.term s.old new there (of-one-kind s.law r.place s.old new s.rewrites) j;
    }) in (
      slice_set ds r.def (with_def_term d r.term new),
      record {
        law = s.law;
        def = d;
        old = s.old;
        new = new;
        numbered = s.numbered;
        named = m.1;
        there = term-at d.body r.term ∙ there;
        rewrites = s.rewrites;
        stated = refl;
      },
      put-is ds r.def r.term d (with_def_term d r.term new) new m.1 made,
    )

step-new : (r : Rw) (ds es : List DefTree) (s : IsRewritingStep r ds es) → IsNewTerm r (map taken_apart ds) s.new
step-new r ds es s = record {
  law = s.law;
  def = taken_apart s.def;
  old = s.old;
  numbered = s.numbered;
  named = mapped_at taken_apart ds r.def ∙ ap (option_map taken_apart) s.named;
  there = sym (term-at s.def.body r.term) ∙ s.there;
  rewrites = s.rewrites;
}

after : (rs : List Rw) (r : Rw) (ds ms es : List DefTree) → AreRewritingSteps rs ds ms → IsRewritingStep r ms es → AreRewritingSteps (rs ++ r ∷ []) ds es
after [] r ds ms es are is = (es, subst (λ z. IsRewritingStep r z es) (sym are) is, refl)
after (x ∷ rs) r ds ms es are is = (are.0, are.1, after rs r are.0 ms es are.2 is)

pub begun : (ds : List DefTree) (ps : List ApartTree) → ps ≡ map taken_apart ds → AreRewritten [] ds ps
begun ds ps e = record { result = ds; steps = refl; parts = e }

pub stepped : (rs : List Rw) (i : ℕ) (r : Rw) (ds : List DefTree) (ps qs : List ApartTree) (new : Term) → i < length rs → r ≡ get_or rs i r → IsNewTerm r ps new
    → qs ≡ with_new_term ps r.def r.term new → AreRewritten (take i rs) ds ps → AreRewritten (take (i + 1) rs) ds qs
stepped rs i r ds ps qs new lt is s put a =
    let g = step-given r a.result new (subst (λ zs. IsNewTerm r zs new) a.parts s) in
    record {
      result = g.0;
      steps =
          subst (λ zs. AreRewritingSteps zs ds g.0) (sym (take_more rs i r lt))
          (after (take i rs) (get_or rs i r) ds a.result g.0 a.steps (subst (λ z. IsRewritingStep z a.result g.0) is g.1));
      parts = put ∙ ap (λ zs. with_new_term zs r.def r.term new) a.parts ∙ g.2;
    }

pub stopped : (rs : List Rw) (i : ℕ) (r : Rw) (ds : List DefTree) (ps : List ApartTree) → slice_get rs i ≡ Some r → ((u : Term) → IsNewTerm r ps u → ⊥) → AreRewritten (take i rs) ds ps → IsFirstBad rs ds i
stopped rs i r ds ps there none a = record {
  step = r;
  there = there;
  before = a.result;
  steps = a.steps;
  bad = λ es s. none s.new (subst (λ zs. IsNewTerm r zs s.new) (sym a.parts) (step-new r a.result es s));
}

pub refused : (o : Option BodyTerm) (r : Rw) (ps now : List ApartDef) → ps ≡ now → o ≡ None → IfNone o ((u : Term) → IsNewTerm r (map apart_tree ps) u → ⊥) → (u : Term) → IsNewTerm r (map apart_tree now) u → ⊥
refused o r ps now same none h =
    subst (λ z. (u : Term) → IsNewTerm r (map apart_tree z) u → ⊥) same (subst (λ z. IfNone z ((u : Term) → IsNewTerm r (map apart_tree ps) u → ⊥)) none h)

-- ---- the stated result

pub cert_accepted : (g : GroupTree) (c : Cert) (ps qs : List ApartTree) → group_tree c.old ≡ g → AreRewritten c.steps g.defs ps → qs ≡ map taken_apart (map def_tree c.result) → ps ≡ qs → IsCertOf g c
cert_accepted g c ps qs old a e same = record {
  old = old;
  steps = subst (AreRewritingSteps c.steps g.defs) (defs-one a.result (map def_tree c.result) (sym a.parts ∙ same ∙ e)) a.steps;
}

pub cert_refused : (g : GroupTree) (c : Cert) (ps qs : List ApartTree) → group_tree c.old ≡ g → AreRewritten c.steps g.defs ps → qs ≡ map taken_apart (map def_tree c.result) → (ps ≡ qs → ⊥) → HasOtherResult g c
cert_refused g c ps qs old a e differs = record {
  old = old;
  result = a.result;
  steps = a.steps;
  others = λ same. differs (a.parts ∙ ap (map taken_apart) same ∙ sym e);
}

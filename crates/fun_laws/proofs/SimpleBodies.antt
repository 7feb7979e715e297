-- Definitions all of whose terms are simple, and the steps that made them so.
use Rattle.std.proofs.Common.{◌≡◌, ℕ, zero, suc, ◌+◌, ◌<◌, List, [], ◌∷◌, ◌++◌, length, map, drop, get_or, Some, option_map, slice_get, sym, ap, subst, ◌∙◌, arith}
use Rattle.std.specs.Prelude.{slice_set}
use Rattle.std.specs.List.{AllByRecursion}
use Rattle.std.proofs.lemmas.List.{length-map}
use Rattle.word_terms.specs.declared.term.Word.{Word}
use Rattle.word_terms.specs.declared.term.Mem.{Mem}
use Rattle.word_terms.specs.Tree.{word_tree, mem_tree}
use Rattle.tailrec_lang.specs.declared.group.Step.{Step}
use Rattle.tailrec_lang.specs.declared.group.Def.{Def}
use Rattle.tailrec_lang.specs.Tree.{ValuesTree, StepTree, BodyTree, Do, Branch, Call, Again, Leave, ArmTrees, NoArm, Arm, DefTree, with_steps, arms_of, body_tree, def_tree, step_tree}
use Rattle.fun_laws.specs.declared.step.Rw.{Rw}
use Rattle.fun_laws.specs.declared.log.Log.{Log}
use Rattle.fun_laws.specs.Laws.{Term, OfWord, OfMem, OfCond}
use Rattle.fun_laws.specs.Places.{Rewrites}
use Rattle.fun_laws.specs.Simple.{IsSimple}
use Rattle.fun_laws.specs.Rewriting.{step_term, count, value_at, term_at, arm_term_at, with_term, with_def_term, IsRewritingStep, AreRewritingSteps, AreSimple}
use Rattle.fun_laws.specs.inner.Simplified.{ArePassed, IsNext, IsPartStep, Parts, ArePartSteps, AreSimpleMems, AreSimpleSteps, AreSimpleValues, AreSimpleWords, IsSimpleBody, AreSimpleArms, AreSimpleDefs, IsSimplifiedDef, body_parts}
use Rattle.fun_laws.proofs.Parts.{numbered_apart}
use Rattle.fun_laws.proofs.PartSteps.{IsItem, list_more, is-below, is-beyond, at-length, set-at-length, next-item, none_over, one_over}

-- ---- each term of a simple body is simple

list-simple : {A : Type 0} (of : A → Term) (xs : List A) (k : ℕ) (t : Term) → AllByRecursion (λ x. IsSimple (of x)) xs → option_map of (slice_get xs k) ≡ Some t → IsSimple t
list-simple of [] k t h e = absurd (cc)
list-simple of (x ∷ xs) zero t h e = let f : of x ≡ t = cc in subst IsSimple f h.0
list-simple of (x ∷ xs) (suc k) t h e = list-simple of xs k t h.1 e

value-simple : (v : ValuesTree) (k : ℕ) (t : Term) → AreSimpleValues v → value_at v k ≡ Some t → IsSimple t
value-simple v k t h e =
    numbered_apart k (length v.words) (IsSimple t)
    (λ l. list-simple OfWord v.words k t h.0 (is-below k (length v.words) (λ i. option_map OfWord (slice_get v.words i)) (λ i. option_map OfMem (slice_get v.mems i)) t l e))
    (λ i l. list-simple OfMem v.mems i t h.1 (is-beyond k (length v.words) i (λ i. option_map OfWord (slice_get v.words i)) (λ i. option_map OfMem (slice_get v.mems i)) t l e))

some-simple : (s t : Term) → Some s ≡ Some t → IsSimple s → IsSimple t
some-simple s t e h = let f : s ≡ t = cc in subst IsSimple f h

mutual
  body-simple : (b : BodyTree) (k : ℕ) (t : Term) → IsSimpleBody b → term_at b k ≡ Some t → IsSimple t
  body-simple (Do s b) zero t h e = some-simple (step_term s) t e h.0
  body-simple (Do s b) (suc k) t h e = body-simple b k t h.1 e
  body-simple (Branch c a b) zero t h e = some-simple (OfCond c) t e h.0
  body-simple (Branch c a b) (suc k) t h e =
      numbered_apart k (count a) (IsSimple t)
      (λ l. body-simple a k t h.1 (is-below k (count a) (term_at a) (term_at b) t l e))
      (λ i l. body-simple b i t h.2 (is-beyond k (count a) i (term_at a) (term_at b) t l e))
  body-simple (Call d v bs) k t h e =
      numbered_apart k (length v.words + length v.mems) (IsSimple t)
      (λ l. value-simple v k t h.0 (is-below k (length v.words + length v.mems) (value_at v) (arm_term_at bs) t l e))
      (λ i l. arms-simple bs i t h.1 (is-beyond k (length v.words + length v.mems) i (value_at v) (arm_term_at bs) t l e))
  body-simple (Again v) k t h e = value-simple v k t h e
  body-simple (Leave x v) k t h e = value-simple v k t h e

  arms-simple : (bs : ArmTrees) (k : ℕ) (t : Term) → AreSimpleArms bs → arm_term_at bs k ≡ Some t → IsSimple t
  arms-simple NoArm k t h e = absurd (cc)
  arms-simple (Arm b bs) k t h e =
      numbered_apart k (count b) (IsSimple t)
      (λ l. body-simple b k t h.0 (is-below k (count b) (term_at b) (arm_term_at bs) t l e))
      (λ i l. arms-simple bs i t h.1 (is-beyond k (count b) i (term_at b) (arm_term_at bs) t l e))

def-simple : (ds : List DefTree) (k : ℕ) (d : DefTree) → AreSimpleDefs ds → slice_get ds k ≡ Some d → IsSimpleBody d.body
def-simple [] k d h e = absurd (cc)
def-simple (x ∷ ds) zero d h e = let f : x ≡ d = cc in subst (λ (z : DefTree). IsSimpleBody z.body) f h.0
def-simple (x ∷ ds) (suc k) d h e = def-simple ds k d h.1 e

pub defs_simple : (ds : List DefTree) → AreSimpleDefs ds → AreSimple ds
defs_simple ds h r es s = body-simple s.def.body r.term s.old (def-simple ds r.def s.def h s.named) s.there r.law s.law s.numbered r.place s.new s.rewrites

-- ---- a body of simple steps and a simple end

pub steps_simple : (ss : List StepTree) (b : BodyTree) → AreSimpleSteps ss → IsSimpleBody b → IsSimpleBody (with_steps ss b)
steps_simple [] b h f = f
steps_simple (s ∷ ss) b h f = (h.0, steps_simple ss b h.1 f)

pub arms_simple_more : {X : Type 0} (f : X → BodyTree) (made : List X) (y : X) → AreSimpleArms (arms_of (map f made)) → IsSimpleBody (f y) → AreSimpleArms (arms_of (map f (made ++ y ∷ [])))
arms_simple_more f [] y h s = (s, tt)
arms_simple_more f (x ∷ made) y h s = (h.0, arms_simple_more f made y h.1 s)

-- ---- one item more

one-more : {X A : Type 0} (P : A → Type 0) (f : X → A) (made : List X) (y : X) → AllByRecursion P (map f made) → P (f y) → AllByRecursion P (map f (made ++ y ∷ []))
one-more P f [] y h p = (p, tt)
one-more P f (x ∷ made) y h p = (h.0, one-more P f made y h.1 p)

pub one-longer : {X : Type 0} (made : List X) (y : X) → length (made ++ y ∷ []) ≡ length made + 1
one-longer [] y = omega arith
one-longer (x ∷ made) y = let h = one-longer made y in omega (arith, h)

-- the items before were done, and this one is now: steps are noted that rewrite them, and they are simple
pub items_more : {X A : Type 0} (p : Parts (List A)) (P : A → Type 0) (f : X → A) (xs made now : List X) (i : ℕ) (x y : X) (l m n o : Log)
    → i < length xs → x ≡ get_or xs i x → now ≡ made ++ y ∷ [] → IsItem p m n (f x) (f y) → IsNext n o → P (f y)
    → ArePassed p i l m (map f xs) (map f made ++ map f (drop i xs)) × AllByRecursion P (map f made) × (length made ≡ i)
    → ArePassed p (i + 1) l o (map f xs) (map f now ++ map f (drop (i + 1) xs)) × AllByRecursion P (map f now) × (length now ≡ i + 1)
items_more p P f xs made now i x y l m n o h is e item next simple (a, s, size) =
    subst (λ zs. ArePassed p (i + 1) l o (map f xs) (map f zs ++ map f (drop (i + 1) xs)) × AllByRecursion P (map f zs) × (length zs ≡ i + 1)) (sym e)
    (list_more p f xs made i x y l m n o h is size a item next, one-more P f made y s simple, one-longer made y ∙ ap (λ k. k + 1) size)

pub words_simple_none : (made : List Word) → made ≡ [] → AreSimpleWords (map word_tree made)
words_simple_none made e = subst (λ zs. AreSimpleWords (map word_tree zs)) (sym e) tt

pub mems_simple_none : (made : List Mem) → made ≡ [] → AreSimpleMems (map mem_tree made)
mems_simple_none made e = subst (λ zs. AreSimpleMems (map mem_tree zs)) (sym e) tt

pub steps_simple_none : (made : List Step) → made ≡ [] → AreSimpleSteps (map step_tree made)
steps_simple_none made e = subst (λ zs. AreSimpleSteps (map step_tree zs)) (sym e) tt

pub defs_simple_more : (made : List Def) (y : Def) → AreSimpleDefs (map def_tree made) → IsSimpleBody (body_tree y.body) → AreSimpleDefs (map def_tree (made ++ y ∷ []))
defs_simple_more made y h p = one-more (λ (d : DefTree). IsSimpleBody d.body) def_tree made y h p

-- ---- definition after definition

steps-then : (rs ss : List Rw) (ds es fs : List DefTree) → AreRewritingSteps rs ds es → AreRewritingSteps ss es fs → AreRewritingSteps (rs ++ ss) ds fs
steps-then [] ss ds es fs e are = subst (λ v. AreRewritingSteps ss v fs) (sym e) are
steps-then (r ∷ rs) ss ds es fs (v, s, more) are = (v, s, steps-then rs ss v es fs more are)

module _ (pre post : List DefTree) (d : DefTree) where
  abbrev all-with : BodyTree → List DefTree
  all-with b = pre ++ record { entry = d.entry; exits = d.exits; body = b } ∷ post

  one-step : (n : ℕ) (r : Rw) (b c : BodyTree) → n ≡ length pre → IsPartStep body_parts n 0 [] r b c → IsRewritingStep r (all-with b) (all-with c)
  one-step n r b c e s =
      let number : r.term ≡ s.number = (let t = s.term in omega (arith, t)) in
      let def : r.def ≡ length pre = s.def ∙ e in
      let before : DefTree = record { entry = d.entry; exits = d.exits; body = b } in
      record {
        law = s.law;
        def = before;
        old = s.old;
        new = s.new;
        numbered = s.numbered;
        named = ap (slice_get (all-with b)) def ∙ at-length pre post before;
        there = ap (term_at b) number ∙ s.there;
        rewrites = subst (λ p. Rewrites s.law p s.old s.new) (sym s.behind) s.rewrites;
        stated =
            ap all-with (s.stated ∙ ap (λ k. with_term b k s.new) (sym number))
            ∙ sym (set-at-length pre post before (with_def_term before r.term s.new))
            ∙ ap (λ k. slice_set (all-with b) k (with_def_term before r.term s.new)) (sym def);
      }

  all-steps : (n : ℕ) (rs : List Rw) (b c : BodyTree) → n ≡ length pre → ArePartSteps body_parts n 0 [] rs b c → AreRewritingSteps rs (all-with b) (all-with c)
  all-steps n [] b c e h = ap all-with h
  all-steps n (r ∷ rs) b c e (z, s, more) = (all-with z, one-step n r b z e s, all-steps n rs z c e more)

pub defs_more : {X : Type 0} (f : X → DefTree) (xs made : List X) (i : ℕ) (x y : X) (l m n : Log) → i < length xs → x ≡ get_or xs i x → length made ≡ i
    → l.def ≡ i → m.def ≡ l.def → m.term ≡ 0 → l.place ≡ [] → m.place ≡ l.place → m.steps ≡ l.steps
    → AreRewritingSteps l.steps (map f xs) (map f made ++ map f (drop i xs)) → IsSimplifiedDef m n (f x) (f y)
    → AreRewritingSteps n.steps (map f xs) (map f (made ++ y ∷ []) ++ map f (drop (i + 1) xs))
defs_more f xs made i x y l m n h is size d1 d2 t p1 p2 s a b =
    let rest = map f (drop (suc i) xs) in
    let before : AreRewritingSteps l.steps (map f xs) (map f made ++ f x ∷ rest) = subst (λ v. AreRewritingSteps l.steps (map f xs) (map f made ++ v)) (next-item f xs i x h is) a in
    let number : m.def ≡ length (map f made) = d2 ∙ d1 ∙ sym size ∙ sym (length-map made f) in
    let are : ArePartSteps body_parts m.def 0 [] b.made.made (f x).body (f y).body =
    subst (λ o. ArePartSteps body_parts m.def o [] b.made.made (f x).body (f y).body) t
    (subst (λ p. ArePartSteps body_parts m.def m.term p b.made.made (f x).body (f y).body) (p2 ∙ p1) b.made.are) in
    let now : AreRewritingSteps b.made.made (map f made ++ f x ∷ rest) (map f made ++ record { entry = (f x).entry; exits = (f x).exits; body = (f y).body } ∷ rest) =
    all-steps (map f made) rest (f x) m.def b.made.made (f x).body (f y).body number are in
    let same : map f made ++ record { entry = (f x).entry; exits = (f x).exits; body = (f y).body } ∷ rest ≡ map f made ++ f y ∷ rest =
    (λ j. map f made ++ record { entry = sym b.entry j; exits = sym b.exits j; body = (f y).body } ∷ rest) in
    subst (λ rs. AreRewritingSteps rs (map f xs) (map f (made ++ y ∷ []) ++ map f (drop (i + 1) xs))) (sym (b.made.steps ∙ ap (λ ss. ss ++ b.made.made) s))
    (subst (AreRewritingSteps (l.steps ++ b.made.made) (map f xs)) (same ∙ one_over f made xs y i)
    (steps-then l.steps b.made.made (map f xs) _ _ before now))

pub defs_ended : {X : Type 0} (f : X → DefTree) (xs made : List X) (i : ℕ) (rs : List Rw) → i ≡ length xs
    → AreRewritingSteps rs (map f xs) (map f made ++ map f (drop i xs)) → AreRewritingSteps rs (map f xs) (map f made)
defs_ended f xs made i rs e a =
    subst (AreRewritingSteps rs (map f xs)) (none_over f made xs i e) a

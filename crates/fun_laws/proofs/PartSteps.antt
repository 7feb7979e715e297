-- Steps of parts are steps of the whole.
use Rattle.std.proofs.Common.{◌≡◌, ℕ, zero, suc, ◌+◌, ◌-◌, ◌<◌, List, [], ◌∷◌, ◌++◌, length, map, drop, get_or, Option, Some, option_map, slice_get, refl, sym, ap, subst, ◌∙◌, append_assoc, arith}
use Rattle.std.specs.Prelude.{slice_set}
use Rattle.std.proofs.lemmas.List.{append-nil, length-map}
use Rattle.word_terms.specs.Tree.{WordTree, MemTree, CondTree}
use Rattle.tailrec_lang.specs.Tree.{ValuesTree, StepTree, Bind, BindMem, Need, BodyTree, Do, Branch, Call, Again, Leave, ArmTrees, NoArm, Arm, with_steps, arms_of}
use Rattle.fun_laws.specs.declared.step.Rw.{Rw}
use Rattle.fun_laws.specs.declared.log.Log.{Log}
use Rattle.fun_laws.specs.Laws.{Term, OfWord, OfMem, OfCond}
use Rattle.fun_laws.specs.inner.Steps.{AreTermSteps, IsNoted, IsTermStep}
use Rattle.fun_laws.specs.Rewriting.{step_term, count, arm_term_count, below_or, value_at, term_at, arm_term_at, with_step_term, with_word_term, with_mem_term, with_value, with_term, with_arm_term}
use Rattle.fun_laws.specs.inner.Simplified.{Parts, IsPartStep, ArePartSteps, AreMade, ArePassed, IsNext, IsNotedStep, steps_with, word_parts, mem_parts, value_parts, step_parts, body_parts, arm_parts}
use Rattle.fun_laws.specs.inner.Apart.{arm_skeletons, blank_mem, blank_values, blank_word, skeleton, terms, value_terms}
use Rattle.fun_laws.proofs.Parts.{below, beyond}
use Rattle.fun_laws.proofs.Skeletons.{arm-skeletons-kept, blank-values, blank-words, skeleton-kept, term-at, terms-count, value-at, value-terms-count}

-- ---- steps one after the other, and in the whole

module _ {A : Type 0} (p : Parts A) (d o : ℕ) (front : List ℕ) where
  appended : (rs ss : List Rw) (x y z : A) → ArePartSteps p d o front rs x y → ArePartSteps p d o front ss y z → ArePartSteps p d o front (rs ++ ss) x z
  appended [] ss x y z e are = subst (λ v. ArePartSteps p d o front ss v z) (sym e) are
  appended (r ∷ rs) ss x y z (v, s, more) are = (v, s, appended rs ss v y z more are)

  -- what no new term changes
  pub kept : {B : Type 0} (size : A → B) → ((x : A) (k : ℕ) (t : Term) → size (p.put x k t) ≡ size x) → (rs : List Rw) (x y : A) → ArePartSteps p d o front rs x y → size y ≡ size x
  kept size same [] x y e = ap size (sym e)
  kept size same (r ∷ rs) x y (z, s, more) = kept size same rs z y more ∙ ap size s.stated ∙ same x s.number s.new

-- where term k of x is term i + k of f x
module _ {A B : Type 0} (p : Parts A) (q : Parts B) (f : A → B) (i : ℕ)
    (at : (x : A) (k : ℕ) (t : Term) → p.at x k ≡ Some t → q.at (f x) (i + k) ≡ Some t)
    (put : (x : A) (k : ℕ) (t u : Term) → p.at x k ≡ Some t → q.put (f x) (i + k) u ≡ f (p.put x k u)) where
  lifted-step : (d o : ℕ) (front : List ℕ) (r : Rw) (x z : A) → IsPartStep p d (o + i) front r x z → IsPartStep q d o front r (f x) (f z)
  lifted-step d o front r x z s = record {
    law = s.law;
    place = s.place;
    number = i + s.number;
    old = s.old;
    new = s.new;
    def = s.def;
    term = let e = s.term in omega (arith, e);
    behind = s.behind;
    numbered = s.numbered;
    there = at x s.number s.old s.there;
    rewrites = s.rewrites;
    stated = ap f s.stated ∙ sym (put x s.number s.old s.new s.there);
  }

  lifted : (d o : ℕ) (front : List ℕ) (rs : List Rw) (x y : A) → ArePartSteps p d (o + i) front rs x y → ArePartSteps q d o front rs (f x) (f y)
  lifted d o front [] x y e = ap f e
  lifted d o front (r ∷ rs) x y (z, s, more) = (f z, lifted-step d o front r x z s, lifted d o front rs z y more)

  pub made_lifted : (o n : ℕ) (l m : Log) (x y : A) → n ≡ o + i → AreMade p n l m x y → AreMade q o l m (f x) (f y)
  made_lifted o n l m x y e a = record {
    def = a.def;
    place = a.place;
    made = a.made;
    steps = a.steps;
    are = lifted l.def o l.place a.made x y (subst (λ k. ArePartSteps p l.def k l.place a.made x y) e a.are);
  }

-- where the term x has number i in f x
module _ {A B : Type 0} (of : A → Term) (q : Parts B) (f : A → B) (i : ℕ)
    (at : (x : A) → q.at (f x) i ≡ Some (of x)) (put : (x z : A) → q.put (f x) i (of z) ≡ f z) where
  held-step : (d o k : ℕ) (front : List ℕ) (r : Rw) (x z : A) → k ≡ o + i → IsTermStep d k front r (of x) (of z) → IsPartStep q d o front r (f x) (f z)
  held-step d o k front r x z e s = record {
    law = s.law;
    place = s.place;
    number = i;
    old = of x;
    new = of z;
    def = s.def;
    term = s.term ∙ e;
    behind = s.behind;
    numbered = s.numbered;
    there = at x;
    rewrites = s.rewrites;
    stated = sym (put x z);
  }

  held : (d o k : ℕ) (front : List ℕ) (rs : List Rw) (x y : A) → k ≡ o + i → AreTermSteps of d k front rs x y → ArePartSteps q d o front rs (f x) (f y)
  held d o k front [] x y e h = ap f h
  held d o k front (r ∷ rs) x y e (z, s, more) = (f z, held-step d o k front r x z e s, held d o k front rs z y e more)

  pub made_held : (o : ℕ) (l m : Log) (x y : A) → l.term ≡ o + i → IsNoted of [] l m x y → AreMade q o l m (f x) (f y)
  made_held o l m x y e a = record {
    def = a.def;
    place = a.place;
    made = a.made;
    steps = a.steps;
    are = held l.def o l.term l.place a.made x y e (subst (λ p. AreTermSteps of l.def l.term p a.made x y) (append-nil l.place) a.are);
  }

module _ {A : Type 0} (p : Parts A) (o : ℕ) where
  pub made_none : (l : Log) (x : A) → AreMade p o l l x x
  made_none l x = record { def = refl; place = refl; made = []; steps = sym (append-nil l.steps); are = refl }

  pub made_then : (l m n : Log) (x y z : A) → AreMade p o l m x y → AreMade p o m n y z → AreMade p o l n x z
  made_then l m n x y z a b = record {
    def = b.def ∙ a.def;
    place = b.place ∙ a.place;
    made = a.made ++ b.made;
    steps = b.steps ∙ ap (λ ss. ss ++ b.made) a.steps ∙ append_assoc l.steps a.made b.made;
    are = appended p l.def o l.place a.made b.made x y z a.are
        (subst (λ v. ArePartSteps p l.def o v b.made y z) a.place
        (subst (λ d. ArePartSteps p d o m.place b.made y z) a.def b.are));
  }

  pub made_next : (l m n : Log) (x y : A) → AreMade p o l m x y → IsNext m n → AreMade p o l n x y
  made_next l m n x y a b = record { def = b.def ∙ a.def; place = b.place ∙ a.place; made = a.made; steps = b.steps ∙ a.steps; are = a.are }

  pub made_as : (l m : Log) (x y z : A) → y ≡ z → AreMade p o l m x y → AreMade p o l m x z
  made_as l m x y z e a = subst (λ v. AreMade p o l m x v) e a

-- ---- numbers below a count, or past it

pub is-below : {X : Type 0} (k n : ℕ) (f g : ℕ → Option X) (t : X) → k < n → below_or k n f g ≡ Some t → f k ≡ Some t
is-below k n f g t h e = sym (below k n f g h) ∙ e

pub is-beyond : {X : Type 0} (k n i : ℕ) (f g : ℕ → Option X) (t : X) → k ≡ n + i → below_or k n f g ≡ Some t → g i ≡ Some t
is-beyond k n i f g t h e = sym (beyond k n i f g h) ∙ e

within-list : {A : Type 0} (of : A → Term) (xs : List A) (k : ℕ) (t : Term) → option_map of (slice_get xs k) ≡ Some t → k < length xs
within-list of [] k t e = absurd (cc)
within-list of (x ∷ xs) zero t e = omega arith
within-list of (x ∷ xs) (suc k) t e = let h = within-list of xs k t e in omega (arith, h)

within-terms : (ts : List Term) (k n : ℕ) (t : Term) → length ts ≡ n → slice_get ts k ≡ Some t → k < n
within-terms ts k n t size e = let h = within-list (λ x. x) ts k t (ap (option_map (λ x. x)) e) in omega (arith, h, size)

within-value : (v : ValuesTree) (k : ℕ) (t : Term) → value_at v k ≡ Some t → k < length v.words + length v.mems
within-value v k t e = within-terms (value_terms v) k (length v.words + length v.mems) t (value-terms-count v) (sym (value-at v k) ∙ e)

within : (b : BodyTree) (k : ℕ) (t : Term) → term_at b k ≡ Some t → k < count b
within b k t e = within-terms (terms b) k (count b) t (terms-count b) (sym (term-at b k) ∙ e)

-- ---- counts stay

steps-length : (ss : List StepTree) (k : ℕ) (t : Term) → length (steps_with t ss k) ≡ length ss
steps-length [] k t = refl
steps-length (s ∷ ss) zero t = refl
steps-length (s ∷ ss) (suc k) t = ap suc (steps-length ss k t)

abbrev values_count : ValuesTree → ℕ
values_count v = length v.words + length v.mems

-- values by their words and memories
abbrev of_words : List MemTree → List WordTree → ValuesTree
of_words ms ts = record { words = ts; mems = ms }

abbrev of_mems : List WordTree → List MemTree → ValuesTree
of_mems ts ms = record { words = ts; mems = ms }

-- another word, and another memory
abbrev words_put : List WordTree → List MemTree → Term → ℕ → ValuesTree
words_put ts ms t i = record { words = with_word_term ts i t; mems = ms }

abbrev mems_put : List WordTree → List MemTree → Term → ℕ → ValuesTree
mems_put ts ms t i = record { words = ts; mems = with_mem_term ms i t }

blank-count : (v : ValuesTree) → values_count (blank_values v) ≡ values_count v
blank-count v = λ j. length-map v.words blank_word j + length-map v.mems blank_mem j

mutual
  skeleton-count : (b : BodyTree) → count (skeleton b) ≡ count b
  skeleton-count (Do s b) = ap (λ n. 1 + n) (skeleton-count b)
  skeleton-count (Branch c a b) = λ j. 1 + (skeleton-count a j + skeleton-count b j)
  skeleton-count (Call d v bs) = λ j. blank-count v j + arm-skeletons-count bs j
  skeleton-count (Again v) = blank-count v
  skeleton-count (Leave x v) = blank-count v

  arm-skeletons-count : (bs : ArmTrees) → arm_term_count (arm_skeletons bs) ≡ arm_term_count bs
  arm-skeletons-count NoArm = refl
  arm-skeletons-count (Arm b bs) = λ j. skeleton-count b j + arm-skeletons-count bs j

-- what the blanks alone tell, no new term changes
same-blank : {A B : Type 0} (blank : A → A) (size : A → B) → ((x : A) → size (blank x) ≡ size x) → (x y : A) → blank x ≡ blank y → size x ≡ size y
same-blank blank size same x y e = sym (same x) ∙ ap size e ∙ same y

word-length : (ts : List WordTree) (k : ℕ) (t : Term) → length (with_word_term ts k t) ≡ length ts
word-length ts k t = same-blank (map blank_word) length (λ us. length-map us blank_word) _ _ (blank-words ts k t)

value-count : (v : ValuesTree) (k : ℕ) (t : Term) → values_count (with_value v k t) ≡ values_count v
value-count v k t = same-blank blank_values values_count blank-count _ _ (blank-values v k t)

body-count : (b : BodyTree) (k : ℕ) (t : Term) → count (with_term b k t) ≡ count b
body-count b k t = same-blank skeleton count skeleton-count _ _ (skeleton-kept b k t)

arms-count : (bs : ArmTrees) (k : ℕ) (t : Term) → arm_term_count (with_arm_term bs k t) ≡ arm_term_count bs
arms-count bs k t = same-blank arm_skeletons arm_term_count arm-skeletons-count _ _ (arm-skeletons-kept bs k t)

pub count_kept : (o : ℕ) (l m : Log) (x y : BodyTree) → AreMade body_parts o l m x y → count y ≡ count x
count_kept o l m x y a = kept body_parts l.def o l.place count body-count a.made x y a.are

pub arm_count_kept : (o : ℕ) (l m : Log) (x y : ArmTrees) → AreMade arm_parts o l m x y → arm_term_count y ≡ arm_term_count x
arm_count_kept o l m x y a = kept arm_parts l.def o l.place arm_term_count arms-count a.made x y a.are

steps_kept : (o : ℕ) (l m : Log) (x y : List StepTree) → AreMade step_parts o l m x y → length y ≡ length x
steps_kept o l m x y a = kept step_parts l.def o l.place length steps-length a.made x y a.are

words_kept : (o : ℕ) (l m : Log) (x y : List WordTree) → AreMade word_parts o l m x y → length y ≡ length x
words_kept o l m x y a = kept word_parts l.def o l.place length word-length a.made x y a.are

values_kept : (o : ℕ) (l m : Log) (x y : ValuesTree) → AreMade value_parts o l m x y → values_count y ≡ values_count x
values_kept o l m x y a = kept value_parts l.def o l.place values_count value-count a.made x y a.are

-- ---- lists, item by item

pub at-length : {A : Type 0} (pre post : List A) (x : A) → slice_get (pre ++ x ∷ post) (length pre) ≡ Some x
at-length [] post x = refl
at-length (y ∷ pre) post x = at-length pre post x

pub set-at-length : {A : Type 0} (pre post : List A) (x z : A) → slice_set (pre ++ x ∷ post) (length pre) z ≡ pre ++ z ∷ post
set-at-length [] post x z = refl
set-at-length (y ∷ pre) post x z = ap (λ zs. y ∷ zs) (set-at-length pre post x z)

steps-at-length : (pre post : List StepTree) (s : StepTree) (t : Term) → steps_with t (pre ++ s ∷ post) (length pre) ≡ pre ++ with_step_term s t ∷ post
steps-at-length [] post s t = refl
steps-at-length (y ∷ pre) post s t = ap (λ zs. y ∷ zs) (steps-at-length pre post s t)

-- the steps of the item behind those in front
pub record IsItem {A : Type 0} (p : Parts (List A)) (l m : Log) (x y : A) : Type 0 where
  pub term : m.term ≡ l.term
  pub made : (o : ℕ) (pre post : List A) → l.term ≡ o + length pre → AreMade p o l m (pre ++ x ∷ post) (pre ++ y ∷ post)

pub word_item : (l m : Log) (t u : WordTree) → IsNoted OfWord [] l m t u → IsItem word_parts l m t u
word_item l m t u a = record {
  term = a.term;
  made = λ o pre post e. made_held OfWord word_parts (λ x. pre ++ x ∷ post) (length pre) (λ x. ap (option_map OfWord) (at-length pre post x)) (λ x z. set-at-length pre post x z) o l m t u e a;
}

pub mem_item : (l m : Log) (t u : MemTree) → IsNoted OfMem [] l m t u → IsItem mem_parts l m t u
mem_item l m t u a = record {
  term = a.term;
  made = λ o pre post e. made_held OfMem mem_parts (λ x. pre ++ x ∷ post) (length pre) (λ x. ap (option_map OfMem) (at-length pre post x)) (λ x z. set-at-length pre post x z) o l m t u e a;
}

step-held : {A : Type 0} (of : A → Term) (f : A → StepTree) → ((x : A) → step_term (f x) ≡ of x) → ((x z : A) → with_step_term (f x) (of z) ≡ f z)
    → (l m : Log) (t u : A) → IsNoted of [] l m t u → IsItem step_parts l m (f t) (f u)
step-held of f at put l m t u a = record {
  term = a.term;
  made = λ o pre post e.
      made_held of step_parts (λ x. pre ++ f x ∷ post) (length pre) (λ x. ap (option_map step_term) (at-length pre post (f x)) ∙ ap Some (at x))
      (λ x z. steps-at-length pre post (f x) (of z) ∙ ap (λ s. pre ++ s ∷ post) (put x z)) o l m t u e a;
}

pub step_item : (l m : Log) (s t : StepTree) → IsNotedStep l m s t → IsItem step_parts l m s t
step_item l m (Bind t) (Bind u) a = step-held OfWord Bind (λ x. refl) (λ x z. refl) l m t u a
step_item l m (BindMem t) (BindMem u) a = step-held OfMem BindMem (λ x. refl) (λ x z. refl) l m t u a
step_item l m (Need t) (Need u) a = step-held OfCond Need (λ x. refl) (λ x z. refl) l m t u a
step_item l m (Bind t) (BindMem u) a = absurd a
step_item l m (Bind t) (Need u) a = absurd a
step_item l m (BindMem t) (Bind u) a = absurd a
step_item l m (BindMem t) (Need u) a = absurd a
step_item l m (Need t) (Bind u) a = absurd a
step_item l m (Need t) (BindMem u) a = absurd a

pub next-item : {X A : Type 0} (f : X → A) (xs : List X) (i : ℕ) (x : X) → i < length xs → x ≡ get_or xs i x → map f (drop i xs) ≡ f x ∷ map f (drop (suc i) xs)
next-item f [] i x h is = absurd (omega (arith, h))
next-item f (y ∷ xs) zero x h is = λ j. f (sym is j) ∷ map f xs
next-item f (y ∷ xs) (suc i) x h is = next-item f xs i x (omega (arith, h)) is

-- the items behind the next one, and no items behind the last one
pub one_over : {X A : Type 0} (f : X → A) (zs xs : List X) (y : X) (i : ℕ) → map f zs ++ f y ∷ map f (drop (suc i) xs) ≡ map f (zs ++ y ∷ []) ++ map f (drop (i + 1) xs)
one_over f [] xs y i = let one : suc i ≡ i + 1 = omega arith in (λ j. f y ∷ map f (drop (one j) xs))
one_over f (z ∷ zs) xs y i = ap (λ vs. f z ∷ vs) (one_over f zs xs y i)

all-dropped : {X A : Type 0} (f : X → A) (xs : List X) → map f (drop (length xs) xs) ≡ []
all-dropped f [] = refl
all-dropped f (x ∷ xs) = all-dropped f xs

pub none_over : {X A : Type 0} (f : X → A) (zs xs : List X) (i : ℕ) → i ≡ length xs → map f zs ++ map f (drop i xs) ≡ map f zs
none_over f zs xs i e = ap (λ k. map f zs ++ map f (drop k xs)) e ∙ ap (λ vs. map f zs ++ vs) (all-dropped f xs) ∙ append-nil (map f zs)

-- the items before are done, and this one is now
pub list_more : {X A : Type 0} (p : Parts (List A)) (f : X → A) (xs made : List X) (i : ℕ) (x y : X) (l m n o : Log)
    → i < length xs → x ≡ get_or xs i x → length made ≡ i → ArePassed p i l m (map f xs) (map f made ++ map f (drop i xs))
    → IsItem p m n (f x) (f y) → IsNext n o → ArePassed p (i + 1) l o (map f xs) (map f (made ++ y ∷ []) ++ map f (drop (i + 1) xs))
list_more p f xs made i x y l m n o h is size a item next =
    let rest = map f (drop (suc i) xs) in
    let before : ArePassed p i l m (map f xs) (map f made ++ f x ∷ rest) = subst (λ v. ArePassed p i l m (map f xs) (map f made ++ v)) (next-item f xs i x h is) a in
    let from : m.term ≡ l.term + length (map f made) = before.terms ∙ ap (λ k. l.term + k) (sym size ∙ sym (length-map made f)) in
    let now = made_next p l.term l n o (map f xs) (map f made ++ f y ∷ rest) (made_then p l.term l m n (map f xs) (map f made ++ f x ∷ rest) (map f made ++ f y ∷ rest) before.made (item.made l.term (map f made) rest from)) next in
    record {
      terms = let e = before.terms in let g = item.term in let h = next.term in omega (arith, e, g, h);
      made = made_as p l.term l o (map f xs) (map f made ++ f y ∷ rest) (map f (made ++ y ∷ []) ++ map f (drop (i + 1) xs)) (one_over f made xs y i) now;
    }

-- before the first item, and behind the last one
pub list_begun : {X A : Type 0} (p : Parts (List A)) (f : X → A) (xs made : List X) (l : Log) → made ≡ [] → ArePassed p 0 l l (map f xs) (map f made ++ map f (drop 0 xs))
list_begun p f xs made l e =
    subst (λ zs. ArePassed p 0 l l (map f xs) (map f zs ++ map f (drop 0 xs))) (sym e) (record { terms = omega arith; made = made_none p l.term l (map f xs) })

pub list_ended : {X A : Type 0} (p : Parts (List A)) (f : X → A) (xs made : List X) (i : ℕ) (l m : Log) → i ≡ length xs
    → ArePassed p i l m (map f xs) (map f made ++ map f (drop i xs)) → ArePassed p (length xs) l m (map f xs) (map f made)
list_ended p f xs made i l m e a =
    let none = none_over f made xs i e in
    record { terms = a.terms ∙ ap (λ k. l.term + k) e; made = made_as p l.term l m (map f xs) _ _ none a.made }

-- ---- values

pub values_passed : (v w : ValuesTree) (l m n : Log) → ArePassed word_parts (length v.words) l m v.words w.words → ArePassed mem_parts (length v.mems) m n v.mems w.mems
    → ArePassed value_parts (length v.words + length v.mems) l n v w
values_passed v w l m n a b =
    let size = words_kept l.term l m v.words w.words a.made in
    record {
      terms = let e = a.terms in let f = b.terms in omega (arith, e, f);
      made = made_then value_parts l.term l m n v (of_words v.mems w.words) w
          (made_lifted word_parts value_parts (of_words v.mems) 0
          (λ ts k t e. at-word ts k t e) (λ ts k t u e. put-word ts k t u e) l.term l.term l m v.words w.words (omega arith) a.made)
          (made_lifted mem_parts value_parts (of_mems w.words) (length w.words)
          (λ ms k t e. at-mem ms k t e) (λ ms k t u e. put-mem ms k t u e) l.term m.term m n v.mems w.mems (let f = a.terms in omega (arith, f, size)) b.made);
    }
  where
    at-word : (ts : List WordTree) (k : ℕ) (t : Term) → option_map OfWord (slice_get ts k) ≡ Some t → value_at (of_words v.mems ts) (0 + k) ≡ Some t
    at-word ts k t e =
        let z : 0 + k ≡ k = omega arith in
        ap (value_at (of_words v.mems ts)) z
        ∙ below k (length ts) (λ i. option_map OfWord (slice_get ts i)) (λ i. option_map OfMem (slice_get v.mems i)) (within-list OfWord ts k t e) ∙ e

    put-word : (ts : List WordTree) (k : ℕ) (t u : Term) → option_map OfWord (slice_get ts k) ≡ Some t
        → with_value (of_words v.mems ts) (0 + k) u ≡ of_words v.mems (with_word_term ts k u)
    put-word ts k t u e =
        let z : 0 + k ≡ k = omega arith in
        ap (λ i. with_value (of_words v.mems ts) i u) z
        ∙ below k (length ts) (words_put ts v.mems u) (mems_put ts v.mems u) (within-list OfWord ts k t e)

    at-mem : (ms : List MemTree) (k : ℕ) (t : Term) → option_map OfMem (slice_get ms k) ≡ Some t → value_at (of_mems w.words ms) (length w.words + k) ≡ Some t
    at-mem ms k t e = beyond (length w.words + k) (length w.words) k (λ i. option_map OfWord (slice_get w.words i)) (λ i. option_map OfMem (slice_get ms i)) refl ∙ e

    put-mem : (ms : List MemTree) (k : ℕ) (t u : Term) → option_map OfMem (slice_get ms k) ≡ Some t
        → with_value (of_mems w.words ms) (length w.words + k) u ≡ of_mems w.words (with_mem_term ms k u)
    put-mem ms k t u e = beyond (length w.words + k) (length w.words) k (words_put w.words ms u) (mems_put w.words ms u) refl

-- ---- bodies

steps-at : (ss : List StepTree) (b : BodyTree) (k : ℕ) (t : Term) → option_map step_term (slice_get ss k) ≡ Some t → term_at (with_steps ss b) k ≡ Some t
steps-at [] b k t e = absurd (cc)
steps-at (s ∷ ss) b zero t e = e
steps-at (s ∷ ss) b (suc k) t e = steps-at ss b k t e

steps-put : (ss : List StepTree) (b : BodyTree) (k : ℕ) (t u : Term) → option_map step_term (slice_get ss k) ≡ Some t → with_term (with_steps ss b) k u ≡ with_steps (steps_with u ss k) b
steps-put [] b k t u e = absurd (cc)
steps-put (s ∷ ss) b zero t u e = refl
steps-put (s ∷ ss) b (suc k) t u e = ap (Do s) (steps-put ss b k t u e)

end-at : (ss : List StepTree) (b : BodyTree) (k : ℕ) → term_at (with_steps ss b) (length ss + k) ≡ term_at b k
end-at [] b k = let z : 0 + k ≡ k = omega arith in ap (term_at b) z
end-at (s ∷ ss) b k = let z : length (s ∷ ss) + k ≡ suc (length ss + k) = omega arith in ap (term_at (with_steps (s ∷ ss) b)) z ∙ end-at ss b k

end-put : (ss : List StepTree) (b : BodyTree) (k : ℕ) (u : Term) → with_term (with_steps ss b) (length ss + k) u ≡ with_steps ss (with_term b k u)
end-put [] b k u = let z : 0 + k ≡ k = omega arith in ap (λ i. with_term b i u) z
end-put (s ∷ ss) b k u = let z : length (s ∷ ss) + k ≡ suc (length ss + k) = omega arith in ap (λ i. with_term (with_steps (s ∷ ss) b) i u) z ∙ ap (Do s) (end-put ss b k u)

count-steps : (ss : List StepTree) (b : BodyTree) → count (with_steps ss b) ≡ length ss + count b
count-steps [] b = omega arith
count-steps (s ∷ ss) b = let h = count-steps ss b in omega (arith, h)

pub body_passed : (ss ts : List StepTree) (b c : BodyTree) (l m n : Log) → ArePassed step_parts (length ss) l m ss ts → ArePassed body_parts (count b) m n b c
    → ArePassed body_parts (count (with_steps ss b)) l n (with_steps ss b) (with_steps ts c)
body_passed ss ts b c l m n a h =
    let size = steps_kept l.term l m ss ts a.made in
    let all = count-steps ss b in
    record {
      terms = let e = a.terms in let f = h.terms in omega (arith, e, f, all);
      made = made_then body_parts l.term l m n (with_steps ss b) (with_steps ts b) (with_steps ts c)
          (made_lifted step_parts body_parts (λ xs. with_steps xs b) 0
          (λ xs k t e. (let z : 0 + k ≡ k = omega arith in ap (term_at (with_steps xs b)) z) ∙ steps-at xs b k t e)
          (λ xs k t u e. (let z : 0 + k ≡ k = omega arith in ap (λ i. with_term (with_steps xs b) i u) z) ∙ steps-put xs b k t u e) l.term l.term l m ss ts (omega arith) a.made)
          (made_lifted body_parts body_parts (λ x. with_steps ts x) (length ts) (λ x k t e. end-at ts x k ∙ e) (λ x k t u e. end-put ts x k u) l.term m.term m n b c
          (let f = a.terms in omega (arith, f, size)) h.made);
    }

pub branch_passed : (c d : CondTree) (a x b y : BodyTree) (l m n o p : Log) → IsNoted OfCond [] l m c d → IsNext m n → ArePassed body_parts (count a) n o a x → ArePassed body_parts (count b) o p b y
    → ArePassed body_parts (count (Branch c a b)) l p (Branch c a b) (Branch d x y)
branch_passed c d a x b y l m n o p h next f g =
    let size = count_kept n.term n o a x f.made in
    let from : n.term ≡ l.term + 1 = next.term ∙ ap (λ k. k + 1) h.term in
    record {
      terms = let e = f.terms in let i = g.terms in omega (arith, from, e, i);
      made = made_then body_parts l.term l n p (Branch c a b) (Branch d a b) (Branch d x y)
          (made_next body_parts l.term l m n (Branch c a b) (Branch d a b)
          (made_held OfCond body_parts (λ z. Branch z a b) 0 (λ z. refl) (λ z w. refl) l.term l m c d (omega arith) h) next)
          (made_then body_parts l.term n o p (Branch d a b) (Branch d x b) (Branch d x y)
          (made_lifted body_parts body_parts (λ z. Branch d z b) 1 (λ z k t e. at-first z k t e) (λ z k t u e. put-first z k t u e) l.term n.term n o a x from f.made)
          (made_lifted body_parts body_parts (λ z. Branch d x z) (1 + count x) (λ z k t e. at-second z k t e) (λ z k t u e. put-second z k t u e) l.term o.term o p b y
          (let e = f.terms in omega (arith, from, e, size)) g.made));
    }
  where
    at-first : (z : BodyTree) (k : ℕ) (t : Term) → term_at z k ≡ Some t → term_at (Branch d z b) (1 + k) ≡ Some t
    at-first z k t e = let s : 1 + k ≡ suc k = omega arith in ap (term_at (Branch d z b)) s ∙ below k (count z) (term_at z) (term_at b) (within z k t e) ∙ e

    put-first : (z : BodyTree) (k : ℕ) (t u : Term) → term_at z k ≡ Some t → with_term (Branch d z b) (1 + k) u ≡ Branch d (with_term z k u) b
    put-first z k t u e =
        let s : 1 + k ≡ suc k = omega arith in
        ap (λ i. with_term (Branch d z b) i u) s ∙ below k (count z) (λ i. Branch d (with_term z i u) b) (λ i. Branch d z (with_term b i u)) (within z k t e)

    at-second : (z : BodyTree) (k : ℕ) (t : Term) → term_at z k ≡ Some t → term_at (Branch d x z) (1 + count x + k) ≡ Some t
    at-second z k t e =
        let s : 1 + count x + k ≡ suc (count x + k) = omega arith in
        ap (term_at (Branch d x z)) s ∙ beyond (count x + k) (count x) k (term_at x) (term_at z) refl ∙ e

    put-second : (z : BodyTree) (k : ℕ) (t u : Term) → term_at z k ≡ Some t → with_term (Branch d x z) (1 + count x + k) u ≡ Branch d x (with_term z k u)
    put-second z k t u e =
        let s : 1 + count x + k ≡ suc (count x + k) = omega arith in
        ap (λ i. with_term (Branch d x z) i u) s ∙ beyond (count x + k) (count x) k (λ i. Branch d (with_term x i u) z) (λ i. Branch d x (with_term z i u)) refl

pub call_passed : (def : ℕ) (v w : ValuesTree) (bs cs : ArmTrees) (l m n : Log) → ArePassed value_parts (length v.words + length v.mems) l m v w → ArePassed arm_parts (arm_term_count bs) m n bs cs
    → ArePassed body_parts (count (Call def v bs)) l n (Call def v bs) (Call def w cs)
call_passed def v w bs cs l m n a h =
    let size = values_kept l.term l m v w a.made in
    record {
      terms = let e = a.terms in let f = h.terms in omega (arith, e, f);
      made = made_then body_parts l.term l m n (Call def v bs) (Call def w bs) (Call def w cs)
          (made_lifted value_parts body_parts (λ z. Call def z bs) 0 (λ z k t e. at-value z k t e) (λ z k t u e. put-value z k t u e) l.term l.term l m v w (omega arith) a.made)
          (made_lifted arm_parts body_parts (λ z. Call def w z) (length w.words + length w.mems) (λ z k t e. at-arm z k t e) (λ z k t u e. put-arm z k t u e) l.term m.term m n bs cs
          (let f = a.terms in omega (arith, f, size)) h.made);
    }
  where
    at-value : (z : ValuesTree) (k : ℕ) (t : Term) → value_at z k ≡ Some t → term_at (Call def z bs) (0 + k) ≡ Some t
    at-value z k t e =
        let s : 0 + k ≡ k = omega arith in
        ap (term_at (Call def z bs)) s ∙ below k (length z.words + length z.mems) (value_at z) (arm_term_at bs) (within-value z k t e) ∙ e

    put-value : (z : ValuesTree) (k : ℕ) (t u : Term) → value_at z k ≡ Some t → with_term (Call def z bs) (0 + k) u ≡ Call def (with_value z k u) bs
    put-value z k t u e =
        let s : 0 + k ≡ k = omega arith in
        ap (λ i. with_term (Call def z bs) i u) s
        ∙ below k (length z.words + length z.mems) (λ i. Call def (with_value z i u) bs) (λ i. Call def z (with_arm_term bs i u)) (within-value z k t e)

    at-arm : (z : ArmTrees) (k : ℕ) (t : Term) → arm_term_at z k ≡ Some t → term_at (Call def w z) (length w.words + length w.mems + k) ≡ Some t
    at-arm z k t e = beyond (length w.words + length w.mems + k) (length w.words + length w.mems) k (value_at w) (arm_term_at z) refl ∙ e

    put-arm : (z : ArmTrees) (k : ℕ) (t u : Term) → arm_term_at z k ≡ Some t → with_term (Call def w z) (length w.words + length w.mems + k) u ≡ Call def w (with_arm_term z k u)
    put-arm z k t u e =
        beyond (length w.words + length w.mems + k) (length w.words + length w.mems) k (λ i. Call def (with_value w i u) z) (λ i. Call def w (with_arm_term z i u)) refl

-- where the terms have the same numbers in the whole
same-passed : {A B : Type 0} (p : Parts A) (q : Parts B) (f : A → B) (n : ℕ) → ((x : A) (k : ℕ) (t : Term) → p.at x k ≡ Some t → q.at (f x) k ≡ Some t)
    → ((x : A) (k : ℕ) (t u : Term) → p.at x k ≡ Some t → q.put (f x) k u ≡ f (p.put x k u)) → (l m : Log) (x y : A) → ArePassed p n l m x y → ArePassed q n l m (f x) (f y)
same-passed p q f n at put l m x y a = record {
  terms = a.terms;
  made = made_lifted p q f 0
      (λ z k t e. (let s : 0 + k ≡ k = omega arith in ap (q.at (f z)) s) ∙ at z k t e)
      (λ z k t u e. (let s : 0 + k ≡ k = omega arith in ap (λ i. q.put (f z) i u) s) ∙ put z k t u e) l.term l.term l m x y (omega arith) a.made;
}

pub again_passed : (v w : ValuesTree) (l m : Log) → ArePassed value_parts (length v.words + length v.mems) l m v w → ArePassed body_parts (count (Again v)) l m (Again v) (Again w)
again_passed v w l m a = same-passed value_parts body_parts Again (length v.words + length v.mems) (λ x k t e. e) (λ x k t u e. refl) l m v w a

pub leave_passed : (exit : ℕ) (v w : ValuesTree) (l m : Log) → ArePassed value_parts (length v.words + length v.mems) l m v w → ArePassed body_parts (count (Leave exit v)) l m (Leave exit v) (Leave exit w)
leave_passed exit v w l m a = same-passed value_parts body_parts (Leave exit) (length v.words + length v.mems) (λ x k t e. e) (λ x k t u e. refl) l m v w a

-- ---- arms

arm-at : (pre post : List BodyTree) (b : BodyTree) (k : ℕ) (t : Term) → term_at b k ≡ Some t → arm_term_at (arms_of (pre ++ b ∷ post)) (arm_term_count (arms_of pre) + k) ≡ Some t
arm-at [] post b k t e = let z : 0 + k ≡ k = omega arith in ap (arm_term_at (arms_of (b ∷ post))) z ∙ below k (count b) (term_at b) (arm_term_at (arms_of post)) (within b k t e) ∙ e
arm-at (a ∷ pre) post b k t e =
    beyond (count a + arm_term_count (arms_of pre) + k) (count a) (arm_term_count (arms_of pre) + k) (term_at a) (arm_term_at (arms_of (pre ++ b ∷ post))) (omega arith) ∙ arm-at pre post b k t e

arm-put : (pre post : List BodyTree) (b : BodyTree) (k : ℕ) (t u : Term) → term_at b k ≡ Some t
    → with_arm_term (arms_of (pre ++ b ∷ post)) (arm_term_count (arms_of pre) + k) u ≡ arms_of (pre ++ with_term b k u ∷ post)
arm-put [] post b k t u e =
    let z : 0 + k ≡ k = omega arith in
    ap (λ i. with_arm_term (arms_of (b ∷ post)) i u) z ∙ below k (count b) (λ i. Arm (with_term b i u) (arms_of post)) (λ i. Arm b (with_arm_term (arms_of post) i u)) (within b k t e)
arm-put (a ∷ pre) post b k t u e =
    beyond (count a + arm_term_count (arms_of pre) + k) (count a) (arm_term_count (arms_of pre) + k) (λ i. Arm (with_term a i u) (arms_of (pre ++ b ∷ post))) (λ i. Arm a (with_arm_term (arms_of (pre ++ b ∷ post)) i u)) (omega arith)
    ∙ ap (Arm a) (arm-put pre post b k t u e)

arms-more-count : (pre : List BodyTree) (b : BodyTree) → arm_term_count (arms_of (pre ++ b ∷ [])) ≡ arm_term_count (arms_of pre) + count b
arms-more-count [] b = omega arith
arms-more-count (a ∷ pre) b = let h = arms-more-count pre b in omega (arith, h)

pub arms_more : {X : Type 0} (f : X → BodyTree) (xs made : List X) (i : ℕ) (x y : X) (l m n : Log) → i < length xs → x ≡ get_or xs i x
    → ArePassed arm_parts (arm_term_count (arms_of (map f made))) l m (arms_of (map f xs)) (arms_of (map f made ++ map f (drop i xs))) → ArePassed body_parts (count (f x)) m n (f x) (f y)
    → ArePassed arm_parts (arm_term_count (arms_of (map f (made ++ y ∷ [])))) l n (arms_of (map f xs)) (arms_of (map f (made ++ y ∷ []) ++ map f (drop (i + 1) xs)))
arms_more {X = X} f xs made i x y l m n h is a b =
    let rest = map f (drop (suc i) xs) in
    let before : ArePassed arm_parts (arm_term_count (arms_of (map f made))) l m (arms_of (map f xs)) (arms_of (map f made ++ f x ∷ rest)) =
    subst (λ v. ArePassed arm_parts (arm_term_count (arms_of (map f made))) l m (arms_of (map f xs)) (arms_of (map f made ++ v))) (next-item f xs i x h is) a in
    let size = count_kept m.term m n (f x) (f y) b.made in
    let all : arm_term_count (arms_of (map f (made ++ y ∷ []))) ≡ arm_term_count (arms_of (map f made)) + count (f y) = ap (λ bs. arm_term_count (arms_of bs)) (mapped-more made) ∙ arms-more-count (map f made) (f y) in
    record {
      terms = let e = before.terms in let g = b.terms in omega (arith, e, g, size, all);
      made = made_as arm_parts l.term l n (arms_of (map f xs)) (arms_of (map f made ++ f y ∷ rest)) _ (ap arms_of (one_over f made xs y i))
          (made_then arm_parts l.term l m n (arms_of (map f xs)) (arms_of (map f made ++ f x ∷ rest)) (arms_of (map f made ++ f y ∷ rest)) before.made
          (made_lifted body_parts arm_parts (λ z. arms_of (map f made ++ z ∷ rest)) (arm_term_count (arms_of (map f made))) (λ z k t e. arm-at (map f made) rest z k t e)
          (λ z k t u e. arm-put (map f made) rest z k t u e) l.term m.term m n (f x) (f y) before.terms b.made));
    }
  where
    mapped-more : (zs : List X) → map f (zs ++ y ∷ []) ≡ map f zs ++ f y ∷ []
    mapped-more [] = refl
    mapped-more (z ∷ zs) = ap (λ vs. f z ∷ vs) (mapped-more zs)

pub arms_begun : {X : Type 0} (f : X → BodyTree) (xs made : List X) (l : Log) → made ≡ []
    → ArePassed arm_parts (arm_term_count (arms_of (map f made))) l l (arms_of (map f xs)) (arms_of (map f made ++ map f (drop 0 xs)))
arms_begun f xs made l e =
    subst (λ zs. ArePassed arm_parts (arm_term_count (arms_of (map f zs))) l l (arms_of (map f xs)) (arms_of (map f zs ++ map f (drop 0 xs)))) (sym e)
    (record { terms = omega arith; made = made_none arm_parts l.term l (arms_of (map f xs)) })

pub arms_ended : {X : Type 0} (f : X → BodyTree) (xs made : List X) (i : ℕ) (l m : Log) → i ≡ length xs
    → ArePassed arm_parts (arm_term_count (arms_of (map f made))) l m (arms_of (map f xs)) (arms_of (map f made ++ map f (drop i xs)))
    → ArePassed arm_parts (arm_term_count (arms_of (map f xs))) l m (arms_of (map f xs)) (arms_of (map f made))
arms_ended f xs made i l m e a =
    let none = none_over f made xs i e in
    let now = made_as arm_parts l.term l m (arms_of (map f xs)) _ _ (ap arms_of none) a.made in
    record { terms = a.terms ∙ ap (λ k. l.term + k) (arm_count_kept l.term l m (arms_of (map f xs)) (arms_of (map f made)) now); made = now }

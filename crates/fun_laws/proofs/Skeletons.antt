-- Bodies are their skeletons and their terms.
use Rattle.std.proofs.Common.{◌≡◌, ℕ, zero, suc, ◌+◌, ◌-◌, ◌<◌, Bool, true, false, cond, nat_lt, List, [], ◌∷◌, ◌++◌, length, map, Option, Some, slice_get, refl, sym, ap, subst, ◌∙◌, append_assoc, arith}
use Rattle.std.specs.Prelude.{slice_set}
use Rattle.std.proofs.lemmas.List.{length-append, length-map}
use Rattle.word_terms.specs.Tree.{WordTree, MemTree, CondTree}
use Rattle.tailrec_lang.specs.Tree.{ValuesTree, StepTree, Bind, BindMem, Need, BodyTree, Do, Branch, Call, Again, Leave, ArmTrees, NoArm, Arm, DefTree}
use Rattle.fun_laws.specs.Laws.{Term, OfWord, OfMem, OfCond}
use Rattle.fun_laws.specs.Rewriting.{step_term, count, arm_term_count, below_or, value_at, term_at, arm_term_at, with_step_term, with_word_term, with_mem_term, with_cond, with_value, with_term, with_arm_term}
use Rattle.fun_laws.specs.inner.Apart.{ApartTree, arm_skeletons, arm_terms, blank_cond, blank_mem, blank_step, blank_values, blank_word, skeleton, taken_apart, terms, value_terms}
use Rattle.fun_laws.proofs.Parts.{below, beyond, mapped_at, numbered_apart}

-- ---- one list behind another

get-first : {A : Type 0} (xs ys : List A) (k : ℕ) → k < length xs → slice_get (xs ++ ys) k ≡ slice_get xs k
get-first [] ys k h = absurd (omega (arith, h))
get-first (x ∷ xs) ys zero h = refl
get-first (x ∷ xs) ys (suc k) h = get-first xs ys k (omega (arith, h))

get-second : {A : Type 0} (xs ys : List A) (k i : ℕ) → k ≡ length xs + i → slice_get (xs ++ ys) k ≡ slice_get ys i
get-second [] ys k i h = let e : k ≡ i = omega (arith, h) in ap (slice_get ys) e
get-second (x ∷ xs) ys zero i h = absurd (omega (arith, h))
get-second (x ∷ xs) ys (suc k) i h = get-second xs ys k i (omega (arith, h))

set-first : {A : Type 0} (xs ys : List A) (k : ℕ) (x : A) → k < length xs → slice_set (xs ++ ys) k x ≡ slice_set xs k x ++ ys
set-first [] ys k x h = absurd (omega (arith, h))
set-first (y ∷ xs) ys zero x h = refl
set-first (y ∷ xs) ys (suc k) x h = ap (λ zs. y ∷ zs) (set-first xs ys k x (omega (arith, h)))

set-second : {A : Type 0} (xs ys : List A) (k i : ℕ) (x : A) → k ≡ length xs + i → slice_set (xs ++ ys) k x ≡ xs ++ slice_set ys i x
set-second [] ys k i x h = let e : k ≡ i = omega (arith, h) in ap (λ n. slice_set ys n x) e
set-second (y ∷ xs) ys zero i x h = absurd (omega (arith, h))
set-second (y ∷ xs) ys (suc k) i x h = ap (λ zs. y ∷ zs) (set-second xs ys k i x (omega (arith, h)))

-- ---- terms by their numbers

pub value-terms-count : (v : ValuesTree) → length (value_terms v) ≡ length v.words + length v.mems
value-terms-count v =
    let n = length-append (map OfWord v.words) (map OfMem v.mems) in
    let m = length-map v.words OfWord in let o = length-map v.mems OfMem in omega (arith, n, m, o)

mutual
  pub terms-count : (b : BodyTree) → length (terms b) ≡ count b
  terms-count (Do s b) = let h = terms-count b in omega (arith, h)
  terms-count (Branch c a b) = let h = terms-count a in let g = terms-count b in let n = length-append (terms a) (terms b) in omega (arith, h, g, n)
  terms-count (Call d v bs) = let h = value-terms-count v in let g = arm-terms-count bs in let n = length-append (value_terms v) (arm_terms bs) in omega (arith, h, g, n)
  terms-count (Again v) = value-terms-count v
  terms-count (Leave x v) = value-terms-count v

  arm-terms-count : (bs : ArmTrees) → length (arm_terms bs) ≡ arm_term_count bs
  arm-terms-count NoArm = refl
  arm-terms-count (Arm b bs) = let h = terms-count b in let g = arm-terms-count bs in let n = length-append (terms b) (arm_terms bs) in omega (arith, h, g, n)

at-either : (k n : ℕ) (f g : ℕ → Option Term) (xs ys : List Term) → length xs ≡ n → ((i : ℕ) → f i ≡ slice_get xs i) → ((i : ℕ) → g i ≡ slice_get ys i)
    → below_or k n f g ≡ slice_get (xs ++ ys) k
at-either k n f g xs ys size first second =
    numbered_apart k n (below_or k n f g ≡ slice_get (xs ++ ys) k)
    (λ h. below k n f g h ∙ first k ∙ sym (get-first xs ys k (omega (arith, h, size))))
    (λ i h. beyond k n i f g h ∙ second i ∙ sym (get-second xs ys k i (omega (arith, h, size))))

pub value-at : (v : ValuesTree) (k : ℕ) → value_at v k ≡ slice_get (value_terms v) k
value-at v k =
    at-either k (length v.words) _ _ (map OfWord v.words) (map OfMem v.mems) (length-map v.words OfWord)
    (λ i. sym (mapped_at OfWord v.words i)) (λ i. sym (mapped_at OfMem v.mems i))

mutual
  pub term-at : (b : BodyTree) (k : ℕ) → term_at b k ≡ slice_get (terms b) k
  term-at (Do s b) zero = refl
  term-at (Do s b) (suc k) = term-at b k
  term-at (Branch c a b) zero = refl
  term-at (Branch c a b) (suc k) = at-either k (count a) (term_at a) (term_at b) (terms a) (terms b) (terms-count a) (λ i. term-at a i) (λ i. term-at b i)
  term-at (Call d v bs) k =
      at-either k (length v.words + length v.mems) (value_at v) (arm_term_at bs) (value_terms v) (arm_terms bs) (value-terms-count v) (λ i. value-at v i) (λ i. arm-term-at bs i)
  term-at (Again v) k = value-at v k
  term-at (Leave x v) k = value-at v k

  arm-term-at : (bs : ArmTrees) (k : ℕ) → arm_term_at bs k ≡ slice_get (arm_terms bs) k
  arm-term-at NoArm k = refl
  arm-term-at (Arm b bs) k = at-either k (count b) (term_at b) (arm_term_at bs) (terms b) (arm_terms bs) (terms-count b) (λ i. term-at b i) (λ i. arm-term-at bs i)

-- ---- another term of the same kind

abbrev pub AreOfOneKind : Term → Term → Type 0
AreOfOneKind (OfWord t) (OfWord u) = Unit {0}
AreOfOneKind (OfMem m) (OfMem n) = Unit {0}
AreOfOneKind (OfCond c) (OfCond d) = Unit {0}
AreOfOneKind _ _ = ⊥

-- the term that is replaced is of the new one's kind
replaced : (s t x : Term) → Some s ≡ Some t → AreOfOneKind t x → AreOfOneKind s x
replaced s t x is h = let e : t ≡ s = cc in subst (λ z. AreOfOneKind z x) e h

-- where a front stands before both lists
set-either : {X : Type 0} (of : X → List Term) (front : List Term → List Term) (k n : ℕ) (f g : ℕ → X) (xs ys : List Term) (o x : Term) → length xs ≡ n → slice_get (xs ++ ys) k ≡ Some o
    → (slice_get xs k ≡ Some o → of (f k) ≡ front (slice_set xs k x ++ ys)) → ((i : ℕ) → slice_get ys i ≡ Some o → of (g i) ≡ front (xs ++ slice_set ys i x))
    → of (below_or k n f g) ≡ front (slice_set (xs ++ ys) k x)
set-either of front k n f g xs ys o x size is first second =
    numbered_apart k n (of (below_or k n f g) ≡ front (slice_set (xs ++ ys) k x))
    (λ h. let l : k < length xs = omega (arith, h, size) in ap of (below k n f g h) ∙ first (sym (get-first xs ys k l) ∙ is) ∙ ap front (sym (set-first xs ys k x l)))
    (λ i h. let l : k ≡ length xs + i = omega (arith, h, size) in ap of (beyond k n i f g h) ∙ second i (sym (get-second xs ys k i l) ∙ is) ∙ ap front (sym (set-second xs ys k i x l)))

step-set : (s : StepTree) (x : Term) → AreOfOneKind (step_term s) x → step_term (with_step_term s x) ≡ x
step-set (Bind t) (OfWord x) h = refl
step-set (BindMem m) (OfMem x) h = refl
step-set (Need c) (OfCond x) h = refl
step-set s x h = absurd h

words-set : (ts : List WordTree) (k : ℕ) (o x : Term) → slice_get (map OfWord ts) k ≡ Some o → AreOfOneKind o x → map OfWord (with_word_term ts k x) ≡ slice_set (map OfWord ts) k x
words-set [] k o x is h = absurd (cc)
words-set (t ∷ ts) zero o (OfWord x) is h = refl
words-set (t ∷ ts) (suc k) o (OfWord x) is h = ap (λ zs. OfWord t ∷ zs) (words-set ts k o (OfWord x) is h)
words-set (t ∷ ts) zero o (OfMem x) is h = absurd (replaced (OfWord t) o (OfMem x) is h)
words-set (t ∷ ts) (suc k) o (OfMem x) is h = ap (λ zs. OfWord t ∷ zs) (words-set ts k o (OfMem x) is h)
words-set (t ∷ ts) zero o (OfCond x) is h = absurd (replaced (OfWord t) o (OfCond x) is h)
words-set (t ∷ ts) (suc k) o (OfCond x) is h = ap (λ zs. OfWord t ∷ zs) (words-set ts k o (OfCond x) is h)

mems-set : (ms : List MemTree) (k : ℕ) (o x : Term) → slice_get (map OfMem ms) k ≡ Some o → AreOfOneKind o x → map OfMem (with_mem_term ms k x) ≡ slice_set (map OfMem ms) k x
mems-set [] k o x is h = absurd (cc)
mems-set (m ∷ ms) zero o (OfMem x) is h = refl
mems-set (m ∷ ms) (suc k) o (OfMem x) is h = ap (λ zs. OfMem m ∷ zs) (mems-set ms k o (OfMem x) is h)
mems-set (m ∷ ms) zero o (OfWord x) is h = absurd (replaced (OfMem m) o (OfWord x) is h)
mems-set (m ∷ ms) (suc k) o (OfWord x) is h = ap (λ zs. OfMem m ∷ zs) (mems-set ms k o (OfWord x) is h)
mems-set (m ∷ ms) zero o (OfCond x) is h = absurd (replaced (OfMem m) o (OfCond x) is h)
mems-set (m ∷ ms) (suc k) o (OfCond x) is h = ap (λ zs. OfMem m ∷ zs) (mems-set ms k o (OfCond x) is h)

value-set : (v : ValuesTree) (k : ℕ) (o x : Term) → slice_get (value_terms v) k ≡ Some o → AreOfOneKind o x → value_terms (with_value v k x) ≡ slice_set (value_terms v) k x
value-set v k o x is h =
    set-either value_terms (λ zs. zs) k (length v.words) (λ i. record { words = with_word_term v.words i x; mems = v.mems }) (λ i. record { words = v.words; mems = with_mem_term v.mems i x }) (map OfWord v.words) (map OfMem v.mems) o x (length-map v.words OfWord) is
    (λ e. ap (λ zs. zs ++ map OfMem v.mems) (words-set v.words k o x e h))
    (λ i e. ap (λ zs. map OfWord v.words ++ zs) (mems-set v.mems i o x e h))

cond-set : (s x : Term) (c : CondTree) → Some (OfCond c) ≡ Some s → AreOfOneKind s x → OfCond (with_cond c x) ≡ x
cond-set s (OfCond x) c is h = refl
cond-set s (OfWord x) c is h = absurd (replaced (OfCond c) s (OfWord x) is h)
cond-set s (OfMem x) c is h = absurd (replaced (OfCond c) s (OfMem x) is h)

mutual
  pub terms-set : (b : BodyTree) (k : ℕ) (o x : Term) → slice_get (terms b) k ≡ Some o → AreOfOneKind o x → terms (with_term b k x) ≡ slice_set (terms b) k x
  terms-set (Do s b) zero o x is h = ap (λ z. z ∷ terms b) (step-set s x (replaced (step_term s) o x is h))
  terms-set (Do s b) (suc k) o x is h = ap (λ zs. step_term s ∷ zs) (terms-set b k o x is h)
  terms-set (Branch c a b) zero o x is h = ap (λ z. z ∷ (terms a ++ terms b)) (cond-set o x c is h)
  terms-set (Branch c a b) (suc k) o x is h =
      set-either terms (λ zs. OfCond c ∷ zs) k (count a) (λ i. Branch c (with_term a i x) b) (λ i. Branch c a (with_term b i x)) (terms a) (terms b) o x (terms-count a) is
      (λ e. ap (λ zs. OfCond c ∷ (zs ++ terms b)) (terms-set a k o x e h))
      (λ i e. ap (λ zs. OfCond c ∷ (terms a ++ zs)) (terms-set b i o x e h))
  terms-set (Call d v bs) k o x is h =
      set-either terms (λ zs. zs) k (length v.words + length v.mems) (λ i. Call d (with_value v i x) bs) (λ i. Call d v (with_arm_term bs i x)) (value_terms v) (arm_terms bs) o x (value-terms-count v) is
      (λ e. ap (λ zs. zs ++ arm_terms bs) (value-set v k o x e h))
      (λ i e. ap (λ zs. value_terms v ++ zs) (arm-terms-set bs i o x e h))
  terms-set (Again v) k o x is h = value-set v k o x is h
  terms-set (Leave e v) k o x is h = value-set v k o x is h

  arm-terms-set : (bs : ArmTrees) (k : ℕ) (o x : Term) → slice_get (arm_terms bs) k ≡ Some o → AreOfOneKind o x → arm_terms (with_arm_term bs k x) ≡ slice_set (arm_terms bs) k x
  arm-terms-set NoArm k o x is h = absurd (cc)
  arm-terms-set (Arm b bs) k o x is h =
      set-either arm_terms (λ zs. zs) k (count b) (λ i. Arm (with_term b i x) bs) (λ i. Arm b (with_arm_term bs i x)) (terms b) (arm_terms bs) o x (terms-count b) is
      (λ e. ap (λ zs. zs ++ arm_terms bs) (terms-set b k o x e h))
      (λ i e. ap (λ zs. terms b ++ zs) (arm-terms-set bs i o x e h))

-- ---- the skeleton stays

one-of : {X : Type 0} (P : X → Type 0) (t : Bool) (a b : X) → P a → P b → P (cond t a b)
one-of P true a b p q = p
one-of P false a b p q = q

blank-set : {A : Type 0} (f : A → A) (xs : List A) (k : ℕ) (x : A) → ((y z : A) → f y ≡ f z) → map f (slice_set xs k x) ≡ map f xs
blank-set f [] k x same = refl
blank-set f (y ∷ xs) zero x same = ap (λ z. z ∷ map f xs) (same x y)
blank-set f (y ∷ xs) (suc k) x same = ap (λ zs. f y ∷ zs) (blank-set f xs k x same)

pub blank-words : (ts : List WordTree) (k : ℕ) (x : Term) → map blank_word (with_word_term ts k x) ≡ map blank_word ts
blank-words ts k (OfWord t) = blank-set blank_word ts k t (λ y z. refl)
blank-words ts k (OfMem m) = refl
blank-words ts k (OfCond c) = refl

blank-mems : (ms : List MemTree) (k : ℕ) (x : Term) → map blank_mem (with_mem_term ms k x) ≡ map blank_mem ms
blank-mems ms k (OfMem m) = blank-set blank_mem ms k m (λ y z. refl)
blank-mems ms k (OfWord t) = refl
blank-mems ms k (OfCond c) = refl

pub blank-values : (v : ValuesTree) (k : ℕ) (x : Term) → blank_values (with_value v k x) ≡ blank_values v
blank-values v k x =
    one-of (λ (w : ValuesTree). blank_values w ≡ blank_values v) (nat_lt k (length v.words)) _ _
    (λ j. record { words = blank-words v.words k x j; mems = map blank_mem v.mems })
    (λ j. record { words = map blank_word v.words; mems = blank-mems v.mems (k - length v.words) x j })

blank-step : (s : StepTree) (x : Term) → blank_step (with_step_term s x) ≡ blank_step s
blank-step (Bind t) (OfWord x) = refl
blank-step (BindMem m) (OfMem x) = refl
blank-step (Need c) (OfCond x) = refl
blank-step s x = refl

mutual
  pub skeleton-kept : (b : BodyTree) (k : ℕ) (x : Term) → skeleton (with_term b k x) ≡ skeleton b
  skeleton-kept (Do s b) zero x = ap (λ z. Do z (skeleton b)) (blank-step s x)
  skeleton-kept (Do s b) (suc k) x = ap (Do (blank_step s)) (skeleton-kept b k x)
  skeleton-kept (Branch c a b) zero x = refl
  skeleton-kept (Branch c a b) (suc k) x =
      one-of (λ z. skeleton z ≡ skeleton (Branch c a b)) (nat_lt k (count a)) _ _
      (ap (λ z. Branch blank_cond z (skeleton b)) (skeleton-kept a k x))
      (ap (λ z. Branch blank_cond (skeleton a) z) (skeleton-kept b (k - count a) x))
  skeleton-kept (Call d v bs) k x =
      one-of (λ z. skeleton z ≡ skeleton (Call d v bs)) (nat_lt k (length v.words + length v.mems)) _ _
      (ap (λ z. Call d z (arm_skeletons bs)) (blank-values v k x))
      (ap (λ z. Call d (blank_values v) z) (arm-skeletons-kept bs (k - (length v.words + length v.mems)) x))
  skeleton-kept (Again v) k x = ap Again (blank-values v k x)
  skeleton-kept (Leave e v) k x = ap (Leave e) (blank-values v k x)

  pub arm-skeletons-kept : (bs : ArmTrees) (k : ℕ) (x : Term) → arm_skeletons (with_arm_term bs k x) ≡ arm_skeletons bs
  arm-skeletons-kept NoArm k x = refl
  arm-skeletons-kept (Arm b bs) k x =
      one-of (λ z. arm_skeletons z ≡ arm_skeletons (Arm b bs)) (nat_lt k (count b)) _ _
      (ap (λ z. Arm z (arm_skeletons bs)) (skeleton-kept b k x))
      (ap (λ z. Arm (skeleton b) z) (arm-skeletons-kept bs (k - count b) x))

-- ---- one body has the skeleton and the terms

list-one : {A : Type 0} (of : A → Term) (blank : A → A) → ((x y : A) → of x ≡ of y → x ≡ y) → (xs ys : List A) (r q : List Term)
    → map blank xs ≡ map blank ys → map of xs ++ r ≡ map of ys ++ q → (xs ≡ ys) × (r ≡ q)
list-one of blank one [] [] r q e f = (refl, f)
list-one of blank one [] (y ∷ ys) r q e f = absurd (cc)
list-one of blank one (x ∷ xs) [] r q e f = absurd (cc)
list-one of blank one (x ∷ xs) (y ∷ ys) r q e f =
    let h : of x ≡ of y = cc in
    let g : map blank xs ≡ map blank ys = cc in
    let i : map of xs ++ r ≡ map of ys ++ q = cc in
    let m = list-one of blank one xs ys r q g i in
    let n = one x y h in
    ((λ j. n j ∷ m.0 j), m.1)

word-one : (t u : WordTree) → OfWord t ≡ OfWord u → t ≡ u
word-one t u e = cc

mem-one : (m n : MemTree) → OfMem m ≡ OfMem n → m ≡ n
mem-one m n e = cc

values-one : (v w : ValuesTree) (r q : List Term) → blank_values v ≡ blank_values w → value_terms v ++ r ≡ value_terms w ++ q → (v ≡ w) × (r ≡ q)
values-one v w r q e f =
    let m =
    list-one OfWord blank_word word-one v.words w.words (map OfMem v.mems ++ r) (map OfMem w.mems ++ q) (ap (λ (z : ValuesTree). z.words) e)
    (sym (append_assoc (map OfWord v.words) (map OfMem v.mems) r) ∙ f ∙ append_assoc (map OfWord w.words) (map OfMem w.mems) q) in
    let n = list-one OfMem blank_mem mem-one v.mems w.mems r q (ap (λ (z : ValuesTree). z.mems) e) m.1 in
    ((λ j. record { words = m.0 j; mems = n.0 j }), n.1)

step-one : (s t : StepTree) → step_term s ≡ step_term t → s ≡ t
step-one (Bind t) (Bind u) e = cc
step-one (BindMem m) (BindMem n) e = cc
step-one (Need c) (Need d) e = cc
step-one s t e = absurd (cc)

mutual
  body-one : (b c : BodyTree) (r q : List Term) → skeleton b ≡ skeleton c → terms b ++ r ≡ terms c ++ q → (b ≡ c) × (r ≡ q)
  body-one (Do s b) (Do t c) r q e f =
      let h : step_term s ≡ step_term t = cc in
      let g : skeleton b ≡ skeleton c = cc in
      let i : terms b ++ r ≡ terms c ++ q = cc in
      let n = step-one s t h in
      let m = body-one b c r q g i in
      ((λ j. Do (n j) (m.0 j)), m.1)
  body-one (Branch s a b) (Branch t c d) r q e f =
      let n : s ≡ t = cc in
      let g : skeleton a ≡ skeleton c = cc in
      let h : skeleton b ≡ skeleton d = cc in
      let i : (terms a ++ terms b) ++ r ≡ (terms c ++ terms d) ++ q = cc in
      let m = body-one a c (terms b ++ r) (terms d ++ q) g (sym (append_assoc (terms a) (terms b) r) ∙ i ∙ append_assoc (terms c) (terms d) q) in
      let o = body-one b d r q h m.1 in
      ((λ j. Branch (n j) (m.0 j) (o.0 j)), o.1)
  body-one (Call s v bs) (Call t w cs) r q e f =
      let n : s ≡ t = cc in
      let g : blank_values v ≡ blank_values w = cc in
      let h : arm_skeletons bs ≡ arm_skeletons cs = cc in
      let m = values-one v w (arm_terms bs ++ r) (arm_terms cs ++ q) g (sym (append_assoc (value_terms v) (arm_terms bs) r) ∙ f ∙ append_assoc (value_terms w) (arm_terms cs) q) in
      let o = arms-one bs cs r q h m.1 in
      ((λ j. Call (n j) (m.0 j) (o.0 j)), o.1)
  body-one (Again v) (Again w) r q e f =
      let g : blank_values v ≡ blank_values w = cc in
      let m = values-one v w r q g f in
      (ap Again m.0, m.1)
  body-one (Leave s v) (Leave t w) r q e f =
      let n : s ≡ t = cc in
      let g : blank_values v ≡ blank_values w = cc in
      let m = values-one v w r q g f in
      ((λ j. Leave (n j) (m.0 j)), m.1)
  body-one b c r q e f = absurd (cc)

  arms-one : (bs cs : ArmTrees) (r q : List Term) → arm_skeletons bs ≡ arm_skeletons cs → arm_terms bs ++ r ≡ arm_terms cs ++ q → (bs ≡ cs) × (r ≡ q)
  arms-one NoArm NoArm r q e f = (refl, f)
  arms-one (Arm b bs) (Arm c cs) r q e f =
      let g : skeleton b ≡ skeleton c = cc in
      let h : arm_skeletons bs ≡ arm_skeletons cs = cc in
      let m = body-one b c (arm_terms bs ++ r) (arm_terms cs ++ q) g (sym (append_assoc (terms b) (arm_terms bs) r) ∙ f ∙ append_assoc (terms c) (arm_terms cs) q) in
      let o = arms-one bs cs r q h m.1 in
      ((λ j. Arm (m.0 j) (o.0 j)), o.1)
  arms-one bs cs r q e f = absurd (cc)

def-one : (d e : DefTree) → taken_apart d ≡ taken_apart e → d ≡ e
def-one d e same =
    let m =
    body-one d.body e.body [] [] (ap (λ (p : ApartTree). p.skeleton.body) same) (ap (λ (p : ApartTree). p.terms ++ []) same) in
    λ j. record { entry = (same j).skeleton.entry; exits = (same j).skeleton.exits; body = m.0 j }

pub defs-one : (ds es : List DefTree) → map taken_apart ds ≡ map taken_apart es → ds ≡ es
defs-one [] [] e = refl
defs-one [] (y ∷ ys) e = absurd (cc)
defs-one (x ∷ xs) [] e = absurd (cc)
defs-one (x ∷ xs) (y ∷ ys) e =
    let h : taken_apart x ≡ taken_apart y = cc in
    let g : map taken_apart xs ≡ map taken_apart ys = cc in
    let n = def-one x y h in
    let m = defs-one xs ys g in
    λ j. n j ∷ m j

-- A law gives a term that has a text, of one that has: it is no deeper, and its constants are 64-bit words.
use Rattle.std.proofs.Common.{◌≡◌, ℕ, zero, suc, ◌+◌, ◌%◌, ◌^◌, ◌<◌, List, [], ◌∷◌, Some, slice_get, sym, subst, arith}
use Rattle.std.specs.List.{AllByRecursion}
use Rattle.rv_words.specs.Operation.{operation_value, extension_value}
use Rattle.rv_words.specs.declared.operation.Op.{Op}
use Rattle.rv_words.specs.declared.operation.Op.TheVariants.{Add, Sub, Sll, Xor, Srl, Sra, Or, And, Mul, Addw, Subw}
use Rattle.rv_words.specs.declared.extension.Ext.{Ext}
use Rattle.rv_words.specs.declared.extension.Ext.TheVariants.{Sx4}
use Rattle.rv_words.specs.declared.comparison.Cmp.{Cmp}
use Rattle.rv_words.specs.declared.comparison.Cmp.TheVariants.{Eq, Ne, Lt, Ge, Ltu, Geu}
use Rattle.rv_words.proofs.WordLemmas.{operation_small, extension_small}
use Rattle.word_terms.specs.Tree.{WordTree, Const, Var, Bin, Extend, Load, MemTree, MemVar, Store, CondTree, Compare, Neg, Inside}
use Rattle.group_text.specs.TermLimits.{FitsWord, FitsMem, FitsCond}
use Rattle.fun_laws.specs.Laws.{Letters, Law, OfWords, OfConds, laws, law_at, top, LawGives, Term, OfWord, OfMem, OfCond}
use Rattle.fun_laws.specs.Places.{children, with_child, Rewrites}
use Rattle.fun_laws.proofs.LawLemmas.{each-at}

abbrev pub FitsTerm : ℕ → Term → Type 0
FitsTerm d (OfWord t) = FitsWord d t
FitsTerm d (OfMem m) = FitsMem d m
FitsTerm d (OfCond c) = FitsCond d c

-- ---- one deeper

mutual
  up-word : (d : ℕ) (t : WordTree) → FitsWord d t → FitsWord (suc d) t
  up-word zero t h = absurd h
  up-word (suc d) (Const n) h = h
  up-word (suc d) (Var i) h = h
  up-word (suc d) (Bin op a b) h = (up-word d a h.0, up-word d b h.1)
  up-word (suc d) (Extend ext a) h = up-word d a h
  up-word (suc d) (Load width m a) h = (up-mem d m h.0, up-word d a h.1)

  up-mem : (d : ℕ) (m : MemTree) → FitsMem d m → FitsMem (suc d) m
  up-mem zero m h = absurd h
  up-mem (suc d) (MemVar i) h = h
  up-mem (suc d) (Store width m a v) h = (up-mem d m h.0, up-word d a h.1, up-word d v h.2)

up-cond : (d : ℕ) (c : CondTree) → FitsCond d c → FitsCond (suc d) c
up-cond zero c h = absurd h
up-cond (suc d) (Compare cmp a b) h = (up-word d a h.0, up-word d b h.1)
up-cond (suc d) (Neg c) h = up-cond d c h
up-cond (suc d) (Inside width m a) h = (up-mem d m h.0, up-word d a h.1)

-- ---- laws

first : (d : ℕ) (op : Op) (a b : WordTree) → FitsWord d (Bin op a b) → FitsWord d a
first zero op a b h = absurd h
first (suc d) op a b h = up-word d a h.0

second : (d : ℕ) (op : Op) (a b : WordTree) → FitsWord d (Bin op a b) → FitsWord d b
second zero op a b h = absurd h
second (suc d) op a b h = up-word d b h.1

inner : (d : ℕ) (ext : Ext) (a : WordTree) → FitsWord d (Extend ext a) → FitsWord d a
inner zero ext a h = absurd h
inner (suc d) ext a h = up-word d a h

constant : (d : ℕ) (t : WordTree) (n : ℕ) → n < 2 ^ 64 → FitsWord d t → FitsWord d (Const n)
constant zero t n small h = absurd h
constant (suc d) t n small h = small

small : (d n : ℕ) → FitsWord d (Const n) → n < 2 ^ 64
small zero n h = absurd h
small (suc d) n h = h

folded : (d : ℕ) (op : Op) (c k : ℕ) → FitsWord d (Bin op (Const c) (Const k)) → FitsWord d (Const (operation_value op c k))
folded zero op c k h = absurd h
folded (suc d) op c k h = operation_small op c k (small d c h.0) (small d k h.1)

added : (d : ℕ) (x : WordTree) (c k : ℕ) → FitsWord d (Bin Add (Bin Add x (Const c)) (Const k)) → FitsWord d (Bin Add x (Const ((c + k) % 2 ^ 64)))
added zero x c k h = absurd h
added (suc zero) x c k h = absurd h.0
added (suc (suc d)) x c k h = (up-word d x h.0.0, omega arith)

extended : (d : ℕ) (op : Op) (x y : WordTree) → FitsWord d (Bin op x y) → FitsWord d (Extend Sx4 x)
extended zero op x y h = absurd h
extended (suc d) op x y h = h.0

turned : (d c : ℕ) (x : WordTree) → FitsWord d (Bin Add (Const c) x) → FitsWord d (Bin Add x (Const c))
turned zero c x h = absurd h
turned (suc d) c x h = (h.1, h.0)

compared : (d : ℕ) (from to : Cmp) (x y : WordTree) → FitsCond d (Neg (Compare from x y)) → FitsCond d (Compare to x y)
compared zero from to x y h = absurd h
compared (suc zero) from to x y h = absurd h
compared (suc (suc d)) from to x y h = (up-word d x h.0, up-word d y h.1)

twice : (d : ℕ) (c : CondTree) → FitsCond d (Neg (Neg c)) → FitsCond d c
twice zero c h = absurd h
twice (suc zero) c h = absurd h
twice (suc (suc d)) c h = up-cond (suc d) c (up-cond d c h)

abbrev Fits : Law → Type 0
Fits (OfWords asks left right) = (d : ℕ) (l : Letters) → FitsWord d (left l) → FitsWord d (right l)
Fits (OfConds left right) = (d : ℕ) (l : Letters) → FitsCond d (left l) → FitsCond d (right l)

fit_rows : AllByRecursion Fits laws
fit_rows = (
  λ d l h. first d Add l.x (Const 0) h,
  (
    λ d l h. second d Add (Const 0) l.x h,
    (
      λ d l h. first d Sub l.x (Const 0) h,
      (
        λ d l h. first d Or l.x (Const 0) h,
        (
          λ d l h. first d Xor l.x (Const 0) h,
          (
            λ d l h. first d Mul l.x (Const 1) h,
            (
              λ d l h. first d And l.x (Const top) h,
              (
                λ d l h. constant d (Bin And l.x (Const 0)) 0 (omega arith) h,
                (
                  λ d l h. constant d (Bin Mul l.x (Const 0)) 0 (omega arith) h,
                  (
                    λ d l h. constant d (Bin Xor l.x l.x) 0 (omega arith) h,
                    (
                      λ d l h. constant d (Bin Sub l.x l.x) 0 (omega arith) h,
                      (
                        λ d l h. first d And l.x l.x h,
                        (
                          λ d l h. first d Or l.x l.x h,
                          (
                            λ d l h. folded d l.op l.c l.d h,
                            (
                              λ d l h. constant d (Extend l.ext (Const l.c)) (extension_value l.ext l.c) (extension_small l.ext l.c) h,
                              (
                                λ d l h. added d l.x l.c l.d h,
                                (
                                  λ d l h. first d Sll l.x (Const 0) h,
                                  (
                                    λ d l h. first d Srl l.x (Const 0) h,
                                    (
                                      λ d l h. first d Sra l.x (Const 0) h,
                                      (
                                        λ d l h. inner d Sx4 (Extend Sx4 l.x) h,
                                        (
                                          λ d l h. inner d Sx4 (Bin Addw l.x l.y) h,
                                          (
                                            λ d l h. inner d Sx4 (Bin Subw l.x l.y) h,
                                            (
                                              λ d l h. extended d Addw l.x (Const 0) h,
                                              (
                                                λ d l h. turned d l.c l.x h,
                                                (
                                                  λ d l h. compared d Eq Ne l.x l.y h,
                                                  (
                                                    λ d l h. compared d Ne Eq l.x l.y h,
                                                    (
                                                      λ d l h. compared d Lt Ge l.x l.y h,
                                                      (
                                                        λ d l h. compared d Ge Lt l.x l.y h,
                                                        (
                                                          λ d l h. compared d Ltu Geu l.x l.y h,
                                                          (
                                                            λ d l h. compared d Geu Ltu l.x l.y h,
                                                            (
                                                              λ d l h. twice d l.b h,
                                                              tt,
                                                            ),
                                                          ),
                                                        ),
                                                      ),
                                                    ),
                                                  ),
                                                ),
                                              ),
                                            ),
                                          ),
                                        ),
                                      ),
                                    ),
                                  ),
                                ),
                              ),
                            ),
                          ),
                        ),
                      ),
                    ),
                  ),
                ),
              ),
            ),
          ),
        ),
      ),
    ),
  ),
)

fit_number : (n : ℕ) (law : Law) → law_at n ≡ Some law → Fits law
fit_number zero law is = absurd (cc)
fit_number (suc n) law is = each-at Fits laws n law fit_rows is

given_fits : (law : Law) (t u : Term) (d : ℕ) → Fits law → LawGives law t u → FitsTerm d t → FitsTerm d u
given_fits (OfWords asks left right) (OfWord t) (OfWord u) d f (l, a, p, q) h = subst (FitsWord d) (sym q) (f d l (subst (FitsWord d) p h))
given_fits (OfConds left right) (OfCond t) (OfCond u) d f (l, p, q) h = subst (FitsCond d) (sym q) (f d l (subst (FitsCond d) p h))
given_fits (OfWords asks left right) (OfMem m) u d f g h = absurd g
given_fits (OfWords asks left right) (OfCond c) u d f g h = absurd g
given_fits (OfWords asks left right) (OfWord t) (OfMem m) d f g h = absurd g
given_fits (OfWords asks left right) (OfWord t) (OfCond c) d f g h = absurd g
given_fits (OfConds left right) (OfWord t) u d f g h = absurd g
given_fits (OfConds left right) (OfMem m) u d f g h = absurd g
given_fits (OfConds left right) (OfCond c) (OfWord t) d f g h = absurd g
given_fits (OfConds left right) (OfCond c) (OfMem m) d f g h = absurd g

-- ---- places

-- at any depth the second fits where the first does
abbrev FitsToo : Term → Term → Type 0
FitsToo s v = (d : ℕ) → FitsTerm d s → FitsTerm d v

of : (s t v : Term) → Some s ≡ Some t → FitsToo t v → FitsToo s v
of s t v is a = let e : t ≡ s = cc in subst (λ x. FitsToo x v) e a

child : (t : Term) (k : ℕ) (s v : Term) (d : ℕ) → slice_get (children t) k ≡ Some s → FitsToo s v → FitsTerm d t → FitsTerm d (with_child t k v)
child (OfWord t) k s v zero is a h = absurd h
child (OfMem m) k s v zero is a h = absurd h
child (OfCond c) k s v zero is a h = absurd h
child (OfWord (Bin op x y)) zero s (OfWord z) (suc d) is a h = (of (OfWord x) s (OfWord z) is a d h.0, h.1)
child (OfWord (Bin op x y)) (suc zero) s (OfWord z) (suc d) is a h = (h.0, of (OfWord y) s (OfWord z) is a d h.1)
child (OfWord (Bin op x y)) (suc (suc k)) s v (suc d) is a h = absurd (cc)
child (OfWord (Extend ext x)) zero s (OfWord z) (suc d) is a h = of (OfWord x) s (OfWord z) is a d h
child (OfWord (Extend ext x)) (suc k) s v (suc d) is a h = absurd (cc)
child (OfWord (Load width m x)) zero s (OfMem z) (suc d) is a h = (of (OfMem m) s (OfMem z) is a d h.0, h.1)
child (OfWord (Load width m x)) (suc zero) s (OfWord z) (suc d) is a h = (h.0, of (OfWord x) s (OfWord z) is a d h.1)
child (OfWord (Load width m x)) (suc (suc k)) s v (suc d) is a h = absurd (cc)
child (OfMem (Store width m x y)) zero s (OfMem z) (suc d) is a h = (of (OfMem m) s (OfMem z) is a d h.0, h.1, h.2)
child (OfMem (Store width m x y)) (suc zero) s (OfWord z) (suc d) is a h = (h.0, of (OfWord x) s (OfWord z) is a d h.1, h.2)
child (OfMem (Store width m x y)) (suc (suc zero)) s (OfWord z) (suc d) is a h = (h.0, h.1, of (OfWord y) s (OfWord z) is a d h.2)
child (OfMem (Store width m x y)) (suc (suc (suc k))) s v (suc d) is a h = absurd (cc)
child (OfCond (Compare cmp x y)) zero s (OfWord z) (suc d) is a h = (of (OfWord x) s (OfWord z) is a d h.0, h.1)
child (OfCond (Compare cmp x y)) (suc zero) s (OfWord z) (suc d) is a h = (h.0, of (OfWord y) s (OfWord z) is a d h.1)
child (OfCond (Compare cmp x y)) (suc (suc k)) s v (suc d) is a h = absurd (cc)
child (OfCond (Neg c)) zero s (OfCond z) (suc d) is a h = of (OfCond c) s (OfCond z) is a d h
child (OfCond (Neg c)) (suc k) s v (suc d) is a h = absurd (cc)
child (OfCond (Inside width m x)) zero s (OfMem z) (suc d) is a h = (of (OfMem m) s (OfMem z) is a d h.0, h.1)
child (OfCond (Inside width m x)) (suc zero) s (OfWord z) (suc d) is a h = (h.0, of (OfWord x) s (OfWord z) is a d h.1)
child (OfCond (Inside width m x)) (suc (suc k)) s v (suc d) is a h = absurd (cc)
child t k s v (suc d) is a h = h

rewritten : (law : Law) → Fits law → (place : List ℕ) (t u : Term) → Rewrites law place t u → FitsToo t u
rewritten law f [] t u g d h = given_fits law t u d f g h
rewritten law f (k ∷ ks) t u (s, v, at, r, e) d h = subst (FitsTerm d) (sym e) (child t k s v d at (rewritten law f ks s v r) h)

pub rewrites_fit : (n : ℕ) (law : Law) (place : List ℕ) (t u : Term) (d : ℕ) → law_at n ≡ Some law → Rewrites law place t u → FitsTerm d t → FitsTerm d u
rewrites_fit n law place t u d is r h = rewritten law (fit_number n law is) place t u r d h

-- ---- numbers of children are digits

few : (t : Term) (k : ℕ) (s : Term) → slice_get (children t) k ≡ Some s → k < 10
few (OfWord (Const n)) k s is = absurd (cc)
few (OfWord (Var i)) k s is = absurd (cc)
few (OfWord (Bin op a b)) zero s is = omega arith
few (OfWord (Bin op a b)) (suc zero) s is = omega arith
few (OfWord (Bin op a b)) (suc (suc k)) s is = absurd (cc)
few (OfWord (Extend ext a)) zero s is = omega arith
few (OfWord (Extend ext a)) (suc k) s is = absurd (cc)
few (OfWord (Load width m a)) zero s is = omega arith
few (OfWord (Load width m a)) (suc zero) s is = omega arith
few (OfWord (Load width m a)) (suc (suc k)) s is = absurd (cc)
few (OfMem (MemVar i)) k s is = absurd (cc)
few (OfMem (Store width m a v)) zero s is = omega arith
few (OfMem (Store width m a v)) (suc zero) s is = omega arith
few (OfMem (Store width m a v)) (suc (suc zero)) s is = omega arith
few (OfMem (Store width m a v)) (suc (suc (suc k))) s is = absurd (cc)
few (OfCond (Compare cmp a b)) zero s is = omega arith
few (OfCond (Compare cmp a b)) (suc zero) s is = omega arith
few (OfCond (Compare cmp a b)) (suc (suc k)) s is = absurd (cc)
few (OfCond (Neg c)) zero s is = omega arith
few (OfCond (Neg c)) (suc k) s is = absurd (cc)
few (OfCond (Inside width m a)) zero s is = omega arith
few (OfCond (Inside width m a)) (suc zero) s is = omega arith
few (OfCond (Inside width m a)) (suc (suc k)) s is = absurd (cc)

pub place_fits : (law : Law) (place : List ℕ) (t u : Term) → Rewrites law place t u → AllByRecursion (λ k. k < 10) place
place_fits law [] t u r = tt
place_fits law (k ∷ ks) t u (s, v, at, r, e) = (few t k s at, place_fits law ks s v r)

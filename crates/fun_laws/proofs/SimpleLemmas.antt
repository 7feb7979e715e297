-- Terms that no law rewrites, by their children and their root.
use Rattle.std.proofs.Common.{◌≡◌, ℕ, zero, suc, ◌+◌, ◌%◌, ◌^◌, ◌<◌, [], ◌∷◌, Some, slice_get, refl, sym, subst, ⊎_elim, arith}
use Rattle.std.proofs.lemmas.Bool.{cases_eq}
use Rattle.std.proofs.lemmas.Option.{slice_get_within}
use Rattle.std.specs.List.{AllByRecursion}
use Rattle.rv_words.specs.Operation.{operation_value, extension_value}
use Rattle.rv_words.specs.declared.operation.Op.{Op}
use Rattle.rv_words.specs.declared.operation.Op.TheVariants.{Add, Sub, Sll, Xor, Srl, Sra, Or, And, Mul, Addw, Subw}
use Rattle.rv_words.specs.declared.extension.Ext.{Ext}
use Rattle.rv_words.specs.declared.extension.Ext.TheVariants.{Sx4}
use Rattle.rv_words.specs.declared.width.Width.{Width}
use Rattle.rv_words.specs.declared.comparison.Cmp.{Cmp}
use Rattle.rv_words.specs.declared.comparison.Cmp.TheVariants.{Eq, Ne, Lt, Ge, Ltu, Geu}
use Rattle.word_terms.specs.Tree.{WordTree, Const, Var, Bin, Extend, Load, MemTree, MemVar, Store, CondTree, Compare, Neg, Inside}
use Rattle.fun_laws.specs.Laws.{Letters, Law, OfWords, OfConds, laws, law_at, top, LawGives, Term, OfWord, OfMem, OfCond}
use Rattle.fun_laws.specs.Places.{children, with_child}
use Rattle.fun_laws.specs.Simple.{IsSimple}
use Rattle.fun_laws.specs.inner.Steps.{GivesBy, HasSimpleChildren, IsFree, IsSettled}
use Rattle.fun_laws.proofs.LawLemmas.{each-at}
use Rattle.fun_laws.proofs.Weights.{not_lightest}

pub simple_made : (t : Term) → HasSimpleChildren t → IsSettled t → IsSimple t
simple_made t h s n law is [] u r = s n u (law, is, r)
simple_made t h s n law is (k ∷ ks) u (x, v, at, r, e) = h k x at n law is ks v r

below : (t : Term) → IsSimple t → HasSimpleChildren t
below t s j x at n law is place v r = s n law is (j ∷ place) (with_child t j v) (x, v, at, r, refl)

is-simple : (s t : Term) → Some s ≡ Some t → IsSimple s → IsSimple t
is-simple s t e h = let f : s ≡ t = cc in subst IsSimple f h

-- ---- terms by their children

pub const_children : (n : ℕ) → HasSimpleChildren (OfWord (Const n))
const_children n j s at = absurd (cc)

pub var_children : (i : ℕ) → HasSimpleChildren (OfWord (Var i))
var_children i j s at = absurd (cc)

pub bin_children : (op : Op) (a b : WordTree) → IsSimple (OfWord a) → IsSimple (OfWord b) → HasSimpleChildren (OfWord (Bin op a b))
bin_children op a b f g zero s at = is-simple (OfWord a) s at f
bin_children op a b f g (suc zero) s at = is-simple (OfWord b) s at g
bin_children op a b f g (suc (suc j)) s at = absurd (cc)

pub extend_children : (ext : Ext) (a : WordTree) → IsSimple (OfWord a) → HasSimpleChildren (OfWord (Extend ext a))
extend_children ext a f zero s at = is-simple (OfWord a) s at f
extend_children ext a f (suc j) s at = absurd (cc)

pub load_children : (w : Width) (m : MemTree) (a : WordTree) → IsSimple (OfMem m) → IsSimple (OfWord a) → HasSimpleChildren (OfWord (Load w m a))
load_children w m a f g zero s at = is-simple (OfMem m) s at f
load_children w m a f g (suc zero) s at = is-simple (OfWord a) s at g
load_children w m a f g (suc (suc j)) s at = absurd (cc)

store_children : (w : Width) (m : MemTree) (a v : WordTree) → IsSimple (OfMem m) → IsSimple (OfWord a) → IsSimple (OfWord v) → HasSimpleChildren (OfMem (Store w m a v))
store_children w m a v f g h zero s at = is-simple (OfMem m) s at f
store_children w m a v f g h (suc zero) s at = is-simple (OfWord a) s at g
store_children w m a v f g h (suc (suc zero)) s at = is-simple (OfWord v) s at h
store_children w m a v f g h (suc (suc (suc j))) s at = absurd (cc)

pub compare_children : (cmp : Cmp) (a b : WordTree) → IsSimple (OfWord a) → IsSimple (OfWord b) → HasSimpleChildren (OfCond (Compare cmp a b))
compare_children cmp a b f g zero s at = is-simple (OfWord a) s at f
compare_children cmp a b f g (suc zero) s at = is-simple (OfWord b) s at g
compare_children cmp a b f g (suc (suc j)) s at = absurd (cc)

pub neg_children : (c : CondTree) → IsSimple (OfCond c) → HasSimpleChildren (OfCond (Neg c))
neg_children c f zero s at = is-simple (OfCond c) s at f
neg_children c f (suc j) s at = absurd (cc)

pub inside_children : (w : Width) (m : MemTree) (a : WordTree) → IsSimple (OfMem m) → IsSimple (OfWord a) → HasSimpleChildren (OfCond (Inside w m a))
inside_children w m a f g zero s at = is-simple (OfMem m) s at f
inside_children w m a f g (suc zero) s at = is-simple (OfWord a) s at g
inside_children w m a f g (suc (suc j)) s at = absurd (cc)

-- ---- memories, of which there are no laws

no_mem_law : (law : Law) (m : MemTree) (u : Term) → LawGives law (OfMem m) u → ⊥
no_mem_law (OfWords asks left right) m u g = g
no_mem_law (OfConds left right) m u g = g

mem_made : (m : MemTree) → HasSimpleChildren (OfMem m) → IsSimple (OfMem m)
mem_made m h = simple_made (OfMem m) h (λ n u g. no_mem_law g.0 m u g.2)

pub variable_simple : (i : ℕ) → IsSimple (OfMem (MemVar i))
variable_simple i = mem_made (MemVar i) (λ j s at. absurd (cc))

pub store_simple : (w : Width) (m : MemTree) (a v : WordTree) → IsSimple (OfMem m) → IsSimple (OfWord a) → IsSimple (OfWord v) → IsSimple (OfMem (Store w m a v))
store_simple w m a v f g h = mem_made (Store w m a v) (store_children w m a v f g h)

-- ---- what a law gives has simple children, if what it is given of has

const-simple : (n : ℕ) → IsSimple (OfWord (Const n))
const-simple n = simple_made (OfWord (Const n)) (const_children n) (λ k u g. absurd (omega (arith, not_lightest k (Const n) u g)))

abbrev Keeps : Law → Type 0
Keeps (OfWords asks left right) = (l : Letters) → HasSimpleChildren (OfWord (left l)) → HasSimpleChildren (OfWord (right l))
Keeps (OfConds left right) = (l : Letters) → HasSimpleChildren (OfCond (left l)) → HasSimpleChildren (OfCond (right l))

first : (l : Letters) (t : Term) → HasSimpleChildren t → slice_get (children t) 0 ≡ Some (OfWord l.x) → HasSimpleChildren (OfWord l.x)
first l t h at = below (OfWord l.x) (h 0 (OfWord l.x) at)

compared : (from to : Cmp) (l : Letters) → HasSimpleChildren (OfCond (Neg (Compare from l.x l.y))) → HasSimpleChildren (OfCond (Compare to l.x l.y))
compared from to l h =
    let s = below (OfCond (Compare from l.x l.y)) (h 0 (OfCond (Compare from l.x l.y)) refl) in
    compare_children to l.x l.y (s 0 (OfWord l.x) refl) (s 1 (OfWord l.y) refl)

keep_rows : AllByRecursion Keeps laws
keep_rows = (
  λ l h. first l (OfWord (Bin Add l.x (Const 0))) h refl,
  (
    λ l h. below (OfWord l.x) (h 1 (OfWord l.x) refl),
    (
      λ l h. first l (OfWord (Bin Sub l.x (Const 0))) h refl,
      (
        λ l h. first l (OfWord (Bin Or l.x (Const 0))) h refl,
        (
          λ l h. first l (OfWord (Bin Xor l.x (Const 0))) h refl,
          (
            λ l h. first l (OfWord (Bin Mul l.x (Const 1))) h refl,
            (
              λ l h. first l (OfWord (Bin And l.x (Const top))) h refl,
              (
                λ l h. const_children 0,
                (
                  λ l h. const_children 0,
                  (
                    λ l h. const_children 0,
                    (
                      λ l h. const_children 0,
                      (
                        λ l h. first l (OfWord (Bin And l.x l.x)) h refl,
                        (
                          λ l h. first l (OfWord (Bin Or l.x l.x)) h refl,
                          (
                            λ l h. const_children (operation_value l.op l.c l.d),
                            (
                              λ l h. const_children (extension_value l.ext l.c),
                              (
                                λ l h. bin_children Add l.x (Const ((l.c + l.d) % 2 ^ 64)) (below (OfWord (Bin Add l.x (Const l.c))) (h 0 (OfWord (Bin Add l.x (Const l.c))) refl) 0 (OfWord l.x) refl) (const-simple ((l.c + l.d) % 2 ^ 64)),
                                (
                                  λ l h. first l (OfWord (Bin Sll l.x (Const 0))) h refl,
                                  (
                                    λ l h. first l (OfWord (Bin Srl l.x (Const 0))) h refl,
                                    (
                                      λ l h. first l (OfWord (Bin Sra l.x (Const 0))) h refl,
                                      (
                                        λ l h. below (OfWord (Extend Sx4 l.x)) (h 0 (OfWord (Extend Sx4 l.x)) refl),
                                        (
                                          λ l h. below (OfWord (Bin Addw l.x l.y)) (h 0 (OfWord (Bin Addw l.x l.y)) refl),
                                          (
                                            λ l h. below (OfWord (Bin Subw l.x l.y)) (h 0 (OfWord (Bin Subw l.x l.y)) refl),
                                            (
                                              λ l h. extend_children Sx4 l.x (h 0 (OfWord l.x) refl),
                                              (
                                                λ l h. bin_children Add l.x (Const l.c) (h 1 (OfWord l.x) refl) (h 0 (OfWord (Const l.c)) refl),
                                                (
                                                  λ l h. compared Eq Ne l h,
                                                  (
                                                    λ l h. compared Ne Eq l h,
                                                    (
                                                      λ l h. compared Lt Ge l h,
                                                      (
                                                        λ l h. compared Ge Lt l h,
                                                        (
                                                          λ l h. compared Ltu Geu l h,
                                                          (
                                                            λ l h. compared Geu Ltu l h,
                                                            (
                                                              λ l h. below (OfCond l.b) (below (OfCond (Neg l.b)) (h 0 (OfCond (Neg l.b)) refl) 0 (OfCond l.b) refl),
                                                              tt,
                                                            ),
                                                          ),
                                                        ),
                                                      ),
                                                    ),
                                                  ),
                                                ),
                                              ),
                                            ),
                                          ),
                                        ),
                                      ),
                                    ),
                                  ),
                                ),
                              ),
                            ),
                          ),
                        ),
                      ),
                    ),
                  ),
                ),
              ),
            ),
          ),
        ),
      ),
    ),
  ),
)

keep_number : (n : ℕ) (law : Law) → law_at n ≡ Some law → Keeps law
keep_number zero law is = absurd (cc)
keep_number (suc n) law is = each-at Keeps laws n law keep_rows is

kept : (law : Law) (t u : WordTree) → Keeps law → HasSimpleChildren (OfWord t) → LawGives law (OfWord t) (OfWord u) → HasSimpleChildren (OfWord u)
kept (OfWords asks left right) t u k h (l, a, p, q) =
    subst (λ v. HasSimpleChildren (OfWord v)) (sym q) (k l (subst (λ v. HasSimpleChildren (OfWord v)) p h))
kept (OfConds left right) t u k h g = absurd g

kept-cond : (law : Law) (c d : CondTree) → Keeps law → HasSimpleChildren (OfCond c) → LawGives law (OfCond c) (OfCond d) → HasSimpleChildren (OfCond d)
kept-cond (OfWords asks left right) c d k h g = absurd g
kept-cond (OfConds left right) c d k h (l, p, q) =
    subst (λ v. HasSimpleChildren (OfCond v)) (sym q) (k l (subst (λ v. HasSimpleChildren (OfCond v)) p h))

pub given_children : (n : ℕ) (t u v : WordTree) → HasSimpleChildren (OfWord t) → GivesBy n (OfWord t) (OfWord u) → v ≡ u → HasSimpleChildren (OfWord v)
given_children n t u v h (law, is, g) e = subst (λ z. HasSimpleChildren (OfWord z)) (sym e) (kept law t u (keep_number n law is) h g)

pub given_cond_children : (n : ℕ) (c d e : CondTree) → HasSimpleChildren (OfCond c) → GivesBy n (OfCond c) (OfCond d) → e ≡ d → HasSimpleChildren (OfCond e)
given_cond_children n c d e h (law, is, g) f = subst (λ z. HasSimpleChildren (OfCond z)) (sym f) (kept-cond law c d (keep_number n law is) h g)

-- ---- law after law

pub free_more : (k : ℕ) (t : Term) → ((n : ℕ) → n < k → IsFree n t) → IsFree k t → (n : ℕ) → n < k + 1 → IsFree n t
free_more k t before here n h = ⊎_elim (λ (e : n ≡ k). subst (λ m. IsFree m t) (sym e) here) (λ apart. before n (omega (arith, h, apart))) (cases_eq n k)

-- there are 31 laws
pub all_free : (t : Term) → ((n : ℕ) → n < 32 → IsFree n t) → IsSettled t
all_free t before zero u g = before 0 (omega arith) u g
all_free t before (suc n) u (law, is, g) = let h = slice_get_within laws n law is in before (suc n) (omega (arith, h)) u (law, is, g)

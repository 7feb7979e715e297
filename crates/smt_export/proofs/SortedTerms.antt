-- Terms' expressions have their sorts.
use Rattle.std.proofs.Common.{◌≡◌, ℕ, zero, suc, ◌+◌, ◌<◌, ◌≤◌, ◌^◌, Bool, true, false, cond, nat_eq, List, [], ◌∷◌, ◌++◌, codes, Option, Some, None, map, length, refl, ◌∙◌, arith}
use Rattle.std.specs.List.{AllByRecursion}
use Rattle.std.specs.Fmt.{decimal}
use Rattle.std.specs.Str.{bytes_eq}
use Rattle.std.proofs.lemmas.Bool.{lt-ltb}
use Rattle.std.proofs.lemmas.Bool.Decides.{nat_tests}
use Rattle.rv_words.specs.declared.comparison.Cmp.{Cmp}
use Rattle.rv_words.specs.declared.comparison.Cmp.TheVariants.{Eq, Ne, Lt, Ge, Ltu, Geu}
use Rattle.word_terms.specs.Tree.{WordTree, Const, Var, Bin, Extend, Load, MemTree, MemVar, Store, CondTree, Compare, Neg, Inside}
use Rattle.word_terms.specs.Scope.{WordInScope, MemInScope, CondInScope, WordInRange, MemInRange, CondInRange}
use Rattle.smt_terms.specs.declared.sort.Sort.{Sort}
use Rattle.smt_terms.specs.declared.sort.Sort.TheVariants as sort
use Rattle.smt_terms.specs.Expression.{Expr, Atom, exprs, word}
use Rattle.smt_terms.specs.Operators.{truth_rule, vectors_rule, equal_rule, truth}
use Rattle.smt_terms.specs.Meaning.{bind}
use Rattle.smt_terms.specs.Sorts.{Rules, Sorts, atom_sort, literal_sort_of, applied_sort, sort_of, sorts_of, sorts_fit}
use Rattle.smt_terms.proofs.Numerals.{numeral-decimal}
use Rattle.smt_export.specs.Told.{word_name, mem_name, dom_name, word_params, mem_params}
use Rattle.smt_terms.specs.Functions.{op_name, ext_name, load_name, store_name, inside_name}
use Rattle.smt_terms.specs.Knowing.{word_sort, bytes_sort, domain_sort, KnowsRules}
use Rattle.smt_export.specs.Terms.{word_expr, mem_expr, dom_expr, compare_expr, cond_expr}
use Rattle.smt_export.specs.Bodies.{mem_args, exit_number}
use Rattle.smt_export.specs.inner.Sorting.{InSort}
use Rattle.smt_export.proofs.Names.{decimals_same}

pub atom-sort : (fs : Rules) (s : Sorts) (name : List ℕ) (r : Sort) → s name ≡ Some r → sort_of fs s (Atom name) ≡ Some r
atom-sort fs s name r is = λ j. atom_sort (is j) (fs name) name

pub word-sort : (fs : Rules) (s : Sorts) (n : ℕ) → n < 2 ^ 64 → sort_of fs s (word n) ≡ word_sort
word-sort fs s n h = (λ j. literal_sort_of (numeral-decimal n h j) (Some 64)) ∙ (λ j. cond (lt-ltb n (2 ^ 64) h j) word_sort None)

pub number-sort : (fs : Rules) (s : Sorts) (n : ℕ) → n < 2 ^ 32 → sort_of fs s (exit_number n) ≡ Some (sort.Bits 32)
number-sort fs s n h = (λ j. literal_sort_of (numeral-decimal n (omega arith) j) (Some 32)) ∙ (λ j. cond (lt-ltb n (2 ^ 32) h j) (Some (sort.Bits 32)) None)

pub true-sort : (fs : Rules) (s : Sorts) → fs (codes "true") ≡ None → s (codes "true") ≡ None → sort_of fs s (Atom (codes "true")) ≡ Some sort.Bool
true-sort fs s f v = λ j. atom_sort (v j) (f j) (codes "true")

-- ---- a further variable

either : (t : Bool) (i k : ℕ) (r : Sort) (o : Option Sort) → i < k + 1 → nat_eq i k ≡ t → (i < k → o ≡ Some r) → cond t (Some r) o ≡ Some r
either true i k r o lt e h = refl
either false i k r o lt e h = let f : i < k = grind (arith, nat_tests) in h f

any : (t : Bool) (r : Sort) (o : Option Sort) → o ≡ Some r → cond t (Some r) o ≡ Some r
any true r o is = refl
any false r o is = is

module _ (n m : ℕ) (s : Sorts) (t : InSort n m s) where
  -- the name of the array of bytes alone
  pub sorted-bytes : InSort n m (bind s (mem_name m) (sort.Array 8))
  sorted-bytes = record {
    words = λ i lt. t.words i lt;
    bytes = λ i lt. any (bytes_eq (decimal i) (decimal m)) (sort.Array 8) (s (mem_name i)) (t.bytes i lt);
    domains = λ i lt. t.domains i lt;
    truth = t.truth;
    functions = t.functions;
  }

  pub sorted-less : (i j : ℕ) → i ≤ n → j ≤ m → InSort i j s
  sorted-less i j h l = record {
    words = λ k lt. t.words k (omega (arith, h, lt));
    bytes = λ k lt. t.bytes k (omega (arith, l, lt));
    domains = λ k lt. t.domains k (omega (arith, l, lt));
    truth = t.truth;
    functions = t.functions;
  }

  pub sorted-word : n < 2 ^ 64 → InSort (n + 1) m (bind s (word_name n) (sort.Bits 64))
  sorted-word small = record {
    words = λ i lt. (λ j. cond (decimals_same i n (omega (arith, lt, small)) small j) word_sort (s (word_name i))) ∙ either (nat_eq i n) i n (sort.Bits 64) (s (word_name i)) lt refl (t.words i);
    bytes = λ i lt. t.bytes i lt;
    domains = λ i lt. t.domains i lt;
    truth = t.truth;
    functions = t.functions;
  }

  pub sorted-mem : m < 2 ^ 64 → InSort n (m + 1) (bind (bind s (mem_name m) (sort.Array 8)) (dom_name m) (sort.Array 1))
  sorted-mem small = record {
    words = λ i lt. t.words i lt;
    bytes = λ i lt. (λ j. cond (decimals_same i m (omega (arith, lt, small)) small j) bytes_sort (s (mem_name i))) ∙ either (nat_eq i m) i m (sort.Array 8) (s (mem_name i)) lt refl (t.bytes i);
    domains = λ i lt. (λ j. cond (decimals_same i m (omega (arith, lt, small)) small j) domain_sort (s (dom_name i))) ∙ either (nat_eq i m) i m (sort.Array 1) (s (dom_name i)) lt refl (t.domains i);
    truth = t.truth;
    functions = t.functions;
  }

-- ---- terms

module _ (fs : Rules) (k : KnowsRules fs) (n m : ℕ) (s : Sorts) (t : InSort n m s) where
  pub dom_expr-sort : (x : MemTree) → MemInScope x n m → sort_of fs s (dom_expr x) ≡ domain_sort
  dom_expr-sort (MemVar i) scope = atom-sort fs s (dom_name i) (sort.Array 1) (t.domains i scope)
  dom_expr-sort (Store width x a v) scope = dom_expr-sort x scope.0

  mutual
    pub word_expr-sort : (x : WordTree) → WordInScope x n m → WordInRange x → sort_of fs s (word_expr x) ≡ word_sort
    word_expr-sort (Const c) scope range = word-sort fs s c range
    word_expr-sort (Var i) scope range = atom-sort fs s (word_name i) (sort.Bits 64) (t.words i scope)
    word_expr-sort (Bin op a b) scope range =
        (λ j. applied_sort fs (op_name op) (word_expr-sort a scope.0 range.0 j ∷ word_expr-sort b scope.1 range.1 j ∷ [])) ∙ k.operation op
    word_expr-sort (Extend ext a) scope range = (λ j. applied_sort fs (ext_name ext) (word_expr-sort a scope range j ∷ [])) ∙ k.extension ext
    word_expr-sort (Load width x a) scope range =
        (λ j. applied_sort fs (load_name width) (mem_expr-sort x scope.0 range.0 j ∷ dom_expr-sort x scope.0 j ∷ word_expr-sort a scope.1 range.1 j ∷ [])) ∙ k.loads width

    pub mem_expr-sort : (x : MemTree) → MemInScope x n m → MemInRange x → sort_of fs s (mem_expr x) ≡ bytes_sort
    mem_expr-sort (MemVar i) scope range = atom-sort fs s (mem_name i) (sort.Array 8) (t.bytes i scope)
    mem_expr-sort (Store width x a v) scope range =
        (λ j. applied_sort fs (store_name width) (mem_expr-sort x scope.0 range.0 j ∷ word_expr-sort a scope.1 range.1 j ∷ word_expr-sort v scope.2 range.2 j ∷ [])) ∙ k.stores width

  compared : (cmp : Cmp) (x y : Expr) → sort_of fs s x ≡ word_sort → sort_of fs s y ≡ word_sort → sort_of fs s (compare_expr cmp x y) ≡ Some sort.Bool
  compared Eq x y p q = λ j. equal_rule (p j ∷ q j ∷ [])
  compared Ne x y p q = λ j. truth_rule (equal_rule (p j ∷ q j ∷ []) ∷ [])
  compared Lt x y p q = λ j. vectors_rule truth (p j ∷ q j ∷ [])
  compared Ge x y p q = λ j. truth_rule (vectors_rule truth (p j ∷ q j ∷ []) ∷ [])
  compared Ltu x y p q = λ j. vectors_rule truth (p j ∷ q j ∷ [])
  compared Geu x y p q = λ j. truth_rule (vectors_rule truth (p j ∷ q j ∷ []) ∷ [])

  pub cond_expr-sort : (c : CondTree) → CondInScope c n m → CondInRange c → sort_of fs s (cond_expr c) ≡ Some sort.Bool
  cond_expr-sort (Compare cmp a b) scope range = compared cmp (word_expr a) (word_expr b) (word_expr-sort a scope.0 range.0) (word_expr-sort b scope.1 range.1)
  cond_expr-sort (Neg c) scope range = λ j. truth_rule (cond_expr-sort c scope range j ∷ [])
  cond_expr-sort (Inside width x a) scope range = (λ j. applied_sort fs (inside_name width) (dom_expr-sort x scope.0 j ∷ word_expr-sort a scope.1 range.1 j ∷ [])) ∙ k.insides width

  -- ---- arguments

  pub words-fit : (ts : List WordTree) (i q : ℕ) → length ts ≡ q → AllByRecursion (λ x. WordInScope x n m) ts → AllByRecursion WordInRange ts
      → (ps : List (List ℕ × Sort)) (es : List Expr) → sorts_fit ps (sorts_of fs s (exprs es)) ≡ true → sorts_fit (word_params i q ++ ps) (sorts_of fs s (exprs (map word_expr ts ++ es))) ≡ true
  words-fit [] i zero count scope range ps es h = h
  words-fit [] i (suc q) count scope range ps es h = absurd (omega (arith, count))
  words-fit (x ∷ ts) i zero count scope range ps es h = absurd (omega (arith, count))
  words-fit (x ∷ ts) i (suc q) count scope range ps es h =
      (λ j. sorts_fit (word_params i (suc q) ++ ps) (word_expr-sort x scope.0 range.0 j ∷ sorts_of fs s (exprs (map word_expr ts ++ es))))
      ∙ words-fit ts (i + 1) q (omega (arith, count)) scope.1 range.1 ps es h

  pub mems-fit : (ms : List MemTree) (i q : ℕ) → length ms ≡ q → AllByRecursion (λ x. MemInScope x n m) ms → AllByRecursion MemInRange ms
      → sorts_fit (mem_params i q) (sorts_of fs s (exprs (mem_args ms))) ≡ true
  mems-fit [] i zero count scope range = refl
  mems-fit [] i (suc q) count scope range = absurd (omega (arith, count))
  mems-fit (x ∷ ms) i zero count scope range = absurd (omega (arith, count))
  mems-fit (x ∷ ms) i (suc q) count scope range =
      (λ j. sorts_fit (mem_params i (suc q)) (mem_expr-sort x scope.0 range.0 j ∷ dom_expr-sort x scope.0 j ∷ sorts_of fs s (exprs (mem_args ms))))
      ∙ mems-fit ms (i + 1) q (omega (arith, count)) scope.1 range.1

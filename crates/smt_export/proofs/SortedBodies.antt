-- A body's expressions have the sorts of what they tell.
use Rattle.std.proofs.Common.{◌≡◌, ℕ, zero, suc, ◌+◌, ◌<◌, ◌≤◌, ◌^◌, Bool, true, false, List, [], ◌∷◌, codes, Option, Some, None, option_map, unwrap_or, length, slice_get, refl, sym, subst, ◌∙◌, arith}
use Rattle.std.specs.Prelude.{IsSomeAnd}
use Rattle.std.proofs.lemmas.List.Elements.{recursion_from_All}
use Rattle.std.specs.List.{AllByRecursion}
use Rattle.word_terms.specs.Tree.{WordTree, MemTree}
use Rattle.word_terms.specs.Scope.{WordInScope, MemInScope, WordInRange, MemInRange}
use Rattle.tailrec_lang.specs.declared.group.Exit.{Exit}
use Rattle.tailrec_lang.specs.declared.group.Exit.TheVariants.{At, Ret}
use Rattle.tailrec_lang.specs.Tree.{ValuesTree, Bind, BindMem, Need, BodyTree, Do, Branch, Call, Again, Leave, ArmTrees, NoArm, Arm, GroupTree, exits_at}
use Rattle.tailrec_lang.specs.WellFormed.{BodyIsWellFormed, ArmsAreWellFormed, HasCounts, ValuesInScope, exit_words}
use Rattle.smt_terms.specs.declared.sort.Sort.{Sort}
use Rattle.smt_terms.specs.declared.sort.Sort.TheVariants as sort
use Rattle.smt_terms.specs.Expression.{Expr, exprs, apply, bound, is_atom}
use Rattle.smt_terms.specs.Operators.{Rule, equal_rule}
use Rattle.smt_terms.specs.Meaning.{bind}
use Rattle.smt_terms.specs.Sorts.{Rules, Sorts, atom_sort, sort_of, sorts_of}
use Rattle.smt_terms.proofs.Unused.{bound-sort}
use Rattle.group_terms.specs.Range.{ValuesInRange, BodyInRange, ArmsInRange}
use Rattle.smt_export.specs.declared.told.Told.{Told}
use Rattle.smt_export.specs.declared.told.Told.TheVariants.{Ok, ExitNumber, Pc, WordAt, MemAt, DomAt}
use Rattle.smt_export.specs.Told.{word_name, mem_name, dom_name, fun_name, words_from, mem_params, told_sort}
use Rattle.smt_export.specs.Terms.{word_expr, mem_expr, dom_expr, cond_expr, falsity}
use Rattle.smt_export.specs.Bodies.{default, with_condition, conjunction, exit_number, mem_args, args, applied_to, called, word_or, mem_or, dom_or, left_by, call_results, let_words, let_mems, body_expr, arms_expr}
use Rattle.smt_export.specs.inner.Following.{room, arm_room, EachCall, EachArmCall}
use Rattle.smt_terms.specs.Knowing.{word_sort, bytes_sort, domain_sort, KnowsRules}
use Rattle.smt_export.specs.inner.Sorting.{InSort, AreRules, HasRules}
use Rattle.smt_export.proofs.SortedJoins.{ite-sort, falsity-sort, branch-sort}
use Rattle.smt_export.proofs.SortedTerms.{atom-sort, word-sort, number-sort, true-sort, sorted-less, sorted-bytes, sorted-word, sorted-mem, word_expr-sort, mem_expr-sort, dom_expr-sort, cond_expr-sort, words-fit, mems-fit}
use Rattle.smt_export.specs.Telling.{IsToldOf}
use Rattle.smt_export.proofs.Symbols.{word_symbol, mem_symbol, dom_symbol}
use Rattle.smt_export.proofs.Bodies.{results-length, exit_words-few, exit_within}

module _ (fs : Rules) (s : Sorts) where
  both_where-sort : (b : Bool) (c x : Expr) → fs (codes "true") ≡ None → s (codes "true") ≡ None → sort_of fs s c ≡ Some sort.Bool → sort_of fs s x ≡ Some sort.Bool
      → sort_of fs s (conjunction b c x) ≡ Some sort.Bool
  both_where-sort true c x f v p q = p
  both_where-sort false c x f v p q = ite-sort fs s c x falsity sort.Bool p q (falsity-sort fs s f v)

  both-sort : (t : Told) (c x : Expr) → fs (codes "true") ≡ None → s (codes "true") ≡ None → sort_of fs s c ≡ Some sort.Bool → sort_of fs s x ≡ Some (told_sort t)
      → sort_of fs s (with_condition t c x) ≡ Some (told_sort t)
  both-sort Ok c x f v p q = both_where-sort (is_atom (codes "true") x) c x f v p q
  both-sort ExitNumber c x f v p q = q
  both-sort Pc c x f v p q = q
  both-sort (WordAt i) c x f v p q = q
  both-sort (MemAt i) c x f v p q = q
  both-sort (DomAt i) c x f v p q = q

  applied_to-sort : (d : ℕ) (t : Told) (xs : List Expr) (rule : Rule) → fs (fun_name d t) ≡ Some rule → s (fun_name d t) ≡ None → sort_of fs s (applied_to (fun_name d t) xs) ≡ rule (sorts_of fs s (exprs xs))
  applied_to-sort d t [] rule there free = λ j. atom_sort (free j) (there j) (fun_name d t)
  applied_to-sort d t (x ∷ xs) rule there free = λ j. unwrap_or (option_map (λ (r : Rule). r (sorts_of fs s (exprs (x ∷ xs)))) (there j)) None

-- ---- results as variables

-- what is told of a definition of the group as a word
IsWordOf : GroupTree → Told → Type 0
IsWordOf g Pc = Unit {0}
IsWordOf g (WordAt i) = i < length g.regs
IsWordOf g _ = ⊥

AreWordsOf : GroupTree → List Told → Type 0
AreWordsOf g [] = Unit {0}
AreWordsOf g (t ∷ ts) = IsWordOf g t × AreWordsOf g ts

words_from-are : (g : GroupTree) (i n : ℕ) → i + n ≤ length g.regs → AreWordsOf g (words_from i n)
unfolding AreWordsOf IsWordOf
words_from-are g i zero le = tt
words_from-are g i (suc n) le = (omega (arith, le), words_from-are g (suc i) n (omega (arith, le)))

results-are : (g : GroupTree) (y : Exit) → AreWordsOf g (call_results (length g.regs) (Some y))
unfolding AreWordsOf IsWordOf
results-are g (At a) = words_from-are g 0 (length g.regs) (omega arith)
results-are g Ret = (tt, words_from-are g 0 (length g.regs) (omega arith))

module _ (g : GroupTree) (fs : Rules) (c : Told → Expr) (n₀ m₀ : ℕ)
    (told : (t : Told) → IsToldOf g t → (u : Sorts) → InSort n₀ m₀ u → sort_of fs u (c t) ≡ Some (told_sort t)) where
  word_told : (t : Told) → IsWordOf g t → (u : Sorts) → InSort n₀ m₀ u → sort_of fs u (c t) ≡ word_sort
  unfolding IsWordOf
  word_told Ok h u is = absurd h
  word_told ExitNumber h u is = absurd h
  word_told Pc h u is = told Pc tt u is
  word_told (WordAt i) h u is = told (WordAt i) h u is
  word_told (MemAt i) h u is = absurd h
  word_told (DomAt i) h u is = absurd h

  let_words-sort : (ts : List Told) → AreWordsOf g ts → (n m : ℕ) (s : Sorts) (body : Expr) (r : Sort) → InSort n m s → n₀ ≤ n → m₀ ≤ m → n + length ts < 2 ^ 64
      → ((u : Sorts) → InSort (n + length ts) m u → sort_of fs u body ≡ Some r) → sort_of fs s (let_words c ts n body) ≡ Some r
  unfolding AreWordsOf
  let_words-sort [] are n m s body r is h l room go = let e : n ≡ n + 0 = omega arith in go s (subst (λ k. InSort k m s) e is)
  let_words-sort (t ∷ ts) are n m s body r is h l room go =
      let first = word_told t are.0 s (sorted-less n m s is n₀ m₀ h l) in
      let e : n + suc (length ts) ≡ n + 1 + length ts = omega arith in
      bound-sort (word_name n) fs (c t) (let_words c ts (n + 1) body) s (sort.Bits 64) (word_symbol n (omega (arith, room))) first
      ∙ let_words-sort ts are.1 (n + 1) m (bind s (word_name n) (sort.Bits 64)) body r (sorted-word n m s is (omega (arith, room))) (omega (arith, h)) l (omega (arith, room))
      (λ u at. go u (subst (λ k. InSort k m u) (sym e) at))

  let_mems-sort : (q i n m : ℕ) (s : Sorts) (body : Expr) (r : Sort) → i + q ≤ g.mems → InSort n m s → n₀ ≤ n → m₀ ≤ m → m + q < 2 ^ 64
      → ((u : Sorts) → InSort n (m + q) u → sort_of fs u body ≡ Some r) → sort_of fs s (let_mems c i q m body) ≡ Some r
  let_mems-sort zero i n m s body r le is h l room go = let e : m ≡ m + 0 = omega arith in go s (subst (λ k. InSort n k s) e is)
  let_mems-sort (suc q) i n m s body r le is h l room go =
      let first = told (MemAt i) (omega (arith, le)) s (sorted-less n m s is n₀ m₀ h l) in
      let half = bind s (mem_name m) (sort.Array 8) in
      let second = told (DomAt i) (omega (arith, le)) half (sorted-less n m half (sorted-bytes n m s is) n₀ m₀ h l) in
      let e : m + suc q ≡ m + 1 + q = omega arith in
      bound-sort (mem_name m) fs (c (MemAt i)) (bound (dom_name m) (c (DomAt i)) (let_mems c (suc i) q (m + 1) body)) s (sort.Array 8) (mem_symbol m (omega (arith, room))) first
      ∙ bound-sort (dom_name m) fs (c (DomAt i)) (let_mems c (suc i) q (m + 1) body) half (sort.Array 1) (dom_symbol m (omega (arith, room))) second
      ∙ let_mems-sort q (suc i) n (m + 1) (bind half (dom_name m) (sort.Array 1)) body r (omega (arith, le)) (sorted-mem n m s is (omega (arith, room))) h (omega (arith, l)) (omega (arith, room))
      (λ u at. go u (subst (λ k. InSort n k u) (sym e) at))

-- ---- leaving

module _ (fs : Rules) (k : KnowsRules fs) (n m : ℕ) (s : Sorts) (t : InSort n m s) where
  word_or-sort : (ts : List WordTree) (i : ℕ) → i < length ts → AllByRecursion (λ x. WordInScope x n m) ts → AllByRecursion WordInRange ts → sort_of fs s (word_or ts i) ≡ word_sort
  word_or-sort [] i lt scope range = absurd (omega (arith, lt))
  word_or-sort (x ∷ ts) zero lt scope range = word_expr-sort fs k n m s t x scope.0 range.0
  word_or-sort (x ∷ ts) (suc i) lt scope range = word_or-sort ts i (omega (arith, lt)) scope.1 range.1

  mem_or-sort : (ts : List MemTree) (i : ℕ) → i < length ts → AllByRecursion (λ x. MemInScope x n m) ts → AllByRecursion MemInRange ts → sort_of fs s (mem_or ts i) ≡ bytes_sort
  mem_or-sort [] i lt scope range = absurd (omega (arith, lt))
  mem_or-sort (x ∷ ts) zero lt scope range = mem_expr-sort fs k n m s t x scope.0 range.0
  mem_or-sort (x ∷ ts) (suc i) lt scope range = mem_or-sort ts i (omega (arith, lt)) scope.1 range.1

  dom_or-sort : (ts : List MemTree) (i : ℕ) → i < length ts → AllByRecursion (λ x. MemInScope x n m) ts → sort_of fs s (dom_or ts i) ≡ domain_sort
  dom_or-sort [] i lt scope = absurd (omega (arith, lt))
  dom_or-sort (x ∷ ts) zero lt scope = dom_expr-sort fs k n m s t x scope.0
  dom_or-sort (x ∷ ts) (suc i) lt scope = dom_or-sort ts i (omega (arith, lt)) scope.1

  module _ (g : GroupTree) (v : ValuesTree) (scope : ValuesInScope v n m) (range : ValuesInRange v) (e : ℕ) (few : e < 2 ^ 32) where
    words_scope : AllByRecursion (λ x. WordInScope x n m) v.words
    words_scope = recursion_from_All _ v.words scope.0

    mems_scope : AllByRecursion (λ x. MemInScope x n m) v.mems
    mems_scope = recursion_from_All _ v.mems scope.1

    left-sort : (by : Option Exit) → ((a : ℕ) → by ≡ Some (At a) → a < 2 ^ 64) → IsSomeAnd by (λ x. HasCounts v (exit_words g x) g.mems) → (u : Told) → IsToldOf g u
        → sort_of fs s (left_by by e v u) ≡ Some (told_sort u)
    left-sort None small counts u h = absurd counts
    left-sort (Some (At a)) small counts Ok h = true-sort fs s k.truth t.truth
    left-sort (Some (At a)) small counts ExitNumber h = number-sort fs s e few
    left-sort (Some (At a)) small counts Pc h = word-sort fs s a (small a refl)
    left-sort (Some (At a)) small counts (WordAt i) h = word_or-sort v.words i (omega (arith, h, counts.0)) words_scope range.0
    left-sort (Some (At a)) small counts (MemAt i) h = mem_or-sort v.mems i (omega (arith, h, counts.1)) mems_scope range.1
    left-sort (Some (At a)) small counts (DomAt i) h = dom_or-sort v.mems i (omega (arith, h, counts.1)) mems_scope
    left-sort (Some Ret) small counts Ok h = true-sort fs s k.truth t.truth
    left-sort (Some Ret) small counts ExitNumber h = number-sort fs s e few
    left-sort (Some Ret) small counts Pc h = word_or-sort v.words 0 (omega (arith, counts.0)) words_scope range.0
    left-sort (Some Ret) small counts (WordAt i) h = word_or-sort v.words (suc i) (omega (arith, h, counts.0)) words_scope range.0
    left-sort (Some Ret) small counts (MemAt i) h = mem_or-sort v.mems i (omega (arith, h, counts.1)) mems_scope range.1
    left-sort (Some Ret) small counts (DomAt i) h = dom_or-sort v.mems i (omega (arith, h, counts.1)) mems_scope

-- ---- bodies

module _ (g : GroupTree) (fs : Rules) (k : KnowsRules fs) (are : AreRules fs) (D : ℕ) (few : (d : ℕ) → length (exits_at g d) < 2 ^ 32)
    (small : (d n a : ℕ) → slice_get (exits_at g d) n ≡ Some (At a) → a < 2 ^ 64) (u : Told) (of : IsToldOf g u) where
  abbrev P : ℕ → Type 0
  P d = HasRules g fs d

  called-sort : (def : ℕ) (v : ValuesTree) (n m : ℕ) → HasCounts v (length g.regs) g.mems → ValuesInScope v n m → ValuesInRange v → P def → (t : Told) → IsToldOf g t → (s : Sorts) → InSort n m s
      → sort_of fs s (called def v t) ≡ Some (told_sort t)
  called-sort def v n m counts scope range is t h s at =
      let f = is.there t h in
      applied_to-sort fs s def t (args v) f.0 f.1 (at.functions def t)
      ∙ f.2 (sorts_of fs s (exprs (args v)))
      (words-fit fs k n m s at v.words 0 (length g.regs) counts.0 (recursion_from_All _ v.words scope.0) range.0 (mem_params 0 g.mems) (mem_args v.mems)
      (mems-fit fs k n m s at v.mems 0 g.mems counts.1 (recursion_from_All _ v.mems scope.1) range.1))

  default-sort : (t : Told) → IsToldOf g t → (n m : ℕ) (s : Sorts) → InSort n m s → g.mems ≤ m → sort_of fs s (default t) ≡ Some (told_sort t)
  default-sort Ok h n m s t low = falsity-sort fs s k.truth t.truth
  default-sort ExitNumber h n m s t low = refl
  default-sort Pc h n m s t low = word-sort fs s 0 (omega arith)
  default-sort (WordAt i) h n m s t low = word-sort fs s 0 (omega arith)
  default-sort (MemAt i) h n m s t low = atom-sort fs s (mem_name 0) (sort.Array 8) (t.bytes 0 (omega (arith, h, low)))
  default-sort (DomAt i) h n m s t low = atom-sort fs s (dom_name 0) (sort.Array 1) (t.domains 0 (omega (arith, h, low)))

  arm-sort : (y : Exit) (b : BodyTree) (c : Told → Expr) (n m : ℕ) (s : Sorts) → InSort n m s
      → ((t : Told) → IsToldOf g t → (v : Sorts) → InSort n m v → sort_of fs v (c t) ≡ Some (told_sort t))
      → n + (length g.regs + 1) < 2 ^ 64 → m + g.mems < 2 ^ 64
      → ((x : Sorts) → InSort (n + exit_words g y) (m + g.mems) x → sort_of fs x (body_expr g D b (n + exit_words g y) (m + g.mems) u) ≡ Some (told_sort u))
      → sort_of fs s (let_words c (call_results (length g.regs) (Some y)) n (let_mems c 0 g.mems m (body_expr g D b (n + length (call_results (length g.regs) (Some y))) (m + g.mems) u))) ≡ Some (told_sort u)
  arm-sort y b c n m s t told w q go =
      let ts = call_results (length g.regs) (Some y) in
      let len : length ts ≡ exit_words g y = results-length g y in
      let few_words : exit_words g y ≤ length g.regs + 1 = exit_words-few g y in
      let same : n + exit_words g y ≡ n + length ts = omega (arith, len) in
      let_words-sort g fs c n m told ts (results-are g y) n m s (let_mems c 0 g.mems m (body_expr g D b (n + length ts) (m + g.mems) u)) (told_sort u) t (omega arith) (omega arith)
      (omega (arith, len, few_words, w))
      (λ v at. let_mems-sort g fs c n m told g.mems 0 (n + length ts) m v (body_expr g D b (n + length ts) (m + g.mems) u) (told_sort u) (omega arith) at (omega arith) (omega arith) (omega (arith, q))
      (subst (λ k. (x : Sorts) → InSort k (m + g.mems) x → sort_of fs x (body_expr g D b k (m + g.mems) u) ≡ Some (told_sort u)) same go))

  mutual
    pub body-sort : (b : BodyTree) (n m : ℕ) (s : Sorts) → InSort n m s → BodyIsWellFormed g D b n m → BodyInRange b → EachCall P b → g.mems ≤ m → n + room g b < 2 ^ 64 → m + room g b < 2 ^ 64
        → sort_of fs s (body_expr g D b n m u) ≡ Some (told_sort u)
    body-sort (Do (Bind x) b) n m s t wf range calls low w q =
        bound-sort (word_name n) fs (word_expr x) (body_expr g D b (n + 1) m u) s (sort.Bits 64) (word_symbol n (omega (arith, w))) (word_expr-sort fs k n m s t x wf.0 range.0)
        ∙ body-sort b (n + 1) m (bind s (word_name n) (sort.Bits 64)) (sorted-word n m s t (omega (arith, w))) wf.1 range.1 calls low (omega (arith, w)) (omega (arith, q))
    body-sort (Do (BindMem x) b) n m s t wf range calls low w q =
        let half = bind s (mem_name m) (sort.Array 8) in
        bound-sort (mem_name m) fs (mem_expr x) (bound (dom_name m) (dom_expr x) (body_expr g D b n (m + 1) u)) s (sort.Array 8) (mem_symbol m (omega (arith, q))) (mem_expr-sort fs k n m s t x wf.0 range.0)
        ∙ bound-sort (dom_name m) fs (dom_expr x) (body_expr g D b n (m + 1) u) half (sort.Array 1) (dom_symbol m (omega (arith, q))) (dom_expr-sort fs k n m half (sorted-bytes n m s t) x wf.0)
        ∙ body-sort b n (m + 1) (bind half (dom_name m) (sort.Array 1)) (sorted-mem n m s t (omega (arith, q))) wf.1 range.1 calls (omega (arith, low)) (omega (arith, w)) (omega (arith, q))
    body-sort (Do (Need c) b) n m s t wf range calls low w q =
        both-sort fs s u (cond_expr c) (body_expr g D b n m u) k.truth t.truth (cond_expr-sort fs k n m s t c wf.0 range.0)
        (body-sort b n m s t wf.1 range.1 calls low (omega (arith, w)) (omega (arith, q)))
    body-sort (Branch c a b) n m s t wf range calls low w q =
        branch-sort fs k.truth are s t.truth (cond_expr c) (cond_expr-sort fs k n m s t c wf.0 range.0) (body_expr g D a n m u) (body_expr g D b n m u) (told_sort u)
        (body-sort a n m s t wf.1 range.1 calls.0 low (omega (arith, w)) (omega (arith, q))) (body-sort b n m s t wf.2 range.2 calls.1 low (omega (arith, w)) (omega (arith, q)))
    body-sort (Call def v arms) n m s t wf range calls low w q =
        let told = called-sort def v n m wf.1 wf.2 range.0 calls.0 in
        both-sort fs s u (called def v Ok) (arms_expr g D (called def v) (exits_at g def) arms 0 n m u) k.truth t.truth (told Ok tt s t)
        (arms-sort (exits_at g def) arms 0 (called def v) n m s t told wf.3 range.1 calls.1 low (omega (arith, few def)) w q)
    body-sort (Again v) n m s t wf range calls low w q = absurd calls
    body-sort (Leave exit v) n m s t wf range calls low w q =
        left-sort fs k n m s t g v wf.1 range exit (omega (arith, exit_within (exits_at g D) exit (λ x. HasCounts v (exit_words g x) g.mems) wf.0, few D)) (slice_get (exits_at g D) exit) (λ a is. small D exit a is) wf.0 u of

    arms-sort : (ys : List Exit) (bs : ArmTrees) (j : ℕ) (c : Told → Expr) (n m : ℕ) (s : Sorts) → InSort n m s
        → ((t : Told) → IsToldOf g t → (v : Sorts) → InSort n m v → sort_of fs v (c t) ≡ Some (told_sort t))
        → ArmsAreWellFormed g D ys bs n m → ArmsInRange bs → EachArmCall P bs → g.mems ≤ m → j + length ys < 2 ^ 32 → n + arm_room g bs < 2 ^ 64 → m + arm_room g bs < 2 ^ 64
        → sort_of fs s (arms_expr g D c ys bs j n m u) ≡ Some (told_sort u)
    arms-sort [] NoArm j c n m s t told wf range calls low lt w q = default-sort u of n m s t low
    arms-sort (y ∷ ys) NoArm j c n m s t told wf range calls low lt w q = absurd wf
    arms-sort [] (Arm b bs) j c n m s t told wf range calls low lt w q = absurd wf
    arms-sort (y ∷ []) (Arm b bs) j c n m s t told wf range calls low lt w q = arm-sort y b c n m s t told (omega (arith, w)) (omega (arith, q))
        (λ x last. body-sort b (n + exit_words g y) (m + g.mems) x last wf.0 range.0 calls.0 (omega (arith, low)) (let few_words = exit_words-few g y in omega (arith, few_words, w)) (omega (arith, q)))
    arms-sort (y ∷ z ∷ zs) (Arm b bs) j c n m s t told wf range calls low lt w q =
        ite-sort fs s (apply (codes "=") (c ExitNumber ∷ exit_number j ∷ []))
        (let_words c (call_results (length g.regs) (Some y)) n (let_mems c 0 g.mems m (body_expr g D b (n + length (call_results (length g.regs) (Some y))) (m + g.mems) u))) (arms_expr g D c (z ∷ zs) bs (suc j) n m u) (told_sort u)
        (λ i. equal_rule (told ExitNumber tt s t i ∷ number-sort fs s j (omega (arith, lt)) i ∷ []))
        (arm-sort y b c n m s t told (omega (arith, w)) (omega (arith, q))
        (λ x last. body-sort b (n + exit_words g y) (m + g.mems) x last wf.0 range.0 calls.0 (omega (arith, low)) (let few_words = exit_words-few g y in omega (arith, few_words, w)) (omega (arith, q))))
        (arms-sort (z ∷ zs) bs (suc j) c n m s t told wf.1 range.1 calls.1 low (omega (arith, lt)) (omega (arith, w)) (omega (arith, q)))

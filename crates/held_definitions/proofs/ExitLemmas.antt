-- Variables, place by place, over numbers.
use Rattle.std.proofs.Common.{◌≡◌, ℕ, zero, suc, ◌+◌, ◌<◌, List, [], ◌∷◌, ◌++◌, Option, Some, None, length, get_or, map, take, refl, ap, sym, ◌∙◌, subst, arith}
use Rattle.std.specs.Prelude.{◌↔◌, Bool, IsTrue, slice_get, zip}
use Rattle.std.specs.List.{range_with_len}
use Rattle.std.proofs.lemmas.List.{get_or-map, length-map}
use Rattle.std.proofs.lemmas.List.FromFn.{length-map-range_with_len, get_or-map-range_with_len, map-range_with_len_more}
use Rattle.word_terms.specs.Tree.{Const, Var, MemVar}
use Rattle.tailrec_lang.proofs.Lists.{map-take_more}
use Rattle.tailrec_lang.specs.declared.group.Exit.{Exit}
use Rattle.tailrec_lang.specs.Tree.{DefTree, GroupTree}
use Rattle.triple_kernel.specs.Tree.{TripleTree}
use Rattle.loop_rule.specs.Rule.{IsExit, exit_triple}
use Rattle.term_arena.specs.declared.node.Node.{Node}
use Rattle.term_arena.specs.declared.node.Node.TheVariants as node
use Rattle.term_arena.specs.Arena.{as_word, as_mem, tree_of, trees_of, tree_over, word_of, mem_of, IsWordAt, IsMemAt}
use Rattle.held_definitions.specs.inner.LeafNodes.{constant_of, variable_of, mem_variable_of}

module _ (ns : List Node) where
  abbrev Over : Node → ℕ → Type 0
  Over n a = tree_of ns a ≡ Some (tree_over (trees_of ns) n)

  -- ---- one term

  -- the term is that leaf of the number, or that leaf of none
  abbrev Is : {A : Type 0} → (ℕ → A) → A → Option ℕ → Type 0
  Is f t None = (k : ℕ) → t ≡ f k → ⊥
  Is f t (Some j) = t ≡ f j

  constant_is : (k : ℕ) (n : Node) → IsWordAt ns k → Over n k → Is Const (word_of ns k) (constant_of n)
  constant_is k (node.Const c) h e = ap as_word e
  constant_is k (node.WordVar i) h e = λ j f. let x = sym (ap as_word e) ∙ f in cc
  constant_is k (node.Bin op a b) h e = λ j f. let x = sym (ap as_word e) ∙ f in cc
  constant_is k (node.Extend ext a) h e = λ j f. let x = sym (ap as_word e) ∙ f in cc
  constant_is k (node.Load width m a) h e = λ j f. let x = sym (ap as_word e) ∙ f in cc
  constant_is k n h e = λ j f. let x = sym e ∙ h in cc

  variable_is : (k : ℕ) (n : Node) → IsWordAt ns k → Over n k → Is Var (word_of ns k) (variable_of n)
  variable_is k (node.WordVar i) h e = ap as_word e
  variable_is k (node.Const c) h e = λ j f. let x = sym (ap as_word e) ∙ f in cc
  variable_is k (node.Bin op a b) h e = λ j f. let x = sym (ap as_word e) ∙ f in cc
  variable_is k (node.Extend ext a) h e = λ j f. let x = sym (ap as_word e) ∙ f in cc
  variable_is k (node.Load width m a) h e = λ j f. let x = sym (ap as_word e) ∙ f in cc
  variable_is k n h e = λ j f. let x = sym e ∙ h in cc

  mem_variable_is : (k : ℕ) (n : Node) → IsMemAt ns k → Over n k → Is MemVar (mem_of ns k) (mem_variable_of n)
  mem_variable_is k (node.MemVar i) h e = ap as_mem e
  mem_variable_is k (node.Store width m a v) h e = λ j f. let x = sym (ap as_mem e) ∙ f in cc
  mem_variable_is k n h e = λ j f. let x = sym e ∙ h in cc

  pub constant_some : (k : ℕ) (n : Node) (j p : ℕ) (r : Bool) → IsWordAt ns k → Over n k → constant_of n ≡ Some j → (IsTrue r ↔ (j ≡ p)) → IsTrue r ↔ (word_of ns k ≡ Const p)
  constant_some k n j p r h o e is =
      let v : word_of ns k ≡ Const j = subst (Is Const (word_of ns k)) e (constant_is k n h o) in
      (λ y. v ∙ ap Const (is.0 y), λ x. is.1 (let f : Const j ≡ Const p = sym v ∙ x in cc))

  pub constant_none : (k : ℕ) (n : Node) (p : ℕ) → IsWordAt ns k → Over n k → constant_of n ≡ None → word_of ns k ≡ Const p → ⊥
  constant_none k n p h o e x = subst (Is Const (word_of ns k)) e (constant_is k n h o) p x

  pub variable_some : (k : ℕ) (n : Node) (j p : ℕ) (r : Bool) → IsWordAt ns k → Over n k → variable_of n ≡ Some j → (IsTrue r ↔ (j ≡ p)) → IsTrue r ↔ (word_of ns k ≡ Var p)
  variable_some k n j p r h o e is =
      let v : word_of ns k ≡ Var j = subst (Is Var (word_of ns k)) e (variable_is k n h o) in
      (λ y. v ∙ ap Var (is.0 y), λ x. is.1 (let f : Var j ≡ Var p = sym v ∙ x in cc))

  pub variable_none : (k : ℕ) (n : Node) (p : ℕ) → IsWordAt ns k → Over n k → variable_of n ≡ None → word_of ns k ≡ Var p → ⊥
  variable_none k n p h o e x = subst (Is Var (word_of ns k)) e (variable_is k n h o) p x

  pub mem_variable_some : (k : ℕ) (n : Node) (j p : ℕ) (r : Bool) → IsMemAt ns k → Over n k → mem_variable_of n ≡ Some j → (IsTrue r ↔ (j ≡ p)) → IsTrue r ↔ (mem_of ns k ≡ MemVar p)
  mem_variable_some k n j p r h o e is =
      let v : mem_of ns k ≡ MemVar j = subst (Is MemVar (mem_of ns k)) e (mem_variable_is k n h o) in
      (λ y. v ∙ ap MemVar (is.0 y), λ x. is.1 (let f : MemVar j ≡ MemVar p = sym v ∙ x in cc))

  pub mem_variable_none : (k : ℕ) (n : Node) (p : ℕ) → IsMemAt ns k → Over n k → mem_variable_of n ≡ None → mem_of ns k ≡ MemVar p → ⊥
  mem_variable_none k n p h o e x = subst (Is MemVar (mem_of ns k)) e (mem_variable_is k n h o) p x

-- ---- lists of variables

module _ {A B : Type 0} (f : A → B) (var : ℕ → B) (xs : List A) (first count : ℕ) where
  pub counts_differ : (length xs ≡ count → ⊥) → map f xs ≡ map var (range_with_len first count) → ⊥
  counts_differ apart e = apart (sym (length-map xs f) ∙ ap length e ∙ length-map-range_with_len var first count)

  pub variable_differs : (i : ℕ) (d : A) → i < length xs → length xs ≡ count → (f (get_or xs i d) ≡ var (first + i) → ⊥) → map f xs ≡ map var (range_with_len first count) → ⊥
  variable_differs i d low same apart e =
      let here : i < count = omega (arith, low, same) in
      apart (sym (get_or-map f xs i d (f d) low) ∙ (λ j. get_or (e j) i (f d)) ∙ get_or-map-range_with_len var first count i (first + i) (f d) here refl)

  pub variable_next : (i : ℕ) (x : A) → i < length xs → x ≡ get_or xs i x → f x ≡ var (first + i) → map f (take i xs) ≡ map var (range_with_len first i) → map f (take (i + 1) xs) ≡ map var (range_with_len first (i + 1))
  variable_next i x low is same before = map-take_more f xs i x low is ∙ (λ j. before j ++ same j ∷ []) ∙ sym (map-range_with_len_more var first i (first + i) refl)

-- the first of one variable more, and the others
pub first_variable : (a n : ℕ) → map Var (range_with_len a (n + 1)) ≡ Var a ∷ map Var (range_with_len (a + 1) n)
first_variable a n = let e : n + 1 ≡ suc n = omega arith in λ j. map Var (range_with_len a (e j))

-- ---- pairs of two lists

zip-more : {A B : Type 0} (xs : List A) (ys : List B) (i : ℕ) (x : A) (y : B) → i < length xs → i < length ys
    → zip (take (i + 1) xs) ys ≡ zip (take i xs) ys ++ (get_or xs i x, get_or ys i y) ∷ []
zip-more [] ys i x y lx ly = absurd (omega arith)
zip-more (a ∷ cs) [] i x y lx ly = absurd (omega arith)
zip-more (a ∷ cs) (b ∷ bs) zero x y lx ly = refl
zip-more (a ∷ cs) (b ∷ bs) (suc i) x y lx ly =
    let next : suc i + 1 ≡ suc (i + 1) = omega arith in
    (λ j. zip (take (next j) (a ∷ cs)) (b ∷ bs)) ∙ (λ j. (a, b) ∷ zip-more cs bs i x y (omega arith) (omega arith) j)

zip-at : {A B : Type 0} (xs : List A) (ys : List B) (i : ℕ) (x : A) (y : B) → i < length xs → i < length ys → get_or (zip xs ys) i (x, y) ≡ (get_or xs i x, get_or ys i y)
zip-at [] ys i x y lx ly = absurd (omega arith)
zip-at (a ∷ cs) [] i x y lx ly = absurd (omega arith)
zip-at (a ∷ cs) (b ∷ bs) zero x y lx ly = refl
zip-at (a ∷ cs) (b ∷ bs) (suc i) x y lx ly = zip-at cs bs i x y (omega arith) (omega arith)

zip-count : {A B : Type 0} (xs : List A) (ys : List B) → length xs ≡ length ys → length (zip xs ys) ≡ length xs
zip-count [] ys e = refl
zip-count (a ∷ cs) [] e = absurd (omega (arith, e))
zip-count (a ∷ cs) (b ∷ bs) e = let rest : length cs ≡ length bs = omega (arith, e) in ap suc (zip-count cs bs rest)

-- registers with the next variables
module _ {A B C : Type 0} (f : A → B × C) (var : ℕ → C) (xs : List A) (numbers : List B) (first : ℕ) where
  abbrev vars : List C
  vars = map var (range_with_len first (length numbers))

  pub registers_count : (length xs ≡ length numbers → ⊥) → map f xs ≡ zip numbers vars → ⊥
  registers_count apart e = apart (sym (length-map xs f) ∙ ap length e ∙ zip-count numbers vars (sym (length-map-range_with_len var first (length numbers))))

  pub register_differs : (i : ℕ) (d : A) (b : B) → i < length xs → length xs ≡ length numbers → (f (get_or xs i d) ≡ (get_or numbers i b, var (first + i)) → ⊥) → map f xs ≡ zip numbers vars → ⊥
  register_differs i d b low same apart e =
      let here : i < length numbers = omega (arith, low, same) in
      let there : i < length vars = let l = length-map-range_with_len var first (length numbers) in omega (arith, here, l) in
      let c : C = var (first + i) in
      apart (sym (get_or-map f xs i d (b, c) low) ∙ (λ j. get_or (e j) i (b, c)) ∙ zip-at numbers vars i b c here there
      ∙ (λ j. (get_or numbers i b, get_or-map-range_with_len var first (length numbers) i (first + i) c here refl j)))

  pub register_next : (i : ℕ) (x : A) (b : B) → i < length xs → length xs ≡ length numbers → x ≡ get_or xs i x → f x ≡ (get_or numbers i b, var (first + i)) → map f (take i xs) ≡ zip (take i numbers) vars
      → map f (take (i + 1) xs) ≡ zip (take (i + 1) numbers) vars
  register_next i x b low same is one before =
      let here : i < length numbers = omega (arith, low, same) in
      let there : i < length vars = let l = length-map-range_with_len var first (length numbers) in omega (arith, here, l) in
      let c : C = var (first + i) in
      let back : c ≡ get_or vars i c = sym (get_or-map-range_with_len var first (length numbers) i (first + i) c here refl) in
      map-take_more f xs i x low is ∙ (λ j. before j ++ one j ∷ [])
      ∙ (λ j. zip (take i numbers) vars ++ (get_or numbers i b, back j) ∷ [])
      ∙ sym (zip-more numbers vars i b c here there)

-- ---- the exit

pub exit_is : (g : GroupTree) (d exit : ℕ) (t : TripleTree) (def : DefTree) (x : Exit) (b : Type 0) → slice_get g.defs d ≡ Some def → slice_get def.exits exit ≡ Some x → (b ↔ (t ≡ exit_triple g d def exit x)) → b ↔ IsExit g d exit t
exit_is g d exit t def x b is at e = (
  λ y. record { def = def; is = is; x = x; at = at; same = e.0 y },
  λ i.
      let same_def : i.def ≡ def = let f : Some i.def ≡ Some def = sym i.is ∙ is in cc in
      let there : slice_get def.exits exit ≡ Some i.x = subst (λ (q : DefTree). slice_get q.exits exit ≡ Some i.x) same_def i.at in
      let same_x : i.x ≡ x = let f : Some i.x ≡ Some x = sym there ∙ at in cc in
      e.1 (i.same ∙ (λ j. exit_triple g d (same_def j) exit (same_x j))),
)

pub no_exit : (g : GroupTree) (d exit : ℕ) (t : TripleTree) (def : DefTree) → slice_get g.defs d ≡ Some def → slice_get def.exits exit ≡ None → IsExit g d exit t → ⊥
no_exit g d exit t def is none i =
    let same_def : i.def ≡ def = let f : Some i.def ≡ Some def = sym i.is ∙ is in cc in
    let f : Some i.x ≡ None = sym (subst (λ (q : DefTree). slice_get q.exits exit ≡ Some i.x) same_def i.at) ∙ none in
    cc

pub no_def : (g : GroupTree) (d exit : ℕ) (t : TripleTree) → slice_get g.defs d ≡ None → IsExit g d exit t → ⊥
no_def g d exit t none i = let f : Some i.def ≡ None = sym i.is ∙ none in cc

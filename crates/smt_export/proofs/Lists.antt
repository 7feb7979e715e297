-- Lists of trees that grow, and what is taken out of lists.
use Rattle.std.proofs.Common.{◌≡◌, ◌≢◌, ℕ, zero, suc, ◌+◌, ◌-◌, ◌<◌, ◌≤◌, List, [], ◌∷◌, ◌++◌, Some, None, length, get_or, slice_get, map, take, refl, sym, ap, ◌∙◌, arith, append_assoc}
use Rattle.std.proofs.lemmas.List.{map-append, take_more}
use Rattle.word_terms.specs.Tree.{MemTree, word_tree, mem_tree}
use Rattle.word_terms.specs.declared.term.Word.{Word}
use Rattle.word_terms.specs.declared.term.Mem.{Mem}
use Rattle.smt_terms.specs.Expression.{Expr, Atom, Node, End, Then, exprs, bound, word}
use Rattle.smt_terms.specs.Views.{expr}
use Rattle.smt_terms.specs.declared.tree.Tree.{Tree}
use Rattle.smt_export.specs.declared.told.Told.{Told}
use Rattle.smt_export.specs.declared.told.Told.TheVariants.{WordAt, MemAt, DomAt}
use Rattle.smt_terms.specs.declared.sort.Sort.{Sort}
use Rattle.smt_terms.specs.declared.sort.Sort.TheVariants as sort
use Rattle.smt_export.specs.Told.{words_from, mems_from, word_name, mem_name, dom_name, word_params, mem_params}
use Rattle.smt_export.specs.Terms.{word_expr, mem_expr, dom_expr}
use Rattle.smt_export.specs.Bodies.{applied_to, mem_args, word_or, mem_or, dom_or, let_mems}

-- ---- lists that grow by one

pub images_pushed : {A B C D : Type 0} (f : A → D) (g : C → D) (h : B → C) (outs : List A) (xs : List B) (i : ℕ) (x : B) (y : A) → i < length xs → x ≡ get_or xs i x → f y ≡ g (h x)
    → map f outs ≡ map g (map h (take i xs)) → map f (outs ++ y ∷ []) ≡ map g (map h (take (i + 1) xs))
images_pushed f g h outs xs i x y lt is same before =
    map-append f outs (y ∷ []) ∙ (λ j. before j ++ same j ∷ [])
    ∙ (λ j. map g (map h (take i xs)) ++ g (h (is j)) ∷ [])
    ∙ sym (ap (λ l. map g (map h l)) (take_more xs i x lt) ∙ ap (map g) (map-append h (take i xs) (get_or xs i x ∷ [])) ∙ map-append g (map h (take i xs)) (h (get_or xs i x) ∷ []))

pub pushed : {A B C : Type 0} (f : A → C) (g : B → C) (outs : List A) (xs : List B) (i : ℕ) (x : B) (y : A) → i < length xs → x ≡ get_or xs i x → f y ≡ g x
    → map f outs ≡ map g (take i xs) → map f (outs ++ y ∷ []) ≡ map g (take (i + 1) xs)
pushed f g outs xs i x y lt is same before =
    map-append f outs (y ∷ []) ∙ (λ j. before j ++ same j ∷ []) ∙ (λ j. map g (take i xs) ++ g (is j) ∷ [])
    ∙ sym (ap (map g) (take_more xs i x lt) ∙ map-append g (take i xs) (get_or xs i x ∷ []))

mem_args-append : (ms ns : List MemTree) → mem_args (ms ++ ns) ≡ mem_args ms ++ mem_args ns
mem_args-append [] ns = refl
mem_args-append (m ∷ ms) ns = λ j. mem_expr m ∷ dom_expr m ∷ mem_args-append ms ns j

pub mems_pushed : (outs : List Tree) (xs : List Mem) (i : ℕ) (x : Mem) (y z : Tree) → i < length xs → x ≡ get_or xs i x → expr y ≡ mem_expr (mem_tree x) → expr z ≡ dom_expr (mem_tree x)
    → map expr outs ≡ mem_args (map mem_tree (take i xs)) → map expr ((outs ++ y ∷ []) ++ z ∷ []) ≡ mem_args (map mem_tree (take (i + 1) xs))
mems_pushed outs xs i x y z lt is first second before =
    map-append expr (outs ++ y ∷ []) (z ∷ []) ∙ (λ j. map-append expr outs (y ∷ []) j ++ expr z ∷ [])
    ∙ append_assoc (map expr outs) (expr y ∷ []) (expr z ∷ [])
    ∙ (λ j. before j ++ first j ∷ second j ∷ [])
    ∙ (λ j. mem_args (map mem_tree (take i xs)) ++ mem_expr (mem_tree (is j)) ∷ dom_expr (mem_tree (is j)) ∷ [])
    ∙ sym (ap (λ l. mem_args (map mem_tree l)) (take_more xs i x lt) ∙ ap mem_args (map-append mem_tree (take i xs) (get_or xs i x ∷ [])) ∙ mem_args-append (map mem_tree (take i xs)) (mem_tree (get_or xs i x) ∷ []))

pub appended : {A B : Type 0} (f : A → B) (xs ys : List A) (zs ws : List B) → map f xs ≡ zs → map f ys ≡ ws → map f (xs ++ ys) ≡ zs ++ ws
appended f xs ys zs ws p q = map-append f xs ys ∙ (λ j. p j ++ q j)

pub words_pushed : (i n : ℕ) → words_from i (n + 1) ≡ words_from i n ++ WordAt (i + n) ∷ []
words_pushed i zero = let e : i ≡ i + 0 = omega arith in λ j. WordAt (e j) ∷ []
words_pushed i (suc n) =
    let e : suc i + n ≡ i + suc n = omega arith in
    let m : suc n + 1 ≡ suc (n + 1) = omega arith in
    (λ j. words_from i (m j)) ∙ (λ j. WordAt i ∷ ((words_pushed (suc i) n ∙ (λ k. words_from (suc i) n ++ WordAt (e k) ∷ [])) j))

pub words_next : (n : ℕ) (ts : List Told) → ts ≡ words_from 0 n → ts ++ WordAt n ∷ [] ≡ words_from 0 (n + 1)
words_next n ts is = let e : n ≡ 0 + n = omega arith in (λ j. is j ++ WordAt (e j) ∷ []) ∙ sym (words_pushed 0 n)

mems_more : (i n : ℕ) → mems_from i (n + 1) ≡ mems_from i n ++ MemAt (i + n) ∷ DomAt (i + n) ∷ []
mems_more i zero = let e : i ≡ i + 0 = omega arith in λ j. MemAt (e j) ∷ DomAt (e j) ∷ []
mems_more i (suc n) =
    let e : suc i + n ≡ i + suc n = omega arith in
    let m : suc n + 1 ≡ suc (n + 1) = omega arith in
    (λ j. mems_from i (m j)) ∙ (λ j. MemAt i ∷ DomAt i ∷ ((mems_more (suc i) n ∙ (λ k. mems_from (suc i) n ++ MemAt (e k) ∷ DomAt (e k) ∷ [])) j))

pub mems_next : (n : ℕ) (ts : List Told) → ts ≡ mems_from 0 n → (ts ++ MemAt n ∷ []) ++ DomAt n ∷ [] ≡ mems_from 0 (n + 1)
mems_next n ts is =
    let e : n ≡ 0 + n = omega arith in
    append_assoc ts (MemAt n ∷ []) (DomAt n ∷ []) ∙ (λ j. is j ++ MemAt (e j) ∷ DomAt (e j) ∷ []) ∙ sym (mems_more 0 n)

-- ---- applications

pub applied_some : (f : List ℕ) (xs : List Tree) → xs ≢ [] → Node (Then (Atom f) (exprs (map expr xs))) ≡ applied_to f (map expr xs)
applied_some f [] some = absurd (some refl)
applied_some f (x ∷ xs) some = refl

-- ---- the item of that number

pub word_got : (xs : List Word) (i : ℕ) (x : Word) → slice_get xs i ≡ Some x → word_expr (word_tree x) ≡ word_or (map word_tree xs) i
word_got [] i x e = absurd (cc)
word_got (y ∷ ys) zero x e = let same : y ≡ x = cc in λ j. word_expr (word_tree (sym same j))
word_got (y ∷ ys) (suc i) x e = word_got ys i x e

pub word_gone : (xs : List Word) (i : ℕ) → slice_get xs i ≡ None → word 0 ≡ word_or (map word_tree xs) i
word_gone [] i e = refl
word_gone (y ∷ ys) zero e = absurd (cc)
word_gone (y ∷ ys) (suc i) e = word_gone ys i e

-- .. behind the first
pub word_next : (xs : List Word) (i n : ℕ) (e : Expr) → n ≡ i + 1 → e ≡ word_or (map word_tree xs) n → e ≡ word_or (map word_tree xs) (suc i)
word_next xs i n e next is = let after : n ≡ suc i = omega (arith, next) in is ∙ ap (word_or (map word_tree xs)) after

pub word_past : (xs : List Word) (i : ℕ) → length xs ≤ i → word 0 ≡ word_or (map word_tree xs) (suc i)
word_past [] i le = refl
word_past (y ∷ ys) zero le = absurd (omega (arith, le))
word_past (y ∷ ys) (suc i) le = word_past ys i (omega (arith, le))

pub mem_got : (xs : List Mem) (i : ℕ) (x : Mem) → slice_get xs i ≡ Some x → mem_expr (mem_tree x) ≡ mem_or (map mem_tree xs) i
mem_got [] i x e = absurd (cc)
mem_got (y ∷ ys) zero x e = let same : y ≡ x = cc in λ j. mem_expr (mem_tree (sym same j))
mem_got (y ∷ ys) (suc i) x e = mem_got ys i x e

pub mem_gone : (xs : List Mem) (i : ℕ) → slice_get xs i ≡ None → Atom (mem_name 0) ≡ mem_or (map mem_tree xs) i
mem_gone [] i e = refl
mem_gone (y ∷ ys) zero e = absurd (cc)
mem_gone (y ∷ ys) (suc i) e = mem_gone ys i e

pub dom_got : (xs : List Mem) (i : ℕ) (x : Mem) → slice_get xs i ≡ Some x → dom_expr (mem_tree x) ≡ dom_or (map mem_tree xs) i
dom_got [] i x e = absurd (cc)
dom_got (y ∷ ys) zero x e = let same : y ≡ x = cc in λ j. dom_expr (mem_tree (sym same j))
dom_got (y ∷ ys) (suc i) x e = dom_got ys i x e

pub dom_gone : (xs : List Mem) (i : ℕ) → slice_get xs i ≡ None → Atom (dom_name 0) ≡ dom_or (map mem_tree xs) i
dom_gone [] i e = refl
dom_gone (y ∷ ys) zero e = absurd (cc)
dom_gone (y ∷ ys) (suc i) e = dom_gone ys i e

-- ---- memories as variables

pub mems_none : (call : Told → Expr) (i q m : ℕ) (e : Expr) → q ≡ 0 → e ≡ let_mems call i q m e
mems_none call i zero m e is = refl
mems_none call i (suc q) m e is = absurd (omega (arith, is))

pub mems_some : (call : Told → Expr) (i q m : ℕ) (e : Expr) → 0 < q
    → bound (mem_name m) (call (MemAt i)) (bound (dom_name m) (call (DomAt i)) (let_mems call (i + 1) (q - 1) (m + 1) e)) ≡ let_mems call i q m e
mems_some call i zero m e lt = absurd (omega (arith, lt))
mems_some call i (suc q) m e lt =
    let n : i + 1 ≡ suc i = omega arith in
    let p : suc q - 1 ≡ q = omega arith in
    λ j. bound (mem_name m) (call (MemAt i)) (bound (dom_name m) (call (DomAt i)) (let_mems call (n j) (p j) (m + 1) e))

pub mems_made : (call : Told → Expr) (i q m j k : ℕ) (e rest inner term : Expr) (name : List ℕ) → 0 < q → j ≡ i + 1 → k ≡ m + 1 → rest ≡ let_mems call j (q - 1) k e
    → inner ≡ bound (dom_name m) (call (DomAt i)) rest → name ≡ mem_name m → term ≡ call (MemAt i) → bound name term inner ≡ let_mems call i q m e
mems_made call i q m j k e rest inner term name lt next after is around named told =
    (λ h. bound (named h) (told h) (around h))
    ∙ (λ h. bound (mem_name m) (call (MemAt i)) (bound (dom_name m) (call (DomAt i)) (is h)))
    ∙ (λ h. bound (mem_name m) (call (MemAt i)) (bound (dom_name m) (call (DomAt i)) (let_mems call (next h) (q - 1) (after h) e)))
    ∙ mems_some call i q m e lt

-- ---- parameters

pub word_params_none : (i q : ℕ) → q ≡ 0 → [] ≡ word_params i q
word_params_none i zero is = refl
word_params_none i (suc q) is = absurd (omega (arith, is))

pub word_params_some : (i q : ℕ) (rest : List (List ℕ × Sort)) → 0 < q → rest ≡ word_params (i + 1) (q - 1) → (word_name i, sort.Bits 64) ∷ rest ≡ word_params i q
word_params_some i zero rest lt is = absurd (omega (arith, lt))
word_params_some i (suc q) rest lt is = let p : suc q - 1 ≡ q = omega arith in λ j. (word_name i, sort.Bits 64) ∷ (is ∙ (λ k. word_params (i + 1) (p k))) j

pub mem_params_none : (i q : ℕ) → q ≡ 0 → [] ≡ mem_params i q
mem_params_none i zero is = refl
mem_params_none i (suc q) is = absurd (omega (arith, is))

pub mem_params_some : (i q : ℕ) (rest : List (List ℕ × Sort)) → 0 < q → rest ≡ mem_params (i + 1) (q - 1) → (mem_name i, sort.Array 8) ∷ (dom_name i, sort.Array 1) ∷ rest ≡ mem_params i q
mem_params_some i zero rest lt is = absurd (omega (arith, lt))
mem_params_some i (suc q) rest lt is = let p : suc q - 1 ≡ q = omega arith in λ j. (mem_name i, sort.Array 8) ∷ (dom_name i, sort.Array 1) ∷ (is ∙ (λ k. mem_params (i + 1) (p k))) j

-- ---- lists of three and of four

pub three_items : (xs : List Tree) (a b c : Tree) → 3 ≤ length xs → length xs < 4 → a ≡ get_or xs 0 a → b ≡ get_or xs 1 b → c ≡ get_or xs 2 c
    → exprs (map expr xs) ≡ Then (expr a) (Then (expr b) (Then (expr c) End))
three_items [] a b c h l p q r = absurd (omega (arith, h))
three_items (x ∷ []) a b c h l p q r = absurd (omega (arith, h))
three_items (x ∷ y ∷ []) a b c h l p q r = absurd (omega (arith, h))
three_items (x ∷ y ∷ z ∷ []) a b c h l p q r = λ j. Then (expr (sym p j)) (Then (expr (sym q j)) (Then (expr (sym r j)) End))
three_items (x ∷ y ∷ z ∷ w ∷ ws) a b c h l p q r = absurd (omega (arith, l))

pub four_items : (xs : List Tree) (a b c d : Tree) → 4 ≤ length xs → length xs < 5 → a ≡ get_or xs 0 a → b ≡ get_or xs 1 b → c ≡ get_or xs 2 c → d ≡ get_or xs 3 d
    → exprs (map expr xs) ≡ Then (expr a) (Then (expr b) (Then (expr c) (Then (expr d) End)))
four_items [] a b c d h l p q r s = absurd (omega (arith, h))
four_items (x ∷ []) a b c d h l p q r s = absurd (omega (arith, h))
four_items (x ∷ y ∷ []) a b c d h l p q r s = absurd (omega (arith, h))
four_items (x ∷ y ∷ z ∷ []) a b c d h l p q r s = absurd (omega (arith, h))
four_items (x ∷ y ∷ z ∷ w ∷ []) a b c d h l p q r s = λ j. Then (expr (sym p j)) (Then (expr (sym q j)) (Then (expr (sym r j)) (Then (expr (sym s j)) End)))
four_items (x ∷ y ∷ z ∷ w ∷ v ∷ vs) a b c d h l p q r s = absurd (omega (arith, l))

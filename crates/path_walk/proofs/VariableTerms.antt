-- Terms listed for variables, one after the other.
use Rattle.std.proofs.Common.{◌≡◌, ℕ, zero, suc, ◌+◌, ◌<◌, ◌≤◌, List, [], ◌∷◌, ◌++◌, map, length, take, get_or, Bool, true, false, cond, refl, sym, ap, ◌∙◌, arith, append_assoc}
use Rattle.std.proofs.lemmas.List.{take_more}
use Rattle.std.specs.List.{range_with_len}
use Rattle.word_terms.specs.Tree.{WordTree, MemTree, MemVar}
use Rattle.tailrec_lang.specs.declared.group.Exit.{Exit}
use Rattle.tailrec_lang.specs.declared.group.Exit.TheVariants.{At, Ret}
use Rattle.code_parts.specs.Bodies.{Flow, VariableMap, current}
use Rattle.path_walk.specs.inner.Acts.{call_mems, numbered, results_at}

pub numbered-append : {A : Type 0} (i : ℕ) (xs ys : List A) → numbered i (xs ++ ys) ≡ numbered i xs ++ numbered (i + length xs) ys
numbered-append i [] ys = let none : i ≡ i + 0 = omega arith in λ j. numbered (none j) ys
numbered-append i (x ∷ xs) ys =
    let sum : suc i + length xs ≡ i + suc (length xs) = omega arith in
    ap (λ (zs : List _). (i, x) ∷ zs) (numbered-append (suc i) xs ys ∙ (λ j. numbered (suc i) xs ++ numbered (sum j) ys))

map-join : {A B : Type 0} (h : A → B) (xs ys : List A) → map h (xs ++ ys) ≡ map h xs ++ map h ys
map-join h [] ys = refl
map-join h (x ∷ xs) ys = ap (λ (zs : List _). h x ∷ zs) (map-join h xs ys)

pub map-long : {A B : Type 0} (h : A → B) (xs : List A) → length (map h xs) ≡ length xs
map-long h [] = refl
map-long h (x ∷ xs) = ap suc (map-long h xs)

take-long : {A : Type 0} (i : ℕ) (xs : List A) → i ≤ length xs → length (take i xs) ≡ i
take-long zero xs le = refl
take-long (suc i) [] le = absurd (omega arith)
take-long (suc i) (x ∷ xs) le = ap suc (take-long i xs (omega (arith, le)))

numbered-long : {A : Type 0} (i : ℕ) (xs : List A) → length (numbered i xs) ≡ length xs
numbered-long i [] = refl
numbered-long i (x ∷ xs) = ap suc (numbered-long (suc i) xs)

pub listed-long : {A B : Type 0} (h : A → ℕ × B) (ws : List A) (i : ℕ) (xs : List B) → map h ws ≡ numbered i xs → length ws ≡ length xs
listed-long h ws i xs e = sym (map-long h ws) ∙ ap length e ∙ numbered-long i xs

-- one more register after the first i
pub added_more : (olds ws : List (ℕ × WordTree)) (h : ℕ → WordTree) (regs : List ℕ) (k i n d : ℕ) → i < length regs → n ≡ k + i → ws ≡ olds ++ numbered k (map h (take i regs)) →
    ws ++ (n, h (get_or regs i d)) ∷ [] ≡ olds ++ numbered k (map h (take (i + 1) regs))
added_more olds ws h regs k i n d lt count so_far =
    let long : length (map h (take i regs)) ≡ i = map-long h (take i regs) ∙ take-long i regs (omega (arith, lt)) in
    let place : k + length (map h (take i regs)) ≡ n = omega (arith, long, count) in
    let one : numbered k (map h (take i regs)) ++ (n, h (get_or regs i d)) ∷ [] ≡ numbered k (map h (take (i + 1) regs)) =
    (λ j. numbered k (map h (take i regs)) ++ (sym place j, h (get_or regs i d)) ∷ []) ∙ sym (numbered-append k (map h (take i regs)) (h (get_or regs i d) ∷ []))
    ∙ ap (numbered k) (sym (map-join h (take i regs) (get_or regs i d ∷ []))) ∙ ap (λ (xs : List ℕ). numbered k (map h xs)) (sym (take_more regs i d lt)) in
    ap (λ (xs : List (ℕ × WordTree)). xs ++ (n, h (get_or regs i d)) ∷ []) so_far ∙ append_assoc olds (numbered k (map h (take i regs))) ((n, h (get_or regs i d)) ∷ []) ∙ ap (λ (xs : List (ℕ × WordTree)). olds ++ xs) one

-- an exit leaves the next memories
pub memories-left : (f : Flow) (x : Exit) (words mems : ℕ) → (results_at f x words mems).mems ≡ map (λ q. MemVar (mems + q)) (range_with_len 0 f.mems)
memories-left f (At a) words mems = refl
memories-left f Ret words mems = refl

two-mems : (b : Bool) (x y : ℕ → MemTree) → numbered 0 (map x (range_with_len 0 (cond b 1 0)) ++ map y (range_with_len 0 (cond b 1 0))) ≡ cond b ((0, x 0) ∷ (1, y 0) ∷ []) []
two-mems true x y = refl
two-mems false x y = refl

pub call_mems-are : (f : Flow) (x : Exit) (v : VariableMap) (b : Bool) → f.mems ≡ cond b 1 0 → cond b ((0, MemVar (v.memory 0)) ∷ (1, MemVar v.mems) ∷ []) [] ≡ call_mems f x v
call_mems-are f x v b is =
    let none : v.mems ≡ v.mems + 0 = omega arith in
    (λ j. cond b ((0, MemVar (v.memory 0)) ∷ (1, MemVar (none j)) ∷ []) [])
    ∙ sym (two-mems b (λ q. MemVar (v.memory q)) (λ q. MemVar (v.mems + q)))
    ∙ (λ j. numbered 0 (map (λ q. MemVar (v.memory q)) (range_with_len 0 (sym is j)) ++ map (λ q. MemVar (v.mems + q)) (range_with_len 0 (sym is j))))
    ∙ ap (λ (ms : List MemTree). numbered 0 ((current f v).mems ++ ms)) (sym (memories-left f x v.words v.mems))

-- Environments that are lists of words and memories.
use Rattle.std.proofs.Common.{◌≡◌, ℕ, ◌+◌, List, [], ◌∷◌, ◌++◌, length, map, get_or, refl, sym, ap, ◌∙◌, arith, cond, true, false, Bool, nat_eq, length-append, append_assoc}
use Rattle.std.specs.Ordering.{nat_cmp}
use Rattle.std.specs.FinMap.{FinMap, empty, get}
use Rattle.std.proofs.lemmas.List.{get_or_push, get_or_append_left, append-nil}
use Rattle.std.proofs.lemmas.Bool.Decides.{nat_tests}
use Rattle.std.proofs.Math.ListN.{get_or-eq_default}
use Rattle.word_terms.specs.Environment.{no_variables, with_word, with_mem, with_words, with_mems, variables}
use Rattle.word_terms.proofs.Variables.{no_variables_are}
use Rattle.tailrec_lang.specs.declared.args.Args.{Args}
use Rattle.tailrec_lang.specs.Eval.{arguments, variables_of, with_arguments}

-- the items and one more
item_at-push : {A : Type 0} (d : A) (xs : List A) (x : A) (i : ℕ) → cond (nat_eq i (length xs)) x (get_or xs i d) ≡ get_or (xs ++ x ∷ []) i d
item_at-push d xs x i = grind (arith, nat_tests, get_or_push, get_or_append_left, get_or-eq_default, length-append)

cond-get : (b : Bool) (m n : FinMap nat_cmp ℕ) → cond b (get m) (get n) ≡ get (cond b m n)
cond-get true m n = refl
cond-get false m n = refl

pub variables_word : (ns : List ℕ) (ms : List (FinMap nat_cmp ℕ)) (n : ℕ) → with_word (variables ns ms) n ≡ variables (ns ++ n ∷ []) ms
variables_word ns ms n =
    let count : length ns + 1 ≡ length (ns ++ n ∷ []) = sym (length-append ns (n ∷ [])) in
    λ j. record { word = λ i. item_at-push 0 ns n i j; words = count j; mem = λ i. get (get_or ms i empty); mems = length ms }

pub variables_mem : (ns : List ℕ) (ms : List (FinMap nat_cmp ℕ)) (m : FinMap nat_cmp ℕ) → with_mem (variables ns ms) (get m) ≡ variables ns (ms ++ m ∷ [])
variables_mem ns ms m =
    let count : length ms + 1 ≡ length (ms ++ m ∷ []) = sym (length-append ms (m ∷ [])) in
    let at : (i : ℕ) → cond (nat_eq i (length ms)) (get m) (get (get_or ms i empty)) ≡ get (get_or (ms ++ m ∷ []) i empty) =
    λ i. cond-get (nat_eq i (length ms)) m (get_or ms i empty) ∙ ap get (item_at-push empty ms m i) in
    λ j. record { word = λ i. get_or ns i 0; words = length ns; mem = λ i. at i j; mems = count j }

pub variables_words : (ns : List ℕ) (ms : List (FinMap nat_cmp ℕ)) (ks : List ℕ) → with_words (variables ns ms) ks ≡ variables (ns ++ ks) ms
variables_words ns ms [] = λ j. variables (sym (append-nil ns) j) ms
variables_words ns ms (k ∷ ks) =
    (λ j. with_words (variables_word ns ms k j) ks) ∙ variables_words (ns ++ k ∷ []) ms ks ∙ (λ j. variables (append_assoc ns (k ∷ []) ks j) ms)

pub variables_mems : (ns : List ℕ) (ms ks : List (FinMap nat_cmp ℕ)) → with_mems (variables ns ms) (map get ks) ≡ variables ns (ms ++ ks)
variables_mems ns ms [] = λ j. variables ns (sym (append-nil ms) j)
variables_mems ns ms (k ∷ ks) =
    (λ j. with_mems (variables_mem ns ms k j) (map get ks)) ∙ variables_mems ns (ms ++ k ∷ []) ks ∙ (λ j. variables ns (append_assoc ms (k ∷ []) ks j))

-- arguments behind these variables
pub variables_arguments : (x y : Args) → with_arguments (variables_of x) (arguments y) ≡ variables (x.words ++ y.words) (x.mems ++ y.mems)
variables_arguments x y =
    (λ j. with_mems (variables_words x.words x.mems y.words j) (map get y.mems)) ∙ variables_mems (x.words ++ y.words) x.mems y.mems

-- arguments alone
pub entry_variables : (x : Args) → with_arguments no_variables (arguments x) ≡ variables_of x
entry_variables x =
    (λ j. with_arguments (sym no_variables_are j) (arguments x)) ∙ (λ j. with_mems (variables_words [] [] x.words j) (map get x.mems)) ∙ variables_mems x.words [] x.mems

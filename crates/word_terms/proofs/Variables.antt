-- New variables of an environment: how many there are, and what they stand for.
use Rattle.std.proofs.Common.{◌≡◌, ℕ, ◌+◌, List, [], ◌∷◌, map, length, refl, sym, ◌∙◌, arith, cond, true}
use Rattle.std.specs.Prelude.{nat_eq}
use Rattle.std.specs.List.{range_with_len}
use Rattle.std.specs.Ordering.{nat_cmp}
use Rattle.std.specs.FinMap.{get-empty}
use Rattle.std.proofs.lemmas.Bool.Decides.{nat_tests}
use Rattle.rv_words.specs.Bytes.{Bytes}
use Rattle.word_terms.specs.Tree.{Var, MemVar}
use Rattle.word_terms.specs.Environment.{Environment, no_variables, variables, with_word, with_mem, with_words, with_mems}
use Rattle.word_terms.specs.Value.{word_value, mem_value}
use Rattle.word_terms.proofs.Agreement.{extends-with_words, extends-with_mems}

-- those of empty lists
pub no_variables_are : variables [] [] ≡ no_variables
no_variables_are = λ j. record { word = λ i. 0; words = 0; mem = λ i a. get-empty nat_cmp a j; mems = 0 }

-- ---- how many there are

pub with_words-words : (e : Environment) (ns : List ℕ) → (with_words e ns).words ≡ e.words + length ns
with_words-words e [] = omega arith
with_words-words e (n ∷ ns) = omega (arith, with_words-words (with_word e n) ns)

pub with_mems-mems : (e : Environment) (ms : List Bytes) → (with_mems e ms).mems ≡ e.mems + length ms
with_mems-mems e [] = omega arith
with_mems-mems e (m ∷ ms) = omega (arith, with_mems-mems (with_mem e m) ms)

pub with_words-mems : (e : Environment) (ns : List ℕ) → (with_words e ns).mems ≡ e.mems
with_words-mems e [] = refl
with_words-mems e (n ∷ ns) = with_words-mems (with_word e n) ns

pub with_mems-words : (e : Environment) (ms : List Bytes) → (with_mems e ms).words ≡ e.words
with_mems-words e [] = refl
with_mems-words e (m ∷ ms) = with_mems-words (with_mem e m) ms

-- ---- new variables of the other kind

pub with_mems-word : (e : Environment) (ms : List Bytes) → (with_mems e ms).word ≡ e.word
with_mems-word e [] = refl
with_mems-word e (m ∷ ms) = with_mems-word (with_mem e m) ms

pub with_words-mem : (e : Environment) (ns : List ℕ) → (with_words e ns).mem ≡ e.mem
with_words-mem e [] = refl
with_words-mem e (n ∷ ns) = with_words-mem (with_word e n) ns

-- ---- what they stand for

test-same : (n : ℕ) → nat_eq n n ≡ true
test-same n = grind (arith, nat_tests)

pub new_word : (e : Environment) (n : ℕ) → (with_word e n).word e.words ≡ n
new_word e n = λ i. cond (test-same e.words i) n (e.word e.words)

pub new_mem : (e : Environment) (m : Bytes) → (with_mem e m).mem e.mems ≡ m
new_mem e m = λ i. cond (test-same e.mems i) m (e.mem e.mems)

pub words-are : (e : Environment) (ns : List ℕ) → map (λ t. word_value t (with_words e ns)) (map Var (range_with_len e.words (length ns))) ≡ ns
words-are e [] = refl
words-are e (n ∷ ns) =
    let f = with_word e n in
    let first = sym ((extends-with_words f ns).word e.words (omega arith)) ∙ new_word e n in
    λ i. first i ∷ words-are f ns i

pub mems-are : (e : Environment) (ms : List Bytes) → map (λ t. mem_value t (with_mems e ms)) (map MemVar (range_with_len e.mems (length ms))) ≡ ms
mems-are e [] = refl
mems-are e (m ∷ ms) =
    let f = with_mem e m in
    let first = sym ((extends-with_mems f ms).mem e.mems (omega arith)) ∙ new_mem e m in
    λ i. first i ∷ mems-are f ms i

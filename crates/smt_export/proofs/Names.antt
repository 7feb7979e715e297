-- Names of different numbers differ.
use Rattle.std.proofs.Common.{◌≡◌, ℕ, ◌+◌, ◌<◌, ◌^◌, Bool, true, false, List, [], ◌∷◌, ◌++◌, codes, Option, Some, cond, refl, sym, ap, subst, ◌∙◌, arith, nat_eq, ⊎_elim}
use Rattle.std.proofs.lemmas.Bool.{cases_eq}
use Rattle.std.specs.Prelude.{◌&&◌}
use Rattle.std.specs.Str.{bytes_eq}
use Rattle.std.specs.Str.Parse.{digits_value, AllDigits}
use Rattle.std.specs.Char.{digit_value}
use Rattle.smt_export.specs.declared.told.Told.{Told}
use Rattle.smt_export.specs.declared.told.Told.TheVariants.{Ok, ExitNumber, Pc, WordAt, MemAt, DomAt}
use Rattle.smt_export.specs.Told.{told_name, fun_name, word_name, mem_name, dom_name}
use Rattle.std.specs.Fmt.{decimal}
use Rattle.std.proofs.lemmas.Fmt.{decimal_is_IsNumeral}
use Rattle.std.proofs.lemmas.Slice.Eq.{bytes_eq-Decides}
use Rattle.std.proofs.lemmas.Bool.Decides.{nat_tests}
use Rattle.word_terms.specs.Environment.{Environment, with_word, with_mem}
use Rattle.rv_words.specs.Bytes.{Bytes}
use Rattle.smt_terms.specs.Operators.{Value, Bits}
use Rattle.smt_terms.specs.Meaning.{Variables, bind}
use Rattle.smt_terms.specs.Memory.{IsMemoryOf}
use Rattle.smt_export.specs.inner.Telling.{Tells}

unless : (b : Bool) → (b ≡ true → ⊥) → b ≡ false
unless true h = absurd (h refl)
unless false h = refl

pub same_bytes : (a : List ℕ) → bytes_eq a a ≡ true
same_bytes a = (bytes_eq-Decides a a).1 refl

pub one_decimal : (i n : ℕ) → i < 2 ^ 64 → n < 2 ^ 64 → decimal i ≡ decimal n → i ≡ n
one_decimal i n h l e = sym (decimal_is_IsNumeral i h).1 ∙ ap (digits_value 10) e ∙ (decimal_is_IsNumeral n l).1

pub decimals_differ : (i n : ℕ) → i < 2 ^ 64 → n < 2 ^ 64 → (i ≡ n → ⊥) → bytes_eq (decimal i) (decimal n) ≡ false
decimals_differ i n h l d = unless (bytes_eq (decimal i) (decimal n)) (λ t. d (one_decimal i n h l ((bytes_eq-Decides (decimal i) (decimal n)).0 t)))

pub decimals_same : (i n : ℕ) → i < 2 ^ 64 → n < 2 ^ 64 → bytes_eq (decimal i) (decimal n) ≡ nat_eq i n
decimals_same i n h l =
    ⊎_elim
    (λ e. (λ j. bytes_eq (decimal i) (decimal (sym e j))) ∙ same_bytes (decimal i) ∙ sym (let t : nat_eq i n ≡ true = grind (arith, nat_tests) in t))
    (λ d. decimals_differ i n h l d ∙ sym (let t : nat_eq i n ≡ false = grind (arith, nat_tests) in t))
    (cases_eq i n)

-- ---- a further variable

next_word : (t : Bool) (i k : ℕ) (n w : ℕ) (o : Option Value) → i < k + 1 → (nat_eq i k ≡ t) → (i < k → o ≡ Some (Bits 64 w)) → cond t (Some (Bits 64 n)) o ≡ Some (Bits 64 (cond t n w))
next_word true i k n w o lt e h = refl
next_word false i k n w o lt e h = let f : i < k = grind (arith, nat_tests) in h f

-- the memory of a name and its arrays
abbrev HasArrays : Bytes → Option Value → Option Value → Type 0
HasArrays M o p = (m d : Value) × (o ≡ Some m) × (p ≡ Some d) × IsMemoryOf M m d

next_mem : (t : Bool) (i k : ℕ) (N M : Bytes) (m d : Value) (o p : Option Value) → i < k + 1 → (nat_eq i k ≡ t) → IsMemoryOf N m d → (i < k → HasArrays M o p)
    → HasArrays (cond t N M) (cond t (Some m) o) (cond t (Some d) p)
next_mem true i k N M m d o p lt e is h = (m, d, refl, refl, is)
next_mem false i k N M m d o p lt e is h = let f : i < k = grind (arith, nat_tests) in h f

module _ (e : Environment) (s : Variables) (t : Tells e s) where
  -- of a name that none of the variables has
  pub tells-word_beyond : (n : ℕ) (v : Value) → e.words < n + 1 → n < 2 ^ 64 → Tells e (bind s (word_name n) v)
  tells-word_beyond n v beyond small = record {
    words = λ i lt. (λ j. cond (decimals_differ i n (omega arith) small (λ same. omega arith) j) (Some v) (s (word_name i))) ∙ t.words i lt;
    mems = λ i lt. t.mems i lt;
    truth = t.truth;
    functions = t.functions;
  }

  pub tells-mem_beyond : (n : ℕ) (m d : Value) → e.mems < n + 1 → n < 2 ^ 64 → Tells e (bind (bind s (mem_name n) m) (dom_name n) d)
  tells-mem_beyond n m d beyond small = record {
    words = λ i lt. t.words i lt;
    mems = λ i lt.
        let differ = decimals_differ i n (omega arith) small (λ same. omega arith) in
        subst (λ b. HasArrays (e.mem i) (cond b (Some m) (s (mem_name i))) (cond b (Some d) (s (dom_name i)))) (sym differ) (t.mems i lt);
    truth = t.truth;
    functions = t.functions;
  }

  -- the name of the array of bytes alone
  pub tells-bytes_beyond : (n : ℕ) (m : Value) → e.mems < n + 1 → n < 2 ^ 64 → Tells e (bind s (mem_name n) m)
  tells-bytes_beyond n m beyond small = record {
    words = λ i lt. t.words i lt;
    mems = λ i lt.
        let differ = decimals_differ i n (omega arith) small (λ same. omega arith) in
        subst (λ b. HasArrays (e.mem i) (cond b (Some m) (s (mem_name i))) (s (dom_name i))) (sym differ) (t.mems i lt);
    truth = t.truth;
    functions = t.functions;
  }

  pub tells-word : (n : ℕ) → e.words < 2 ^ 64 → Tells (with_word e n) (bind s (word_name e.words) (Bits 64 n))
  tells-word n small = record {
    words = λ i lt. (λ j. cond (decimals_same i e.words (omega arith) small j) (Some (Bits 64 n)) (s (word_name i))) ∙ next_word (nat_eq i e.words) i e.words n (e.word i) (s (word_name i)) lt refl (t.words i);
    mems = λ i lt. t.mems i lt;
    truth = t.truth;
    functions = t.functions;
  }

  pub tells-mem : (M : Bytes) (m d : Value) → IsMemoryOf M m d → e.mems < 2 ^ 64 → Tells (with_mem e M) (bind (bind s (mem_name e.mems) m) (dom_name e.mems) d)
  tells-mem M m d is small = record {
    words = λ i lt. t.words i lt;
    mems = λ i lt.
        let same = decimals_same i e.mems (omega arith) small in
        subst (λ b. HasArrays (cond (nat_eq i e.mems) M (e.mem i)) (cond b (Some m) (s (mem_name i))) (cond b (Some d) (s (dom_name i)))) (sym same)
        (next_mem (nat_eq i e.mems) i e.mems M (e.mem i) m d (s (mem_name i)) (s (dom_name i)) lt refl is (t.mems i));
    truth = t.truth;
    functions = t.functions;
  }

-- ---- the names of functions

common_prefix : (p a b : List ℕ) → bytes_eq (p ++ a) (p ++ b) ≡ bytes_eq a b
common_prefix [] a b = refl
common_prefix (x ∷ p) a b = (λ j. nat_eq_same x j && bytes_eq (p ++ a) (p ++ b)) ∙ common_prefix p a b
  where
    nat_eq_same : (n : ℕ) → nat_eq n n ≡ true
    nat_eq_same n = grind (arith, nat_tests)

-- digits that a mark follows
before_mark : (ds es xs ys : List ℕ) → AllDigits 10 ds → AllDigits 10 es → ds ++ 95 ∷ xs ≡ es ++ 95 ∷ ys → ds ≡ es
before_mark [] [] xs ys h l e = refl
before_mark [] (c ∷ es) xs ys h l e = let same : 95 ≡ c = cc in let digit : digit_value 95 < 10 = subst (λ b. digit_value b < 10) (sym same) l.0 in absurd (omega (arith, digit))
before_mark (c ∷ ds) [] xs ys h l e = let same : 95 ≡ c = cc in let digit : digit_value 95 < 10 = subst (λ b. digit_value b < 10) (sym same) h.0 in absurd (omega (arith, digit))
before_mark (c ∷ ds) (b ∷ es) xs ys h l e =
    let first : c ≡ b = cc in
    let rest : ds ++ 95 ∷ xs ≡ es ++ 95 ∷ ys = cc in
    λ j. first j ∷ before_mark ds es xs ys h.1 l.1 rest j

told_rest : Told → List ℕ
told_rest Ok = codes "ok"
told_rest ExitNumber = codes "exit"
told_rest Pc = codes "pc"
told_rest (WordAt i) = codes "w" ++ decimal i
told_rest (MemAt i) = codes "m" ++ decimal i
told_rest (DomAt i) = codes "d" ++ decimal i

told_mark : (t : Told) → told_name t ≡ 95 ∷ told_rest t
unfolding told_rest
told_mark Ok = refl
told_mark ExitNumber = refl
told_mark Pc = refl
told_mark (WordAt i) = refl
told_mark (MemAt i) = refl
told_mark (DomAt i) = refl

-- functions of different definitions
pub names_differ : (c d : ℕ) (u t : Told) → c < 2 ^ 64 → d < 2 ^ 64 → (c ≡ d → ⊥) → bytes_eq (fun_name c u) (fun_name d t) ≡ false
names_differ c d u t h l differ =
    unless (bytes_eq (fun_name c u) (fun_name d t)) (λ is.
    let same : fun_name c u ≡ fun_name d t = (bytes_eq-Decides (fun_name c u) (fun_name d t)).0 is in
    let rest : decimal c ++ told_name u ≡ decimal d ++ told_name t = cc in
    let marks : decimal c ++ 95 ∷ told_rest u ≡ decimal d ++ 95 ∷ told_rest t = (λ j. decimal c ++ sym (told_mark u) j) ∙ rest ∙ (λ j. decimal d ++ told_mark t j) in
    differ (one_decimal c d h l (before_mark (decimal c) (decimal d) (told_rest u) (told_rest t) (decimal_is_IsNumeral c h).0.1 (decimal_is_IsNumeral d l).0.1 marks)))

-- the number in what is told, if any, is one of 64 bits
abbrev pub IsSmall : Told → Type 0
IsSmall (WordAt i) = i < 2 ^ 64
IsSmall (MemAt i) = i < 2 ^ 64
IsSmall (DomAt i) = i < 2 ^ 64
IsSmall _ = Unit {0}

told_differ : (u t : Told) → IsSmall u → IsSmall t → (u ≡ t → ⊥) → bytes_eq (told_name u) (told_name t) ≡ false
told_differ Ok Ok h l d = absurd (d refl)
told_differ ExitNumber ExitNumber h l d = absurd (d refl)
told_differ Pc Pc h l d = absurd (d refl)
told_differ (WordAt i) (WordAt j) h l d = decimals_differ i j h l (λ e. d (ap WordAt e))
told_differ (MemAt i) (MemAt j) h l d = decimals_differ i j h l (λ e. d (ap MemAt e))
told_differ (DomAt i) (DomAt j) h l d = decimals_differ i j h l (λ e. d (ap DomAt e))
told_differ _ _ h l d = refl

-- different functions of one definition
pub told_names_differ : (d : ℕ) (u t : Told) → IsSmall u → IsSmall t → (u ≡ t → ⊥) → bytes_eq (fun_name d u) (fun_name d t) ≡ false
told_names_differ d u t h l differ = common_prefix (decimal d) (told_name u) (told_name t) ∙ told_differ u t h l differ

told_same : (u t : Told) → IsSmall u → IsSmall t → bytes_eq (told_name u) (told_name t) ≡ true → u ≡ t
told_same Ok Ok h l e = refl
told_same ExitNumber ExitNumber h l e = refl
told_same Pc Pc h l e = refl
told_same (WordAt i) (WordAt j) h l e = ap WordAt (one_decimal i j h l ((bytes_eq-Decides (decimal i) (decimal j)).0 e))
told_same (MemAt i) (MemAt j) h l e = ap MemAt (one_decimal i j h l ((bytes_eq-Decides (decimal i) (decimal j)).0 e))
told_same (DomAt i) (DomAt j) h l e = ap DomAt (one_decimal i j h l ((bytes_eq-Decides (decimal i) (decimal j)).0 e))
told_same _ _ h l e = absurd (cc)

pub told_names_same : (d : ℕ) (u t : Told) → IsSmall u → IsSmall t → bytes_eq (fun_name d u) (fun_name d t) ≡ true → u ≡ t
told_names_same d u t h l e = told_same u t h l (sym (common_prefix (decimal d) (told_name u) (told_name t)) ∙ e)

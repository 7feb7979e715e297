-- Variables that stand for the arguments and the results of a definition.
use Rattle.std.proofs.Common.{◌≡◌, ℕ, suc, ◌+◌, ◌-◌, ◌<◌, Some, None, List, [], ◌∷◌, ◌++◌, length, map, get_or, refl, sym, ap, ◌∙◌, arith}
use Rattle.std.specs.Prelude.{slice_index, slice_index_or, drop}
use Rattle.std.specs.List.{range_with_len}
use Rattle.std.proofs.lemmas.List.{get_or_append_left, get_or-append_right}
use Rattle.rv_words.specs.Bytes.{Bytes}
use Rattle.word_terms.specs.Tree.{WordTree, Const, Var, MemVar}
use Rattle.word_terms.specs.Environment.{Environment}
use Rattle.word_terms.specs.Value.{word_value, mem_value}
use Rattle.tailrec_lang.specs.declared.group.Exit.{Exit}
use Rattle.tailrec_lang.specs.declared.group.Exit.TheVariants.{At, Ret}
use Rattle.tailrec_lang.specs.Tree.{ValuesTree, GroupTree}
use Rattle.tailrec_lang.specs.WellFormed.{exit_words}
use Rattle.tailrec_lang.specs.Eval.{Arguments, arguments_of}
use Rattle.sep_assert.specs.Part.{part_of}
use Rattle.loop_rule.specs.Leaves.{variables_after, parameters, at_exit}
use Rattle.loop_rule.specs.Rule.{results}
use Rattle.verdicts.proofs.CountLemmas.{place_by, given_by}
use Rattle.verdicts.proofs.PartLemmas.{held_part, with_values-part}

-- ---- one list after the other as the variables from 0 on

abbrev pub no_bytes : Bytes
no_bytes a = None

abbrev pub both_as_variables : Arguments → Arguments → Environment
both_as_variables x y = record {
  word = λ i. get_or (x.words ++ y.words) i 0;
  words = length x.words + length y.words;
  mem = λ i. get_or (x.mems ++ y.mems) i no_bytes;
  mems = length x.mems + length y.mems;
}

module _ (e : Environment) where
  words-from : (xs : List ℕ) (a : ℕ) → ((k : ℕ) → k < length xs → e.word (a + k) ≡ get_or xs k 0) → map (λ t. word_value t e) (map (λ i. Var i) (range_with_len a (length xs))) ≡ xs
  words-from [] a at = refl
  words-from (x ∷ xs) a at =
      let here : a ≡ a + 0 = omega arith in
      let next : (k : ℕ) → a + 1 + k ≡ a + suc k = λ k. omega arith in
      let first : e.word a ≡ x = ap e.word here ∙ at 0 (omega arith) in
      λ i. first i ∷ words-from xs (a + 1) (λ k lt. ap e.word (next k) ∙ at (suc k) (omega arith)) i

  mems-from : (xs : List Bytes) (a : ℕ) → ((k : ℕ) → k < length xs → e.mem (a + k) ≡ get_or xs k no_bytes) → map (λ t. mem_value t e) (map (λ i. MemVar i) (range_with_len a (length xs))) ≡ xs
  mems-from [] a at = refl
  mems-from (x ∷ xs) a at =
      let here : a ≡ a + 0 = omega arith in
      let next : (k : ℕ) → a + 1 + k ≡ a + suc k = λ k. omega arith in
      let first : e.mem a ≡ x = ap e.mem here ∙ at 0 (omega arith) in
      λ i. first i ∷ mems-from xs (a + 1) (λ k lt. ap e.mem (next k) ∙ at (suc k) (omega arith)) i

module _ (x y : Arguments) where
  first-word : (k : ℕ) → k < length x.words → get_or (x.words ++ y.words) (0 + k) 0 ≡ get_or x.words k 0
  first-word k lt = let z : 0 + k ≡ k = omega arith in ap (λ i. get_or (x.words ++ y.words) i 0) z ∙ get_or_append_left x.words y.words 0 k lt

  first-mem : (k : ℕ) → k < length x.mems → get_or (x.mems ++ y.mems) (0 + k) no_bytes ≡ get_or x.mems k no_bytes
  first-mem k lt = let z : 0 + k ≡ k = omega arith in ap (λ i. get_or (x.mems ++ y.mems) i no_bytes) z ∙ get_or_append_left x.mems y.mems no_bytes k lt

  second-word : (k : ℕ) → k < length y.words → get_or (x.words ++ y.words) (length x.words + k) 0 ≡ get_or y.words k 0
  second-word k lt =
      let place : length x.words + k - length x.words ≡ k = omega arith in
      get_or-append_right x.words y.words (length x.words) (length x.words + k) 0 refl (omega arith) ∙ ap (λ i. get_or y.words i 0) place

  second-mem : (k : ℕ) → k < length y.mems → get_or (x.mems ++ y.mems) (length x.mems + k) no_bytes ≡ get_or y.mems k no_bytes
  second-mem k lt =
      let place : length x.mems + k - length x.mems ≡ k = omega arith in
      get_or-append_right x.mems y.mems (length x.mems) (length x.mems + k) no_bytes refl (omega arith) ∙ ap (λ i. get_or y.mems i no_bytes) place

  arguments-first : arguments_of (variables_after 0 0 (length x.words) (length x.mems)) (both_as_variables x y) ≡ x
  arguments-first = λ i. record { words = words-from (both_as_variables x y) x.words 0 first-word i; mems = mems-from (both_as_variables x y) x.mems 0 first-mem i }

  arguments-second : arguments_of (variables_after (length x.words) (length x.mems) (length y.words) (length y.mems)) (both_as_variables x y) ≡ y
  arguments-second = λ i. record {
    words = words-from (both_as_variables x y) y.words (length x.words) second-word i;
    mems = mems-from (both_as_variables x y) y.mems (length x.mems) second-mem i;
  }

-- the parameters stand for the arguments, and an exit's results for what it is left with
pub parameters-are : (g : GroupTree) (x y : Arguments) → length x.words ≡ length g.regs → length x.mems ≡ g.mems → arguments_of (parameters g) (both_as_variables x y) ≡ x
parameters-are g x y words mems = (λ i. arguments_of (variables_after 0 0 (sym words i) (sym mems i)) (both_as_variables x y)) ∙ arguments-first x y

pub results-are : (g : GroupTree) (exit : Exit) (x y : Arguments) → length x.words ≡ length g.regs → length x.mems ≡ g.mems
    → length y.words ≡ exit_words g exit → length y.mems ≡ g.mems → arguments_of (results g exit) (both_as_variables x y) ≡ y
results-are g exit x y words mems given given_mems =
    (λ i. arguments_of (variables_after (sym words i) (sym mems i) (sym given i) (sym given_mems i)) (both_as_variables x y)) ∙ arguments-second x y

-- ---- where an exit leads

first-value : (e : Environment) (ts : List WordTree) → word_value (slice_index_or ts 0 (Const 0)) e ≡ slice_index (map (λ t. word_value t e) ts) 0
first-value e [] = refl
first-value e (t ∷ ts) = refl

later-values : (e : Environment) (ts : List WordTree) → map (λ t. word_value t e) (drop 1 ts) ≡ drop 1 (map (λ t. word_value t e) ts)
later-values e [] = refl
later-values e (t ∷ ts) = refl

pub left-part : (e : Environment) (g : GroupTree) (exit : Exit) (v : ValuesTree)
    → part_of (at_exit g (Some exit) v) e ≡ held_part (place_by exit (arguments_of v e)) g.regs (given_by exit (arguments_of v e)).words (given_by exit (arguments_of v e)).mems
left-part e g (At a) v = with_values-part e g (Const a) v
left-part e g Ret v =
    with_values-part e g (slice_index_or v.words 0 (Const 0)) (record { words = drop 1 v.words; mems = v.mems })
    ∙ (λ i. held_part (first-value e v.words i) g.regs (later-values e v.words i) (map (λ m. mem_value m e) v.mems))

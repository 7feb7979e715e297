-- Definitions that evaluate alike, and that don't.
use Rattle.std.proofs.Common.{◌≡◌, ℕ, zero, suc, ◌+◌, [], ◌∷◌, refl, ap, arith}
use Rattle.std.specs.Prelude.{slice_index_or, ◌%◌, ◌^◌}
use Rattle.word_terms.specs.Environment.{no_variables}
use Rattle.word_terms.specs.Tree.{Var}
use Rattle.word_terms.specs.Value.{word_value}
use Rattle.tailrec_lang.specs.Eval.{Arguments, Outcome, Done, with_arguments}
use Rattle.group_terms.specs.Range.{ArgumentsInRange}
use Rattle.fun_laws.specs.Evaluation.{EvaluateAlike}
use Rattle.claim_examples.specs.Words.{and_one, and_two, backwards, forwards, leaves_word, word_group}

abbrev first_word : Outcome → ℕ
first_word (Done exit pc results left) = slice_index_or results.words 0 0
first_word _ = 0

abbrev zeros : Arguments
zeros = record { words = 0 ∷ 0 ∷ []; mems = [] }

zeros-range : ArgumentsInRange zeros
zeros-range = record { words = (omega arith, (omega arith, tt)); mems = tt }

abbrev one : ℕ
one = 1

one-two : one ≡ 2 → ⊥
one-two e = omega (arith, e)

pub constants-differ : EvaluateAlike (word_group and_one) (leaves_word and_two ∷ []) → ⊥
constants-differ alike = one-two (ap first_word (alike 0 zeros 1 zeros-range))

pub exchanged : EvaluateAlike (word_group forwards) (leaves_word backwards ∷ [])
exchanged d x zero range = refl
exchanged zero x (suc n) range =
    let a = word_value (Var 0) (with_arguments no_variables x) in
    let b = word_value (Var 1) (with_arguments no_variables x) in
    let sums : a + b ≡ b + a = omega arith in
    ap (λ (k : ℕ). Done 0 0x10004 (record { words = k % 2 ^ 64 ∷ b ∷ []; mems = [] }) n) sums
exchanged (suc d) x (suc n) range = refl

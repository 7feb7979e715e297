-- Scopes as the program counts them.
use Rattle.std.proofs.Common.{◌≡◌, ℕ, ◌<◌, List, [], ◌∷◌, arith, subst, ◌↔◌}
use Rattle.std.specs.Prelude.{◌^◌}
use Rattle.word_terms.specs.Tree.{WordTree, MemTree, CondTree}
use Rattle.word_terms.specs.Scope.{EachInWord, EachInMem, EachInCond, WordInScope, MemInScope, CondInScope}
use Rattle.word_terms.proofs.Agreement.{each_in_word-both, each_in_mem-both, each_in_cond-both}
use Rattle.tailrec_lang.specs.declared.scope.Scope.{Scope}
use Rattle.tailrec_lang.specs.Tree.{BodyTree, StepTree, GroupTree, with_steps}
use Rattle.tailrec_lang.specs.WellFormed.{BodyIsWellFormed, words_after, mems_after}
use Rattle.tailrec_lang.specs.inner.WellFormed.{Counts, StepsInScope, words_after_all, mems_after_all}

pub iff_then : {A B C : Type 0} → (A ↔ B) → (B ↔ C) → (A ↔ C)
iff_then f g = (λ a. g.0 (f.0 a), λ c. f.1 (g.1 c))

module _ (s : Scope) (w m : ℕ) (counts : Counts s w m) where
  abbrev Number : ℕ → Type 0
  Number i = i < 2 ^ 32

  abbrev InWords : ℕ → Type 0
  InWords i = i < s.words

  abbrev InMems : ℕ → Type 0
  InMems i = i < s.mems

  abbrev BelowWords : ℕ → Type 0
  BelowWords i = i < w

  abbrev BelowMems : ℕ → Type 0
  BelowMems i = i < m

  words_up : (i : ℕ) → Number i → InWords i → BelowWords i
  words_up i n h = let e = counts.words_are in omega arith

  mems_up : (i : ℕ) → Number i → InMems i → BelowMems i
  mems_up i n h = let e = counts.mems_are in omega arith

  words_down : (i : ℕ) → Number i → BelowWords i → InWords i
  words_down i n h = let e = counts.words_are in omega arith

  mems_down : (i : ℕ) → Number i → BelowMems i → InMems i
  mems_down i n h = let e = counts.mems_are in omega arith

  pub counted_word : (t : WordTree) → EachInWord Number Number t → (WordInScope t s.words s.mems ↔ WordInScope t w m)
  counted_word t numbers = (
    λ h. each_in_word-both Number Number InWords InMems BelowWords BelowMems words_up mems_up t numbers h,
    λ h. each_in_word-both Number Number BelowWords BelowMems InWords InMems words_down mems_down t numbers h,
  )

  pub counted_mem : (t : MemTree) → EachInMem Number Number t → (MemInScope t s.words s.mems ↔ MemInScope t w m)
  counted_mem t numbers = (
    λ h. each_in_mem-both Number Number InWords InMems BelowWords BelowMems words_up mems_up t numbers h,
    λ h. each_in_mem-both Number Number BelowWords BelowMems InWords InMems words_down mems_down t numbers h,
  )

  pub counted_cond : (t : CondTree) → EachInCond Number Number t → (CondInScope t s.words s.mems ↔ CondInScope t w m)
  counted_cond t numbers = (
    λ h. each_in_cond-both Number Number InWords InMems BelowWords BelowMems words_up mems_up t numbers h,
    λ h. each_in_cond-both Number Number BelowWords BelowMems InWords InMems words_down mems_down t numbers h,
  )

-- a body with steps in front is well-formed where the steps are in scope and the rest is after them
pub steps_well_formed : (g : GroupTree) (d : ℕ) (ss : List StepTree) (rest : BodyTree) (w m : ℕ)
    → (BodyIsWellFormed g d (with_steps ss rest) w m ↔ (StepsInScope ss w m × BodyIsWellFormed g d rest (words_after_all ss w) (mems_after_all ss m)))
steps_well_formed g d [] rest w m = (λ h. (tt, h), λ h. h.1)
steps_well_formed g d (s ∷ ss) rest w m =
    let more = steps_well_formed g d ss rest (words_after s w) (mems_after s m) in
    (λ h. ((h.0, (more.0 h.1).0), (more.0 h.1).1), λ h. (h.0.0, more.1 (h.0.1, h.1)))

pub counts_as : (s : Scope) (w m v k : ℕ) → Counts s w m → w ≡ v → m ≡ k → Counts s v k
counts_as s w m v k counts ws ms = subst (λ n. Counts s n k) ws (subst (λ n. Counts s w n) ms counts)

use Rattle.std.proofs.Common.{ℕ, ◌+◌, ◌≤◌, false, refl, ap, ◌∙◌, arith, rules}
use Rattle.std.specs.Prelude.{slice_get}
use Rattle.held_consequence.proofs.TableLemmas.{known_pushed, decided_none, decided_both, decided_set, still_at, key_still, word_known, mem_known, word_decided, mem_decided, went_none, went_first, went_next, went_pushed, went_set, answer_last}
use Rattle.held_consequence.proofs.swaps.+swaps.Goals as goal

pub swap_word-returns-then-are_words_stated-clause-decided : goal.swap_word-returns-then-are_words_stated-clause-decided
swap_word-returns-then-are_words_stated-clause-decided g t c = decided_none _ _ _

pub swap_word-returns-then-are_words_stated-clause-went : goal.swap_word-returns-then-are_words_stated-clause-went
swap_word-returns-then-are_words_stated-clause-went g t c = went_none _ _ c.args.known.now c.args.known.now _ _ refl (omega arith)

pub swap_word-returns-in-Some-clause-answer : goal.swap_word-returns-in-Some-clause-answer
swap_word-returns-in-Some-clause-answer g t c = word_known c.args.arena.now _ c.args.known.now c.args.a c.args.b c.in-Some.v c.requires.known c.in-Some.ensures.found c.requires.a c.requires.b

pub swap_word-returns-in-Some-clause-decided : goal.swap_word-returns-in-Some-clause-decided
swap_word-returns-in-Some-clause-decided g t c = decided_none _ _ _

pub swap_word-returns-in-Some-clause-went : goal.swap_word-returns-in-Some-clause-went
swap_word-returns-in-Some-clause-went g t c = went_none _ _ c.args.known.now c.args.known.now _ _ refl (omega arith)

pub swap_word-returns-in_err-push-clause-went : goal.swap_word-returns-in_err-push-clause-went
swap_word-returns-in_err-push-clause-went g t c = went_none _ _ c.args.known.now c.push.new.self _ _ c.in_err-push.ensures.err (omega arith)

pub swap_word-returns-in_err-v-clause-went : goal.swap_word-returns-in_err-v-clause-went
swap_word-returns-in_err-v-clause-went g t c =
    went_pushed c.args.arena.now c.args.a c.args.b false _ _ c.args.known.now c.push.new.self c.swap_below_words.new.known c.args.steps.now c.swap_below_words.new.steps
    c.requires.a c.requires.b c.in_ok-push.ensures.ok c.in_default.ensures.none c.swap_below_words.ensures.went

pub swap_word-set-requires : goal.swap_word-set-requires
swap_word-set-requires g t c =
    key_still c.args.arena.now _ c.args.known.now c.push.new.self c.swap_below_words.new.known (c.args.a, c.args.b, false) c.len-at.result
    c.in_ok-push.ensures.ok c.in_ok-v.ensures.decided c.len-at.ensures

pub swap_word-returns-clause-answer : goal.swap_word-returns-clause-answer
swap_word-returns-clause-answer g t c = answer_last c.in_ok-v.v c.in_ok-v.ensures.answer (λ s. let yes = c.are_words_stated.ensures.1 s in cc)

pub swap_word-returns-clause-decided : goal.swap_word-returns-clause-decided
swap_word-returns-clause-decided g t c =
    decided_set c.args.arena.now _ c.args.known.now c.push.new.self c.swap_below_words.new.known _ (c.args.a, c.args.b, false) (c.args.a, c.args.b, c.in_ok-v.v) c.len-at.result
    c.in_ok-push.ensures.ok c.in_ok-v.ensures.decided c.len-at.ensures c.set.ensures
    (word_decided c.args.arena.now _ c.args.a c.args.b c.in_ok-v.v c.requires.a c.requires.b
    (answer_last c.in_ok-v.v c.in_ok-v.ensures.answer (λ s. let yes = c.are_words_stated.ensures.1 s in cc)))

pub swap_word-returns-clause-went : goal.swap_word-returns-clause-went
swap_word-returns-clause-went g t c =
    went_set c.args.arena.now _ c.args.known.now c.swap_below_words.new.known _ c.args.steps.now c.swap_below_words.new.steps c.len-at.result (c.args.a, c.args.b, false) (c.args.a, c.args.b, c.in_ok-v.v)
    (ap (λ (k : ℕ). slice_get c.swap_below_words.new.known k) c.len-at.ensures
    ∙ still_at c.args.arena.now _ c.args.known.now c.push.new.self c.swap_below_words.new.known (c.args.a, c.args.b, false) c.in_ok-push.ensures.ok c.in_ok-v.ensures.decided)
    refl c.set.ensures
    (went_pushed c.args.arena.now c.args.a c.args.b false _ _ c.args.known.now c.push.new.self c.swap_below_words.new.known c.args.steps.now c.swap_below_words.new.steps
    c.requires.a c.requires.b c.in_ok-push.ensures.ok c.in_default.ensures.none c.swap_below_words.ensures.went)

pub swap_below_words-returns-in-Differ-clause-decided : goal.swap_below_words-returns-in-Differ-clause-decided
swap_below_words-returns-in-Differ-clause-decided g t c = decided_none _ _ _

pub swap_below_words-returns-in-Differ-clause-went : goal.swap_below_words-returns-in-Differ-clause-went
swap_below_words-returns-in-Differ-clause-went g t c =
    let le : c.word_pairs.new.steps ≤ c.args.steps.now + 2 = omega (arith, c.word_pairs.ensures.steps) in
    went_none _ _ c.args.known.now c.args.known.now _ _ refl le

pub swap_mem-returns-then-are_mems_stated-clause-decided : goal.swap_mem-returns-then-are_mems_stated-clause-decided
swap_mem-returns-then-are_mems_stated-clause-decided g t c = decided_none _ _ _

pub swap_mem-returns-then-are_mems_stated-clause-went : goal.swap_mem-returns-then-are_mems_stated-clause-went
swap_mem-returns-then-are_mems_stated-clause-went g t c = went_none _ _ c.args.known.now c.args.known.now _ _ refl (omega arith)

pub swap_mem-returns-in-Some-clause-answer : goal.swap_mem-returns-in-Some-clause-answer
swap_mem-returns-in-Some-clause-answer g t c = mem_known c.args.arena.now _ c.args.known.now c.args.a c.args.b c.in-Some.v c.requires.known c.in-Some.ensures.found c.requires.a c.requires.b

pub swap_mem-returns-in-Some-clause-decided : goal.swap_mem-returns-in-Some-clause-decided
swap_mem-returns-in-Some-clause-decided g t c = decided_none _ _ _

pub swap_mem-returns-in-Some-clause-went : goal.swap_mem-returns-in-Some-clause-went
swap_mem-returns-in-Some-clause-went g t c = went_none _ _ c.args.known.now c.args.known.now _ _ refl (omega arith)

pub swap_mem-returns-in_err-push-clause-went : goal.swap_mem-returns-in_err-push-clause-went
swap_mem-returns-in_err-push-clause-went g t c = went_none _ _ c.args.known.now c.push.new.self _ _ c.in_err-push.ensures.err (omega arith)

pub swap_mem-returns-in_err-v-clause-went : goal.swap_mem-returns-in_err-v-clause-went
swap_mem-returns-in_err-v-clause-went g t c =
    went_pushed c.args.arena.now c.args.a c.args.b false _ _ c.args.known.now c.push.new.self c.swap_below_mems.new.known c.args.steps.now c.swap_below_mems.new.steps
    c.requires.a c.requires.b c.in_ok-push.ensures.ok c.in_default.ensures.none c.swap_below_mems.ensures.went

pub swap_mem-set-requires : goal.swap_mem-set-requires
swap_mem-set-requires g t c =
    key_still c.args.arena.now _ c.args.known.now c.push.new.self c.swap_below_mems.new.known (c.args.a, c.args.b, false) c.len-at.result
    c.in_ok-push.ensures.ok c.in_ok-v.ensures.decided c.len-at.ensures

pub swap_mem-returns-clause-answer : goal.swap_mem-returns-clause-answer
swap_mem-returns-clause-answer g t c = answer_last c.in_ok-v.v c.in_ok-v.ensures.answer (λ s. let yes = c.are_mems_stated.ensures.1 s in cc)

pub swap_mem-returns-clause-decided : goal.swap_mem-returns-clause-decided
swap_mem-returns-clause-decided g t c =
    decided_set c.args.arena.now _ c.args.known.now c.push.new.self c.swap_below_mems.new.known _ (c.args.a, c.args.b, false) (c.args.a, c.args.b, c.in_ok-v.v) c.len-at.result
    c.in_ok-push.ensures.ok c.in_ok-v.ensures.decided c.len-at.ensures c.set.ensures
    (mem_decided c.args.arena.now _ c.args.a c.args.b c.in_ok-v.v c.requires.a c.requires.b
    (answer_last c.in_ok-v.v c.in_ok-v.ensures.answer (λ s. let yes = c.are_mems_stated.ensures.1 s in cc)))

pub swap_mem-returns-clause-went : goal.swap_mem-returns-clause-went
swap_mem-returns-clause-went g t c =
    went_set c.args.arena.now _ c.args.known.now c.swap_below_mems.new.known _ c.args.steps.now c.swap_below_mems.new.steps c.len-at.result (c.args.a, c.args.b, false) (c.args.a, c.args.b, c.in_ok-v.v)
    (ap (λ (k : ℕ). slice_get c.swap_below_mems.new.known k) c.len-at.ensures
    ∙ still_at c.args.arena.now _ c.args.known.now c.push.new.self c.swap_below_mems.new.known (c.args.a, c.args.b, false) c.in_ok-push.ensures.ok c.in_ok-v.ensures.decided)
    refl c.set.ensures
    (went_pushed c.args.arena.now c.args.a c.args.b false _ _ c.args.known.now c.push.new.self c.swap_below_mems.new.known c.args.steps.now c.swap_below_mems.new.steps
    c.requires.a c.requires.b c.in_ok-push.ensures.ok c.in_default.ensures.none c.swap_below_mems.ensures.went)

pub swap_below_mems-returns-in-Differ-clause-decided : goal.swap_below_mems-returns-in-Differ-clause-decided
swap_below_mems-returns-in-Differ-clause-decided g t c = decided_none _ _ _

pub swap_below_mems-returns-in-Differ-clause-went : goal.swap_below_mems-returns-in-Differ-clause-went
swap_below_mems-returns-in-Differ-clause-went g t c =
    let le : c.mem_pairs.new.steps ≤ c.args.steps.now + 2 = omega (arith, c.mem_pairs.ensures.steps) in
    went_none _ _ c.args.known.now c.args.known.now _ _ refl le

pub swap_below_words-returns-in_err-only-in-One-clause-went : goal.swap_below_words-returns-in_err-only-in-One-clause-went
swap_below_words-returns-in_err-only-in-One-clause-went g t c = went_first c.args.arena.now c.args.a c.args.b c.in-One.x c.in-One.u c.args.known.now c.swap_word.new.known c.args.steps.now c.word_pairs.new.steps c.swap_word.new.steps c.word_pairs.ensures.steps c.in-One.ensures.under c.swap_word.ensures.went

pub swap_below_words-returns-in_ok-only-in-One-clause-decided : goal.swap_below_words-returns-in_ok-only-in-One-clause-decided
swap_below_words-returns-in_ok-only-in-One-clause-decided g t c = c.in_ok-only-in-One.ensures.decided

pub swap_below_words-returns-in_ok-only-in-One-clause-went : goal.swap_below_words-returns-in_ok-only-in-One-clause-went
swap_below_words-returns-in_ok-only-in-One-clause-went g t c = went_first c.args.arena.now c.args.a c.args.b c.in-One.x c.in-One.u c.args.known.now c.swap_word.new.known c.args.steps.now c.word_pairs.new.steps c.swap_word.new.steps c.word_pairs.ensures.steps c.in-One.ensures.under c.swap_word.ensures.went

pub swap_below_words-returns-in_err-first-in-Two-clause-went : goal.swap_below_words-returns-in_err-first-in-Two-clause-went
swap_below_words-returns-in_err-first-in-Two-clause-went g t c = went_first c.args.arena.now c.args.a c.args.b c.in-Two.x c.in-Two.u c.args.known.now c.swap_word-in-Two.new.known c.args.steps.now c.word_pairs.new.steps c.swap_word-in-Two.new.steps c.word_pairs.ensures.steps c.in-Two.ensures.under.0 c.swap_word-in-Two.ensures.went

pub swap_below_words-returns-then-not-first-clause-decided : goal.swap_below_words-returns-then-not-first-clause-decided
swap_below_words-returns-then-not-first-clause-decided g t c = c.in_ok-first-in-Two.ensures.decided

pub swap_below_words-returns-then-not-first-clause-went : goal.swap_below_words-returns-then-not-first-clause-went
swap_below_words-returns-then-not-first-clause-went g t c = went_first c.args.arena.now c.args.a c.args.b c.in-Two.x c.in-Two.u c.args.known.now c.swap_word-in-Two.new.known c.args.steps.now c.word_pairs.new.steps c.swap_word-in-Two.new.steps c.word_pairs.ensures.steps c.in-Two.ensures.under.0 c.swap_word-in-Two.ensures.went

pub swap_below_words-returns-in_err-second-in-Two-clause-went : goal.swap_below_words-returns-in_err-second-in-Two-clause-went
swap_below_words-returns-in_err-second-in-Two-clause-went g t c = went_next c.args.arena.now c.args.a c.args.b c.in-Two.y c.in-Two.v c.args.known.now c.swap_word-in-Two.new.known c.swap_word-in-Two-2.new.known _ c.swap_word-in-Two.new.steps c.swap_word-in-Two-2.new.steps (went_first c.args.arena.now c.args.a c.args.b c.in-Two.x c.in-Two.u c.args.known.now c.swap_word-in-Two.new.known c.args.steps.now c.word_pairs.new.steps c.swap_word-in-Two.new.steps c.word_pairs.ensures.steps c.in-Two.ensures.under.0 c.swap_word-in-Two.ensures.went) c.in-Two.ensures.under.1 c.swap_word-in-Two-2.ensures.went

pub swap_below_words-returns-in_ok-second-in-Two-clause-decided : goal.swap_below_words-returns-in_ok-second-in-Two-clause-decided
swap_below_words-returns-in_ok-second-in-Two-clause-decided g t c = decided_both _ _ _ _ _ c.in_ok-first-in-Two.ensures.decided c.in_ok-second-in-Two.ensures.decided

pub swap_below_words-returns-in_ok-second-in-Two-clause-went : goal.swap_below_words-returns-in_ok-second-in-Two-clause-went
swap_below_words-returns-in_ok-second-in-Two-clause-went g t c = went_next c.args.arena.now c.args.a c.args.b c.in-Two.y c.in-Two.v c.args.known.now c.swap_word-in-Two.new.known c.swap_word-in-Two-2.new.known _ c.swap_word-in-Two.new.steps c.swap_word-in-Two-2.new.steps (went_first c.args.arena.now c.args.a c.args.b c.in-Two.x c.in-Two.u c.args.known.now c.swap_word-in-Two.new.known c.args.steps.now c.word_pairs.new.steps c.swap_word-in-Two.new.steps c.word_pairs.ensures.steps c.in-Two.ensures.under.0 c.swap_word-in-Two.ensures.went) c.in-Two.ensures.under.1 c.swap_word-in-Two-2.ensures.went

pub swap_below_words-returns-in_err-base-in-Load-clause-went : goal.swap_below_words-returns-in_err-base-in-Load-clause-went
swap_below_words-returns-in_err-base-in-Load-clause-went g t c = went_first c.args.arena.now c.args.a c.args.b c.in-Load.p c.in-Load.q c.args.known.now c.swap_mem.new.known c.args.steps.now c.word_pairs.new.steps c.swap_mem.new.steps c.word_pairs.ensures.steps c.in-Load.ensures.under.0 c.swap_mem.ensures.went

pub swap_below_words-returns-then-not-base-clause-decided : goal.swap_below_words-returns-then-not-base-clause-decided
swap_below_words-returns-then-not-base-clause-decided g t c = c.in_ok-base-in-Load.ensures.decided

pub swap_below_words-returns-then-not-base-clause-went : goal.swap_below_words-returns-then-not-base-clause-went
swap_below_words-returns-then-not-base-clause-went g t c = went_first c.args.arena.now c.args.a c.args.b c.in-Load.p c.in-Load.q c.args.known.now c.swap_mem.new.known c.args.steps.now c.word_pairs.new.steps c.swap_mem.new.steps c.word_pairs.ensures.steps c.in-Load.ensures.under.0 c.swap_mem.ensures.went

pub swap_below_words-returns-in_err-place-in-Load-clause-went : goal.swap_below_words-returns-in_err-place-in-Load-clause-went
swap_below_words-returns-in_err-place-in-Load-clause-went g t c = went_next c.args.arena.now c.args.a c.args.b c.in-Load.x c.in-Load.u c.args.known.now c.swap_mem.new.known c.swap_word-in-Load.new.known _ c.swap_mem.new.steps c.swap_word-in-Load.new.steps (went_first c.args.arena.now c.args.a c.args.b c.in-Load.p c.in-Load.q c.args.known.now c.swap_mem.new.known c.args.steps.now c.word_pairs.new.steps c.swap_mem.new.steps c.word_pairs.ensures.steps c.in-Load.ensures.under.0 c.swap_mem.ensures.went) c.in-Load.ensures.under.1 c.swap_word-in-Load.ensures.went

pub swap_below_words-returns-in_ok-place-in-Load-clause-decided : goal.swap_below_words-returns-in_ok-place-in-Load-clause-decided
swap_below_words-returns-in_ok-place-in-Load-clause-decided g t c = decided_both _ _ _ _ _ c.in_ok-base-in-Load.ensures.decided c.in_ok-place-in-Load.ensures.decided

pub swap_below_words-returns-in_ok-place-in-Load-clause-went : goal.swap_below_words-returns-in_ok-place-in-Load-clause-went
swap_below_words-returns-in_ok-place-in-Load-clause-went g t c = went_next c.args.arena.now c.args.a c.args.b c.in-Load.x c.in-Load.u c.args.known.now c.swap_mem.new.known c.swap_word-in-Load.new.known _ c.swap_mem.new.steps c.swap_word-in-Load.new.steps (went_first c.args.arena.now c.args.a c.args.b c.in-Load.p c.in-Load.q c.args.known.now c.swap_mem.new.known c.args.steps.now c.word_pairs.new.steps c.swap_mem.new.steps c.word_pairs.ensures.steps c.in-Load.ensures.under.0 c.swap_mem.ensures.went) c.in-Load.ensures.under.1 c.swap_word-in-Load.ensures.went

pub swap_below_mems-returns-in_err-base-in-Store-clause-went : goal.swap_below_mems-returns-in_err-base-in-Store-clause-went
swap_below_mems-returns-in_err-base-in-Store-clause-went g t c = went_first c.args.arena.now c.args.a c.args.b c.in-Store.p c.in-Store.q c.args.known.now c.swap_mem.new.known c.args.steps.now c.mem_pairs.new.steps c.swap_mem.new.steps c.mem_pairs.ensures.steps c.in-Store.ensures.under.0 c.swap_mem.ensures.went

pub swap_below_mems-returns-then-not-base-clause-decided : goal.swap_below_mems-returns-then-not-base-clause-decided
swap_below_mems-returns-then-not-base-clause-decided g t c = c.in_ok-base-in-Store.ensures.decided

pub swap_below_mems-returns-then-not-base-clause-went : goal.swap_below_mems-returns-then-not-base-clause-went
swap_below_mems-returns-then-not-base-clause-went g t c = went_first c.args.arena.now c.args.a c.args.b c.in-Store.p c.in-Store.q c.args.known.now c.swap_mem.new.known c.args.steps.now c.mem_pairs.new.steps c.swap_mem.new.steps c.mem_pairs.ensures.steps c.in-Store.ensures.under.0 c.swap_mem.ensures.went

pub swap_below_mems-returns-in_err-place-in-Store-clause-went : goal.swap_below_mems-returns-in_err-place-in-Store-clause-went
swap_below_mems-returns-in_err-place-in-Store-clause-went g t c = went_next c.args.arena.now c.args.a c.args.b c.in-Store.x c.in-Store.u c.args.known.now c.swap_mem.new.known c.swap_word.new.known _ c.swap_mem.new.steps c.swap_word.new.steps (went_first c.args.arena.now c.args.a c.args.b c.in-Store.p c.in-Store.q c.args.known.now c.swap_mem.new.known c.args.steps.now c.mem_pairs.new.steps c.swap_mem.new.steps c.mem_pairs.ensures.steps c.in-Store.ensures.under.0 c.swap_mem.ensures.went) c.in-Store.ensures.under.1 c.swap_word.ensures.went

pub swap_below_mems-returns-then-not-place-clause-decided : goal.swap_below_mems-returns-then-not-place-clause-decided
swap_below_mems-returns-then-not-place-clause-decided g t c = decided_both _ _ _ _ _ c.in_ok-base-in-Store.ensures.decided c.in_ok-place-in-Store.ensures.decided

pub swap_below_mems-returns-then-not-place-clause-went : goal.swap_below_mems-returns-then-not-place-clause-went
swap_below_mems-returns-then-not-place-clause-went g t c = went_next c.args.arena.now c.args.a c.args.b c.in-Store.x c.in-Store.u c.args.known.now c.swap_mem.new.known c.swap_word.new.known _ c.swap_mem.new.steps c.swap_word.new.steps (went_first c.args.arena.now c.args.a c.args.b c.in-Store.p c.in-Store.q c.args.known.now c.swap_mem.new.known c.args.steps.now c.mem_pairs.new.steps c.swap_mem.new.steps c.mem_pairs.ensures.steps c.in-Store.ensures.under.0 c.swap_mem.ensures.went) c.in-Store.ensures.under.1 c.swap_word.ensures.went

pub swap_below_mems-returns-in_err-value-in-Store-clause-went : goal.swap_below_mems-returns-in_err-value-in-Store-clause-went
swap_below_mems-returns-in_err-value-in-Store-clause-went g t c = went_next c.args.arena.now c.args.a c.args.b c.in-Store.y c.in-Store.v c.args.known.now c.swap_word.new.known c.swap_word-in-Store.new.known _ c.swap_word.new.steps c.swap_word-in-Store.new.steps (went_next c.args.arena.now c.args.a c.args.b c.in-Store.x c.in-Store.u c.args.known.now c.swap_mem.new.known c.swap_word.new.known _ c.swap_mem.new.steps c.swap_word.new.steps (went_first c.args.arena.now c.args.a c.args.b c.in-Store.p c.in-Store.q c.args.known.now c.swap_mem.new.known c.args.steps.now c.mem_pairs.new.steps c.swap_mem.new.steps c.mem_pairs.ensures.steps c.in-Store.ensures.under.0 c.swap_mem.ensures.went) c.in-Store.ensures.under.1 c.swap_word.ensures.went) c.in-Store.ensures.under.2 c.swap_word-in-Store.ensures.went

pub swap_below_mems-returns-in_ok-value-in-Store-clause-decided : goal.swap_below_mems-returns-in_ok-value-in-Store-clause-decided
swap_below_mems-returns-in_ok-value-in-Store-clause-decided g t c = decided_both _ _ _ _ _ (decided_both _ _ _ _ _ c.in_ok-base-in-Store.ensures.decided c.in_ok-place-in-Store.ensures.decided) c.in_ok-value-in-Store.ensures.decided

pub swap_below_mems-returns-in_ok-value-in-Store-clause-went : goal.swap_below_mems-returns-in_ok-value-in-Store-clause-went
swap_below_mems-returns-in_ok-value-in-Store-clause-went g t c = went_next c.args.arena.now c.args.a c.args.b c.in-Store.y c.in-Store.v c.args.known.now c.swap_word.new.known c.swap_word-in-Store.new.known _ c.swap_word.new.steps c.swap_word-in-Store.new.steps (went_next c.args.arena.now c.args.a c.args.b c.in-Store.x c.in-Store.u c.args.known.now c.swap_mem.new.known c.swap_word.new.known _ c.swap_mem.new.steps c.swap_word.new.steps (went_first c.args.arena.now c.args.a c.args.b c.in-Store.p c.in-Store.q c.args.known.now c.swap_mem.new.known c.args.steps.now c.mem_pairs.new.steps c.swap_mem.new.steps c.mem_pairs.ensures.steps c.in-Store.ensures.under.0 c.swap_mem.ensures.went) c.in-Store.ensures.under.1 c.swap_word.ensures.went) c.in-Store.ensures.under.2 c.swap_word-in-Store.ensures.went

pub swap_word-swap_below_words-requires : goal.swap_word-swap_below_words-requires
swap_word-swap_below_words-requires g t c κs within =
    let known = known_pushed c.args.arena.now _ c.args.known.now c.push.new.self c.args.a c.args.b false c.in_ok-push.ensures.ok c.requires.known in
    search rules

pub swap_mem-swap_below_mems-requires : goal.swap_mem-swap_below_mems-requires
swap_mem-swap_below_mems-requires g t c κs within =
    let known = known_pushed c.args.arena.now _ c.args.known.now c.push.new.self c.args.a c.args.b false c.in_ok-push.ensures.ok c.requires.known in
    search rules

use Rattle.std.proofs.Common.{ℕ, ◌+◌, ◌≤◌, false, refl, ap, ◌∙◌, arith}
use Rattle.std.specs.Prelude.{slice_get}
use Rattle.held_consequence.proofs.SeekLemmas.{sought_first, sought_inside, sought_next, sought_none, sought_pairs, sought_pushed, sought_set}
use Rattle.held_consequence.proofs.TableLemmas.{cond_decided, cond_known, decided_both, decided_none, decided_set, key_still, still_at, went_none}
use Rattle.held_consequence.specs.inner.Table.{HasBoth}
use Rattle.held_consequence.proofs.conditions.+alike.Goals as goal

pub are_alike-returns-in-Some-clause-answer : goal.are_alike-returns-in-Some-clause-answer
are_alike-returns-in-Some-clause-answer g t c =
    cond_known c.args.arena.now _ c.args.known.now c.args.a c.args.b c.in-Some.v c.requires.known c.in-Some.ensures.found c.requires.a c.requires.b

pub are_alike-returns-in-Some-clause-decided : goal.are_alike-returns-in-Some-clause-decided
are_alike-returns-in-Some-clause-decided g t c =
    decided_none _ _ _

pub are_alike-returns-in-Some-clause-sought : goal.are_alike-returns-in-Some-clause-sought
are_alike-returns-in-Some-clause-sought g t c =
    sought_none c.args.arena.now _ c.args.known.now c.args.found.now _ _ (omega arith)

pub are_alike-returns-in_err-push-clause-sought : goal.are_alike-returns-in_err-push-clause-sought
are_alike-returns-in_err-push-clause-sought g t c =
    sought_pairs c.args.arena.now _ (HasBoth c.args.arena.now c.args.a c.args.b) c.args.known.now c.push.new.self c.args.found.now c.args.steps.now c.args.steps.now (λ ts h. h) (went_none c.args.arena.now (HasBoth c.args.arena.now c.args.a c.args.b) c.args.known.now c.push.new.self c.args.steps.now c.args.steps.now c.in_err-push.ensures.err (omega arith))

pub are_alike-returns-in_err-v-clause-sought : goal.are_alike-returns-in_err-v-clause-sought
are_alike-returns-in_err-v-clause-sought g t c =
    sought_pushed c.args.arena.now c.args.a c.args.b false _ _ c.args.known.now c.push.new.self c.are_alike_below.new.known c.args.found.now c.are_alike_below.new.found c.args.steps.now c.are_alike_below.new.steps c.requires.a c.requires.b c.in_ok-push.ensures.ok c.in_default.ensures.none c.are_alike_below.ensures.sought

pub are_alike-set-requires : goal.are_alike-set-requires
are_alike-set-requires g t c =
    key_still c.args.arena.now _ c.args.known.now c.push.new.self c.are_alike_below.new.known (c.args.a, c.args.b, false) c.len-at.result c.in_ok-push.ensures.ok c.in_ok-v.ensures.decided c.len-at.ensures

pub are_alike-returns-clause-decided : goal.are_alike-returns-clause-decided
are_alike-returns-clause-decided g t c =
    decided_set c.args.arena.now _ c.args.known.now c.push.new.self c.are_alike_below.new.known _ (c.args.a, c.args.b, false) (c.args.a, c.args.b, c.in_ok-v.v) c.len-at.result
    c.in_ok-push.ensures.ok c.in_ok-v.ensures.decided c.len-at.ensures c.set.ensures
    (cond_decided c.args.arena.now _ c.args.a c.args.b c.in_ok-v.v c.requires.a c.requires.b c.in_ok-v.ensures.answer)

pub are_alike-returns-clause-sought : goal.are_alike-returns-clause-sought
are_alike-returns-clause-sought g t c =
    sought_set c.args.arena.now _ c.args.known.now c.are_alike_below.new.known _ c.args.found.now c.are_alike_below.new.found c.args.steps.now c.are_alike_below.new.steps c.len-at.result (c.args.a, c.args.b, false) (c.args.a, c.args.b, c.in_ok-v.v)
    (ap (λ (k : ℕ). slice_get c.are_alike_below.new.known k) c.len-at.ensures
    ∙ still_at c.args.arena.now _ c.args.known.now c.push.new.self c.are_alike_below.new.known (c.args.a, c.args.b, false) c.in_ok-push.ensures.ok c.in_ok-v.ensures.decided)
    refl c.set.ensures
    (sought_pushed c.args.arena.now c.args.a c.args.b false _ _ c.args.known.now c.push.new.self c.are_alike_below.new.known c.args.found.now c.are_alike_below.new.found c.args.steps.now c.are_alike_below.new.steps c.requires.a c.requires.b c.in_ok-push.ensures.ok c.in_default.ensures.none c.are_alike_below.ensures.sought)

pub are_alike_below-returns-in-Differ-clause-decided : goal.are_alike_below-returns-in-Differ-clause-decided
are_alike_below-returns-in-Differ-clause-decided g t c =
    decided_none _ _ _

pub are_alike_below-returns-in-Differ-clause-sought : goal.are_alike_below-returns-in-Differ-clause-sought
are_alike_below-returns-in-Differ-clause-sought g t c =
    let le : c.cond_pairs.new.steps ≤ c.args.steps.now + 2 = omega (arith, c.cond_pairs.ensures.steps) in sought_none c.args.arena.now _ c.args.known.now c.args.found.now _ _ le

pub are_alike_below-returns-in_err-first-in-Compare-clause-sought : goal.are_alike_below-returns-in_err-first-in-Compare-clause-sought
are_alike_below-returns-in_err-first-in-Compare-clause-sought g t c =
    sought_first c.args.arena.now c.args.a c.args.b c.in-Compare.x c.in-Compare.u c.args.known.now c.swap_word.new.known c.args.found.now c.args.steps.now c.cond_pairs.new.steps c.swap_word.new.steps c.cond_pairs.ensures.steps c.in-Compare.ensures.under.0 c.swap_word.ensures.went

pub are_alike_below-returns-then-not-first-clause-decided : goal.are_alike_below-returns-then-not-first-clause-decided
are_alike_below-returns-then-not-first-clause-decided g t c =
    c.in_ok-first-in-Compare.ensures.decided

pub are_alike_below-returns-then-not-first-clause-sought : goal.are_alike_below-returns-then-not-first-clause-sought
are_alike_below-returns-then-not-first-clause-sought g t c =
    sought_first c.args.arena.now c.args.a c.args.b c.in-Compare.x c.in-Compare.u c.args.known.now c.swap_word.new.known c.args.found.now c.args.steps.now c.cond_pairs.new.steps c.swap_word.new.steps c.cond_pairs.ensures.steps c.in-Compare.ensures.under.0 c.swap_word.ensures.went

pub are_alike_below-returns-in_err-second-in-Compare-clause-sought : goal.are_alike_below-returns-in_err-second-in-Compare-clause-sought
are_alike_below-returns-in_err-second-in-Compare-clause-sought g t c =
    sought_next c.args.arena.now c.args.a c.args.b c.in-Compare.y c.in-Compare.v c.args.known.now c.swap_word.new.known c.swap_word-in-Compare.new.known c.args.found.now c.args.found.now _ c.swap_word.new.steps c.swap_word-in-Compare.new.steps (sought_first c.args.arena.now c.args.a c.args.b c.in-Compare.x c.in-Compare.u c.args.known.now c.swap_word.new.known c.args.found.now c.args.steps.now c.cond_pairs.new.steps c.swap_word.new.steps c.cond_pairs.ensures.steps c.in-Compare.ensures.under.0 c.swap_word.ensures.went) c.in-Compare.ensures.under.1 c.swap_word-in-Compare.ensures.went

pub are_alike_below-returns-in_ok-second-in-Compare-clause-decided : goal.are_alike_below-returns-in_ok-second-in-Compare-clause-decided
are_alike_below-returns-in_ok-second-in-Compare-clause-decided g t c =
    decided_both _ _ _ _ _ c.in_ok-first-in-Compare.ensures.decided c.in_ok-second-in-Compare.ensures.decided

pub are_alike_below-returns-in_ok-second-in-Compare-clause-sought : goal.are_alike_below-returns-in_ok-second-in-Compare-clause-sought
are_alike_below-returns-in_ok-second-in-Compare-clause-sought g t c =
    sought_next c.args.arena.now c.args.a c.args.b c.in-Compare.y c.in-Compare.v c.args.known.now c.swap_word.new.known c.swap_word-in-Compare.new.known c.args.found.now c.args.found.now _ c.swap_word.new.steps c.swap_word-in-Compare.new.steps (sought_first c.args.arena.now c.args.a c.args.b c.in-Compare.x c.in-Compare.u c.args.known.now c.swap_word.new.known c.args.found.now c.args.steps.now c.cond_pairs.new.steps c.swap_word.new.steps c.cond_pairs.ensures.steps c.in-Compare.ensures.under.0 c.swap_word.ensures.went) c.in-Compare.ensures.under.1 c.swap_word-in-Compare.ensures.went

pub are_alike_below-returns-in_err-only-in-Neg-clause-sought : goal.are_alike_below-returns-in_err-only-in-Neg-clause-sought
are_alike_below-returns-in_err-only-in-Neg-clause-sought g t c =
    sought_inside c.args.arena.now c.args.a c.args.b c.in-Neg.x c.in-Neg.u c.args.known.now c.are_alike.new.known c.args.found.now c.are_alike.new.found c.args.steps.now c.cond_pairs.new.steps c.are_alike.new.steps c.cond_pairs.ensures.steps c.in-Neg.ensures.under c.are_alike.ensures.sought

pub are_alike_below-returns-in_ok-only-in-Neg-clause-decided : goal.are_alike_below-returns-in_ok-only-in-Neg-clause-decided
are_alike_below-returns-in_ok-only-in-Neg-clause-decided g t c =
    c.in_ok-only-in-Neg.ensures.decided

pub are_alike_below-returns-in_ok-only-in-Neg-clause-sought : goal.are_alike_below-returns-in_ok-only-in-Neg-clause-sought
are_alike_below-returns-in_ok-only-in-Neg-clause-sought g t c =
    sought_inside c.args.arena.now c.args.a c.args.b c.in-Neg.x c.in-Neg.u c.args.known.now c.are_alike.new.known c.args.found.now c.are_alike.new.found c.args.steps.now c.cond_pairs.new.steps c.are_alike.new.steps c.cond_pairs.ensures.steps c.in-Neg.ensures.under c.are_alike.ensures.sought

pub are_alike_below-returns-in_err-base-in-Inside-clause-sought : goal.are_alike_below-returns-in_err-base-in-Inside-clause-sought
are_alike_below-returns-in_err-base-in-Inside-clause-sought g t c =
    sought_inside c.args.arena.now c.args.a c.args.b c.in-Inside.p c.in-Inside.q c.args.known.now c.have_same_addresses.new.known c.args.found.now c.have_same_addresses.new.found c.args.steps.now c.cond_pairs.new.steps c.have_same_addresses.new.steps c.cond_pairs.ensures.steps c.in-Inside.ensures.under.0 c.have_same_addresses.ensures.sought

pub are_alike_below-returns-then-not-base-clause-decided : goal.are_alike_below-returns-then-not-base-clause-decided
are_alike_below-returns-then-not-base-clause-decided g t c =
    c.in_ok-base-in-Inside.ensures.decided

pub are_alike_below-returns-then-not-base-clause-sought : goal.are_alike_below-returns-then-not-base-clause-sought
are_alike_below-returns-then-not-base-clause-sought g t c =
    sought_inside c.args.arena.now c.args.a c.args.b c.in-Inside.p c.in-Inside.q c.args.known.now c.have_same_addresses.new.known c.args.found.now c.have_same_addresses.new.found c.args.steps.now c.cond_pairs.new.steps c.have_same_addresses.new.steps c.cond_pairs.ensures.steps c.in-Inside.ensures.under.0 c.have_same_addresses.ensures.sought

pub are_alike_below-returns-in_err-place-in-Inside-clause-sought : goal.are_alike_below-returns-in_err-place-in-Inside-clause-sought
are_alike_below-returns-in_err-place-in-Inside-clause-sought g t c =
    sought_next c.args.arena.now c.args.a c.args.b c.in-Inside.x c.in-Inside.u c.args.known.now c.have_same_addresses.new.known c.swap_word-in-Inside.new.known c.args.found.now c.have_same_addresses.new.found _ c.have_same_addresses.new.steps c.swap_word-in-Inside.new.steps (sought_inside c.args.arena.now c.args.a c.args.b c.in-Inside.p c.in-Inside.q c.args.known.now c.have_same_addresses.new.known c.args.found.now c.have_same_addresses.new.found c.args.steps.now c.cond_pairs.new.steps c.have_same_addresses.new.steps c.cond_pairs.ensures.steps c.in-Inside.ensures.under.0 c.have_same_addresses.ensures.sought) c.in-Inside.ensures.under.1 c.swap_word-in-Inside.ensures.went

pub are_alike_below-returns-in_ok-place-in-Inside-clause-decided : goal.are_alike_below-returns-in_ok-place-in-Inside-clause-decided
are_alike_below-returns-in_ok-place-in-Inside-clause-decided g t c =
    decided_both _ _ _ _ _ c.in_ok-base-in-Inside.ensures.decided c.in_ok-place-in-Inside.ensures.decided

pub are_alike_below-returns-in_ok-place-in-Inside-clause-sought : goal.are_alike_below-returns-in_ok-place-in-Inside-clause-sought
are_alike_below-returns-in_ok-place-in-Inside-clause-sought g t c =
    sought_next c.args.arena.now c.args.a c.args.b c.in-Inside.x c.in-Inside.u c.args.known.now c.have_same_addresses.new.known c.swap_word-in-Inside.new.known c.args.found.now c.have_same_addresses.new.found _ c.have_same_addresses.new.steps c.swap_word-in-Inside.new.steps (sought_inside c.args.arena.now c.args.a c.args.b c.in-Inside.p c.in-Inside.q c.args.known.now c.have_same_addresses.new.known c.args.found.now c.have_same_addresses.new.found c.args.steps.now c.cond_pairs.new.steps c.have_same_addresses.new.steps c.cond_pairs.ensures.steps c.in-Inside.ensures.under.0 c.have_same_addresses.ensures.sought) c.in-Inside.ensures.under.1 c.swap_word-in-Inside.ensures.went

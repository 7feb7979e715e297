use Rattle.std.proofs.Common.{sym, ◌∙◌}
use Rattle.held_consequence.proofs.AloneLemmas.{base_before}
use Rattle.held_consequence.proofs.FindLemmas.{base_right, no_base, searched_begun, searched_first, searched_kept, searched_same}
use Rattle.held_consequence.proofs.alone.+bases.Goals as goal

pub before_stores-returns-in-Some-clause-base : goal.before_stores-returns-in-Some-clause-base
before_stores-returns-in-Some-clause-base g t c =
    (base_right c.args.arena.now c.args.found.now c.args.m c.requires.found c.in-Some.v (sym c.base_in.ensures ∙ c.in-Some.is)).1

pub before_stores-returns-in_err-v-clause-searched : goal.before_stores-returns-in_err-v-clause-searched
before_stores-returns-in_err-v-clause-searched g t c =
    searched_begun c.args.arena.now c.args.m _ c.args.found.now c.insert.new.self c.base_over.new.found _ _ c.args.steps.now c.base_over.new.steps c.requires.there (no_base c.args.arena.now c.args.found.now c.args.m c.requires.found c.requires.there (sym c.in_default.ensures)) c.in_ok-insert.ensures.old c.in_ok-insert.ensures.updates c.in_ok-insert.ensures.len c.insert.ensures.ordered c.base_over.ensures.searched

pub before_stores-returns-in_err-insert-2-clause-searched : goal.before_stores-returns-in_err-insert-2-clause-searched
before_stores-returns-in_err-insert-2-clause-searched g t c =
    searched_same c.args.arena.now _ c.args.found.now c.base_over.new.found c.insert-2.new.self c.args.steps.now c.base_over.new.steps c.in_err-insert-2.ensures.err c.insert-2.ensures.ordered
    (searched_begun c.args.arena.now c.args.m _ c.args.found.now c.insert.new.self c.base_over.new.found _ _ c.args.steps.now c.base_over.new.steps c.requires.there (no_base c.args.arena.now c.args.found.now c.args.m c.requires.found c.requires.there (sym c.in_default.ensures)) c.in_ok-insert.ensures.old c.in_ok-insert.ensures.updates c.in_ok-insert.ensures.len c.insert.ensures.ordered c.base_over.ensures.searched)

pub before_stores-returns-clause-searched : goal.before_stores-returns-clause-searched
before_stores-returns-clause-searched g t c =
    searched_kept c.args.arena.now c.args.m _ _ c.args.found.now c.base_over.new.found c.insert-2.new.self _ c.args.steps.now c.base_over.new.steps c.requires.there c.in_ok-insert-2.ensures.updates c.in_ok-insert-2.ensures.len c.insert-2.ensures.ordered
    (searched_begun c.args.arena.now c.args.m _ c.args.found.now c.insert.new.self c.base_over.new.found _ _ c.args.steps.now c.base_over.new.steps c.requires.there (no_base c.args.arena.now c.args.found.now c.args.m c.requires.found c.requires.there (sym c.in_default.ensures)) c.in_ok-insert.ensures.old c.in_ok-insert.ensures.updates c.in_ok-insert.ensures.len c.insert.ensures.ordered c.base_over.ensures.searched)

pub base_over-returns-in_err-v-in-Some-clause-searched : goal.base_over-returns-in_err-v-in-Some-clause-searched
base_over-returns-in_err-v-in-Some-clause-searched g t c =
    searched_first c.args.arena.now c.args.m c.in-Some.old c.args.found.now c.before_stores.new.found c.args.steps.now c.before_store.new.steps c.before_stores.new.steps c.before_store.ensures.steps c.in-Some.ensures.before.under c.before_stores.ensures.searched

pub base_over-returns-in_ok-v-in-Some-clause-searched : goal.base_over-returns-in_ok-v-in-Some-clause-searched
base_over-returns-in_ok-v-in-Some-clause-searched g t c =
    searched_first c.args.arena.now c.args.m c.in-Some.old c.args.found.now c.before_stores.new.found c.args.steps.now c.before_store.new.steps c.before_stores.new.steps c.before_store.ensures.steps c.in-Some.ensures.before.under c.before_stores.ensures.searched

pub base_over-returns-in_ok-v-in-Some-clause-base : goal.base_over-returns-in_ok-v-in-Some-clause-base
base_over-returns-in_ok-v-in-Some-clause-base g t c = base_before c.args.arena.now c.args.m c.in-Some.old c.in_ok-v-in-Some.v c.in-Some.ensures.before c.in_ok-v-in-Some.ensures.base

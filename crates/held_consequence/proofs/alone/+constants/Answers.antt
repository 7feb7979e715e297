use Rattle.std.proofs.Common.{◌+◌, ◌≤◌, sym, ◌∙◌, arith}
use Rattle.term_arena.proofs.TreeLemmas.{number_within}
use Rattle.held_consequence.proofs.AloneLemmas.{other_is}
use Rattle.held_consequence.proofs.FindLemmas.{more_none, no_value, searched_begun, searched_kept, searched_none, searched_same, value_right}
use Rattle.held_consequence.proofs.alone.+constants.Goals as goal

pub constant_of-returns-in-Some-clause-value : goal.constant_of-returns-in-Some-clause-value
constant_of-returns-in-Some-clause-value g t c =
    (value_right c.args.arena.now c.args.found.now c.args.x c.requires.found c.in-Some.v (sym c.value_in.ensures ∙ c.in-Some.is)).1

pub constant_of-returns-in_err-v-clause-searched : goal.constant_of-returns-in_err-v-clause-searched
constant_of-returns-in_err-v-clause-searched g t c =
    searched_begun c.args.arena.now c.args.x _ c.args.found.now c.insert.new.self c.constant_over.new.found _ _ c.args.steps.now c.constant_over.new.steps c.requires.there (no_value c.args.arena.now c.args.found.now c.args.x c.requires.found c.requires.there (sym c.in_default.ensures)) c.in_ok-insert.ensures.old c.in_ok-insert.ensures.updates c.in_ok-insert.ensures.len c.insert.ensures.ordered c.constant_over.ensures.searched

pub constant_of-returns-in_err-insert-2-clause-searched : goal.constant_of-returns-in_err-insert-2-clause-searched
constant_of-returns-in_err-insert-2-clause-searched g t c =
    searched_same c.args.arena.now _ c.args.found.now c.constant_over.new.found c.insert-2.new.self c.args.steps.now c.constant_over.new.steps c.in_err-insert-2.ensures.err c.insert-2.ensures.ordered
    (searched_begun c.args.arena.now c.args.x _ c.args.found.now c.insert.new.self c.constant_over.new.found _ _ c.args.steps.now c.constant_over.new.steps c.requires.there (no_value c.args.arena.now c.args.found.now c.args.x c.requires.found c.requires.there (sym c.in_default.ensures)) c.in_ok-insert.ensures.old c.in_ok-insert.ensures.updates c.in_ok-insert.ensures.len c.insert.ensures.ordered c.constant_over.ensures.searched)

pub constant_of-returns-clause-searched : goal.constant_of-returns-clause-searched
constant_of-returns-clause-searched g t c =
    searched_kept c.args.arena.now c.args.x _ _ c.args.found.now c.constant_over.new.found c.insert-2.new.self _ c.args.steps.now c.constant_over.new.steps c.requires.there c.in_ok-insert-2.ensures.updates c.in_ok-insert-2.ensures.len c.insert-2.ensures.ordered
    (searched_begun c.args.arena.now c.args.x _ c.args.found.now c.insert.new.self c.constant_over.new.found _ _ c.args.steps.now c.constant_over.new.steps c.requires.there (no_value c.args.arena.now c.args.found.now c.args.x c.requires.found c.requires.there (sym c.in_default.ensures)) c.in_ok-insert.ensures.old c.in_ok-insert.ensures.updates c.in_ok-insert.ensures.len c.insert.ensures.ordered c.constant_over.ensures.searched)

pub constant_over-node-requires : goal.constant_over-node-requires
constant_over-node-requires g t c = number_within c.args.arena.now c.args.x _ c.requires.there

pub constant_over-returns-in_default : goal.constant_over-returns-in_default
constant_over-returns-in_default g t c = record {
  value = other_is c.args.arena.now c.args.x c.node.result c.requires.there c.node.ensures.tree c.in_default.not-Const c.in_default.not-Bin c.in_default.not-Extend;
  found = more_none c.args.arena.now c.args.found.now;
  searched = let le : c.node.new.steps ≤ c.args.steps.now + 1 = omega (arith, c.node.ensures.steps) in searched_none c.args.arena.now _ c.args.found.now (c.args.steps.now + 1) c.node.new.steps le;
}

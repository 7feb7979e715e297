use Rattle.std.proofs.Common.{◌+◌, ◌≤◌, sym, ◌∙◌, arith}
use Rattle.term_arena.proofs.TreeLemmas.{number_within}
use Rattle.held_consequence.proofs.AloneLemmas.{inside_is}
use Rattle.held_consequence.proofs.FindLemmas.{more_none, no_truth, searched_begun, searched_kept, searched_none, searched_same, truth_right}
use Rattle.held_consequence.proofs.alone.+truths.Goals as goal

pub truth_of-returns-in-Some-clause-truth : goal.truth_of-returns-in-Some-clause-truth
truth_of-returns-in-Some-clause-truth g t c =
    (truth_right c.args.arena.now c.args.found.now c.args.c c.requires.found c.in-Some.v (sym c.truth_in.ensures ∙ c.in-Some.is)).1

pub truth_of-returns-in_err-v-clause-searched : goal.truth_of-returns-in_err-v-clause-searched
truth_of-returns-in_err-v-clause-searched g t c =
    searched_begun c.args.arena.now c.args.c _ c.args.found.now c.insert.new.self c.truth_over.new.found _ _ c.args.steps.now c.truth_over.new.steps c.requires.there (no_truth c.args.arena.now c.args.found.now c.args.c c.requires.found c.requires.there (sym c.in_default.ensures)) c.in_ok-insert.ensures.old c.in_ok-insert.ensures.updates c.in_ok-insert.ensures.len c.insert.ensures.ordered c.truth_over.ensures.searched

pub truth_of-returns-in_err-insert-2-clause-searched : goal.truth_of-returns-in_err-insert-2-clause-searched
truth_of-returns-in_err-insert-2-clause-searched g t c =
    searched_same c.args.arena.now _ c.args.found.now c.truth_over.new.found c.insert-2.new.self c.args.steps.now c.truth_over.new.steps c.in_err-insert-2.ensures.err c.insert-2.ensures.ordered
    (searched_begun c.args.arena.now c.args.c _ c.args.found.now c.insert.new.self c.truth_over.new.found _ _ c.args.steps.now c.truth_over.new.steps c.requires.there (no_truth c.args.arena.now c.args.found.now c.args.c c.requires.found c.requires.there (sym c.in_default.ensures)) c.in_ok-insert.ensures.old c.in_ok-insert.ensures.updates c.in_ok-insert.ensures.len c.insert.ensures.ordered c.truth_over.ensures.searched)

pub truth_of-returns-clause-searched : goal.truth_of-returns-clause-searched
truth_of-returns-clause-searched g t c =
    searched_kept c.args.arena.now c.args.c _ _ c.args.found.now c.truth_over.new.found c.insert-2.new.self _ c.args.steps.now c.truth_over.new.steps c.requires.there c.in_ok-insert-2.ensures.updates c.in_ok-insert-2.ensures.len c.insert-2.ensures.ordered
    (searched_begun c.args.arena.now c.args.c _ c.args.found.now c.insert.new.self c.truth_over.new.found _ _ c.args.steps.now c.truth_over.new.steps c.requires.there (no_truth c.args.arena.now c.args.found.now c.args.c c.requires.found c.requires.there (sym c.in_default.ensures)) c.in_ok-insert.ensures.old c.in_ok-insert.ensures.updates c.in_ok-insert.ensures.len c.insert.ensures.ordered c.truth_over.ensures.searched)

pub truth_over-node-requires : goal.truth_over-node-requires
truth_over-node-requires g t c = number_within c.args.arena.now c.args.c _ c.requires.there

pub truth_over-returns-in_default : goal.truth_over-returns-in_default
truth_over-returns-in_default g t c = record {
  truth = inside_is c.args.arena.now c.args.c c.node.result c.requires.there c.node.ensures.tree c.in_default.not-Compare c.in_default.not-Neg;
  found = more_none c.args.arena.now c.args.found.now;
  searched = let le : c.node.new.steps ≤ c.args.steps.now + 1 = omega (arith, c.node.ensures.steps) in searched_none c.args.arena.now _ c.args.found.now (c.args.steps.now + 1) c.node.new.steps le;
}

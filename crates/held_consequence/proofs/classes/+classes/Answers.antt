use Rattle.std.proofs.Common.{◌+◌, sym}
use Rattle.held_consequence.proofs.ClassLemmas.{class_of_constant, class_of_variable, classed_more, classed_still, grows_both, grows_forms, known_still, over_children, over_class, tree_there, wanted_leaf}
use Rattle.held_consequence.proofs.FindLemmas.{searched_begun, searched_first, searched_kept, searched_next, searched_same}
use Rattle.held_consequence.proofs.classes.+classes.Goals as goal

pub class_of-returns-in_err-v-clause-searched : goal.class_of-returns-in_err-v-clause-searched
class_of-returns-in_err-v-clause-searched g t c =
    searched_begun c.args.arena.now c.args.x (tree_there c.args.arena.now c.args.x c.requires.there).0 c.args.seen.now c.insert.new.self c.class_over.new.seen _ _ c.args.steps.now c.class_over.new.steps (tree_there c.args.arena.now c.args.x c.requires.there).1 (sym c.in_default.ensures) c.in_ok-insert.ensures.old c.in_ok-insert.ensures.updates c.in_ok-insert.ensures.len c.insert.ensures.ordered c.class_over.ensures.searched

pub class_of-returns-in_err-insert-2-clause-searched : goal.class_of-returns-in_err-insert-2-clause-searched
class_of-returns-in_err-insert-2-clause-searched g t c =
    searched_same c.args.arena.now _ c.args.seen.now c.class_over.new.seen c.insert-2.new.self c.args.steps.now c.class_over.new.steps c.in_err-insert-2.ensures.err c.insert-2.ensures.ordered
    (searched_begun c.args.arena.now c.args.x (tree_there c.args.arena.now c.args.x c.requires.there).0 c.args.seen.now c.insert.new.self c.class_over.new.seen _ _ c.args.steps.now c.class_over.new.steps (tree_there c.args.arena.now c.args.x c.requires.there).1 (sym c.in_default.ensures) c.in_ok-insert.ensures.old c.in_ok-insert.ensures.updates c.in_ok-insert.ensures.len c.insert.ensures.ordered c.class_over.ensures.searched)

pub class_of-returns-clause-searched : goal.class_of-returns-clause-searched
class_of-returns-clause-searched g t c =
    searched_kept c.args.arena.now c.args.x _ _ c.args.seen.now c.class_over.new.seen c.insert-2.new.self _ c.args.steps.now c.class_over.new.steps (tree_there c.args.arena.now c.args.x c.requires.there).1 c.in_ok-insert-2.ensures.updates c.in_ok-insert-2.ensures.len c.insert-2.ensures.ordered
    (searched_begun c.args.arena.now c.args.x (tree_there c.args.arena.now c.args.x c.requires.there).0 c.args.seen.now c.insert.new.self c.class_over.new.seen _ _ c.args.steps.now c.class_over.new.steps (tree_there c.args.arena.now c.args.x c.requires.there).1 (sym c.in_default.ensures) c.in_ok-insert.ensures.old c.in_ok-insert.ensures.updates c.in_ok-insert.ensures.len c.insert.ensures.ordered c.class_over.ensures.searched)

pub class_over-returns-in_err-first-in-Over-clause-searched : goal.class_over-returns-in_err-first-in-Over-clause-searched
class_over-returns-in_err-first-in-Over-clause-searched g t c =
    searched_first c.args.arena.now c.args.x c.in-Over.a c.args.seen.now c.class_of.new.seen c.args.steps.now c.read_parts.new.steps c.class_of.new.steps c.read_parts.ensures.steps (λ ts has. (c.in-Over.ensures.parts.under ts has).0) c.class_of.ensures.searched

pub class_over-returns-in_err-second-in-Over-clause-searched : goal.class_over-returns-in_err-second-in-Over-clause-searched
class_over-returns-in_err-second-in-Over-clause-searched g t c =
    searched_next c.args.arena.now c.args.x c.in-Over.b c.args.seen.now c.class_of.new.seen c.class_of-in-Over.new.seen (c.args.steps.now + 1) c.class_of.new.steps c.class_of-in-Over.new.steps
    (searched_first c.args.arena.now c.args.x c.in-Over.a c.args.seen.now c.class_of.new.seen c.args.steps.now c.read_parts.new.steps c.class_of.new.steps c.read_parts.ensures.steps (λ ts has. (c.in-Over.ensures.parts.under ts has).0) c.class_of.ensures.searched)
    (λ ts has. (c.in-Over.ensures.parts.under ts has).1) c.class_of-in-Over.ensures.searched

pub class_over-returns-in_err-third-in-Over-clause-searched : goal.class_over-returns-in_err-third-in-Over-clause-searched
class_over-returns-in_err-third-in-Over-clause-searched g t c =
    searched_next c.args.arena.now c.args.x c.in-Over.d c.args.seen.now c.class_of-in-Over.new.seen c.class_of-in-Over-2.new.seen (c.args.steps.now + 1) c.class_of-in-Over.new.steps c.class_of-in-Over-2.new.steps
    (searched_next c.args.arena.now c.args.x c.in-Over.b c.args.seen.now c.class_of.new.seen c.class_of-in-Over.new.seen (c.args.steps.now + 1) c.class_of.new.steps c.class_of-in-Over.new.steps
    (searched_first c.args.arena.now c.args.x c.in-Over.a c.args.seen.now c.class_of.new.seen c.args.steps.now c.read_parts.new.steps c.class_of.new.steps c.read_parts.ensures.steps (λ ts has. (c.in-Over.ensures.parts.under ts has).0) c.class_of.ensures.searched)
    (λ ts has. (c.in-Over.ensures.parts.under ts has).1) c.class_of-in-Over.ensures.searched)
    (λ ts has. (c.in-Over.ensures.parts.under ts has).2) c.class_of-in-Over-2.ensures.searched

pub class_over-returns-in_err-c-in-Over-clause-searched : goal.class_over-returns-in_err-c-in-Over-clause-searched
class_over-returns-in_err-c-in-Over-clause-searched g t c =
    searched_next c.args.arena.now c.args.x c.in-Over.d c.args.seen.now c.class_of-in-Over.new.seen c.class_of-in-Over-2.new.seen (c.args.steps.now + 1) c.class_of-in-Over.new.steps c.class_of-in-Over-2.new.steps
    (searched_next c.args.arena.now c.args.x c.in-Over.b c.args.seen.now c.class_of.new.seen c.class_of-in-Over.new.seen (c.args.steps.now + 1) c.class_of.new.steps c.class_of-in-Over.new.steps
    (searched_first c.args.arena.now c.args.x c.in-Over.a c.args.seen.now c.class_of.new.seen c.args.steps.now c.read_parts.new.steps c.class_of.new.steps c.read_parts.ensures.steps (λ ts has. (c.in-Over.ensures.parts.under ts has).0) c.class_of.ensures.searched)
    (λ ts has. (c.in-Over.ensures.parts.under ts has).1) c.class_of-in-Over.ensures.searched)
    (λ ts has. (c.in-Over.ensures.parts.under ts has).2) c.class_of-in-Over-2.ensures.searched

pub class_over-returns-in_ok-c-in-Over-clause-searched : goal.class_over-returns-in_ok-c-in-Over-clause-searched
class_over-returns-in_ok-c-in-Over-clause-searched g t c =
    searched_next c.args.arena.now c.args.x c.in-Over.d c.args.seen.now c.class_of-in-Over.new.seen c.class_of-in-Over-2.new.seen (c.args.steps.now + 1) c.class_of-in-Over.new.steps c.class_of-in-Over-2.new.steps
    (searched_next c.args.arena.now c.args.x c.in-Over.b c.args.seen.now c.class_of.new.seen c.class_of-in-Over.new.seen (c.args.steps.now + 1) c.class_of.new.steps c.class_of-in-Over.new.steps
    (searched_first c.args.arena.now c.args.x c.in-Over.a c.args.seen.now c.class_of.new.seen c.args.steps.now c.read_parts.new.steps c.class_of.new.steps c.read_parts.ensures.steps (λ ts has. (c.in-Over.ensures.parts.under ts has).0) c.class_of.ensures.searched)
    (λ ts has. (c.in-Over.ensures.parts.under ts has).1) c.class_of-in-Over.ensures.searched)
    (λ ts has. (c.in-Over.ensures.parts.under ts has).2) c.class_of-in-Over-2.ensures.searched

pub class_over-class_of_variable-requires-clause-wanted : goal.class_over-class_of_variable-requires-clause-wanted
class_over-class_of_variable-requires-clause-wanted g t c =
    wanted_leaf c.args.arena.now c.args.forms.now c.args.x c.in-Variable.v c.args.wanted c.in-Variable.ensures.parts c.requires.wanted

pub class_over-returns-in_ok-c-in-Variable-clause-seen : goal.class_over-returns-in_ok-c-in-Variable-clause-seen
class_over-returns-in_ok-c-in-Variable-clause-seen g t c =
    classed_still c.args.arena.now c.args.forms.now c.class_of_variable.new.forms c.args.leaves.now c.class_of_variable.new.leaves c.args.seen.now c.in_ok-c-in-Variable.ensures.grows c.in_ok-c-in-Variable.ensures.forms c.requires.seen

pub class_over-returns-in_ok-c-in-Constant-clause-class : goal.class_over-returns-in_ok-c-in-Constant-clause-class
class_over-returns-in_ok-c-in-Constant-clause-class g t c =
    class_of_constant c.args.arena.now c.class_alone.new.forms c.args.leaves.now c.args.x c.in-Constant.n c.in_ok-c-in-Constant.c c.in-Constant.ensures.parts c.in_ok-c-in-Constant.ensures.form c.in_ok-c-in-Constant.ensures.base

pub class_over-returns-in_ok-c-in-Constant-clause-seen : goal.class_over-returns-in_ok-c-in-Constant-clause-seen
class_over-returns-in_ok-c-in-Constant-clause-seen g t c =
    classed_more c.args.arena.now c.args.forms.now c.class_alone.new.forms c.args.leaves.now c.args.seen.now c.class_alone.ensures.grows c.requires.seen

pub class_over-class_with-requires : goal.class_over-class_with-requires
class_over-class_with-requires g t c =
    over_children c.args.arena.now c.class_of-in-Over-2.new.forms c.class_of-in-Over-2.new.leaves c.args.x c.in-Over.n c.in-Over.a c.in-Over.b c.in-Over.d c.in-Over.ensures.parts c.in_ok-third-in-Over.ensures.seen.ready c.in_ok-first-in-Over.first c.in_ok-second-in-Over.second c.in_ok-third-in-Over.third c.all_known.result c.all_known.ensures
    (known_still c.args.arena.now c.class_of.new.forms c.class_of-in-Over-2.new.forms c.class_of.new.leaves c.class_of-in-Over-2.new.leaves c.in-Over.a c.in_ok-first-in-Over.first c.in_ok-first-in-Over.ensures.seen.ready (grows_both c.class_of.new.forms c.class_of-in-Over.new.forms c.class_of-in-Over-2.new.forms c.class_of.new.leaves c.class_of-in-Over.new.leaves c.class_of-in-Over-2.new.leaves c.in_ok-second-in-Over.ensures.grows c.in_ok-third-in-Over.ensures.grows) c.in_ok-first-in-Over.ensures.class)
    (known_still c.args.arena.now c.class_of-in-Over.new.forms c.class_of-in-Over-2.new.forms c.class_of-in-Over.new.leaves c.class_of-in-Over-2.new.leaves c.in-Over.b c.in_ok-second-in-Over.second c.in_ok-second-in-Over.ensures.seen.ready c.in_ok-third-in-Over.ensures.grows c.in_ok-second-in-Over.ensures.class) c.in_ok-third-in-Over.ensures.class

pub class_over-returns-in_ok-c-in-Over-clause-class : goal.class_over-returns-in_ok-c-in-Over-clause-class
class_over-returns-in_ok-c-in-Over-clause-class g t c =
    over_class c.args.arena.now c.class_of-in-Over-2.new.forms c.class_of-in-Over-2.new.leaves c.args.x c.in-Over.n c.in-Over.a c.in-Over.b c.in-Over.d c.in-Over.ensures.parts c.in_ok-third-in-Over.ensures.seen.ready c.class_with.new.forms c.requires.there c.class_with.ensures.grows c.in_ok-first-in-Over.first c.in_ok-second-in-Over.second c.in_ok-third-in-Over.third c.in_ok-c-in-Over.c c.all_known.result c.all_known.ensures
    (known_still c.args.arena.now c.class_of.new.forms c.class_of-in-Over-2.new.forms c.class_of.new.leaves c.class_of-in-Over-2.new.leaves c.in-Over.a c.in_ok-first-in-Over.first c.in_ok-first-in-Over.ensures.seen.ready (grows_both c.class_of.new.forms c.class_of-in-Over.new.forms c.class_of-in-Over-2.new.forms c.class_of.new.leaves c.class_of-in-Over.new.leaves c.class_of-in-Over-2.new.leaves c.in_ok-second-in-Over.ensures.grows c.in_ok-third-in-Over.ensures.grows) c.in_ok-first-in-Over.ensures.class)
    (known_still c.args.arena.now c.class_of-in-Over.new.forms c.class_of-in-Over-2.new.forms c.class_of-in-Over.new.leaves c.class_of-in-Over-2.new.leaves c.in-Over.b c.in_ok-second-in-Over.second c.in_ok-second-in-Over.ensures.seen.ready c.in_ok-third-in-Over.ensures.grows c.in_ok-second-in-Over.ensures.class) c.in_ok-third-in-Over.ensures.class c.in_ok-c-in-Over.ensures.class

pub class_over-returns-in_ok-c-in-Over-clause-seen : goal.class_over-returns-in_ok-c-in-Over-clause-seen
class_over-returns-in_ok-c-in-Over-clause-seen g t c =
    classed_more c.args.arena.now c.class_of-in-Over-2.new.forms c.class_with.new.forms c.class_of-in-Over-2.new.leaves c.class_of-in-Over-2.new.seen c.class_with.ensures.grows c.in_ok-third-in-Over.ensures.seen

pub class_over-returns-in_ok-c-in-Over-clause-grows : goal.class_over-returns-in_ok-c-in-Over-clause-grows
class_over-returns-in_ok-c-in-Over-clause-grows g t c =
    grows_both c.args.forms.now c.class_of-in-Over-2.new.forms c.class_with.new.forms c.args.leaves.now c.class_of-in-Over-2.new.leaves c.class_of-in-Over-2.new.leaves
    (grows_both c.args.forms.now c.class_of.new.forms c.class_of-in-Over-2.new.forms c.args.leaves.now c.class_of.new.leaves c.class_of-in-Over-2.new.leaves c.in_ok-first-in-Over.ensures.grows
    (grows_both c.class_of.new.forms c.class_of-in-Over.new.forms c.class_of-in-Over-2.new.forms c.class_of.new.leaves c.class_of-in-Over.new.leaves c.class_of-in-Over-2.new.leaves c.in_ok-second-in-Over.ensures.grows c.in_ok-third-in-Over.ensures.grows))
    (grows_forms c.class_of-in-Over-2.new.forms c.class_with.new.forms c.class_of-in-Over-2.new.leaves c.class_with.ensures.grows)

pub class_over-returns-in_ok-c-in-Variable-clause-class : goal.class_over-returns-in_ok-c-in-Variable-clause-class
class_over-returns-in_ok-c-in-Variable-clause-class g t c =
    class_of_variable c.args.arena.now c.class_of_variable.new.forms c.class_of_variable.new.leaves c.args.x c.in-Variable.v c.in_ok-c-in-Variable.c c.in-Variable.ensures.parts c.in_ok-c-in-Variable.ensures.class

use Rattle.std.proofs.Common.{List, ap, sym, ◌∙◌, subst}
use Rattle.tailrec_lang.specs.Tree.{group_tree}
use Rattle.proof_text.specs.Line.{Loop}
use Rattle.term_arena.specs.declared.node.Node.{Node}
use Rattle.term_arena.specs.Arena.{Extends}
use Rattle.verdicts.specs.Instance.{with_closed}
use Rattle.checker.specs.Bench.{state_group, state_history, state_nodes}
use Rattle.checker.proofs.BenchLemmas.{closed_within, same_closed}
use Rattle.group_text.specs.declared.version.Version.TheVariants.{One}
use Rattle.checker.proofs.bench.Bench.close.Goals as goal

pub set_closed-requires-clause-within : goal.set_closed-requires-clause-within
set_closed-requires-clause-within g c =
    closed_within c.args.self.now c.is_closed_by.new.self c.args.def c.args.cited.now c.law_of_bench-2.ensures.count c.is_closed_by.ensures.group (c.in_ok-so.ensures.answer.0 c.if-not-so.false)

pub set_closed-requires-clause-sound : goal.set_closed-requires-clause-sound
set_closed-requires-clause-sound g c =
    let old = c.args.self.now in
    let now = c.is_closed_by.new.self in
    let sound = c.law_of_lines.ensures One (state_group old) c.law_of_bench.ensures.well_formed (state_history old) c.law_of_bench.ensures.sound (Loop c.args.def c.args.cited.now) (c.in_ok-so.ensures.answer.0 c.if-not-so.false) in
    same_closed (state_group old) (state_group now) (state_history old) (state_history now) c.args.def sound (ap group_tree c.is_closed_by.ensures.group) c.is_closed_by.ensures.same

pub returns-clause-after : goal.returns-clause-after
returns-clause-after g c = c.set_closed.ensures.after ∙ ap (with_closed c.args.def) c.is_closed_by.ensures.same

pub returns-clause-grows : goal.returns-clause-grows
returns-clause-grows g c = subst (λ (ns : List Node). Extends (state_nodes c.args.self.now) ns) (sym c.set_closed.ensures.nodes) c.is_closed_by.ensures.grows

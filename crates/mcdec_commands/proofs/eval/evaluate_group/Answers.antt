use Rattle.std.proofs.Common.{sym, ap, map, ◌∙◌}
use Rattle.std.specs.Prelude.{slice_get}
use Rattle.std.specs.FinMap.{get}
use Rattle.tailrec_lang.specs.Tree.{group_tree}
use Rattle.tailrec_lang.specs.Eval.{outcome_of}
use Rattle.mcdec_answers.specs.CommandReading.{value_in}
use Rattle.mcdec_commands.specs.Memory.{ranges_in}
use Rattle.mcdec_commands.specs.EvalAnswer.{memories_given}
use Rattle.mcdec_commands.proofs.Answers.{last-def, listed-outcome, evaluated}
use Rattle.mcdec_commands.proofs.eval.evaluate_group.Goals as goal

pub returns-in_ok-stack-in-Done : goal.returns-in_ok-stack-in-Done
returns-in_ok-stack-in-Done c args h =
    let words = c.in_ok-words.ensures ∙ ap (map (value_in c.args.e.now.given.values)) c.as_slice.ensures in
    let mems = c.in_ok-mems.ensures ∙ (λ i. memories_given c.args.g.mems (c.as_slice-2.ensures i) (c.as_slice-3.ensures i)) in
    let last = (last-def c.args.g c.requires.group c.len.result c.len.ensures).2 in
    let shown = c.in_ok-memory-in-Done.ensures ∙ (λ i. ranges_in (slice_get (map get (c.as_slice-in-Done.ensures i)) 0) (c.as_slice-in-Done-2.ensures i)) in
    let behind = c.in_ok-stack-in-Done.ensures ∙ (λ i. ranges_in (slice_get (map get (c.as_slice-in-Done-3.ensures i)) 1) (c.as_slice-in-Done-4.ensures i)) in
    evaluated (group_tree c.args.g) c.requires.group args c.args.e.now.given.values c.args.e.now.memory c.args.e.now.stack h _ words mems _ last c.args.e.now.turns c.in-Done.exit c.in-Done.pc c.in-Done.left _ (ap outcome_of (sym c.in-Done.is) ∙ c.in_ok-pc.ensures.ok) c.in_ok-memory-in-Done.memory shown c.in_ok-stack-in-Done.stack behind

pub returns-in-SideFalse : goal.returns-in-SideFalse
returns-in-SideFalse c args h =
    let words = c.in_ok-words.ensures ∙ ap (map (value_in c.args.e.now.given.values)) c.as_slice.ensures in
    let mems = c.in_ok-mems.ensures ∙ (λ i. memories_given c.args.g.mems (c.as_slice-2.ensures i) (c.as_slice-3.ensures i)) in
    let last = (last-def c.args.g c.requires.group c.len.result c.len.ensures).2 in
    listed-outcome (group_tree c.args.g) c.requires.group args c.args.e.now.given.values c.args.e.now.memory c.args.e.now.stack h _ words mems _ last c.args.e.now.turns _ (ap outcome_of (sym c.in-SideFalse.is) ∙ c.in_ok-pc.ensures.ok)

pub returns-in-Turns : goal.returns-in-Turns
returns-in-Turns c args h =
    let words = c.in_ok-words.ensures ∙ ap (map (value_in c.args.e.now.given.values)) c.as_slice.ensures in
    let mems = c.in_ok-mems.ensures ∙ (λ i. memories_given c.args.g.mems (c.as_slice-2.ensures i) (c.as_slice-3.ensures i)) in
    let last = (last-def c.args.g c.requires.group c.len.result c.len.ensures).2 in
    listed-outcome (group_tree c.args.g) c.requires.group args c.args.e.now.given.values c.args.e.now.memory c.args.e.now.stack h _ words mems _ last c.args.e.now.turns _ (ap outcome_of (sym c.in-Turns.is) ∙ c.in_ok-pc.ensures.ok)

use Rattle.std.proofs.Common.{◌≡◌, ◌<◌, ◌≤◌, true, false, length, arith}
use Rattle.word_terms.specs.Tree.{MemVar}
use Rattle.term_arena.specs.Arena.{mem_of}
use Rattle.held_definitions.proofs.ExitLemmas.{counts_differ, variable_differs, variable_next}
use Rattle.held_definitions.proofs.LookLemmas.{looked, looked_no, looks_none, mems_few}
use Rattle.held_terms.proofs.Indices.{read_at}
use Rattle.held_definitions.proofs.exits.are_mem_variables.Goals as goal

pub returns-then-not-is_mem_variable-clause-answer : goal.returns-then-not-is_mem_variable-clause-answer
returns-then-not-is_mem_variable-clause-answer g c = (
  λ e. absurd (cc),
  λ e.
      let low : c.loop-i.i < length c.args.mems.now = omega arith in
      let same : length c.args.mems.now ≡ c.args.count = omega arith in
      absurd (variable_differs (mem_of c.args.arena.now) MemVar c.args.mems.now c.args.first c.args.count c.loop-i.i 0 low same (λ is. let yes = c.is_mem_variable.ensures.answer.1 is in cc) e),
)

pub loop-i-preserved : goal.loop-i-preserved
loop-i-preserved g c =
    let low : c.loop-i.i < length c.args.mems.now = omega arith in
    record {
      steps = omega (arith, c.loop-i.invariant.steps, c.is_mem_variable.ensures.steps);
      are = variable_next (mem_of c.args.arena.now) MemVar c.args.mems.now c.args.first c.args.count c.loop-i.i _ low (read_at c.args.mems.now c.loop-i.i 0 _ low) (c.is_mem_variable.ensures.answer.0 c.if-not-is_mem_variable.false) c.loop-i.invariant.are;
    }

pub returns-then-mems-count-clause-answer : goal.returns-then-mems-count-clause-answer
returns-then-mems-count-clause-answer g c = (
  λ e. absurd (cc),
  λ e. absurd (counts_differ (mem_of c.args.arena.now) MemVar c.args.mems.now c.args.first c.args.count (λ same. omega (arith, same)) e),
)

pub returns-then-mems-count-clause-steps : goal.returns-then-mems-count-clause-steps
returns-then-mems-count-clause-steps g c = looks_none 1 _ false c.args.steps.now c.args.steps.now (omega arith)

pub returns-then-not-is_mem_variable-clause-steps : goal.returns-then-not-is_mem_variable-clause-steps
returns-then-not-is_mem_variable-clause-steps g c =
    let low : c.loop-i.i ≤ length c.args.mems.now = omega arith in
    looked_no _ c.loop-i.i c.args.steps.now c.is_mem_variable.new.steps (λ ts has. mems_few c.args.arena.now c.args.mems.now c.args.first c.loop-i.i ts c.requires has low c.loop-i.invariant.are) (omega (arith, c.loop-i.invariant.steps, c.is_mem_variable.ensures.steps))

pub returns-clause-steps : goal.returns-clause-steps
returns-clause-steps g c =
    let low : c.loop-i.i ≤ length c.args.mems.now = omega arith in
    looked _ true c.loop-i.i c.args.steps.now c.loop-i.steps (λ ts has. mems_few c.args.arena.now c.args.mems.now c.args.first c.loop-i.i ts c.requires has low c.loop-i.invariant.are) (omega (arith, c.loop-i.invariant.steps))

pub returns-then-not-is_mem_variable-clause-each : goal.returns-then-not-is_mem_variable-clause-each
returns-then-not-is_mem_variable-clause-each g c = omega (arith, c.loop-i.invariant.steps, c.is_mem_variable.ensures.steps)

pub returns-clause-each : goal.returns-clause-each
returns-clause-each g c = omega (arith, c.loop-i.invariant.steps)

use Rattle.std.proofs.Common.{◌≡◌, ℕ, ◌<◌, ◌≤◌, true, false, length, ap, arith}
use Rattle.word_terms.specs.Tree.{WordTree, Var}
use Rattle.term_arena.specs.Arena.{word_of}
use Rattle.held_terms.specs.Held.{register_of}
use Rattle.held_terms.proofs.Indices.{read_at}
use Rattle.held_definitions.proofs.ExitLemmas.{registers_count, register_differs, register_next, variable_next}
use Rattle.held_definitions.proofs.LookLemmas.{looked, looked_no, looks_none, registers_few}
use Rattle.held_definitions.proofs.exits.are_registers.Goals as goal

pub returns-then-not-is_register-clause-answer : goal.returns-then-not-is_register-clause-answer
returns-then-not-is_register-clause-answer g c = (
  λ e. absurd (cc),
  λ e.
      let low : c.loop-i.i < length c.args.registers.now = omega arith in
      let same : length c.args.registers.now ≡ length c.args.numbers.now = omega arith in
      absurd (register_differs (register_of c.args.arena.now) Var c.args.registers.now c.args.numbers.now c.args.first c.loop-i.i (0, 0) 0 low same (λ is. let yes = c.is_register.ensures.answer.1 is in cc) e),
)

pub loop-i-preserved : goal.loop-i-preserved
loop-i-preserved g c =
    let low : c.loop-i.i < length c.args.registers.now = omega arith in
    let same : length c.args.registers.now ≡ length c.args.numbers.now = omega arith in
    record {
      steps = omega (arith, c.loop-i.invariant.steps, c.is_register.ensures.steps);
      words = variable_next (λ (r : ℕ × ℕ). word_of c.args.arena.now r.1) Var c.args.registers.now c.args.first (length c.args.numbers.now) c.loop-i.i _ low (read_at c.args.registers.now c.loop-i.i (0, 0) _ low)
          (ap (λ (r : ℕ × WordTree). r.1) (c.is_register.ensures.answer.0 c.if-not-is_register.false)) c.loop-i.invariant.words;
      are = register_next (register_of c.args.arena.now) Var c.args.registers.now c.args.numbers.now c.args.first c.loop-i.i _ 0 low same (read_at c.args.registers.now c.loop-i.i (0, 0) _ low) (c.is_register.ensures.answer.0 c.if-not-is_register.false) c.loop-i.invariant.are;
    }

pub returns-then-registers-numbers-clause-answer : goal.returns-then-registers-numbers-clause-answer
returns-then-registers-numbers-clause-answer g c = (
  λ e. absurd (cc),
  λ e. absurd (registers_count (register_of c.args.arena.now) Var c.args.registers.now c.args.numbers.now c.args.first (λ same. omega (arith, same)) e),
)

pub returns-then-registers-numbers-clause-steps : goal.returns-then-registers-numbers-clause-steps
returns-then-registers-numbers-clause-steps g c = looks_none 1 _ false c.args.steps.now c.args.steps.now (omega arith)

pub returns-then-not-is_register-clause-steps : goal.returns-then-not-is_register-clause-steps
returns-then-not-is_register-clause-steps g c =
    let low : c.loop-i.i ≤ length c.args.registers.now = omega arith in
    looked_no _ c.loop-i.i c.args.steps.now c.is_register.new.steps (λ ts has. registers_few c.args.arena.now c.args.registers.now c.args.first c.loop-i.i ts c.requires has low c.loop-i.invariant.words) (omega (arith, c.loop-i.invariant.steps, c.is_register.ensures.steps))

pub returns-clause-steps : goal.returns-clause-steps
returns-clause-steps g c =
    let low : c.loop-i.i ≤ length c.args.registers.now = omega arith in
    looked _ true c.loop-i.i c.args.steps.now c.loop-i.steps (λ ts has. registers_few c.args.arena.now c.args.registers.now c.args.first c.loop-i.i ts c.requires has low c.loop-i.invariant.words) (omega (arith, c.loop-i.invariant.steps))

pub returns-then-not-is_register-clause-each : goal.returns-then-not-is_register-clause-each
returns-then-not-is_register-clause-each g c = omega (arith, c.loop-i.invariant.steps, c.is_register.ensures.steps)

pub returns-clause-each : goal.returns-clause-each
returns-clause-each g c = omega (arith, c.loop-i.invariant.steps)

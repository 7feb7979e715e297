use Rattle.std.proofs.Common.{arith}
use Rattle.word_terms.specs.Tree.{MemVar}
use Rattle.term_arena.specs.Arena.{IsMemAt, mem_of}
use Rattle.held_terms.proofs.GrowthLemmas.{extends_next}
use Rattle.held_definitions.proofs.ExitParts.{variable_more}
use Rattle.held_terms.proofs.PutLemmas.{mems_stay}
use Rattle.held_definitions.proofs.exit_triples.mem_variables.Goals as goal

pub loop-i-preserved : goal.loop-i-preserved
loop-i-preserved g c =
    let before = c.loop-i.arena in
    let now = c.mem_variable.new.arena in
    let grows = c.mem_variable.ensures.grows in
    record {
      grows = extends_next c.args.arena.now before now c.loop-i.invariant.grows grows;
      steps = (let few = c.loop-i.invariant.steps in let one = c.mem_variable.ensures.steps in omega (arith, few, one));
      put = variable_more (IsMemAt now) (mem_of now) MemVar c.args.first c.loop-i.i c.loop-i.list _ c.in_ok-k.k c.in_ok-push.ensures.ok (mems_stay before now grows c.loop-i.list _ c.loop-i.invariant.put) c.in_ok-k.ensures.put;
    }

pub returns-in_err-k-clause-steps : goal.returns-in_err-k-clause-steps
returns-in_err-k-clause-steps g c =
    let few = c.loop-i.invariant.steps in
    let one = c.mem_variable.ensures.steps in
    let low = c.loop-i-test.true in
    omega (arith, few, one, low)

pub returns-in_err-push-clause-steps : goal.returns-in_err-push-clause-steps
returns-in_err-push-clause-steps g c =
    let few = c.loop-i.invariant.steps in
    let one = c.mem_variable.ensures.steps in
    let low = c.loop-i-test.true in
    omega (arith, few, one, low)

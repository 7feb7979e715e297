use Rattle.std.proofs.Common.{◌∙◌, arith}
use Rattle.rv_machine.specs.State.{state_of}
use Rattle.rv_machine.proofs.RunLemmas.{run-none, run-more, Misses-more}
use Rattle.rv_machine.proofs.state.State.run.Goals as goal

pub loop-made-init : goal.loop-made-init
loop-made-init c = record { reached = run-none (state_of c.args.self.now); misses = λ j l. absurd (omega arith) }

pub loop-made-preserved : goal.loop-made-preserved
loop-made-preserved c =
    let s = state_of c.args.self.now in
    let t = state_of c.loop-made.self in
    record {
      reached = run-more s t (state_of c.step.new.self) c.loop-made.made c.loop-made.invariant.reached c.in_default.ensures.ok;
      misses = Misses-more c.args.until s t c.loop-made.made c.loop-made.invariant.misses c.loop-made.invariant.reached (λ e. c.if-pc-until.false (c.pc.ensures ∙ e));
    }

use Rattle.std.proofs.Common.{arith, sym, ◌∙◌, ◌||◌, not, eqb, is_some}
use Rattle.rv_machine.specs.State.{state_of}
use Rattle.mcdec_commands.proofs.SetUp.{shown-more, shown-same, shown-all, shown-given, shown-word, not-shown}
use Rattle.mcdec_commands.proofs.run.shown.Goals as goal
use Rattle.mcdec_commands.proofs.run.shown.Goals.{then-is_some+in_ok-push+in_ok-push-2, then-is_some-via-then-is_some, then-is_some-via-else-is_some+then-word-ne0, else-is_some+else-word-ne0}

pub loop-register-preserved : goal.loop-register-preserved
loop-register-preserved c =
    elim c.if-is_some.branch [
      | then-is_some+in_ok-push+in_ok-push-2 w ↦
          shown-more c.args.values.now.values (state_of c.args.state.now) c.loop-register.registers c.loop-register.words c.loop-register.register
          (omega (arith, c.loop-register.auto.register)) c.loop-register-test.true c.loop-register.invariant c.reg-word.result c.reg-word.ensures
          ((λ i. is_some (sym c.given.ensures i) || not (eqb c.reg-word.result 0)) ∙ elim w.then-is_some.branch [
            | then-is_some-via-then-is_some v ↦ shown-given c.given.result c.reg-word.result (sym c.is_some.ensures ∙ v.if-is_some.true)
            | then-is_some-via-else-is_some+then-word-ne0 v ↦ shown-word c.given.result c.reg-word.result v.if-word-ne0.true
          ])
          c.if-is_some.registers c.if-is_some.words (w.registers-is ∙ w.in_ok-push.ensures.ok) (w.words-is ∙ w.in_ok-push-2.ensures.ok)
      | else-is_some+else-word-ne0 w ↦
          shown-same c.args.values.now.values (state_of c.args.state.now) c.loop-register.registers c.loop-register.words c.loop-register.register
          (omega (arith, c.loop-register.auto.register)) c.loop-register-test.true c.loop-register.invariant c.reg-word.result c.reg-word.ensures
          ((λ i. is_some (sym c.given.ensures i) || not (eqb c.reg-word.result 0)) ∙ not-shown c.given.result c.reg-word.result (sym c.is_some.ensures ∙ w.if-is_some.false) (omega (arith, w.if-word-ne0.false)))
          c.if-is_some.registers c.if-is_some.words w.registers-is w.words-is
    ]

pub returns : goal.returns
returns c given h =
    (λ i. record { count = c.args.count; pc = c.pc.result; registers = c.loop-register.registers; words = c.loop-register.words; memory = c.args.memory; stack = c.new.ensures i })
    ∙ shown-all c.args.values.now.values (state_of c.args.state.now) c.loop-register.registers c.loop-register.words c.loop-register.register
    (omega (arith, c.loop-register-test.false, c.loop-register.auto.register-end)) c.loop-register.invariant given h c.args.count c.pc.result c.args.memory c.pc.ensures

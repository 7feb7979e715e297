use Rattle.std.proofs.Common.{◌≡◌, sym, ap, ◌∙◌, subst}
use Rattle.mcdec_answers.specs.declared.command.Argument.{Argument}
use Rattle.mcdec_answers.specs.Command.{arg_word, bytes_word}
use Rattle.mcdec_answers.specs.declared.command.Memory.{Memory}
use Rattle.mcdec_answers.specs.CommandReading.{IsArg, arg_of}
use Rattle.mcdec_answers.proofs.Values.{held-some, held-none}
use Rattle.mcdec_answers.proofs.ArgWords.{args-none, arg-unread, arg-twice, value-more, memory-more, stack-more, exit-with}
use Rattle.mcdec_answers.proofs.command.read_arguments.Goals as goal
use Rattle.mcdec_answers.proofs.command.read_arguments.Goals.{in-Value+else-is_some, in-Bytes-First-default+in_ok-push-in-Bytes-First-default, in-Bytes-Second-default+in_ok-push-in-Bytes-Second-default}

pub loop-word-init : goal.loop-word-init
loop-word-init c = args-none c.args.words.now c.new-memory.result c.new-stack.result c.new-memory.ensures c.new-stack.ensures

pub returns-in_err-register : goal.returns-in_err-register
returns-in_err-register c =
    let e = c.in_err-register.field-0.0 in
    exit-with _ e _ _ c.from_residual.ensures.1
    (arg-unread c.args.words.now c.loop-word.word-index c.word-item.result c.loop-word-test.true c.word-item.is c.as_str.result.now c.as_str.ensures.value e c.in_err-register.ensures)

pub returns-then-is_some : goal.returns-then-is_some
returns-then-is_some c =
    let held = held-some _ (sym c.is_some.ensures ∙ c.if-is_some.true) in
    let fits = subst (λ (a : Argument). IsArg (arg_of a) × (c.as_str.result.now ≡ arg_word (arg_of a))) c.in-Value.is c.in_ok-register.ensures in
    arg-twice c.args.words.now c.loop-word.word-index c.word-item.result c.loop-word-test.true c.word-item.is c.as_str.result.now c.as_str.ensures.value c.loop-word.values c.loop-word.memory c.loop-word.stack c.loop-word.invariant
    (record { register = c.in-Value.register; value = c.in-Value.value }) fits.0 fits.1 held.0 held.1

pub loop-word-preserved : goal.loop-word-preserved
loop-word-preserved c =
    elim c.match-branch-2.branch [
      | in-Value+else-is_some w ↦
          let fits = subst (λ (a : Argument). IsArg (arg_of a) × (c.as_str.result.now ≡ arg_word (arg_of a))) w.in-Value.is c.in_ok-register.ensures in
          rw (w.values-is, w.memory-is, w.stack-is)
          (value-more c.args.words.now c.loop-word.word-index c.word-item.result c.loop-word-test.true c.word-item.is c.as_str.result.now c.as_str.ensures.value c.loop-word.values c.loop-word.memory c.loop-word.stack c.loop-word.invariant
          (record { register = w.in-Value.register; value = w.in-Value.value }) fits.0 fits.1 (held-none _ (sym w.is_some.ensures ∙ w.if-is_some.false)))
      | in-Bytes-First-default+in_ok-push-in-Bytes-First-default w ↦
          let fits = subst (λ (a : Argument). IsArg (arg_of a) × (c.as_str.result.now ≡ arg_word (arg_of a))) w.in-Bytes-First-default.is c.in_ok-register.ensures in
          rw (w.values-is, w.stack-is)
          (memory-more c.args.words.now c.loop-word.word-index c.word-item.result c.loop-word-test.true c.word-item.is c.as_str.result.now c.as_str.ensures.value c.loop-word.values c.loop-word.memory c.loop-word.stack c.loop-word.invariant
          w.in-Bytes-First-default.range fits.0 (fits.1 ∙ ap (λ (m : Memory). bytes_word m w.in-Bytes-First-default.range) w.in-Bytes-First-default.field-0-is) c.match-branch-2.memory (w.memory-is ∙ w.in_ok-push-in-Bytes-First-default.ensures.ok))
      | in-Bytes-Second-default+in_ok-push-in-Bytes-Second-default w ↦
          let fits = subst (λ (a : Argument). IsArg (arg_of a) × (c.as_str.result.now ≡ arg_word (arg_of a))) w.in-Bytes-Second-default.is c.in_ok-register.ensures in
          rw (w.values-is, w.memory-is)
          (stack-more c.args.words.now c.loop-word.word-index c.word-item.result c.loop-word-test.true c.word-item.is c.as_str.result.now c.as_str.ensures.value c.loop-word.values c.loop-word.memory c.loop-word.stack c.loop-word.invariant
          w.in-Bytes-Second-default.range fits.0 (fits.1 ∙ ap (λ (m : Memory). bytes_word m w.in-Bytes-Second-default.range) w.in-Bytes-Second-default.field-0-is) c.match-branch-2.stack (w.stack-is ∙ w.in_ok-push-in-Bytes-Second-default.ensures.ok))
    ]

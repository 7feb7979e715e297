use Rattle.std.proofs.Common.{true≢false, sym, ap, ◌∙◌, subst, ◌≡◌, ◌^◌, ◌<◌, ℕ, List}
use Rattle.mc_text.specs.Number.{hex, number_of}
use Rattle.group_text.specs.Limits.{IsName}
use Rattle.mcdec_answers.proofs.ArgWords.{exit-with}
use Rattle.mcdec_answers.proofs.Words.{filled, no-until, no-steps, no-arguments, no-second, run-read}
use Rattle.mcdec_answers.proofs.command.read_run.Goals as goal

pub returns-in-None : goal.returns-in-None
returns-in-None c =
    no-until c.args.words.now c.elf-item.result c.start-item.result c.until-item.result c.steps-item.result c.in-len4-up.len_at_least c.elf-item.is c.start-item.is c.until-item.is c.steps-item.is
    (λ n lt e. c.in-None.ensures.spelled n lt (c.as_bytes-2.ensures.value ∙ e))

pub returns-in-None-dec : goal.returns-in-None-dec
returns-in-None-dec c =
    no-steps c.args.words.now c.elf-item.result c.start-item.result c.until-item.result c.steps-item.result c.in-len4-up.len_at_least c.elf-item.is c.start-item.is c.until-item.is c.steps-item.is
    (sym c.in-None-dec.is ∙ c.dec.ensures.read ∙ ap (number_of 10) c.as_bytes-3.ensures.value)

pub returns-in_err-given : goal.returns-in_err-given
returns-in_err-given c =
    exit-with _ c.in_err-given.field-0.0 _ _ c.from_residual.ensures.1
    (no-arguments c.args.words.now c.elf-item.result c.start-item.result c.until-item.result c.steps-item.result c.in-len4-up.len_at_least c.elf-item.is c.start-item.is c.until-item.is c.steps-item.is
    c.in_err-given.field-0.0 c.in_err-given.ensures)

pub returns : goal.returns
returns c =
    run-read c.args.words.now c.elf-item.result c.start-item.result c.until-item.result c.steps-item.result c.in-len4-up.len_at_least c.elf-item.is c.start-item.is c.until-item.is c.steps-item.is
    c.as_str.result.now c.as_bytes-4.result.now c.in-Some.until c.in-Some-dec.steps c.in_ok-given.given.values c.in_ok-given.memory c.in_ok-given.stack c.as_str.ensures.value c.as_bytes-4.ensures.value
    (filled c.elf-item.result (sym c.is_empty.ensures ∙ c.if-is_empty.false)) (subst IsName c.as_bytes.ensures.value (c.is_name.ensures.0 c.if-not-is_name.false))
    (subst (λ (s : List ℕ). (c.in-Some.until < 2 ^ 64) × (s ≡ hex c.in-Some.until)) c.as_bytes-2.ensures.value c.in-Some.ensures.spelled)
    (sym c.in-Some-dec.is ∙ c.dec.ensures.read ∙ ap (number_of 10) c.as_bytes-3.ensures.value) c.in_ok-given.ensures
    (c.is_empty-2.ensures.0 c.if-not-is_empty.false)

pub returns-then-not-is_empty : goal.returns-then-not-is_empty
returns-then-not-is_empty c =
    no-second c.args.words.now c.elf-item.result c.start-item.result c.until-item.result c.steps-item.result c.in-len4-up.len_at_least c.elf-item.is c.start-item.is c.until-item.is c.steps-item.is
    c.in_ok-given.given.values c.in_ok-given.memory c.in_ok-given.stack c.in_ok-given.ensures (λ none. true≢false (sym (c.is_empty-2.ensures.1 none) ∙ c.if-not-is_empty.true))

use Rattle.std.proofs.Common.{sym, ap, ◌∙◌, subst}
use Rattle.mc_text.specs.Number.{number_of}
use Rattle.group_text.specs.Limits.{IsName}
use Rattle.mcdec_answers.proofs.ArgWords.{exit-with}
use Rattle.mcdec_answers.proofs.Words.{filled, no-turns, eval-without, eval-read}
use Rattle.mcdec_answers.proofs.command.read_eval.Goals as goal

pub returns-in-None : goal.returns-in-None
returns-in-None c =
    no-turns c.args.words.now c.proof-item.result c.name-item.result c.turns-item.result c.in-len3-up.len_at_least c.proof-item.is c.name-item.is c.turns-item.is
    (sym c.in-None.is ∙ c.dec.ensures.read ∙ ap (number_of 10) c.as_bytes-2.ensures.value)

pub returns-in_err-given : goal.returns-in_err-given
returns-in_err-given c =
    exit-with _ c.in_err-given.field-0.0 _ _ c.from_residual.ensures.1
    (eval-without c.args.words.now c.proof-item.result c.name-item.result c.turns-item.result c.in-len3-up.len_at_least c.proof-item.is c.name-item.is c.turns-item.is
    c.in_err-given.field-0.0 c.in_err-given.ensures)

pub returns : goal.returns
returns c =
    eval-read c.args.words.now c.proof-item.result c.name-item.result c.turns-item.result c.in-len3-up.len_at_least c.proof-item.is c.name-item.is c.turns-item.is
    c.as_str.result.now c.as_bytes-3.result.now c.in-Some.turns c.in_ok-given.given.values c.in_ok-given.memory c.in_ok-given.stack c.as_str.ensures.value c.as_bytes-3.ensures.value
    (filled c.proof-item.result (sym c.is_empty.ensures ∙ c.if-is_empty.false)) (subst IsName c.as_bytes.ensures.value (c.is_name.ensures.0 c.if-not-is_name.false))
    (sym c.in-Some.is ∙ c.dec.ensures.read ∙ ap (number_of 10) c.as_bytes-2.ensures.value) c.in_ok-given.ensures

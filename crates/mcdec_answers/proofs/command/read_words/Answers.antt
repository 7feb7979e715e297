use Rattle.std.proofs.Common.{sym, ◌∙◌}
use Rattle.mcdec_answers.proofs.ArgWords.{exit-with}
use Rattle.mcdec_answers.proofs.Words.{no-eval, eval-is, no-run, run-is, check-is, no-decompile, decompile-is, laws-is, no-migrate, no-simplify, no-smt, migrate-is, simplify-is, smt-is, test-is}
use Rattle.mcdec_answers.specs.declared.command.Form.TheVariants.{Alone, Linked, Split}
use Rattle.mcdec_answers.proofs.command.read_words.Goals as goal

pub returns-in_err-read_eval : goal.returns-in_err-read_eval
returns-in_err-read_eval c =
    exit-with _ c.in_err-read_eval.field-0.0 _ _ c.from_residual.ensures.1
    (no-eval c.args.words.now c.first-item.result c.in-len1-up.len_at_least c.first-item.is c.as_str.result.now c.as_str.ensures.value (sym c.eq.ensures ∙ c.if-eq.true) c.in_err-read_eval.field-0.0 c.in_err-read_eval.ensures)

pub returns-then-eq : goal.returns-then-eq
returns-then-eq c =
    eval-is c.args.words.now c.first-item.result c.in-len1-up.len_at_least c.first-item.is c.as_str.result.now c.as_str.ensures.value (sym c.eq.ensures ∙ c.if-eq.true) c.in_ok-read_eval.field-0 c.in_ok-read_eval.ensures

pub returns-in_err-read_run : goal.returns-in_err-read_run
returns-in_err-read_run c =
    exit-with _ c.in_err-read_run.field-0.0 _ _ c.from_residual-in_err-read_run.ensures.1
    (no-run c.args.words.now c.first-item.result c.in-len1-up.len_at_least c.first-item.is c.as_str-2.result.now c.as_str-2.ensures.value (sym c.eq-2.ensures ∙ c.if-eq-2.true) c.in_err-read_run.field-0.0 c.in_err-read_run.ensures)

pub returns-then-eq-2 : goal.returns-then-eq-2
returns-then-eq-2 c =
    run-is c.args.words.now c.first-item.result c.in-len1-up.len_at_least c.first-item.is c.as_str-2.result.now c.as_str-2.ensures.value (sym c.eq-2.ensures ∙ c.if-eq-2.true) c.in_ok-read_run.field-0 c.in_ok-read_run.ensures

pub returns-then-eq-3 : goal.returns-then-eq-3
returns-then-eq-3 c =
    check-is c.args.words.now c.first-item.result c.in-len1-up.len_at_least c.first-item.is c.as_str-3.result.now c.as_str-3.ensures.value (sym c.eq-3.ensures ∙ c.if-eq-3.true) c.in_ok-read_check.field-0 c.in_ok-read_check.ensures

pub returns-in_err-read_decompile : goal.returns-in_err-read_decompile
returns-in_err-read_decompile c =
    exit-with _ c.in_err-read_decompile.field-0.0 _ _ c.from_residual-in_err-read_decompile.ensures.1
    (no-decompile c.args.words.now c.first-item.result c.in-len1-up.len_at_least c.first-item.is c.as_str-4.result.now c.as_str-4.ensures.value Alone (sym c.eq-4.ensures ∙ c.if-eq-4.true) c.in_err-read_decompile.field-0.0 c.in_err-read_decompile.ensures)

pub returns-then-eq-4 : goal.returns-then-eq-4
returns-then-eq-4 c =
    decompile-is c.args.words.now c.first-item.result c.in-len1-up.len_at_least c.first-item.is c.as_str-4.result.now c.as_str-4.ensures.value Alone (sym c.eq-4.ensures ∙ c.if-eq-4.true) c.in_ok-read_decompile.field-0 c.in_ok-read_decompile.ensures

pub returns-then-eq-5 : goal.returns-then-eq-5
returns-then-eq-5 c =
    test-is c.args.words.now c.first-item.result c.in-len1-up.len_at_least c.first-item.is c.as_str-5.result.now c.as_str-5.ensures.value (sym c.eq-5.ensures ∙ c.if-eq-5.true) c.in_ok-read_self_test.field-0 c.in_ok-read_self_test.ensures

pub returns-in_err-read_simplify : goal.returns-in_err-read_simplify
returns-in_err-read_simplify c =
    exit-with _ c.in_err-read_simplify.field-0.0 _ _ c.from_residual-in_err-read_simplify.ensures.1
    (no-simplify c.args.words.now c.first-item.result c.in-len1-up.len_at_least c.first-item.is c.as_str-6.result.now c.as_str-6.ensures.value (sym c.eq-6.ensures ∙ c.if-eq-6.true) c.in_err-read_simplify.field-0.0 c.in_err-read_simplify.ensures)

pub returns-then-eq-6 : goal.returns-then-eq-6
returns-then-eq-6 c =
    simplify-is c.args.words.now c.first-item.result c.in-len1-up.len_at_least c.first-item.is c.as_str-6.result.now c.as_str-6.ensures.value (sym c.eq-6.ensures ∙ c.if-eq-6.true) c.in_ok-read_simplify.field-0 c.in_ok-read_simplify.ensures

pub returns-then-eq-7 : goal.returns-then-eq-7
returns-then-eq-7 c =
    laws-is c.args.words.now c.first-item.result c.in-len1-up.len_at_least c.first-item.is c.as_str-7.result.now c.as_str-7.ensures.value (sym c.eq-7.ensures ∙ c.if-eq-7.true) c.in_ok-read_laws.field-0 c.in_ok-read_laws.ensures

pub returns-in_err-read_smt : goal.returns-in_err-read_smt
returns-in_err-read_smt c =
    exit-with _ c.in_err-read_smt.field-0.0 _ _ c.from_residual-in_err-read_smt.ensures.1
    (no-smt c.args.words.now c.first-item.result c.in-len1-up.len_at_least c.first-item.is c.as_str-8.result.now c.as_str-8.ensures.value (sym c.eq-8.ensures ∙ c.if-eq-8.true) c.in_err-read_smt.field-0.0 c.in_err-read_smt.ensures)

pub returns-then-eq-8 : goal.returns-then-eq-8
returns-then-eq-8 c =
    smt-is c.args.words.now c.first-item.result c.in-len1-up.len_at_least c.first-item.is c.as_str-8.result.now c.as_str-8.ensures.value (sym c.eq-8.ensures ∙ c.if-eq-8.true) c.in_ok-read_smt.field-0 c.in_ok-read_smt.ensures

pub returns-in_err-read_decompile-2 : goal.returns-in_err-read_decompile-2
returns-in_err-read_decompile-2 c =
    exit-with _ c.in_err-read_decompile-2.field-0.0 _ _ c.from_residual-in_err-read_decompile-2.ensures.1
    (no-decompile c.args.words.now c.first-item.result c.in-len1-up.len_at_least c.first-item.is c.as_str-9.result.now c.as_str-9.ensures.value Linked (sym c.eq-9.ensures ∙ c.if-eq-9.true) c.in_err-read_decompile-2.field-0.0 c.in_err-read_decompile-2.ensures)

pub returns-then-eq-9 : goal.returns-then-eq-9
returns-then-eq-9 c =
    decompile-is c.args.words.now c.first-item.result c.in-len1-up.len_at_least c.first-item.is c.as_str-9.result.now c.as_str-9.ensures.value Linked (sym c.eq-9.ensures ∙ c.if-eq-9.true) c.in_ok-read_decompile-2.field-0 c.in_ok-read_decompile-2.ensures

pub returns-in_err-read_decompile-3 : goal.returns-in_err-read_decompile-3
returns-in_err-read_decompile-3 c =
    exit-with _ c.in_err-read_decompile-3.field-0.0 _ _ c.from_residual-in_err-read_decompile-3.ensures.1
    (no-decompile c.args.words.now c.first-item.result c.in-len1-up.len_at_least c.first-item.is c.as_str-10.result.now c.as_str-10.ensures.value Split (sym c.eq-10.ensures ∙ c.if-eq-10.true) c.in_err-read_decompile-3.field-0.0 c.in_err-read_decompile-3.ensures)

pub returns-then-eq-10 : goal.returns-then-eq-10
returns-then-eq-10 c =
    decompile-is c.args.words.now c.first-item.result c.in-len1-up.len_at_least c.first-item.is c.as_str-10.result.now c.as_str-10.ensures.value Split (sym c.eq-10.ensures ∙ c.if-eq-10.true) c.in_ok-read_decompile-3.field-0 c.in_ok-read_decompile-3.ensures

pub returns-in_err-read_migrate : goal.returns-in_err-read_migrate
returns-in_err-read_migrate c =
    exit-with _ c.in_err-read_migrate.field-0.0 _ _ c.from_residual-in_err-read_migrate.ensures.1
    (no-migrate c.args.words.now c.first-item.result c.in-len1-up.len_at_least c.first-item.is c.as_str-11.result.now c.as_str-11.ensures.value (sym c.eq-11.ensures ∙ c.if-eq-11.true) c.in_err-read_migrate.field-0.0 c.in_err-read_migrate.ensures)

pub returns-then-eq-11 : goal.returns-then-eq-11
returns-then-eq-11 c =
    migrate-is c.args.words.now c.first-item.result c.in-len1-up.len_at_least c.first-item.is c.as_str-11.result.now c.as_str-11.ensures.value (sym c.eq-11.ensures ∙ c.if-eq-11.true) c.in_ok-read_migrate.field-0 c.in_ok-read_migrate.ensures

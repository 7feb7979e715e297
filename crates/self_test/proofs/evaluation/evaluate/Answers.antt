use Rattle.std.proofs.Common.{ℕ, ◌-◌, ◌*◌, ◌∙◌, ap}
use Rattle.tailrec_lang.specs.declared.group.Group.{Group}
use Rattle.self_test.specs.Results.{result_of}
use Rattle.self_test.proofs.Returned.{gives}
use Rattle.self_test.proofs.Evaluated.{evaluates, not-other, value-same}
use Rattle.self_test.proofs.evaluation.evaluate.Goals as goal

pub unreachable-requires : goal.unreachable-requires
unreachable-requires c =
    let group : Group = c.args.item.now.group in
    let done = gives c.args.number c.args.size c.requires.size c.args.item.now c.requires.item c.args.ran.now.steps c.requires.ran.last c.requires.ran.met in
    not-other c.args.number c.args.size group (2 * c.args.ran.now.steps) c.requires.ran.last done c.in_ok-args.args (c.len.result - 1) c.in_ok-args-2.field-0
    (ap (λ (n : ℕ). n - 1) c.len.ensures) c.in_ok-args.ensures.words c.in_ok-args.ensures.mems c.in_ok-args-2.ensures.ok c.in_default.not-Done

pub returns-clause-evaluates : goal.returns-clause-evaluates
returns-clause-evaluates c =
    let group : Group = c.args.item.now.group in
    let done = gives c.args.number c.args.size c.requires.size c.args.item.now c.requires.item c.args.ran.now.steps c.requires.ran.last c.requires.ran.met in
    evaluates c.args.number c.args.size group (2 * c.args.ran.now.steps) c.requires.ran.last done c.in_ok-args.args (c.len.result - 1) c.in_ok-args-2.field-0
    (ap (λ (n : ℕ). n - 1) c.len.ensures) c.in_ok-args.ensures.words c.in_ok-args.ensures.mems c.in_ok-args-2.ensures.ok
    c.in-Done.exit c.in-Done.pc c.in-Done.left c.result_of.result c.in-Done.args c.in-Done.is
    (c.result_of.ensures ∙ (λ i. result_of 10 (c.as_slice.ensures i) (c.as_slice-in-Done.ensures i) c.args.number)) c.in_ok-args-2.ensures.within

pub returns-clause-same : goal.returns-clause-same
returns-clause-same c =
    let group : Group = c.args.item.now.group in
    let done = gives c.args.number c.args.size c.requires.size c.args.item.now c.requires.item c.args.ran.now.steps c.requires.ran.last c.requires.ran.met in
    value-same c.args.number c.args.size group (2 * c.args.ran.now.steps) c.requires.ran.last done c.in_ok-args.args (c.len.result - 1) c.in_ok-args-2.field-0
    (ap (λ (n : ℕ). n - 1) c.len.ensures) c.in_ok-args.ensures.words c.in_ok-args.ensures.mems c.in_ok-args-2.ensures.ok
    c.in-Done.exit c.in-Done.pc c.in-Done.left c.result_of.result c.in-Done.args c.in-Done.is
    (c.result_of.ensures ∙ (λ i. result_of 10 (c.as_slice.ensures i) (c.as_slice-in-Done.ensures i) c.args.number)) ∙ c.requires.ran.value

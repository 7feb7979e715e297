use Rattle.std.proofs.Common.{codes, ◌++◌, Err, Ok}
use Rattle.mcdec_answers.specs.Printed.{link_words}
use Rattle.mcdec_answers.proofs.Prints.{prints-exit, prints-then, prints-stopped}
use Rattle.mcdec_answers.proofs.print.put_refused.Goals as goal

pub returns-in_err-put_refused_name : goal.returns-in_err-put_refused_name
returns-in_err-put_refused_name g c =
    let e = c.in_err-put_refused_name.field-0.0 in
    let first = codes "refused " ++ c.args.name.now ++ codes " " in
    prints-exit _ e _ _ _ _ _ c.from_residual.ensures.1
    (prints-stopped e (first ++ link_words c.args.why.now) (codes "\n") _ _ _ _ (prints-stopped e first (link_words c.args.why.now) _ _ _ _ c.in_err-put_refused_name.ensures))

pub returns-in_err-put_why : goal.returns-in_err-put_why
returns-in_err-put_why g c =
    let e = c.in_err-put_why.field-0.0 in
    let first = codes "refused " ++ c.args.name.now ++ codes " " in
    prints-exit _ e _ _ _ _ _ c.from_residual-in_err-put_why.ensures.1
    (prints-stopped e (first ++ link_words c.args.why.now) (codes "\n") _ _ _ _
    (prints-then (Err e) first (link_words c.args.why.now) _ _ _ _ _ _ c.in_ok-put_refused_name.ensures c.in_err-put_why.ensures))

pub returns : goal.returns
returns g c =
    let first = codes "refused " ++ c.args.name.now ++ codes " " in
    prints-then _ (first ++ link_words c.args.why.now) (codes "\n") _ _ _ _ _ _
    (prints-then (Ok tt) first (link_words c.args.why.now) _ _ _ _ _ _ c.in_ok-put_refused_name.ensures c.in_ok-put_why.ensures) c.put_text.ensures

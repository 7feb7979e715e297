use Rattle.std.proofs.Common.{sym}
use Rattle.fun_laws.specs.inner.Shapes.{law_of}
use Rattle.fun_laws.specs.inner.Taken.{term_of}
use Rattle.fun_laws.proofs.Parts.{got}
use Rattle.fun_laws.proofs.StepLemmas.{made_term, taken}
use Rattle.fun_laws.proofs.rewrite.new_term.Goals as goal

pub returns-clause-some : goal.returns-clause-some
returns-clause-some c =
    made_term c.args.r.now c.args.parts.now (law_of c.in-Some.shape) c.in-Some-get.def.now c.in-Some-get-2.t.now (term_of c.in-Some-2.new)
    (sym c.in-Some.ensures)
    (got c.args.parts.now c.args.r.now.def c.in-Some-get.def.now c.in-Some-get.ensures.lookup.0 c.in-Some-get.ensures.lookup.1)
    (sym c.in-Some-get-2.ensures)
    (taken (law_of c.in-Some.shape) c.as_slice.result.now c.args.r.now.place (term_of c.in-Some-get-2.t.now) c.in_ok-new.field-0 c.in-Some-2.new c.as_slice.ensures c.in-Some-2.is c.in_ok-new.ensures.some)

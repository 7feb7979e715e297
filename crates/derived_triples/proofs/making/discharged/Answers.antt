use Rattle.std.proofs.Common.{List, sym, subst, arith}
use Rattle.held_terms.specs.declared.held.HeldFact.{HeldFact}
use Rattle.held_terms.specs.Subterms.{HasFacts}
use Rattle.derived_triples.proofs.making.discharged.Goals as goal

pub returns-in_err-t-clause-steps : goal.returns-in_err-t-clause-steps
returns-in_err-t-clause-steps g c = λ ts has also. omega arith

pub returns-in_err-so-clause-steps : goal.returns-in_err-so-clause-steps
returns-in_err-so-clause-steps g c = λ ts has also.
    c.is_discharged.ensures.steps ts has (subst (λ (fs : List HeldFact). HasFacts c.args.arena.now fs ts) (sym c.in_ok-t.ensures.0) also)

pub returns-then-not-so-clause-steps : goal.returns-then-not-so-clause-steps
returns-then-not-so-clause-steps g c = λ ts has also.
    c.is_discharged.ensures.steps ts has (subst (λ (fs : List HeldFact). HasFacts c.args.arena.now fs ts) (sym c.in_ok-t.ensures.0) also)

pub returns-clause-steps : goal.returns-clause-steps
returns-clause-steps g c = λ ts has also.
    c.is_discharged.ensures.steps ts has (subst (λ (fs : List HeldFact). HasFacts c.args.arena.now fs ts) (sym c.in_ok-t.ensures.0) also)

use Rattle.std.proofs.Common.{sym, subst, arith}
use Rattle.held_terms.specs.declared.held.HeldSide.{HeldSide}
use Rattle.held_terms.specs.Subterms.{HasSide}
use Rattle.derived_triples.proofs.making.weakened.Goals as goal

pub returns-in_err-t-clause-steps : goal.returns-in_err-t-clause-steps
returns-in_err-t-clause-steps g c = λ ts has. omega arith

pub returns-in_err-so-clause-steps : goal.returns-in_err-so-clause-steps
returns-in_err-so-clause-steps g c = λ ts has.
    c.is_weakened.ensures.steps ts (has.0, subst (λ (s : HeldSide). HasSide c.args.arena.now s ts) (sym c.in_ok-t.ensures.3) has.1)

pub returns-then-not-so-clause-steps : goal.returns-then-not-so-clause-steps
returns-then-not-so-clause-steps g c = λ ts has.
    c.is_weakened.ensures.steps ts (has.0, subst (λ (s : HeldSide). HasSide c.args.arena.now s ts) (sym c.in_ok-t.ensures.3) has.1)

pub returns-clause-steps : goal.returns-clause-steps
returns-clause-steps g c = λ ts has.
    c.is_weakened.ensures.steps ts (has.0, subst (λ (s : HeldSide). HasSide c.args.arena.now s ts) (sym c.in_ok-t.ensures.3) has.1)

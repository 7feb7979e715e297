use Rattle.std.proofs.Common.{ℕ, List, refl, subst, sym}
use Rattle.held_definitions.specs.inner.Asked.{IsStanding}
use Rattle.held_definitions.proofs.AskedLemmas.{asked_without, found_none, found_parted}
use Rattle.held_definitions.proofs.asked.Asked.take.Goals as goal

pub returns-in_err-gone-in-Some-clause-asked : goal.returns-in_err-gone-in-Some-clause-asked
returns-in_err-gone-in-Some-clause-asked c = λ d way a. asked_without d way c.args.self.now _ refl refl c.args.number c.remove.ensures.updates.0 a

pub returns-in_err-all-in-None-clause-asked : goal.returns-in_err-all-in-None-clause-asked
returns-in_err-all-in-None-clause-asked c = λ d way a. asked_without d way c.args.self.now _ refl refl c.args.number c.remove.ensures.updates.0 a

pub returns-in_ok-gone-in-Some-clause-found : goal.returns-in_ok-gone-in-Some-clause-found
returns-in_ok-gone-in-Some-clause-found c = λ way facts long knows.
    found_parted way facts c.args.self.now c.in-Some.places c.take_gone.new.places c.in_ok-gone-in-Some.gone (knows.each c.in-Some.places (sym c.in-Some.ensures.value)) c.in_ok-gone-in-Some.ensures.parted
    (subst (λ (stamps : List ℕ). IsStanding stamps c.take_gone.new.places) c.as_slice.ensures c.in_ok-gone-in-Some.ensures.standing)

pub returns-in_ok-gone-in-Some-clause-asked : goal.returns-in_ok-gone-in-Some-clause-asked
returns-in_ok-gone-in-Some-clause-asked c = λ d way a. asked_without d way c.args.self.now _ refl refl c.args.number c.remove.ensures.updates.0 a

pub returns-in_ok-all-in-None-clause-found : goal.returns-in_ok-all-in-None-clause-found
returns-in_ok-all-in-None-clause-found c = λ way facts long knows. found_none c.args.self.now.stamps way facts c.new.result c.in_ok-all-in-None.all c.args.many c.new.ensures.empty c.in_ok-all-in-None.ensures long

pub returns-in_ok-all-in-None-clause-asked : goal.returns-in_ok-all-in-None-clause-asked
returns-in_ok-all-in-None-clause-asked c = λ d way a. asked_without d way c.args.self.now _ refl refl c.args.number c.remove.ensures.updates.0 a

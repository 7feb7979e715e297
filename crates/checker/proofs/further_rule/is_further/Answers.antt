use Rattle.std.proofs.Common.{◌↔◌, IfOk, IsTrue, sym, subst}
use Rattle.group_text.specs.declared.version.Version.{Version as Known}
use Rattle.held_terms.specs.Held.{triple_of}
use Rattle.verdicts.specs.Further.{further_of}
use Rattle.checker.proofs.further_rule.is_further.Goals as goal

pub returns-in-Three-clause-answer : goal.returns-in-Three-clause-answer
returns-in-Three-clause-answer g c =
    subst (λ (v : Known). IfOk c.is_steered.result (λ r. IsTrue r ↔ further_of v (triple_of c.args.arena.now c.args.premise.now) (triple_of c.args.arena.now c.args.stated.now))) (sym c.in-Three.is) c.is_steered.ensures.answer

pub returns-in-Four-clause-answer : goal.returns-in-Four-clause-answer
returns-in-Four-clause-answer g c =
    subst (λ (v : Known). IsTrue c.is_exchanged.result ↔ further_of v (triple_of c.args.arena.now c.args.premise.now) (triple_of c.args.arena.now c.args.stated.now)) (sym c.in-Four.is) c.is_exchanged.ensures

use Rattle.std.proofs.Common.{Option, subst, IfOk, IsTrue}
use Rattle.std.specs.Prelude.{◌↔◌, IsSomeAnd}
use Rattle.triple_kernel.specs.Tree.{TripleTree}
use Rattle.held_terms.specs.Held.{triple_of}
use Rattle.verdicts.specs.Further.{further_of}
use Rattle.checker.proofs.rules.by_further.Goals as goal

pub returns-in-Some-clause-answer : goal.returns-in-Some-clause-answer
returns-in-Some-clause-answer g c =
    subst (λ (o : Option TripleTree). IfOk c.is_further.result (λ r. IsTrue r ↔ IsSomeAnd o (λ p. further_of c.args.version p (triple_of c.args.arena.now c.args.stated.now)))) c.in-Some.ensures.theorem c.is_further.ensures.answer

use Rattle.std.proofs.Common.{◌≡◌, subst}
use Rattle.std.specs.Prelude.{option_map}
use Rattle.std.specs.Option.{option_copied}
use Rattle.held_terms.specs.Held.{triple_of}
use Rattle.checker.specs.Bench.{BenchState, state_history, state_nodes}
use Rattle.checker.proofs.bench.Bench.held.Goals as goal

pub theorem-requires : goal.theorem-requires
theorem-requires c = c.self.invariant.0.there

pub returns-clause-theorem : goal.returns-clause-theorem
returns-clause-theorem c =
    subst (λ (k : BenchState). option_map (triple_of (state_nodes k)) (option_copied c.theorem.result) ≡ (state_history k).theorem c.args.k) c.self.view_is c.theorem.ensures.theorem

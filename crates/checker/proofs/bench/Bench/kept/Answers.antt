use Rattle.std.proofs.Common.{subst}
use Rattle.checker.specs.Bench.{BenchState, CanCite, state_history}
use Rattle.checker.proofs.BenchLemmas.{cited}
use Rattle.checker.proofs.bench.Bench.kept.Goals as goal

pub returns : goal.returns
returns c =
    let s = c.self.inside in
    subst (λ (k : BenchState). CanCite (state_history k) c.len.result) c.self.view_is (cited s.group.now s.arena s.held s.next s.closed c.len.result c.len.ensures.ordered c.len.ensures.len)

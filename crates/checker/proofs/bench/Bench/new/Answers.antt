use Rattle.checker.proofs.BenchLemmas.{nothing_held, sound_first}
use Rattle.checker.proofs.bench.Bench.new.Goals as goal

pub invariant_of-result : goal.invariant_of-result
invariant_of-result c =
    (sound_first c.args.group.now c.new.result c.new-3.result.entries c.in_ok-closed.closed c.len.result c.requires c.new-3.ensures.empty c.in_ok-closed.ensures c.len.ensures, record { code = c.in_ok-code.ensures; theorems = c.new-4.ensures c.args.group.now.code.ranges c.new-3.result.entries })

pub returns-clause-none : goal.returns-clause-none
returns-clause-none c = nothing_held c.args.group.now c.new.result c.new-3.result.entries c.in_ok-closed.closed c.len.result c.new-3.ensures.empty c.in_ok-closed.ensures

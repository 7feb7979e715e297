use Rattle.std.proofs.lemmas.Result.{IfOk-weaker}
use Rattle.stack_offsets.proofs.AtAddresses.{access_at, names_all}
use Rattle.stack_offsets.proofs.accesses.stack_accesses.Goals as goal

pub returns-clause-each : goal.returns-clause-each
returns-clause-each c code e bytes is =
    IfOk-weaker c.stack_nodes.result _ _ (λ found each n l. (let a = access_at code e c.args.graph.now is n l in let h = each n l in (λ t. a.0 (h.0 t), λ k. h.1 (a.1 k)))) (c.stack_nodes.ensures.each (names_all code e c.args.graph.now is bytes))

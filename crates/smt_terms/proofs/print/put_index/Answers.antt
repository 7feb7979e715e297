use Rattle.std.proofs.lemmas.Result.{on_ok_weaker}
use Rattle.smt_terms.proofs.Printing.{index_printed}
use Rattle.smt_terms.proofs.print.put_index.Goals as goal

pub returns-clause-ok : goal.returns-clause-ok
returns-clause-ok c = on_ok_weaker c.right.result (λ e. index_printed _ _ _ _ _ c.in_ok-open.ensures.ok c.in_ok-atom.ensures.ok c.in_ok-atom-2.ensures.ok e) c.right.ensures.ok

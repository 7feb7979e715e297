use Rattle.std.proofs.lemmas.Result.{on_ok_weaker}
use Rattle.smt_terms.specs.Views.{fun_tree}
use Rattle.smt_terms.proofs.Printing.{fun_printed}
use Rattle.smt_terms.proofs.print.put_fun.Goals as goal

pub returns-clause-ok : goal.returns-clause-ok
returns-clause-ok c =
    on_ok_weaker c.eol.result (λ e. fun_printed (fun_tree c.args.fun.now) _ _ _ _ _ _ _ _ c.as_slice.ensures c.in_ok-open.ensures.ok c.in_ok-atom.ensures.ok c.in_ok-put_signature.ensures.ok
    c.in_ok-put_tree.ensures.ok c.in_ok-right.ensures.ok e) c.eol.ensures.ok

use Rattle.std.proofs.lemmas.Result.{on_ok_weaker}
use Rattle.smt_terms.proofs.Printing.{array_printed}
use Rattle.smt_terms.proofs.print.put_sort.Goals as goal

pub returns-in_ok-put_bit_vector-in-Array-clause-ok :
    goal.returns-in_ok-put_bit_vector-in-Array-clause-ok
returns-in_ok-put_bit_vector-in-Array-clause-ok c =
    on_ok_weaker c.right.result (λ e. array_printed _ _ _ _ _ _ _ c.in-Array.is c.in_ok-open-in-Array.ensures.ok c.in_ok-put_index-in-Array.ensures.ok c.in_ok-put_bit_vector-in-Array.ensures.ok e) c.right.ensures.ok

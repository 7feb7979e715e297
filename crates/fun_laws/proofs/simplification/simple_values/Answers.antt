use Rattle.fun_laws.proofs.Ends.{values_simplified}
use Rattle.fun_laws.proofs.simplification.simple_values.Goals as goal

pub returns-clause-passed : goal.returns-clause-passed
returns-clause-passed c =
    values_simplified c.args.values.now _ c.as_slice.result.now c.as_slice-2.result.now c.args.log.now c.simple_words.new.log c.simple_mems.new.log c.as_slice.ensures c.as_slice-2.ensures
    c.in_ok-words.ensures.passed c.in_ok-mems.ensures.passed

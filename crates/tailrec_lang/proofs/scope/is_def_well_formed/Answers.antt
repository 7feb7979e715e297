use Rattle.std.proofs.Common.{length, refl}
use Rattle.tailrec_lang.proofs.Counts.{counts_as}
use Rattle.tailrec_lang.proofs.scope.is_def_well_formed.Goals as goal

pub returns : goal.returns
returns c = c.is_body_well_formed.ensures (length c.args.g.now.regs) c.args.g.now.mems (counts_as c.scope_of-scope.result _ _ _ _ c.scope_of-scope.ensures c.len.ensures refl)

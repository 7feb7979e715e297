use Rattle.std.proofs.Common.{sym, subst}
use Rattle.path_walk.specs.declared.proof.DecompileFault.{DecompileFault}
use Rattle.decompiler.specs.Listing.{alone_form}
use Rattle.decompiler.specs.Refusals.{IsFaultBy}
use Rattle.decompiler.proofs.InOrder.{none-alone}
use Rattle.decompiler.proofs.functions.decompile.Goals as goal

pub returns-in-Err-clause-refused : goal.returns-in-Err-clause-refused
returns-in-Err-clause-refused c file is =
    subst (λ (x : DecompileFault). IsFaultBy alone_form file c.args.names.now x) (sym c.fault_alone.ensures)
    (none-alone alone_form file c.args.names.now (λ code e a h. h) c.in-Err.fault (c.in-Err.ensures.refused file is))

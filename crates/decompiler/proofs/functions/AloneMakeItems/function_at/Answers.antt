use Rattle.std.proofs.Common.{sym, subst}
use Rattle.elf_image.specs.Image.{code_in}
use Rattle.code_parts.specs.declared.call_fault.CallGraphFault.{CallGraphFault}
use Rattle.decompiler.specs.inner.Functions.{IsRefusedAt}
use Rattle.decompiler.proofs.Fragment.{refused-alone}
use Rattle.decompiler.specs.Listing.{alone_form}
use Rattle.decompiler.proofs.functions.AloneMakeItems.function_at.Goals as goal

pub returns-in-Err-clause-none : goal.returns-in-Err-clause-none
returns-in-Err-clause-none c =
    subst (λ (x : CallGraphFault). IsRefusedAt alone_form (code_in c.args.image.now.pieces) c.args.entry x) (sym c.cause_of.ensures)
    (refused-alone alone_form (code_in c.args.image.now.pieces) c.args.entry (λ why h. h) c.in-Err.why c.in-Err.ensures.none)

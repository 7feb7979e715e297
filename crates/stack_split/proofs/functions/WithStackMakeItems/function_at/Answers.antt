use Rattle.std.proofs.Common.{sym, subst}
use Rattle.elf_image.specs.Image.{code_in}
use Rattle.code_parts.specs.declared.call_fault.CallGraphFault.{CallGraphFault}
use Rattle.decompiler.specs.inner.Functions.{IsRefusedAt}
use Rattle.decompiler.proofs.Fragment.{refused-alone}
use Rattle.stack_split.specs.Listing.{split_form}
use Rattle.stack_split.proofs.functions.WithStackMakeItems.function_at.Goals as goal

pub returns-in-Err-clause-none : goal.returns-in-Err-clause-none
returns-in-Err-clause-none c =
    subst (λ (x : CallGraphFault). IsRefusedAt split_form (code_in c.args.image.now.pieces) c.args.entry x) (sym c.cause_of.ensures)
    (refused-alone split_form (code_in c.args.image.now.pieces) c.args.entry (λ why h. h) c.in-Err.why c.in-Err.ensures.none)

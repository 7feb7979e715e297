use Rattle.std.proofs.lemmas.Result.{IfErr-weaker}
use Rattle.elf_image.specs.Image.{code_in}
use Rattle.code_parts.specs.Causes.{IsCallGraphFault}
use Rattle.decompiler.specs.inner.Functions.{IsRefusedAt}
use Rattle.call_link.specs.Listing.{linked_form}
use Rattle.call_link.proofs.Items.{refused-linked}
use Rattle.call_link.proofs.functions.LinkedMakeItems.function_at.Goals as goal

pub returns-clause-none : goal.returns-clause-none
returns-clause-none c =
    let code = code_in c.args.image.now.pieces in
    IfErr-weaker c.linked_at.result (IsCallGraphFault code c.args.entry) (IsRefusedAt linked_form code c.args.entry) (λ why h. refused-linked code c.args.entry why h) c.linked_at.ensures.none

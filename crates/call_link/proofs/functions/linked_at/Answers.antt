use Rattle.std.proofs.Common.{List, subst, sym, ◌∙◌}
use Rattle.rv_words.specs.Bytes.{AreBytes, Bytes}
use Rattle.elf_image.specs.Image.{code_in}
use Rattle.code_parts.specs.Functions.{AreFunctions}
use Rattle.code_parts.specs.declared.linked_function.Function.{Function}
use Rattle.code_parts.specs.Groups.{functions_of}
use Rattle.call_link.proofs.Items.{linked-is}
use Rattle.call_link.proofs.functions.linked_at.Goals as goal

pub returns-clause-item : goal.returns-clause-item
returns-clause-item c file is stands =
    let code = c.law_of_image.ensures.code file is in
    linked-is file c.args.name c.args.entry c.in_ok-group.group c.in_ok-item.item stands c.requires (subst AreBytes code c.law_of_bytes.ensures)
    (subst (λ (m : Bytes). AreFunctions m c.args.entry (functions_of c.in_ok-group.group)) code
    (subst (λ (fs : List Function). AreFunctions (code_in c.args.image.now.pieces) c.args.entry fs) (sym (c.in_ok-group.ensures.functions ∙ c.as_slice.ensures)) c.in_ok-functions.ensures.ok))
    c.in_ok-group.ensures.group c.in_ok-item.ensures.item

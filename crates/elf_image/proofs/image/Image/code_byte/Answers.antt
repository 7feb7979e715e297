use Rattle.std.proofs.Common.{◌∙◌, ap, subst}
use Rattle.elf_image.specs.Image.{ArePlaced, ImageOf, code_in}
use Rattle.elf_image.proofs.CodeLemmas.{found_is_byte}
use Rattle.elf_image.proofs.image.Image.code_byte.Goals as goal

pub returns-clause-byte : goal.returns-clause-byte
returns-clause-byte c =
    let same = ap (λ (i : ImageOf). i.pieces) c.self.view_is in
    found_is_byte c.code_of_pieces.result c.args.self.now.pieces c.args.a (subst (λ ps. ArePlaced ps) same c.self.invariant)
    (c.code_of_pieces.ensures ∙ (λ j. code_in ((c.as_slice.ensures ∙ same) j) c.args.a))

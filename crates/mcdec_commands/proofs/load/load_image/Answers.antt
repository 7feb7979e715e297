use Rattle.std.proofs.Common.{rules, ◌≡◌, ◌≤◌, length, Some, sym, ◌∙◌, ap, subst}
use Rattle.mc_shelf.specs.Fault.{Rose}
use Rattle.elf_image.specs.Fault.{IsReadable, fault_of}
use Rattle.elf_image.specs.Image.{image_of}
use Rattle.elf_image.specs.declared.fault.ElfFault.{ElfFault}
use Rattle.mcdec_commands.specs.Held.{HasFile}
use Rattle.mcdec_commands.specs.RunAnswer.{elf_limit}
use Rattle.mcdec_commands.proofs.Answers.{held-with}
use Rattle.mcdec_commands.proofs.Loading.{unread}
use Rattle.mcdec_commands.proofs.load.load_image.Goals as goal

pub returns-in-Err-clause-fault : goal.returns-in-Err-clause-fault
returns-in-Err-clause-fault g c =
    unread (g.S.Shelf.contents c.args.shelf.now) c.args.elf.now (Rose (g.S.Shelf.read_faults c.args.shelf.now) (g.S.Shelf.read_faults c.read_file.new.shelf)) elf_limit c.read_file.result c.in-Err.end c.in-Err.is
    c.read_file.ensures.cause c.read_file.ensures.too_long

pub returns-in-Ok-read-clause-image : goal.returns-in-Ok-read-clause-image
returns-in-Ok-read-clause-image g c = record {
  file = c.in-Ok.file;
  holds = c.in-Ok.ensures.whole;
  loaded = (c.in-Ok.ensures.within, subst IsReadable c.as_slice.ensures c.in-Ok-read.ensures.readable);
  is = c.in-Ok-read.ensures.image ∙ ap image_of c.as_slice.ensures;
}

pub returns-clause-fault : goal.returns-clause-fault
returns-clause-fault g c =
    let told = g.S.Shelf.contents c.args.shelf.now in
    subst (λ (why : ElfFault). HasFile told c.args.elf.now (λ f. (length f ≤ elf_limit) × (fault_of f ≡ Some why))) (sym c.in-Err-read.why-is)
    (held-with told c.args.elf.now c.in-Ok.file (λ f. (length f ≤ elf_limit) × (fault_of f ≡ Some c.in-Err-read.why)) c.in-Ok.ensures.whole (search rules))

use Rattle.std.proofs.Common.{◌≤◌, ◌^◌, ◌∙◌, length, ap, sym, subst}
use Rattle.code_gen.specs.ElfFile.{elf_of}
use Rattle.self_test.proofs.WordLemmas.{few-words}
use Rattle.self_test.proofs.SetUp.{never-fault}
use Rattle.self_test.proofs.outcome.drawn_image.Goals as goal

pub elf_file-requires : goal.elf_file-requires
elf_file-requires c = subst (λ words. length words ≤ 2 ^ 20) (sym c.in_ok-words.ensures) (few-words c.args.number c.args.size c.requires)

pub unreachable-requires : goal.unreachable-requires
unreachable-requires c =
    never-fault c.args.number c.args.size c.as_slice.result.now c.in-Err.fault c.requires
    (c.as_slice.ensures ∙ c.in_ok-file.ensures ∙ ap elf_of c.in_ok-words.ensures) (c.in-Err.ensures.fault c.in_default.not-NoMemory)

-- What the parts of the reader find of the conditions under which a file is not read.
use Rattle.std.specs.Prelude.{ℕ, Option, List, [], ◌∷◌, length, map, nat_lt}
use Rattle.elf_image.specs.declared.fault.ElfFault.{ElfFault}
use Rattle.elf_image.specs.declared.fault.ElfFault.TheVariants.{TooBig, TooMany}
use Rattle.elf_image.specs.declared.header.ProgramHeader.{ProgramHeader}
use Rattle.elf_image.specs.Fault.{cut_at, first, first_overlap, load_fault, most_loads, most_memory, total_size, when}
use Rattle.elf_image.specs.Header.{header_place, program_header_size, section_header_size, section_place}

-- the program header doesn't lie in the file
abbrev pub cut_header : List ℕ → ℕ → Option ElfFault
cut_header file i = cut_at file (header_place file i) program_header_size

-- the section header doesn't lie in the file
abbrev pub cut_section : List ℕ → ℕ → Option ElfFault
cut_section file i = cut_at file (section_place file i) section_header_size

-- what the PT_LOADs show
abbrev pub loads_faults : List ℕ → List ProgramHeader → List (Option ElfFault)
loads_faults file hs =
    when (nat_lt most_loads (length hs)) (TooMany (length hs))
    ∷ first (map (load_fault file) hs)
    ∷ when (nat_lt most_memory (total_size hs)) (TooBig (total_size hs))
    ∷ first_overlap hs
    ∷ []

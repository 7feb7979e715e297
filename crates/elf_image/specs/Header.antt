-- The fields of an ELF file that are read (System V gABI, "ELF Header", "Program Header" and "Sections"; all numbers low
-- byte first).
use Rattle.std.specs.Prelude.{ℕ, ◌+◌, ◌*◌, ◌==◌, if◌then◌else◌, Option, List, ◌∷◌, codes, map, take, drop, filter, find}
use Rattle.std.specs.List.{range_with_len}
use Rattle.byteorder.specs.Endian.{little_number}
use Rattle.elf_image.specs.declared.header.ProgramHeader.{ProgramHeader}
use Rattle.elf_image.specs.declared.section.SectionHeader.{SectionHeader}

-- ---- numbers of the standard (System V gABI; e_machine by the RISC-V ELF psABI)

-- the first bytes of each ELF file: 0x7f and the letters
abbrev pub magic : List ℕ
magic = 127 ∷ codes "ELF"

-- ELFCLASS64: 64-bit objects
abbrev pub class_64 : ℕ
class_64 = 2

-- ELFDATA2LSB: numbers low byte first
abbrev pub low_byte_first : ℕ
low_byte_first = 1

-- ET_EXEC and ET_DYN: executable files and shared objects
abbrev pub executable : ℕ
executable = 2

abbrev pub shared_object : ℕ
shared_object = 3

-- EM_RISCV
abbrev pub machine_riscv : ℕ
machine_riscv = 243

-- PT_LOAD: a segment that is loaded
abbrev pub type_load : ℕ
type_load = 1

-- SHT_SYMTAB: a symbol table
abbrev pub type_symbol_table : ℕ
type_symbol_table = 2

-- how many bytes the header, a program header, a section header and an entry of a symbol table have
abbrev pub header_size : ℕ
header_size = 64

abbrev pub program_header_size : ℕ
program_header_size = 56

abbrev pub section_header_size : ℕ
section_header_size = 64

abbrev pub symbol_size : ℕ
symbol_size = 24

-- ---- the header and the program headers

-- the number of `size` bytes at an offset
unfoldable pub number_at : ℕ → ℕ → List ℕ → ℕ
number_at offset size file = little_number size (drop offset file)

-- e_type
abbrev pub file_type : List ℕ → ℕ
file_type file = number_at 16 2 file

-- e_machine
abbrev pub machine : List ℕ → ℕ
machine file = number_at 18 2 file

-- e_phoff
abbrev pub table_place : List ℕ → ℕ
table_place file = number_at 32 8 file

-- e_phentsize
abbrev pub entry_size : List ℕ → ℕ
entry_size file = number_at 54 2 file

-- e_phnum
abbrev pub header_count : List ℕ → ℕ
header_count file = number_at 56 2 file

-- where program header i stands
abbrev pub header_place : List ℕ → ℕ → ℕ
header_place file i = table_place file + program_header_size * i

-- program header i: p_type, p_flags, p_offset, p_vaddr, p_filesz and p_memsz
abbrev pub header_at : List ℕ → ℕ → ProgramHeader
header_at file i =
    let offset = header_place file i in
    record {
      index = i;
      kind = number_at offset 4 file;
      flags = number_at (offset + 4) 4 file;
      offset = number_at (offset + 8) 8 file;
      address = number_at (offset + 16) 8 file;
      file_size = number_at (offset + 32) 8 file;
      memory_size = number_at (offset + 40) 8 file;
    }

-- the program headers of type PT_LOAD, in table order
abbrev pub loads : List ℕ → List ProgramHeader
loads file = filter (λ h. h.kind == type_load) (map (header_at file) (range_with_len 0 (header_count file)))

-- ---- sections

-- e_shoff
abbrev pub section_table : List ℕ → ℕ
section_table file = number_at 40 8 file

-- e_shentsize
abbrev pub section_entry_size : List ℕ → ℕ
section_entry_size file = number_at 58 2 file

-- e_shnum; without a table of section headers, where e_shoff is 0, there are none
abbrev pub section_count : List ℕ → ℕ
section_count file = if section_table file == 0 then 0 else number_at 60 2 file

-- where section header i stands
abbrev pub section_place : List ℕ → ℕ → ℕ
section_place file i = section_table file + section_header_size * i

-- section header i: sh_type, sh_offset, sh_size, sh_link and sh_entsize
abbrev pub section_at : List ℕ → ℕ → SectionHeader
section_at file i =
    let offset = section_place file i in
    record {
      kind = number_at (offset + 4) 4 file;
      offset = number_at (offset + 24) 8 file;
      size = number_at (offset + 32) 8 file;
      link = number_at (offset + 40) 4 file;
      entry_size = number_at (offset + 56) 8 file;
    }

-- the first section of type SHT_SYMTAB, if there is one
abbrev pub symbol_table : List ℕ → Option SectionHeader
symbol_table file = find (λ s. s.kind == type_symbol_table) (map (section_at file) (range_with_len 0 (section_count file)))

-- the bytes of a section
abbrev pub section_bytes : List ℕ → SectionHeader → List ℕ
section_bytes file s = take s.size (drop s.offset file)

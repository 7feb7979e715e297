-- Why a file is not read: of these conditions, in this order, the first that holds.
use Rattle.std.specs.Prelude.{◌≡◌, ℕ, ◌+◌, ◌-◌, ◌^◌, ◌==◌, nat_eq, nat_lt, nat_le, min, max, Bool, ◌&&◌, ◌||◌, not, if◌then◌else◌, Option, Some, None, List, [], ◌∷◌, ◌++◌, map, length, slice_index}
use Rattle.std.specs.Option.{option_and_then, option_or}
use Rattle.std.specs.List.{list_any, range_with_len, sum_by, starts_with}
use Rattle.elf_image.specs.declared.fault.ElfFault.{ElfFault}
use Rattle.elf_image.specs.declared.fault.ElfFault.TheVariants.{NotElf, Class, Order, Kind, Machine, Cut, Overlap, Wraps, TooMany, Symbols, Entry, Sizes, TooBig}
use Rattle.elf_image.specs.declared.header.ProgramHeader.{ProgramHeader}
use Rattle.elf_image.specs.declared.section.SectionHeader.{SectionHeader}
use Rattle.elf_image.specs.Header.{class_64, entry_size, executable, file_type, header_count, header_place, header_size, loads, low_byte_first, machine, machine_riscv, magic, program_header_size, section_at, section_count, section_entry_size, section_header_size, section_place, shared_object, symbol_size, symbol_table}
use Rattle.elf_image.specs.Symbol.{functions, is_ended, strings_of}

-- how many PT_LOADs a file that is read has at most, and how many bytes of memory these take together: 1 GiB
abbrev pub most_loads : ℕ
most_loads = 64

abbrev pub most_memory : ℕ
most_memory = 2 ^ 30

-- the fault where the condition holds
abbrev pub when : Bool → ElfFault → Option ElfFault
when holds fault = if holds then Some fault else None

-- the first of them that is there
abbrev pub first : List (Option ElfFault) → Option ElfFault
first [] = None
first (fault ∷ faults) = option_or fault (first faults)

-- what takes `size` bytes from an offset on doesn't lie in the file; an offset past 2 ^ 64 - 1 is told as 2 ^ 64 - 1
abbrev pub cut_at : List ℕ → ℕ → ℕ → Option ElfFault
cut_at file offset size = when (nat_lt (length file) (offset + size)) (Cut (min offset (2 ^ 64 - 1)))

-- the sizes, the offset in the file and the addresses of a PT_LOAD
abbrev pub load_fault : List ℕ → ProgramHeader → Option ElfFault
load_fault file h = first (
    when (nat_lt h.memory_size h.file_size) (Sizes h.index)
    ∷ cut_at file h.offset h.file_size
    ∷ when (nat_lt (2 ^ 64) (h.address + h.memory_size)) (Wraps h.index)
    ∷ [])

-- the two share an address: one that is neither below the higher begin nor past the lower end
abbrev pub overlaps : ProgramHeader → ProgramHeader → Option ElfFault
overlaps h k = when (nat_lt (max h.address k.address) (min (h.address + h.memory_size) (k.address + k.memory_size))) (Overlap h.index k.index)

-- the first of them that shares an address with a later one, and the first of those
abbrev pub first_overlap : List ProgramHeader → Option ElfFault
first_overlap [] = None
first_overlap (h ∷ hs) = option_or (first (map (overlaps h) hs)) (first_overlap hs)

-- what the header shows
abbrev pub header_faults : List ℕ → List (Option ElfFault)
header_faults file =
    when (not (starts_with nat_eq file magic)) NotElf
    ∷ when (nat_lt (length file) header_size) (Cut 0)
    ∷ when (not (slice_index file 4 == class_64)) Class
    ∷ when (not (slice_index file 5 == low_byte_first)) Order
    ∷ when (not (file_type file == executable || file_type file == shared_object)) (Kind (file_type file))
    ∷ when (not (machine file == machine_riscv)) (Machine (machine file))
    ∷ when (not (header_count file == 0) && not (entry_size file == program_header_size)) (Entry (entry_size file))
    ∷ []

-- the memory that the PT_LOADs take together
abbrev pub total_size : List ProgramHeader → ℕ
total_size hs = sum_by (λ h. h.memory_size) hs

-- what the program headers show: one that doesn't lie in the file, and then what the PT_LOADs do
abbrev pub table_faults : List ℕ → List (Option ElfFault)
table_faults file =
    first (map (λ i. cut_at file (header_place file i) program_header_size) (range_with_len 0 (header_count file)))
    ∷ when (nat_lt most_loads (length (loads file))) (TooMany (length (loads file)))
    ∷ first (map (load_fault file) (loads file))
    ∷ when (nat_lt most_memory (total_size (loads file))) (TooBig (total_size (loads file)))
    ∷ first_overlap (loads file)
    ∷ []

-- what a symbol table shows, and the string table that it links to
abbrev pub symbol_faults : List ℕ → SectionHeader → List (Option ElfFault)
symbol_faults file table =
    when (not (table.entry_size == symbol_size)) (Entry table.entry_size)
    ∷ cut_at file table.offset table.size
    ∷ when (nat_le (section_count file) table.link) Symbols
    ∷ cut_at file (section_at file table.link).offset (section_at file table.link).size
    ∷ when (list_any (λ e. not (is_ended (strings_of file table) e.name)) (functions file table)) Symbols
    ∷ []

-- what the section headers show, and then the symbol table, if there is one
abbrev pub section_faults : List ℕ → List (Option ElfFault)
section_faults file =
    when (not (section_count file == 0) && not (section_entry_size file == section_header_size)) (Entry (section_entry_size file))
    ∷ first (map (λ i. cut_at file (section_place file i) section_header_size) (range_with_len 0 (section_count file)))
    ∷ option_and_then (λ table. first (symbol_faults file table)) (symbol_table file)
    ∷ []

-- the fault of a file, or none
unfoldable pub fault_of : List ℕ → Option ElfFault
fault_of file = first (header_faults file ++ table_faults file ++ section_faults file)

-- the file has no fault
abbrev pub IsReadable : List ℕ → Type 0
IsReadable file = fault_of file ≡ None

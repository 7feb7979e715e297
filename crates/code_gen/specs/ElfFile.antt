-- An ELF file with a program as its one piece (System V gABI, "ELF Header" and "Program Header"; e_machine by the RISC-V
-- ELF psABI).
use Rattle.std.specs.Prelude.{ℕ, zero, suc, ◌+◌, ◌*◌, ◌/◌, ◌%◌, List, [], ◌∷◌, ◌++◌, codes, length, replicate}
use Rattle.std.specs.List.{flat_map}
use Rattle.code_gen.specs.declared.elf.Field.{Field}

-- a number of so many bytes
abbrev pub of_size : ℕ → ℕ → Field
of_size n v = record { size = n; value = v }

-- a number as n bytes, the low one first
abbrev pub little : ℕ → ℕ → List ℕ
little zero v = []
little (suc n) v = v % 256 ∷ little n (v / 256)

-- a field's bytes
abbrev pub field_bytes : Field → List ℕ
field_bytes f = little f.size f.value

-- e_ident: 0x7f and the letters, ELFCLASS64, ELFDATA2LSB, EV_CURRENT, and nine zeros
abbrev pub identification : List ℕ
identification = 0x7f ∷ codes "ELF" ++ 2 ∷ 1 ∷ 1 ∷ replicate 9 0

-- where the program stands in memory
abbrev pub start : ℕ
start = 0x10000

-- the rest of the header, and the program header of n bytes that stand after it
abbrev pub fields : ℕ → List Field
fields n =
    of_size 2 2  -- e_type: ET_EXEC
    ∷ of_size 2 243  -- e_machine: EM_RISCV
    ∷ of_size 4 1  -- e_version: EV_CURRENT
    ∷ of_size 8 start  -- e_entry
    ∷ of_size 8 64  -- e_phoff
    ∷ of_size 8 0  -- e_shoff
    ∷ of_size 4 0  -- e_flags
    ∷ of_size 2 64  -- e_ehsize
    ∷ of_size 2 56  -- e_phentsize
    ∷ of_size 2 1  -- e_phnum
    ∷ of_size 2 64  -- e_shentsize
    ∷ of_size 2 0  -- e_shnum
    ∷ of_size 2 0  -- e_shstrndx
    ∷ of_size 4 1  -- p_type: PT_LOAD
    ∷ of_size 4 5  -- p_flags: PF_R and PF_X
    ∷ of_size 8 120  -- p_offset
    ∷ of_size 8 start  -- p_vaddr
    ∷ of_size 8 start  -- p_paddr
    ∷ of_size 8 n  -- p_filesz
    ∷ of_size 8 n  -- p_memsz
    ∷ of_size 8 4  -- p_align
    ∷ []

-- the file of these instruction words
unfoldable pub elf_of : List ℕ → List ℕ
elf_of words = identification ++ flat_map field_bytes (fields (4 * length words)) ++ flat_map (little 4) words

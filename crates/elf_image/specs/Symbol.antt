-- The function symbols of a file, and the value that a name has among them (System V gABI, "Symbol Table" and "String
-- Table").
use Rattle.std.specs.Prelude.{ℕ, ◌+◌, ◌*◌, ◌/◌, ◌%◌, ◌==◌, Bool, ◌&&◌, not, Result, Ok, Err, List, [], ◌∷◌, map, drop, filter, take_while, slice_index, bytes_eq}
use Rattle.std.specs.BTreeSet.{insert_key}
use Rattle.std.specs.List.{fold, list_any, range_with_len}
use Rattle.std.specs.Option.{option_map_or}
use Rattle.std.specs.Ordering.{nat_cmp}
use Rattle.elf_image.specs.declared.section.SectionHeader.{SectionHeader}
use Rattle.elf_image.specs.declared.section.SymbolEntry.{SymbolEntry}
use Rattle.elf_image.specs.declared.symbol.NameFault.{NameFault}
use Rattle.elf_image.specs.declared.symbol.NameFault.TheVariants.{NoSuch, Ambiguous}
use Rattle.elf_image.specs.Header.{number_at, section_at, section_bytes, symbol_size, symbol_table}

-- entry i of a symbol table: st_name, st_info, st_shndx and st_value
abbrev pub entry_at : List ℕ → SectionHeader → ℕ → SymbolEntry
entry_at file table i =
    let offset = table.offset + symbol_size * i in
    record {
      name = number_at offset 4 file;
      info = slice_index file (offset + 4);
      section = number_at (offset + 6) 2 file;
      value = number_at (offset + 8) 8 file;
    }

-- STT_FUNC: a function
abbrev pub type_function : ℕ
type_function = 2

-- a function in a section, not SHN_UNDEF: the type is the low four bits of the info
abbrev pub is_function : SymbolEntry → Bool
is_function e = e.info % 16 == type_function && not (e.section == 0)

-- the functions of a symbol table, in table order; bytes after its last whole entry are none
abbrev pub functions : List ℕ → SectionHeader → List SymbolEntry
functions file table = filter is_function (map (entry_at file table) (range_with_len 0 (table.size / symbol_size)))

-- the bytes of the string table that a symbol table links to
abbrev pub strings_of : List ℕ → SectionHeader → List ℕ
strings_of file table = section_bytes file (section_at file table.link)

-- the string at an offset of a string table: the bytes before the first zero byte
abbrev pub string_at : List ℕ → ℕ → List ℕ
string_at strings offset = take_while (λ b. not (b == 0)) (drop offset strings)

-- the string at an offset begins in the string table and has an end there: a zero byte
abbrev pub is_ended : List ℕ → ℕ → Bool
is_ended strings offset = list_any (λ b. b == 0) (drop offset strings)

-- the name and the value of a symbol
pub record Symbol : Type 0 where
  pub name : List ℕ
  pub value : ℕ

abbrev pub symbol_of : List ℕ → SymbolEntry → Symbol
symbol_of strings e = record { name = string_at strings e.name; value = e.value }

-- the function symbols of a file, in table order; without a symbol table there are none
abbrev pub symbols_of : List ℕ → List Symbol
symbols_of file = option_map_or (λ table. map (symbol_of (strings_of file table)) (functions file table)) (symbol_table file) []

-- ---- the value of a name

-- the values of the symbols of a name: each once, in rising order
abbrev pub values_of : List ℕ → List Symbol → List ℕ
values_of name symbols = fold (insert_key nat_cmp) [] (map (λ s. s.value) (filter (λ s. bytes_eq s.name name) symbols))

-- the one value of these, or why there is none: there is no value, or there are two or more, of which these are the first two
abbrev pub one_of : List ℕ → Result ℕ NameFault
one_of [] = Err NoSuch
one_of (a ∷ []) = Ok a
one_of (a ∷ b ∷ values) = Err (Ambiguous a b)

-- the value of the symbols of a name
abbrev pub value_of_name : List ℕ → List Symbol → Result ℕ NameFault
value_of_name name symbols = one_of (values_of name symbols)

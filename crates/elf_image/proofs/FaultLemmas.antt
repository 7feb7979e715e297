-- The first fault of a file, from the faults that the parts of the reader find.
use Rattle.std.proofs.Common.{◌≡◌, ℕ, ◌<◌, ◌≤◌, Option, Some, None, List, [], ◌∷◌, ◌++◌, map, nat_lt, refl, sym, ◌∙◌}
use Rattle.std.specs.Option.{option_or}
use Rattle.std.specs.List.{range_with_len}
use Rattle.std.proofs.lemmas.Bool.{lt-ltb, le-ltb, cond-true, cond-false}
use Rattle.elf_image.specs.declared.fault.ElfFault.{ElfFault}
use Rattle.elf_image.specs.Header.{header_count, loads}
use Rattle.elf_image.specs.Fault.{when, first, header_faults, section_faults, table_faults, fault_of}
use Rattle.elf_image.specs.inner.Faults.{cut_header, loads_faults}

or_assoc : (x y z : Option ElfFault) → option_or (option_or x y) z ≡ option_or x (option_or y z)
or_assoc None y z = refl
or_assoc (Some f) y z = refl

first_append : (xs ys : List (Option ElfFault)) → first (xs ++ ys) ≡ option_or (first xs) (first ys)
first_append [] ys = refl
first_append (x ∷ xs) ys = (λ j. option_or x (first_append xs ys j)) ∙ sym (or_assoc x (first xs) (first ys))

pub when_so : (a b : ℕ) (f : ElfFault) → a < b → when (nat_lt a b) f ≡ Some f
when_so a b f l = cond-true (nat_lt a b) (Some f) None (lt-ltb a b l)

pub when_not : (a b : ℕ) (f : ElfFault) → b ≤ a → when (nat_lt a b) f ≡ None
when_not a b f l = cond-false (nat_lt a b) (Some f) None (le-ltb a b l)

-- the rows, with those of each part of the file together
rows : (file : List ℕ) → fault_of file ≡ option_or (option_or (first (header_faults file)) (first (table_faults file))) (first (section_faults file))
unfolding fault_of
rows file =
    first_append (header_faults file ++ table_faults file) (section_faults file)
    ∙ (λ j. option_or (first_append (header_faults file) (table_faults file) j) (first (section_faults file)))

module _ (file : List ℕ) where
  abbrev header : Option ElfFault
  header = first (header_faults file)

  abbrev table : Option ElfFault
  table = first (map (cut_header file) (range_with_len 0 (header_count file)))

  abbrev load : Option ElfFault
  load = first (loads_faults file (loads file))

  abbrev sections : Option ElfFault
  sections = first (section_faults file)

  pub at_header : (f : ElfFault) → header ≡ Some f → fault_of file ≡ Some f
  at_header f h = rows file ∙ (λ j. option_or (option_or (h j) (first (table_faults file))) sections)

  pub at_table : (f : ElfFault) → header ≡ None → table ≡ Some f → fault_of file ≡ Some f
  at_table f h t = rows file ∙ (λ j. option_or (option_or (h j) (option_or (t j) load)) sections)

  pub at_loads : (f : ElfFault) → header ≡ None → table ≡ None → load ≡ Some f → fault_of file ≡ Some f
  at_loads f h t l = rows file ∙ (λ j. option_or (option_or (h j) (option_or (t j) (l j))) sections)

  pub at_sections : header ≡ None → table ≡ None → load ≡ None → fault_of file ≡ sections
  at_sections h t l = rows file ∙ (λ j. option_or (option_or (h j) (option_or (t j) (l j))) sections)

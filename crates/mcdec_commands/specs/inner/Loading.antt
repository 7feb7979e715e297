-- What comes of the files that commands read.
use Rattle.std.specs.Prelude.{◌≡◌, ℕ, ◌<◌, ◌≤◌, List, length, Option, Some, IfSome}
use Rattle.mc_shelf.specs.Shelf.{Contents}
use Rattle.mc_shelf.specs.declared.reading.ReadEnd.{ReadEnd}
use Rattle.mc_shelf.specs.declared.reading.ReadEnd.TheVariants as end
use Rattle.elf_image.specs.Fault.{fault_of}
use Rattle.elf_image.specs.Image.{ImageOf, image_of}
use Rattle.elf_image.specs.declared.fault.ElfFault.{ElfFault}
use Rattle.mcdec_answers.specs.declared.answer.Answer.{Answer}
use Rattle.mcdec_answers.specs.declared.answer.Answer.TheVariants as answer
use Rattle.mcdec_commands.specs.declared.load.LoadFault.{LoadFault}
use Rattle.mcdec_commands.specs.declared.load.LoadFault.TheVariants as load
use Rattle.mcdec_commands.specs.Held.{HasFile}
use Rattle.mcdec_commands.specs.RunAnswer.{IsLoaded, elf_limit}

-- why a file of at most so many bytes isn't read; `rose` says that the count of read faults rose
abbrev pub IsNotRead : Option Contents → (name : List ℕ) → (limit : ℕ) → (rose : Type 0) → ReadEnd → Type 0
IsNotRead told name limit rose end.Fault = rose
IsNotRead told name limit rose end.TooLong = HasFile told name (λ file. limit < length file)
IsNotRead told name limit rose end.NoMemory = Unit {0}

-- why there is no image of an ELF file
abbrev pub IsNotLoaded : Option Contents → (elf : List ℕ) → (rose : Type 0) → LoadFault → Type 0
IsNotLoaded told elf rose (load.Unread end) = IsNotRead told elf elf_limit rose end
IsNotLoaded told elf rose (load.Unreadable why) = HasFile told elf (λ file. (length file ≤ elf_limit) × (fault_of file ≡ Some why))

-- the image is that of the file that a name holds, where that is told
pub record IsImageIn (told : Option Contents) (elf : List ℕ) (image : ImageOf) : Type 0 where
  pub file : List ℕ
  pub holds : IfSome told (λ files. files elf ≡ Some file)
  pub loaded : IsLoaded file
  pub is : image ≡ image_of file

-- the answer where a file isn't read, by the one that tells that it is over its limit
abbrev pub not_read : Answer → ReadEnd → Answer
not_read over_limit end.Fault = answer.ReadFault
not_read over_limit end.TooLong = over_limit
not_read over_limit end.NoMemory = answer.NoMemory

-- the answer where there is no image of an ELF file, by the ones that tell that it is over its limit, and which fault it has
abbrev pub not_loaded : Answer → (ElfFault → Answer) → LoadFault → Answer
not_loaded over_limit unreadable (load.Unread end) = not_read over_limit end
not_loaded over_limit unreadable (load.Unreadable why) = unreadable why

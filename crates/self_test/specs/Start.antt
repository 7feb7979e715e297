-- Where a program that is drawn from a number begins.
use Rattle.std.specs.Prelude.{ℕ, ◌==◌, if◌then◌else◌, false, List, codes, replicate}
use Rattle.elf_image.specs.Image.{memory_of_file}
use Rattle.rv_machine.specs.State.{State}
use Rattle.tailrec_lang.specs.Tree.{GroupTree}
use Rattle.claims.specs.Headline.{Region}
use Rattle.code_gen.specs.ElfFile.{elf_of, start}
use Rattle.code_gen.specs.Program.{program_of}
use Rattle.self_test.specs.Runs.{behind}

-- the file of the program that is drawn from a number
abbrev pub file_of : ℕ → ℕ → List ℕ
file_of number size = elf_of (program_of number size)

-- the name of its function: the address at which the program stands
abbrev pub function_name : List ℕ
function_name = codes "0x10000"

-- what the registers hold where it begins: x1 where it is to return to, x10 the number, x11 the size, each other 0
abbrev pub given : ℕ → ℕ → ℕ → ℕ
given number size r = if r == 11 then size else (if r == 10 then number else (if r == 1 then behind else 0))

-- the state in which it begins: at its first instruction, with its file in memory
abbrev pub begin : ℕ → ℕ → State
begin number size = record { pc = start; reg = given number size; mem = memory_of_file (file_of number size) }

-- regions without an address, as many as the group has memories
abbrev pub empty_regions : GroupTree → List Region
empty_regions g = replicate g.mems (λ a. false)

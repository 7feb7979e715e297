-- Nothing is lost of a function whose stack accesses have a memory of their own.
use Rattle.std.specs.Prelude.{◌≡◌, ◌⊎◌, ℕ, List}
use Rattle.rv_words.specs.Bytes.{Bytes}
use Rattle.elf_image.specs.Image.{code_of_file}
use Rattle.tailrec_lang.specs.Tree.{GroupTree}
use Rattle.claims.specs.LinkExact.{ExactIn}
use Rattle.stack_offsets.specs.Offsets.{IsStackAccess}

-- of the function with entry e the instruction at a has the memory q: the second one where it is a stack access, and the first where it is none
abbrev pub UsesSplit : Bytes → ℕ → ℕ → ℕ → Type 0
UsesSplit code e a q = ((q ≡ 1) × IsStackAccess code e a) ⊎ ((q ≡ 0) × (IsStackAccess code e a → ⊥))

-- For each state at the entry e of the group's function that holds the file's code, and any two regions: where the machine first returns after
-- k steps, of which those of stack accesses touch the second region alone and all others the first alone, evaluation within 2 k turns gives the
-- state in which it then is.
abbrev pub SplitExact : List ℕ → ℕ → GroupTree → Type 0
SplitExact file e g = ExactIn (UsesSplit (code_of_file file) e) file g

-- A program's file in memory, and the state and the arguments with which the program begins.
use Rattle.std.proofs.Common.{◌≡◌, ℕ, ◌+◌, ◌*◌, ◌^◌, ◌<◌, ◌≤◌, None, Some, List, [], ◌∷◌, length, get_or, sym, ap, ◌∙◌, arith}
use Rattle.std.specs.List.{flat_map}
use Rattle.rv_words.specs.Bytes.{Bytes, bytes_from, over}
use Rattle.elf_image.specs.Fault.{fault_of}
use Rattle.elf_image.specs.declared.fault.ElfFault.{ElfFault}
use Rattle.elf_image.specs.declared.image.Piece.{Piece}
use Rattle.elf_image.specs.Image.{ImageOf, bytes_in, image_of, memory_of_file, pieces_of}
use Rattle.rv_machine.specs.State.{State, empty_state, with_bytes}
use Rattle.rv_machine.specs.Step.{writes}
use Rattle.code_gen.specs.ElfFile.{little, start}
use Rattle.code_gen.specs.Program.{program_of}
use Rattle.self_test.specs.Files.{piece_of_words}
use Rattle.self_test.specs.Runs.{behind}
use Rattle.self_test.proofs.FileLemmas.{body-length, image, one-piece, readable}
use Rattle.self_test.proofs.WordLemmas.{few-words, padding}
use Rattle.self_test.specs.Start.{begin, file_of, given}

pub file-piece : (number size : ℕ) → size ≤ 600 → pieces_of (file_of number size) ≡ piece_of_words (program_of number size) ∷ []
file-piece number size small = one-piece (program_of number size) (few-words number size small)

pieces-are : (number size : ℕ) → size ≤ 600 → (image_of (file_of number size)).pieces ≡ piece_of_words (program_of number size) ∷ []
pieces-are number size small = ap (λ (i : ImageOf). i.pieces) (image (program_of number size) (few-words number size small))

-- the file's one piece lies in memory
pub piece-fits : (number size : ℕ) (p : Piece) → size ≤ 600 → p ≡ piece_of_words (program_of number size) → p.at + length p.from ≤ 2 ^ 64
piece-fits number size p small is =
    let words : List ℕ = program_of number size in
    let at : p.at ≡ start = ap (λ (q : Piece). q.at) is in
    let long : length p.from ≡ 4 * length words = ap (λ (q : Piece). length q.from) is ∙ body-length words in
    omega (arith, at, long, few-words number size small)

-- the bytes of the piece, and three registers
pub begun : (number size : ℕ) (p : Piece) (s t u v w : State) → size ≤ 600 → p ≡ piece_of_words (program_of number size)
    → s ≡ empty_state start → t ≡ with_bytes (bytes_from p.at p.from) s → u ≡ writes 1 behind t → v ≡ writes 10 number u → w ≡ writes 11 size v
    → w ≡ begin number size
begun number size p s t u v w small is empty put x1 x10 x11 =
    let words : List ℕ = program_of number size in
    let body : List ℕ = flat_map (little 4) words in
    let placed : t ≡ with_bytes (bytes_from start body) (empty_state start) = put ∙ (λ i. with_bytes (bytes_from (is i).at (is i).from) (empty i)) in
    let nothing : Bytes = λ a. None in
    let memory : over (bytes_from start body) nothing ≡ memory_of_file (file_of number size) =
    (λ i. over (bytes_from start (sym (padding words) i)) nothing) ∙ (λ i. bytes_in (sym (file-piece number size small) i)) in
    let last : writes 11 size (writes 10 number (writes 1 behind (with_bytes (bytes_from start body) (empty_state start)))) ≡ begin number size =
    (λ i. record { pc = start; reg = given number size; mem = memory i }) in
    x11 ∙ ap (writes 11 size) (x10 ∙ ap (writes 10 number) (x1 ∙ ap (writes 1 behind) placed)) ∙ last

-- ---- the file's one piece

pub some-piece : (number size : ℕ) (ps : List Piece) (o : ImageOf) → size ≤ 600 → ps ≡ o.pieces → o ≡ image_of (file_of number size) → 0 < length ps
some-piece number size ps o small here there =
    let long : length ps ≡ 1 = ap (λ (qs : List Piece). length qs) (here ∙ ap (λ (i : ImageOf). i.pieces) there ∙ pieces-are number size small) in
    omega (arith, long)

pub first-piece : (number size : ℕ) (ps : List Piece) (o : ImageOf) (p : Piece) → size ≤ 600 → ps ≡ o.pieces → o ≡ image_of (file_of number size)
    → p ≡ get_or ps 0 p → p ≡ piece_of_words (program_of number size)
first-piece number size ps o p small here there first =
    first ∙ ap (λ (qs : List Piece). get_or qs 0 p) (here ∙ ap (λ (i : ImageOf). i.pieces) there ∙ pieces-are number size small)

-- ---- the file can be read

no-fault : (fault : ElfFault) → None ≡ Some fault → ⊥
no-fault fault e = cc

pub never-fault : (number size : ℕ) (file : List ℕ) (fault : ElfFault) → size ≤ 600 → file ≡ file_of number size → fault_of file ≡ Some fault → ⊥
never-fault number size file fault small is e =
    no-fault fault (sym (readable (program_of number size) (few-words number size small)) ∙ ap fault_of (sym is) ∙ e)

-- The file of some words is read: its fields are those that were written.
use Rattle.std.proofs.Common.{◌≡◌, ℕ, ◌+◌, ◌*◌, ◌^◌, ◌<◌, ◌≤◌, List, [], ◌∷◌, ◌++◌, length, take, Bool, Option, None, refl, ◌∙◌, arith}
use Rattle.std.specs.List.{flat_map}
use Rattle.std.specs.Option.{option_or}
use Rattle.std.proofs.lemmas.Bool.{le-ltb}
use Rattle.std.proofs.lemmas.List.{length-append, take_all}
use Rattle.elf_image.specs.Header.{number_at}
use Rattle.elf_image.specs.declared.image.Piece.{Piece}
use Rattle.elf_image.specs.Image.{image_of, pieces_of, rising}
use Rattle.elf_image.specs.Fault.{IsReadable, fault_of, most_memory, when}
use Rattle.elf_image.specs.declared.fault.ElfFault.{ElfFault}
use Rattle.elf_image.specs.declared.fault.ElfFault.TheVariants.{Cut, Sizes, TooBig, Wraps}
use Rattle.byteorder.specs.Endian.{little_number}
use Rattle.code_gen.specs.ElfFile.{little, field_bytes, identification, fields, elf_of, start}
use Rattle.self_test.specs.Files.{piece_of_words}

-- the bytes before the words
abbrev header : ℕ → List ℕ
header n = identification ++ flat_map field_bytes (fields n)

-- the bytes of the words
abbrev body : List ℕ → List ℕ
body words = flat_map (little 4) words

pub body-length : (words : List ℕ) → length (body words) ≡ 4 * length words
body-length [] = refl
body-length (w ∷ ws) = omega (arith, body-length ws)

file-length : (words : List ℕ) → length (elf_of words) ≡ 120 + 4 * length words
unfolding elf_of
file-length words = length-append (header (4 * length words)) (body words) ∙ (λ i. 120 + body-length words i)

number-back : (n : ℕ) → n < 2 ^ 32 → little_number 8 (little 8 n) ≡ n
number-back n h = omega (arith, h)

-- the tests of a file's sizes, which are all that doesn't compute
abbrev sized : Bool → Bool → Bool → Bool → Bool → Bool → ℕ → Option ElfFault
sized a b c d e f n =
    option_or (when a (Cut 0))
    (option_or (option_or (when b (Cut 64)) None)
    (option_or (option_or (option_or (when c (Sizes 0)) (option_or (when d (Cut 120)) (option_or (when e (Wraps 0)) None))) None)
    (option_or (when f (TooBig (0 + n))) None)))

-- the size of the words, as it is read
abbrev size_read : List ℕ → ℕ
size_read words = little_number 8 (little 8 (4 * length words))

size-is : (words : List ℕ) → length words ≤ 2 ^ 20 → size_read words ≡ 4 * length words
size-is words h = number-back (4 * length words) (omega (arith, h))

pub readable : (words : List ℕ) → length words ≤ 2 ^ 20 → IsReadable (elf_of words)
unfolding fault_of elf_of number_at
readable words h =
    let n : ℕ = size_read words in
    let size : n ≡ 4 * length words = size-is words h in
    let long : length (elf_of words) ≡ 120 + 4 * length words = file-length words in
    λ i. sized
    (le-ltb (length (elf_of words)) 64 (omega (arith, long)) i)
    (le-ltb (length (elf_of words)) 120 (omega (arith, long)) i)
    (le-ltb n n (omega arith) i)
    (le-ltb (length (elf_of words)) (120 + n) (omega (arith, long, size)) i)
    (le-ltb (2 ^ 64) (65536 + n) (omega (arith, size, h)) i)
    (le-ltb most_memory (0 + n) (omega (arith, size, h)) i)
    n

pub one-piece : (words : List ℕ) → length words ≤ 2 ^ 20 → pieces_of (elf_of words) ≡ piece_of_words words ∷ []
unfolding elf_of number_at
one-piece words h =
    let size : size_read words ≡ 4 * length words = size-is words h in
    let all : take (4 * length words) (body words) ≡ body words = take_all (4 * length words) (body words) (omega (arith, body-length words)) in
    let read : ℕ → List ℕ → List Piece = λ n bytes. record { at = start; flags = 5; size = n; from = bytes } ∷ [] in
    (λ i. read (size i) (take (size i) (body words))) ∙ (λ i. read (4 * length words) (all i))

pub image : (words : List ℕ) → length words ≤ 2 ^ 20 → image_of (elf_of words) ≡ record { pieces = piece_of_words words ∷ []; symbols = [] }
unfolding image_of elf_of number_at
image words h = λ i. record { pieces = rising (one-piece words h i); symbols = [] }

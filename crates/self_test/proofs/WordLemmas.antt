-- The words of a file stand in memory, one after the other.
use Rattle.std.proofs.Common.{◌≡◌, ℕ, zero, suc, ◌+◌, ◌-◌, ◌*◌, ◌^◌, ◌<◌, ◌≤◌, List, [], ◌∷◌, ◌++◌, length, map, cond, Option, Some, None, pos, negsuc, refl, sym, ap, subst, ◌∙◌, arith, append_assoc, replicate}
use Rattle.std.specs.Prelude.{slice_get}
use Rattle.std.specs.List.{flat_map}
use Rattle.std.specs.Option.{option_or}
use Rattle.std.proofs.Math.Nat.{mod-eq_of_lt}
use Rattle.std.proofs.lemmas.Bool.{le-leb}
use Rattle.std.proofs.lemmas.List.{append-nil, length-append, length-map}
use Rattle.rv_words.specs.Bytes.{Bytes, AreAt, away, bytes_from, number_of, over, word_at}
use Rattle.rv_words.proofs.MemoryLemmas.{inside-number, load-number}
use Rattle.rv_decode.specs.declared.instruction.Instr.{Instr}
use Rattle.rv_decode.specs.declared.instruction.Instr.TheVariants.{OpImm, Branch, Jalr}
use Rattle.rv_words.specs.declared.operation.Op.TheVariants.{Add as Addition}
use Rattle.rv_words.specs.declared.comparison.Cmp.TheVariants.{Ne}
use Rattle.rv_decode.specs.Encodes.{word_of, fields_of}
use Rattle.rv_decode.proofs.JoinLemmas.{join_below}
use Rattle.elf_image.specs.Image.{bytes_in, code_in, code_of_file, memory_of_file, padded}
use Rattle.code_gen.specs.Pieces.{Pieces, Done, Add, Mix, Choose, Repeat, drawn}
use Rattle.code_gen.specs.Program.{counter, adding, mixing, counting, loop_end, code, instructions, program_of}
use Rattle.code_gen.specs.Structure.{EachAt}
use Rattle.code_gen.specs.ElfFile.{little, elf_of, start}
use Rattle.code_gen.proofs.Each.{Each, each-append}
use Rattle.code_gen.proofs.CodeLemmas.{program-few}
use Rattle.self_test.specs.Files.{piece_of_words}
use Rattle.code_gen.specs.Structure.{IsWordAt}
use Rattle.self_test.proofs.FileLemmas.{body-length, one-piece}

-- ---- words have 32 bits

abbrev IsSmall : Instr → Type 0
IsSmall i = word_of i < 2 ^ 32

code-small : (d : ℕ) (p : Pieces) → Each IsSmall (code d p)
code-small d Done = tt
code-small d (Add u rest) = (join_below (fields_of (adding u)), code-small d rest)
code-small d (Mix rest) = (join_below (fields_of mixing), code-small d rest)
code-small d (Choose u rest) =
    (omega arith, (omega arith, (join_below (fields_of (adding u)), (omega arith, (omega arith, code-small d rest)))))
code-small d (Repeat n body rest) =
    let inner : List Instr = code (d + 1) body in
    let last : List Instr = loop_end d (length inner) in (
      join_below (fields_of (counting d n)),
      each-append IsSmall (inner ++ last) (code d rest)
          (each-append IsSmall inner last (code-small (d + 1) body) (
            join_below (fields_of (OpImm Addition (counter d) (counter d) (negsuc 0))),
            (join_below (fields_of (Branch Ne (counter d) 0 (negsuc (4 * length inner + 3)))), tt),
          ))
          (code-small d rest),
    )

program-small : (number size : ℕ) → Each IsSmall (instructions number size)
program-small number size =
    each-append IsSmall (code 0 (drawn size 0 number).pieces) (Jalr 0 1 (pos 0) ∷ []) (code-small 0 (drawn size 0 number).pieces) (omega arith, tt)

-- ---- words in memory

get-past : (xs ys : List ℕ) (j : ℕ) → slice_get (xs ++ ys) (length xs + j) ≡ slice_get ys j
get-past [] ys j = let e : 0 + j ≡ j = omega arith in (λ i. slice_get ys (e i))
get-past (x ∷ xs) ys j =
    let e : suc (length xs) + j ≡ suc (length xs + j) = omega arith in
    (λ i. slice_get (x ∷ (xs ++ ys)) (e i)) ∙ get-past xs ys j

get-first : (xs ys : List ℕ) (j : ℕ) → j < length xs → slice_get (xs ++ ys) j ≡ slice_get xs j
get-first [] ys j h = elim (nothing_below j h) [ ]
  where
    nothing_below : (j : ℕ) → j < 0 → ⊥
    nothing_below j h = omega (arith, h)
get-first (x ∷ xs) ys zero h = refl
get-first (x ∷ xs) ys (suc j) h = get-first xs ys j (omega (arith, h))

number-little : (w : ℕ) → w < 2 ^ 32 → number_of (little 4 w) ≡ w
number-little w h = omega (arith, h)

-- memory in which bytes stand from a on
abbrev Holds : Bytes → ℕ → List ℕ → Type 0
Holds m a bytes = (k : ℕ) → k < length bytes → m (a + k) ≡ slice_get bytes k

word-there : (m : Bytes) (a w : ℕ) → a + 4 < 2 ^ 64 → w < 2 ^ 32 → Holds m a (little 4 w) → word_at m a ≡ Some w
word-there m a w room small holds =
    let at : AreAt (little 4 w) m a = (λ k h. let e : away a k ≡ a + k = mod-eq_of_lt (omega (arith, h, room)) in (λ i. m (e i)) ∙ holds k h) in
    (λ i. cond (inside-number (little 4 w) m a (omega (arith, room)) at i) (Some (load-number (little 4 w) m a (omega (arith, room)) at i)) None)
    ∙ ap (λ (x : ℕ). Some x) (number-little w small)

words-there : (m : Bytes) (a k : ℕ) (before : List ℕ) (xs : List Instr) → length before ≡ 4 * k → Each IsSmall xs
    → a + (4 * k + 4 * length xs) < 2 ^ 64 → Holds m a (before ++ flat_map (little 4) (map word_of xs)) → EachAt (IsWordAt m a) k xs
words-there m a k before [] e s room holds = tt
words-there m a k before (x ∷ xs) e (small, s) room holds =
    let one : List ℕ = little 4 (word_of x) in
    let rest : List ℕ = flat_map (little 4) (map word_of xs) in
    let here : Holds m (a + 4 * k) one = (λ j h.
    let place : a + 4 * k + j ≡ a + (length before + j) = omega (arith, e) in
    let many : length before + j < length (before ++ (one ++ rest)) =
    omega (arith, h, length-append before (one ++ rest), length-append one rest) in
    (λ i. m (place i)) ∙ holds (length before + j) many ∙ get-past before (one ++ rest) j ∙ get-first one rest j h) in
    let next : length (before ++ one) ≡ 4 * (k + 1) = omega (arith, length-append before one, e) in (
      word-there m (a + 4 * k) (word_of x) (omega (arith, room)) small here,
      words-there m a (k + 1) (before ++ one) xs next s (omega (arith, room))
          (subst (Holds m a) (sym (append_assoc before one rest)) holds),
    )

-- ---- the file of a program

pub few-words : (number size : ℕ) → size ≤ 600 → length (program_of number size) ≤ 2 ^ 20
unfolding program_of
few-words number size h = omega (arith, length-map (instructions number size) word_of, program-few number size, h)

or-none : {A : Type 0} (o : Option A) → option_or o None ≡ o
or-none None = refl
or-none (Some x) = refl

-- bytes from the start on, alone in memory
alone-holds : (bytes : List ℕ) → Holds (over (bytes_from start bytes) (λ a. None)) start bytes
alone-holds bytes k h =
    let e : start + k - start ≡ k = omega arith in
    or-none (bytes_from start bytes (start + k))
    ∙ (λ i. cond (le-leb start (start + k) (omega arith) i) (slice_get bytes (e i)) None)

pub padding : (words : List ℕ) → padded (piece_of_words words) ≡ flat_map (little 4) words
padding words =
    let none : 4 * length words - length (flat_map (little 4) words) ≡ 0 = omega (arith, body-length words) in
    (λ i. flat_map (little 4) words ++ replicate (none i) 0) ∙ append-nil (flat_map (little 4) words)

-- the words of a program, in a memory that holds their bytes
stand : (number size : ℕ) (m : Bytes) → size ≤ 600 → Holds m start (flat_map (little 4) (program_of number size)) → EachAt (IsWordAt m start) 0 (instructions number size)
unfolding program_of
stand number size m h holds =
    words-there m start 0 [] (instructions number size) refl (program-small number size) (omega (arith, program-few number size, h)) holds

pub program-code : (number size : ℕ) → size ≤ 600 → EachAt (IsWordAt (code_of_file (elf_of (program_of number size))) start) 0 (instructions number size)
program-code number size h =
    let words : List ℕ = program_of number size in
    subst (λ m. EachAt (IsWordAt m start) 0 (instructions number size)) (sym (λ i. code_in (one-piece words (few-words number size h) i)))
    (stand number size (code_in (piece_of_words words ∷ [])) h (alone-holds (flat_map (little 4) words)))

pub program-memory : (number size : ℕ) → size ≤ 600 → EachAt (IsWordAt (memory_of_file (elf_of (program_of number size))) start) 0 (instructions number size)
program-memory number size h =
    let words : List ℕ = program_of number size in
    let holds : Holds (bytes_in (piece_of_words words ∷ [])) start (flat_map (little 4) words) =
    subst (λ bytes. Holds (over (bytes_from start bytes) (λ a. None)) start (flat_map (little 4) words)) (sym (padding words))
    (alone-holds (flat_map (little 4) words)) in
    subst (λ m. EachAt (IsWordAt m start) 0 (instructions number size)) (sym (λ i. bytes_in (one-piece words (few-words number size h) i)))
    (stand number size (bytes_in (piece_of_words words ∷ [])) h holds)

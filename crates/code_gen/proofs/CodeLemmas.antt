-- The words of pieces decode to their instructions, since all fields are in their ranges.
use Rattle.std.proofs.Common.{◌≡◌, ℕ, suc, ◌+◌, ◌-◌, ◌*◌, ◌%◌, ◌==◌, ◌<◌, ◌≤◌, pos, negsuc, List, [], ◌∷◌, ◌++◌, map, length, refl, arith}
use Rattle.std.specs.Prelude.{true, ◌&&◌, IsTrue}
use Rattle.std.specs.List.{AllZip}
use Rattle.std.proofs.Math.Dec.{leb}
use Rattle.std.proofs.lemmas.Bool.{le-leb, eq-eqb}
use Rattle.std.proofs.lemmas.List.{length-append}
use Rattle.rv_decode.specs.declared.instruction.Instr.{Instr}
use Rattle.rv_decode.specs.declared.instruction.Instr.TheVariants.{Jalr}
use Rattle.rv_decode.specs.Decodes.{Decodes}
use Rattle.rv_decode.specs.Encodes.{word_of}
use Rattle.rv_decode.specs.Ranges.{is_encodable, is_register, has_bits, is_offset}
use Rattle.rv_decode.proofs.TableLemmas.{decoded-Decodes}
use Rattle.rv_decode.proofs.ForthLemmas.{forth}
use Rattle.rv_decode.proofs.ImmediateLemmas.{below_true, and_both}
use Rattle.code_gen.specs.Pieces.{Pieces, Done, Add, Mix, Choose, Repeat, drawn}
use Rattle.code_gen.specs.Program.{counter, adding, counting, loop_end, code, instructions, program_of}
use Rattle.code_gen.specs.Structure.{AreShaped}
use Rattle.code_gen.proofs.Each.{Each, each-append}
use Rattle.code_gen.proofs.SizeLemmas.{drawn-count}
use Rattle.code_gen.proofs.ShapeLemmas.{drawn-shaped}

-- ---- ranges

abbrev Encodable : Instr → Type 0
Encodable i = IsTrue (is_encodable i)

pub adding-encodable : (u : ℕ) → u ≤ 600 → Encodable (adding u)
adding-encodable u h = below_true u 2048 (omega (arith, h))

register : (d : ℕ) → d < 4 → is_register (counter d) ≡ true
register d h = below_true (12 + d) 32 (omega (arith, h))

pub counting-encodable : (d n : ℕ) → d < 4 → n ≤ 4 → Encodable (counting d n)
counting-encodable d n h g =
    and_both (is_register (counter d) && true) (has_bits 12 (pos n))
    (and_both (is_register (counter d)) true (register d h) refl)
    (below_true n 2048 (omega (arith, g)))

back_range : (k : ℕ) → k ≤ 106 → is_offset 13 (negsuc (4 * k + 3)) ≡ true
back_range k h =
    let even : suc (4 * k + 3) % 2 ≡ 0 = omega arith in
    and_both (has_bits 13 (negsuc (4 * k + 3))) (suc (4 * k + 3) % 2 == 0)
    (and_both (leb (4 * k + 3) 4095) true (le-leb (4 * k + 3) 4095 (omega (arith, h))) refl)
    (eq-eqb (suc (4 * k + 3) % 2) 0 even)

pub loop_end-encodable : (d k : ℕ) → d < 4 → k ≤ 106 → Each Encodable (loop_end d k)
loop_end-encodable d k h g = (
  and_both (is_register (counter d) && is_register (counter d)) true
      (and_both (is_register (counter d)) (is_register (counter d)) (register d h) (register d h)) refl,
  (
    and_both (is_register (counter d) && true) (is_offset 13 (negsuc (4 * k + 3)))
        (and_both (is_register (counter d)) true (register d h) refl) (back_range k g),
    tt,
  ),
)

code-encodable : (d : ℕ) (p : Pieces) → AreShaped d p → Each Encodable (code d p)
code-encodable d Done h = tt
code-encodable d (Add u rest) (a, h) = (adding-encodable u a, code-encodable d rest h)
code-encodable d (Mix rest) h = (refl, code-encodable d rest h)
code-encodable d (Choose u rest) (a, h) = (refl, (refl, (adding-encodable u a, (refl, (refl, code-encodable d rest h)))))
code-encodable d (Repeat n body rest) (l, b, h) =
    let inner : List Instr = code (d + 1) body in
    let last : List Instr = loop_end d (length inner) in (
      counting-encodable d n l.depth l.few_turns,
      each-append Encodable (inner ++ last) (code d rest)
          (each-append Encodable inner last (code-encodable (d + 1) body b) (loop_end-encodable d (length inner) l.depth l.little_code))
          (code-encodable d rest h),
    )

-- instructions with fields in their ranges are what their words decode to
all-decode : (xs : List Instr) → Each Encodable xs → AllZip Decodes (map word_of xs) xs
all-decode [] h = tt
all-decode (x ∷ xs) (e, h) = ((decoded-Decodes (word_of x) x).0 (forth x e), all-decode xs h)

-- the program, with the return behind it
pub program-decodes : (number size : ℕ) → size ≤ 600 → AllZip Decodes (program_of number size) (instructions number size)
unfolding program_of
program-decodes number size h =
    all-decode (instructions number size)
    (each-append Encodable (code 0 (drawn size 0 number).pieces) (Jalr 0 1 (pos 0) ∷ [])
    (code-encodable 0 (drawn size 0 number).pieces (drawn-shaped size 0 number h (omega arith)))
    (refl, tt))

pub program-few : (number size : ℕ) → 3 * length (instructions number size) ≤ 5 * size + 3
program-few number size =
    let e : length (instructions number size) ≡ length (code 0 (drawn size 0 number).pieces) + 1 =
    length-append (code 0 (drawn size 0 number).pieces) (Jalr 0 1 (pos 0) ∷ []) in
    omega (arith, e, drawn-count size 0 number)

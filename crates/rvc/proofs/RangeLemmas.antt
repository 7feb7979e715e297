-- The fields of each compressed instruction are in their ranges, so it has a word, and this word decodes to it.
use Rattle.std.proofs.Common.{◌≡◌, ℕ, suc, ◌+◌, ◌-◌, ◌*◌, ◌%◌, ◌^◌, ◌<◌, ◌≤◌, eqb, Bool, true, false, cond, ◌&&◌, Option, Some, None, List, [], ◌∷◌, refl, sym, ap, subst, ◌∙◌, arith, eq-eqb}
use Rattle.std.specs.Prelude.{IfSome, IsTrue, ℤ, pos, negsuc, ◌-ℤ◌, nat_lt, nat_abs, int_le, int_lt, if◌then◌else◌}
use Rattle.std.proofs.lemmas.Int.{ints}
use Rattle.std.proofs.lemmas.Bool.Decides.{nat_tests}
use Rattle.std.specs.Option.{option_and_then}
use Rattle.rv_words.specs.Operation.{word_of as word_of_number}
use Rattle.rv_decode.specs.declared.instruction.Instr.{Instr}
use Rattle.rv_decode.specs.Decodes.{NamesRegisters, decoded}
use Rattle.rv_decode.proofs.EncodeLemmas.{named}
use Rattle.rv_decode.specs.Encodes.{encoded, word_of}
use Rattle.rv_decode.specs.Fields.{bits}
use Rattle.rv_decode.specs.Ranges.{is_register, has_bits, is_offset, is_amount, is_encodable}
use Rattle.rv_decode.proofs.ImmediateLemmas.{below_true, and_both, amount_true}
use Rattle.rv_decode.proofs.ForthLemmas.{forth}
use Rattle.rvc.specs.Parcel.{rd, rs2, rs1_short, rs2_short, six_bits, immediate, shift_amount, stack_addend, stack_step, offset_4, offset_8, stack_load_4, stack_load_8, stack_store_4, stack_store_8, jump_offset, branch_offset}
use Rattle.std.specs.List.{list_all}
use Rattle.rvc.specs.Expands.{Row, holds, table, compressed, expanded}
use Rattle.rvc.proofs.RowLemmas.{compressed_by, compressed_by-table}

-- ---- numbers in two's complement

abbrev signed_by : ℕ → ℕ → ℤ
signed_by h m = if nat_lt m h then pos m else pos m -ℤ pos (2 * h)

signed_cases : (P : ℤ → Type 0) (h m : ℕ) → m < 2 * h → (m < h → P (pos m)) → (h ≤ m → P (negsuc (2 * h - 1 - m))) → P (signed_by h m)
signed_cases P h m l here there = by_test (nat_lt m h) refl
  where
    minus : (m n : ℕ) → m < n → negsuc (n - 1 - m) ≡ pos m -ℤ pos n
    minus m n l = omega (arith, ints)

    by_test : (t : Bool) → nat_lt m h ≡ t → P (if t then pos m else pos m -ℤ pos (2 * h))
    by_test true e = here (grind (arith, nat_tests))
    by_test false e = subst P (minus m (2 * h) l) (there (grind (arith, nat_tests)))

has_by : (b h m : ℕ) → m < 2 * h → h ≤ suc b → (int_le (negsuc b) (signed_by h m) && int_lt (signed_by h m) (pos (suc b))) ≡ true
has_by b h m l le =
    signed_cases (λ z. (int_le (negsuc b) z && int_lt z (pos (suc b))) ≡ true) h m l
    (λ small. grind (arith, nat_tests))
    (λ large. grind (arith, nat_tests))

even_by : (h m : ℕ) → m < 2 * h → m % 2 ≡ 0 → eqb (nat_abs (signed_by h m) % 2) 0 ≡ true
even_by h m l even = eq-eqb (nat_abs (signed_by h m) % 2) 0 (signed_cases (λ z. nat_abs z % 2 ≡ 0) h m l (λ s. even) (λ s. omega arith))

small_12 : (m : ℕ) → m < 2048 → has_bits 12 (pos m) ≡ true
small_12 m h = grind (arith, nat_tests)

immediate_12 : (h : ℕ) → has_bits 12 (immediate h) ≡ true
immediate_12 h = has_by 2047 32 (six_bits h) (omega arith) (omega arith)

-- ---- fields

register : (n : ℕ) → n < 32 → is_register n ≡ true
register n h = below_true n 32 h

wide : (h : ℕ) → is_register (rd h) ≡ true
wide h = register (rd h) (omega arith)

wide_2 : (h : ℕ) → is_register (rs2 h) ≡ true
wide_2 h = register (rs2 h) (omega arith)

short_1 : (h : ℕ) → is_register (rs1_short h) ≡ true
short_1 h = register (rs1_short h) (omega arith)

short_2 : (h : ℕ) → is_register (rs2_short h) ≡ true
short_2 h = register (rs2_short h) (omega arith)

all_3 : (a b c : Bool) → a ≡ true → b ≡ true → c ≡ true → (a && b && c) ≡ true
all_3 a b c p q r = and_both (a && b) c (and_both a b p q) r

shift : (h : ℕ) → is_amount 64 (shift_amount h) ≡ true
shift h = amount_true 64 (six_bits h) (omega arith)

-- ---- immediates

at_stack : (h : ℕ) → has_bits 12 (pos (stack_addend h)) ≡ true
at_stack h = small_12 (stack_addend h) (omega arith)

at_4 : (h : ℕ) → has_bits 12 (offset_4 h) ≡ true
at_4 h = small_12 (2 ^ 3 * bits 10 3 h + 2 ^ 2 * bits 6 1 h + 2 ^ 6 * bits 5 1 h) (omega arith)

at_8 : (h : ℕ) → has_bits 12 (offset_8 h) ≡ true
at_8 h = small_12 (2 ^ 3 * bits 10 3 h + 2 ^ 6 * bits 5 2 h) (omega arith)

load_4 : (h : ℕ) → has_bits 12 (stack_load_4 h) ≡ true
load_4 h = small_12 (2 ^ 5 * bits 12 1 h + 2 ^ 2 * bits 4 3 h + 2 ^ 6 * bits 2 2 h) (omega arith)

load_8 : (h : ℕ) → has_bits 12 (stack_load_8 h) ≡ true
load_8 h = small_12 (2 ^ 5 * bits 12 1 h + 2 ^ 3 * bits 5 2 h + 2 ^ 6 * bits 2 3 h) (omega arith)

store_4 : (h : ℕ) → has_bits 12 (stack_store_4 h) ≡ true
store_4 h = small_12 (2 ^ 2 * bits 9 4 h + 2 ^ 6 * bits 7 2 h) (omega arith)

store_8 : (h : ℕ) → has_bits 12 (stack_store_8 h) ≡ true
store_8 h = small_12 (2 ^ 3 * bits 10 3 h + 2 ^ 6 * bits 7 3 h) (omega arith)

step_12 : (h : ℕ) → has_bits 12 (stack_step h) ≡ true
step_12 h = has_by 2047 512 (2 ^ 9 * bits 12 1 h + 2 ^ 4 * bits 6 1 h + 2 ^ 6 * bits 5 1 h + 2 ^ 7 * bits 3 2 h + 2 ^ 5 * bits 2 1 h) (omega arith) (omega arith)

jump_21 : (h : ℕ) → is_offset 21 (jump_offset h) ≡ true
jump_21 h =
    let n = 2 ^ 11 * bits 12 1 h + 2 ^ 4 * bits 11 1 h + 2 ^ 8 * bits 9 2 h + 2 ^ 10 * bits 8 1 h + 2 ^ 6 * bits 7 1 h + 2 ^ 7 * bits 6 1 h + 2 ^ 1 * bits 3 3 h + 2 ^ 5 * bits 2 1 h in
    and_both (has_bits 21 (jump_offset h)) (eqb (nat_abs (jump_offset h) % 2) 0) (has_by 1048575 2048 n (omega arith) (omega arith)) (even_by 2048 n (omega arith) (omega arith))

branch_13 : (h : ℕ) → is_offset 13 (branch_offset h) ≡ true
branch_13 h =
    let n = 2 ^ 8 * bits 12 1 h + 2 ^ 3 * bits 10 2 h + 2 ^ 6 * bits 5 2 h + 2 ^ 1 * bits 3 2 h + 2 ^ 5 * bits 2 1 h in
    and_both (has_bits 13 (branch_offset h)) (eqb (nat_abs (branch_offset h) % 2) 0) (has_by 4095 256 n (omega arith) (omega arith)) (even_by 256 n (omega arith) (omega arith))

upper_20 : (h : ℕ) → nat_lt (word_of_number (immediate h) % 2 ^ 20) (2 ^ 20) ≡ true
upper_20 h = below_true (word_of_number (immediate h) % 2 ^ 20) (2 ^ 20) (omega arith)

-- ---- rows

abbrev AllFit : ℕ → List Row → Type 0
AllFit h [] = Unit {0}
AllFit h (r ∷ rs) = (is_encodable (r.1 h) ≡ true) × AllFit h rs

two : {a b c : Bool} → a ≡ true → b ≡ true → c ≡ true → (a && b && c) ≡ true
two p q r = λ i. p i && q i && r i

one : {a b : Bool} → a ≡ true → b ≡ true → (a && b) ≡ true
one p q = λ i. p i && q i

op_fits : (h : ℕ) → (is_register (rs1_short h) && is_register (rs1_short h) && is_register (rs2_short h)) ≡ true
op_fits h = two (short_1 h) (short_1 h) (short_2 h)

all_fit : (h : ℕ) → AllFit h table
all_fit h = (
  two (short_2 h) refl (at_stack h),
  (
    two (short_2 h) (short_1 h) (at_4 h),
    (
      two (short_2 h) (short_1 h) (at_8 h),
      (
        two (short_1 h) (short_2 h) (at_4 h),
        (
          two (short_1 h) (short_2 h) (at_8 h),
          (
            two (wide h) (wide h) (immediate_12 h),
            (
              two (wide h) (wide h) (immediate_12 h),
              (
                two (wide h) refl (immediate_12 h),
                (
                  step_12 h,
                  (
                    one (wide h) (upper_20 h),
                    (
                      two (short_1 h) (short_1 h) (shift h),
                      (
                        two (short_1 h) (short_1 h) (shift h),
                        (
                          two (short_1 h) (short_1 h) (immediate_12 h),
                          (
                            op_fits h,
                            (
                              op_fits h,
                              (
                                op_fits h,
                                (
                                  op_fits h,
                                  (
                                    op_fits h,
                                    (
                                      op_fits h,
                                      (
                                        jump_21 h,
                                        (
                                          two (short_1 h) refl (branch_13 h),
                                          (
                                            two (short_1 h) refl (branch_13 h),
                                            (
                                              two (wide h) (wide h) (shift h),
                                              (
                                                two (wide h) refl (load_4 h),
                                                (
                                                  two (wide h) refl (load_8 h),
                                                  (
                                                    two refl (wide h) refl,
                                                    (
                                                      two (wide h) refl (wide_2 h),
                                                      (
                                                        refl,
                                                        (
                                                          two refl (wide h) refl,
                                                          (
                                                            two (wide h) (wide h) (wide_2 h),
                                                            (
                                                              two refl (wide_2 h) (store_4 h),
                                                              (
                                                                two refl (wide_2 h) (store_8 h),
                                                                tt,
                                                              ),
                                                            ),
                                                          ),
                                                        ),
                                                      ),
                                                    ),
                                                  ),
                                                ),
                                              ),
                                            ),
                                          ),
                                        ),
                                      ),
                                    ),
                                  ),
                                ),
                              ),
                            ),
                          ),
                        ),
                      ),
                    ),
                  ),
                ),
              ),
            ),
          ),
        ),
      ),
    ),
  ),
)

-- each row's instruction has its fields in their ranges
fits_of : (h : ℕ) (rs : List Row) (i : Instr) → AllFit h rs → compressed_by rs h ≡ Some i → is_encodable i ≡ true
fits_of h [] i all e = absurd (cc)
fits_of h (r ∷ rs) i all e = by_test (λ there. fits_of h rs i all.1 there) (list_all (holds h) r.0) e
  where
    by_test : (compressed_by rs h ≡ Some i → is_encodable i ≡ true) → (t : Bool) → cond t (Some (r.1 h)) (compressed_by rs h) ≡ Some i → is_encodable i ≡ true
    by_test rest true here = let at : r.1 h ≡ i = cc in ap is_encodable (sym at) ∙ all.0
    by_test rest false there = rest there

pub compressed_fits : (h : ℕ) (i : Instr) → compressed h ≡ Some i → is_encodable i ≡ true
compressed_fits h i e = fits_of h table i (all_fit h) (compressed_by-table h ∙ e)

decoded_back : (i : Instr) → is_encodable i ≡ true → option_and_then decoded (encoded i) ≡ Some i
unfolding encoded
decoded_back i e = (λ j. option_and_then decoded (cond (e j) (Some (word_of i)) None)) ∙ forth i e

-- the word to which a number expands decodes to the number's instruction
pub expanded_decodes : (h : ℕ) → option_and_then decoded (expanded h) ≡ compressed h
unfolding expanded
expanded_decodes h = by_some (compressed h) (compressed_fits h)
  where
    by_some : (o : Option Instr) → ((i : Instr) → o ≡ Some i → is_encodable i ≡ true) → option_and_then decoded (option_and_then encoded o) ≡ o
    by_some None f = refl
    by_some (Some i) f = decoded_back i (f i refl)

pub compressed_ranges : (h : ℕ) (o : Option Instr) → o ≡ compressed h → IfSome o (λ i. IsTrue (is_encodable i))
compressed_ranges h None e = tt
compressed_ranges h (Some i) e = compressed_fits h i (sym e)

pub compressed_named : (h : ℕ) (o : Option Instr) → o ≡ compressed h → IfSome o NamesRegisters
compressed_named h None e = tt
compressed_named h (Some i) e = named i (compressed_fits h i (sym e))

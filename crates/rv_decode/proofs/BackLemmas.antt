-- What a row of the table gives has its fields in their ranges, and the word that it was read from.
use Rattle.std.proofs.Common.{◌≡◌, ℕ, ◌+◌, ◌*◌, ◌/◌, ◌%◌, ◌^◌, ◌<◌, eqb, Bool, true, false, ◌&&◌, List, [], ◌∷◌, refl, sym, ap, ◌∙◌, arith, eqb-true}
use Rattle.std.specs.Prelude.{nat_lt}
use Rattle.std.proofs.Math.Nat.{mod-lt}
use Rattle.std.proofs.lemmas.Nat.{pow_pos}
use Rattle.rv_words.specs.declared.operation.Op.{Op as Operation}
use Rattle.rv_words.specs.declared.operation.Op.TheVariants.{Add, Sub, Sll, Slt, Sltu, Xor, Srl, Sra, Or, And, Mul, Mulh, Mulhsu, Mulhu, Div, Divu, Rem, Remu, Addw, Subw, Sllw, Srlw, Sraw, Mulw, Divw, Divuw, Remw, Remuw}
use Rattle.rv_words.specs.declared.comparison.Cmp.{Cmp}
use Rattle.rv_words.specs.declared.comparison.Cmp.TheVariants.{Eq, Ne, Lt, Ge, Ltu, Geu}
use Rattle.rv_words.specs.declared.width.Width.{Width}
use Rattle.rv_words.specs.declared.width.Width.TheVariants.{B1, B2, B4, B8}
use Rattle.rv_decode.specs.declared.instruction.Instr.{Instr}
use Rattle.rv_decode.specs.Fields.{bits, opcode, rd, funct3, rs1, rs2, funct7, funct6, funct12, immediate_i, immediate_s, immediate_b, immediate_u, immediate_j, shift_amount, half_shift_amount}
use Rattle.rv_decode.specs.Decodes.{Opcode, Funct3, Funct7, Funct6, Funct12, fits, op, op_immediate, shift_immediate, half_shift_immediate, branch, load, store, table}
use Rattle.rv_decode.specs.inner.Rows.{lui, auipc, jal, jalr, fence}
use Rattle.rv_decode.specs.Ranges.{is_register, has_bits, is_amount, is_offset, takes_immediate, may_load, is_encodable}
use Rattle.rv_decode.specs.Encodes.{join, fields_r, fields_i, fields_shift, fields_s, fields_b, fields_u, fields_j, unsigned_of, branch_funct3, width_funct3, load_funct3, op_fields, op_immediate_fields, word_of}
use Rattle.rv_decode.proofs.RowLemmas.{Row, and_true}
use Rattle.rv_decode.proofs.JoinLemmas.{cut, whole, join_same, mod_twice}
use Rattle.rv_decode.proofs.ImmediateLemmas.{low_12, low_13, low_21, has_12, amount_true, offset_13, offset_21, below_true, and_both}

-- ---- words of each format, whose fields are the word's own

-- a number that has the bits x
own : (k n x : ℕ) → n % 2 ^ k ≡ x → n % 2 ^ k ≡ x % 2 ^ k
own k n x e = sym (ap (λ y. y % 2 ^ k) (sym e) ∙ mod_twice n k)

fixed : (k n x : ℕ) → x ≡ n → n % 2 ^ k ≡ x % 2 ^ k
fixed k n x e = ap (λ y. y % 2 ^ k) (sym e)

word_r : (w p f g : ℕ) → w < 2 ^ 32 → opcode w ≡ p → funct3 w ≡ f → funct7 w ≡ g → join (fields_r p f g (rd w) (rs1 w) (rs2 w)) ≡ w
word_r w p f g below at_p at_f at_g =
    join_same (fields_r p f g (rd w) (rs1 w) (rs2 w)) (cut 0 (7 ∷ 5 ∷ 3 ∷ 5 ∷ 5 ∷ 7 ∷ []) w)
    (refl, fixed 7 p (opcode w) at_p, (refl, refl, (refl, fixed 3 f (funct3 w) at_f, (refl, refl, (refl, refl, (refl, fixed 7 g (funct7 w) at_g, tt))))))
    ∙ whole (7 ∷ 5 ∷ 3 ∷ 5 ∷ 5 ∷ 7 ∷ []) w refl below

word_i : (w p f n : ℕ) → w < 2 ^ 32 → opcode w ≡ p → funct3 w ≡ f → n % 2 ^ 12 ≡ bits 20 12 w → join (fields_i p f (rd w) (rs1 w) n) ≡ w
word_i w p f n below at_p at_f at_n =
    join_same (fields_i p f (rd w) (rs1 w) n) (cut 0 (7 ∷ 5 ∷ 3 ∷ 5 ∷ 12 ∷ []) w)
    (refl, fixed 7 p (opcode w) at_p, (refl, refl, (refl, fixed 3 f (funct3 w) at_f, (refl, refl, (refl, own 12 n (bits 20 12 w) at_n, tt)))))
    ∙ whole (7 ∷ 5 ∷ 3 ∷ 5 ∷ 12 ∷ []) w refl below

word_shift : (w p f g : ℕ) → w < 2 ^ 32 → opcode w ≡ p → funct3 w ≡ f → funct6 w ≡ g → join (fields_shift p f g (rd w) (rs1 w) (bits 20 6 w)) ≡ w
word_shift w p f g below at_p at_f at_g =
    join_same (fields_shift p f g (rd w) (rs1 w) (bits 20 6 w)) (cut 0 (7 ∷ 5 ∷ 3 ∷ 5 ∷ 6 ∷ 6 ∷ []) w)
    (refl, fixed 7 p (opcode w) at_p, (refl, refl, (refl, fixed 3 f (funct3 w) at_f, (refl, refl, (refl, refl, (refl, fixed 6 g (funct6 w) at_g, tt))))))
    ∙ whole (7 ∷ 5 ∷ 3 ∷ 5 ∷ 6 ∷ 6 ∷ []) w refl below

word_s : (w p f n : ℕ) → w < 2 ^ 32 → opcode w ≡ p → funct3 w ≡ f → n % 2 ^ 12 ≡ 2 ^ 5 * bits 25 7 w + bits 7 5 w → join (fields_s p f (rs1 w) (rs2 w) n) ≡ w
word_s w p f n below at_p at_f at_n =
    let low : n % 2 ^ 5 ≡ bits 7 5 w = omega arith in
    let high : n / 2 ^ 5 % 2 ^ 7 ≡ bits 25 7 w = omega arith in
    join_same (fields_s p f (rs1 w) (rs2 w) n) (cut 0 (7 ∷ 5 ∷ 3 ∷ 5 ∷ 5 ∷ 7 ∷ []) w)
    (refl, fixed 7 p (opcode w) at_p, (refl, own 5 n (bits 7 5 w) low, (refl, fixed 3 f (funct3 w) at_f, (refl, refl, (refl, refl, (refl, own 7 (n / 2 ^ 5) (bits 25 7 w) high, tt))))))
    ∙ whole (7 ∷ 5 ∷ 3 ∷ 5 ∷ 5 ∷ 7 ∷ []) w refl below

-- the parts of an offset, from its sum
parts_b : (n a b c d : ℕ) → a < 2 → b < 2 → c < 64 → d < 16 → n % 2 ^ 13 ≡ 4096 * a + 2048 * b + 32 * c + 2 * d → (n / 2 ^ 12 % 2 ^ 1 ≡ a) × (n / 2 ^ 11 % 2 ^ 1 ≡ b) × (n / 2 ^ 5 % 2 ^ 6 ≡ c) × (n / 2 ^ 1 % 2 ^ 4 ≡ d)
parts_b n a b c d la lb lc ld e = (omega arith, omega arith, omega arith, omega arith)

parts_j : (n a b c d : ℕ) → a < 2 → b < 256 → c < 2 → d < 1024 → n % 2 ^ 21 ≡ 1048576 * a + 4096 * b + 2048 * c + 2 * d → (n / 2 ^ 20 % 2 ^ 1 ≡ a) × (n / 2 ^ 12 % 2 ^ 8 ≡ b) × (n / 2 ^ 11 % 2 ^ 1 ≡ c) × (n / 2 ^ 1 % 2 ^ 10 ≡ d)
parts_j n a b c d la lb lc ld e = (omega arith, omega arith, omega arith, omega arith)

bits_below : (low k w : ℕ) → bits low k w < 2 ^ k
bits_below low k w = mod-lt (w / 2 ^ low) (pow_pos k)

word_b : (w p f n : ℕ) → w < 2 ^ 32 → opcode w ≡ p → funct3 w ≡ f → n % 2 ^ 13 ≡ 2 ^ 12 * bits 31 1 w + 2 ^ 11 * bits 7 1 w + 2 ^ 5 * bits 25 6 w + 2 ^ 1 * bits 8 4 w → join (fields_b p f (rs1 w) (rs2 w) n) ≡ w
word_b w p f n below at_p at_f at_n =
    let parts = parts_b n (bits 31 1 w) (bits 7 1 w) (bits 25 6 w) (bits 8 4 w) (bits_below 31 1 w) (bits_below 7 1 w) (bits_below 25 6 w) (bits_below 8 4 w) at_n in
    join_same (fields_b p f (rs1 w) (rs2 w) n) (cut 0 (7 ∷ 1 ∷ 4 ∷ 3 ∷ 5 ∷ 5 ∷ 6 ∷ 1 ∷ []) w)
    (refl, fixed 7 p (opcode w) at_p, (refl, own 1 (n / 2 ^ 11) (bits 7 1 w) parts.1, (refl, own 4 (n / 2 ^ 1) (bits 8 4 w) parts.3, (refl, fixed 3 f (funct3 w) at_f, (refl, refl, (refl, refl, (refl, own 6 (n / 2 ^ 5) (bits 25 6 w) parts.2, (refl, own 1 (n / 2 ^ 12) (bits 31 1 w) parts.0, tt))))))))
    ∙ whole (7 ∷ 1 ∷ 4 ∷ 3 ∷ 5 ∷ 5 ∷ 6 ∷ 1 ∷ []) w refl below

word_u : (w p : ℕ) → w < 2 ^ 32 → opcode w ≡ p → join (fields_u p (rd w) (immediate_u w)) ≡ w
word_u w p below at_p =
    join_same (fields_u p (rd w) (immediate_u w)) (cut 0 (7 ∷ 5 ∷ 20 ∷ []) w) (refl, fixed 7 p (opcode w) at_p, (refl, refl, (refl, refl, tt)))
    ∙ whole (7 ∷ 5 ∷ 20 ∷ []) w refl below

word_j : (w p n : ℕ) → w < 2 ^ 32 → opcode w ≡ p → n % 2 ^ 21 ≡ 2 ^ 20 * bits 31 1 w + 2 ^ 12 * bits 12 8 w + 2 ^ 11 * bits 20 1 w + 2 ^ 1 * bits 21 10 w → join (fields_j p (rd w) n) ≡ w
word_j w p n below at_p at_n =
    let parts = parts_j n (bits 31 1 w) (bits 12 8 w) (bits 20 1 w) (bits 21 10 w) (bits_below 31 1 w) (bits_below 12 8 w) (bits_below 20 1 w) (bits_below 21 10 w) at_n in
    join_same (fields_j p (rd w) n) (cut 0 (7 ∷ 5 ∷ 8 ∷ 1 ∷ 10 ∷ 1 ∷ []) w)
    (refl, fixed 7 p (opcode w) at_p, (refl, refl, (refl, own 8 (n / 2 ^ 12) (bits 12 8 w) parts.1, (refl, own 1 (n / 2 ^ 11) (bits 20 1 w) parts.2, (refl, own 10 (n / 2 ^ 1) (bits 21 10 w) parts.3, (refl, own 1 (n / 2 ^ 20) (bits 31 1 w) parts.0, tt))))))
    ∙ whole (7 ∷ 5 ∷ 8 ∷ 1 ∷ 10 ∷ 1 ∷ []) w refl below

-- ---- the fixed fields of a row

fixed_1 : (w p : ℕ) → fits w (Opcode p) ≡ true → opcode w ≡ p
fixed_1 w p h = eqb-true (opcode w) p h

fixed_2 : (w p f : ℕ) → fits w (Funct3 p f) ≡ true → (opcode w ≡ p) × (funct3 w ≡ f)
fixed_2 w p f h = let both = and_true (eqb (opcode w) p) (eqb (funct3 w) f) h in (eqb-true (opcode w) p both.0, eqb-true (funct3 w) f both.1)

fixed_7 : (w p f g : ℕ) → fits w (Funct7 p f g) ≡ true → (opcode w ≡ p) × (funct3 w ≡ f) × (funct7 w ≡ g)
fixed_7 w p f g h =
    let both = and_true (fits w (Funct3 p f)) (eqb (funct7 w) g) h in
    let two = fixed_2 w p f both.0 in
    (two.0, two.1, eqb-true (funct7 w) g both.1)

fixed_6 : (w p f g : ℕ) → fits w (Funct6 p f g) ≡ true → (opcode w ≡ p) × (funct3 w ≡ f) × (funct6 w ≡ g)
fixed_6 w p f g h =
    let both = and_true (fits w (Funct3 p f)) (eqb (funct6 w) g) h in
    let two = fixed_2 w p f both.0 in
    (two.0, two.1, eqb-true (funct6 w) g both.1)

-- a row of which each field is fixed tells the whole word
fixed_12 : (w p f g : ℕ) → w < 2 ^ 32 → fits w (Funct12 p f g) ≡ true → p + 2 ^ 12 * f + 2 ^ 20 * g ≡ w
fixed_12 w p f g below h =
    let d = and_true (fits w (Funct3 p f) && eqb (funct12 w) g && eqb (rs1 w) 0) (eqb (rd w) 0) h in
    let a = and_true (fits w (Funct3 p f) && eqb (funct12 w) g) (eqb (rs1 w) 0) d.0 in
    let b = and_true (fits w (Funct3 p f)) (eqb (funct12 w) g) a.0 in
    let two = fixed_2 w p f b.0 in
    let p_is = two.0 in
    let f_is = two.1 in
    let g_is = eqb-true (funct12 w) g b.1 in
    let rs1_is = eqb-true (rs1 w) 0 a.1 in
    let rd_is = eqb-true (rd w) 0 d.1 in
    omega arith

-- ---- each kind of rows

-- the instruction has its fields in their ranges, and its word is w
abbrev pub Back : ℕ → Instr → Type 0
Back w i = (is_encodable i ≡ true) × (word_of i ≡ w)

abbrev Gives : ℕ → Row → Type 0
Gives w r = fits w r.0 ≡ true → Back w (r.1 w)

in_range : (low k w : ℕ) → nat_lt (bits low k w) (2 ^ k) ≡ true
in_range low k w = below_true (bits low k w) (2 ^ k) (bits_below low k w)

-- two registers, and a third part
two : (x y w : ℕ) (t : Bool) → t ≡ true → (is_register (bits x 5 w) && is_register (bits y 5 w) && t) ≡ true
two x y w t h = and_both (is_register (bits x 5 w) && is_register (bits y 5 w)) t (and_both (is_register (bits x 5 w)) (is_register (bits y 5 w)) (in_range x 5 w) (in_range y 5 w)) h

back_op : (o : Operation) (p f g w : ℕ) → op_fields o ≡ fields_r p f g → w < 2 ^ 32 → Gives w (Funct7 p f g, op o)
back_op o p f g w is below h =
    let e = fixed_7 w p f g h in
    (two 7 15 w (is_register (rs2 w)) (in_range 20 5 w), (λ i. join (is i (rd w) (rs1 w) (rs2 w))) ∙ word_r w p f g below e.0 e.1 e.2)

back_immediate : (o : Operation) (p f w : ℕ) → op_immediate_fields o ≡ fields_i p f → takes_immediate o ≡ has_bits 12 → w < 2 ^ 32 → Gives w (Funct3 p f, op_immediate o)
back_immediate o p f w is takes below h =
    let e = fixed_2 w p f h in (
      two 7 15 w (takes_immediate o (immediate_i w)) ((λ i. takes i (immediate_i w)) ∙ has_12 (bits 20 12 w) (bits_below 20 12 w)),
      (λ i. join (is i (rd w) (rs1 w) (unsigned_of (immediate_i w)))) ∙ word_i w p f (unsigned_of (immediate_i w)) below e.0 e.1 (low_12 (bits 20 12 w) (bits_below 20 12 w)),
    )

back_shift : (o : Operation) (p f g w : ℕ) → op_immediate_fields o ≡ fields_shift p f g → takes_immediate o ≡ is_amount 64 → w < 2 ^ 32 → Gives w (Funct6 p f g, shift_immediate o)
back_shift o p f g w is takes below h =
    let e = fixed_6 w p f g h in (
      two 7 15 w (takes_immediate o (shift_amount w)) ((λ i. takes i (shift_amount w)) ∙ amount_true 64 (bits 20 6 w) (bits_below 20 6 w)),
      (λ i. join (is i (rd w) (rs1 w) (bits 20 6 w))) ∙ word_shift w p f g below e.0 e.1 e.2,
    )

back_half_shift : (o : Operation) (p f g w : ℕ) → op_immediate_fields o ≡ fields_r p f g → takes_immediate o ≡ is_amount 32 → w < 2 ^ 32 → Gives w (Funct7 p f g, half_shift_immediate o)
back_half_shift o p f g w is takes below h =
    let e = fixed_7 w p f g h in (
      two 7 15 w (takes_immediate o (half_shift_amount w)) ((λ i. takes i (half_shift_amount w)) ∙ amount_true 32 (bits 20 5 w) (bits_below 20 5 w)),
      (λ i. join (is i (rd w) (rs1 w) (rs2 w))) ∙ word_r w p f g below e.0 e.1 e.2,
    )

back_lui : (w : ℕ) → w < 2 ^ 32 → Gives w (Opcode 0x37, lui)
back_lui w below h = (and_both (is_register (rd w)) (nat_lt (immediate_u w) (2 ^ 20)) (in_range 7 5 w) (in_range 12 20 w), word_u w 0x37 below (fixed_1 w 0x37 h))

back_auipc : (w : ℕ) → w < 2 ^ 32 → Gives w (Opcode 0x17, auipc)
back_auipc w below h = (and_both (is_register (rd w)) (nat_lt (immediate_u w) (2 ^ 20)) (in_range 7 5 w) (in_range 12 20 w), word_u w 0x17 below (fixed_1 w 0x17 h))

back_jal : (w : ℕ) → w < 2 ^ 32 → Gives w (Opcode 0x6f, jal)
back_jal w below h =
    let n = 2 ^ 20 * bits 31 1 w + 2 ^ 12 * bits 12 8 w + 2 ^ 11 * bits 20 1 w + 2 ^ 1 * bits 21 10 w in
    let small : n < 2 ^ 21 = sum_j (bits 31 1 w) (bits 12 8 w) (bits 20 1 w) (bits 21 10 w) (bits_below 31 1 w) (bits_below 12 8 w) (bits_below 20 1 w) (bits_below 21 10 w) in (
      and_both (is_register (rd w)) (is_offset 21 (immediate_j w)) (in_range 7 5 w) (offset_21 n small (omega arith)),
      word_j w 0x6f (unsigned_of (immediate_j w)) below (fixed_1 w 0x6f h) (low_21 n small),
    )
  where
    sum_j : (a b c d : ℕ) → a < 2 → b < 256 → c < 2 → d < 1024 → 1048576 * a + 4096 * b + 2048 * c + 2 * d < 2 ^ 21
    sum_j a b c d la lb lc ld = omega arith

back_jalr : (w : ℕ) → w < 2 ^ 32 → Gives w (Funct3 0x67 0, jalr)
back_jalr w below h =
    let e = fixed_2 w 0x67 0 h in (
      two 7 15 w (has_bits 12 (immediate_i w)) (has_12 (bits 20 12 w) (bits_below 20 12 w)),
      word_i w 0x67 0 (unsigned_of (immediate_i w)) below e.0 e.1 (low_12 (bits 20 12 w) (bits_below 20 12 w)),
    )

back_branch : (c : Cmp) (w : ℕ) → w < 2 ^ 32 → Gives w (Funct3 0x63 (branch_funct3 c), branch c)
back_branch c w below h =
    let e = fixed_2 w 0x63 (branch_funct3 c) h in
    let n = 2 ^ 12 * bits 31 1 w + 2 ^ 11 * bits 7 1 w + 2 ^ 5 * bits 25 6 w + 2 ^ 1 * bits 8 4 w in
    let small : n < 2 ^ 13 = sum_b (bits 31 1 w) (bits 7 1 w) (bits 25 6 w) (bits 8 4 w) (bits_below 31 1 w) (bits_below 7 1 w) (bits_below 25 6 w) (bits_below 8 4 w) in (
      two 15 20 w (is_offset 13 (immediate_b w)) (offset_13 n small (omega arith)),
      word_b w 0x63 (branch_funct3 c) (unsigned_of (immediate_b w)) below e.0 e.1 (low_13 n small),
    )
  where
    sum_b : (a b c d : ℕ) → a < 2 → b < 2 → c < 64 → d < 16 → 4096 * a + 2048 * b + 32 * c + 2 * d < 2 ^ 13
    sum_b a b c d la lb lc ld = omega arith

back_load : (n : Width) (s : Bool) (w : ℕ) → may_load n s ≡ true → w < 2 ^ 32 → Gives w (Funct3 0x03 (load_funct3 n s), load n s)
back_load n s w may below h =
    let e = fixed_2 w 0x03 (load_funct3 n s) h in
    let first = and_both (may_load n s) (is_register (rd w)) may (in_range 7 5 w) in
    let second = and_both (may_load n s && is_register (rd w)) (is_register (rs1 w)) first (in_range 15 5 w) in (
      and_both (may_load n s && is_register (rd w) && is_register (rs1 w)) (has_bits 12 (immediate_i w)) second (has_12 (bits 20 12 w) (bits_below 20 12 w)),
      word_i w 0x03 (load_funct3 n s) (unsigned_of (immediate_i w)) below e.0 e.1 (low_12 (bits 20 12 w) (bits_below 20 12 w)),
    )

back_store : (n : Width) (w : ℕ) → w < 2 ^ 32 → Gives w (Funct3 0x23 (width_funct3 n), store n)
back_store n w below h =
    let e = fixed_2 w 0x23 (width_funct3 n) h in
    let m = 2 ^ 5 * bits 25 7 w + bits 7 5 w in
    let small : m < 2 ^ 12 = sum_s (bits 25 7 w) (bits 7 5 w) (bits_below 25 7 w) (bits_below 7 5 w) in
    (two 15 20 w (has_bits 12 (immediate_s w)) (has_12 m small), word_s w 0x23 (width_funct3 n) (unsigned_of (immediate_s w)) below e.0 e.1 (low_12 m small))
  where
    sum_s : (a b : ℕ) → a < 128 → b < 32 → 32 * a + b < 2 ^ 12
    sum_s a b la lb = omega arith

back_fence : (w : ℕ) → w < 2 ^ 32 → Gives w (Funct3 0x0f 0, fence)
back_fence w below h =
    let e = fixed_2 w 0x0f 0 h in
    let n = bits 20 12 w in
    let first = and_both (nat_lt n (2 ^ 12)) (is_register (rs1 w)) (in_range 20 12 w) (in_range 15 5 w) in
    (and_both (nat_lt n (2 ^ 12) && is_register (rs1 w)) (is_register (rd w)) first (in_range 7 5 w), word_i w 0x0f 0 n below e.0 e.1 (mod_twice (w / 2 ^ 20) 12))

-- ---- the whole table

abbrev pub AllGive : ℕ → List Row → Type 0
AllGive w [] = Unit {0}
AllGive w (r ∷ rs) = Gives w r × AllGive w rs

pub all_give : (w : ℕ) → w < 2 ^ 32 → AllGive w table
all_give w below = (
  back_lui w below,
  (
    back_auipc w below,
    (
      back_jal w below,
      (
        back_jalr w below,
        (
          back_branch Eq w below,
          (
            back_branch Ne w below,
            (
              back_branch Lt w below,
              (
                back_branch Ge w below,
                (
                  back_branch Ltu w below,
                  (
                    back_branch Geu w below,
                    (
                      back_load B1 true w refl below,
                      (
                        back_load B2 true w refl below,
                        (
                          back_load B4 true w refl below,
                          (
                            back_load B1 false w refl below,
                            (
                              back_load B2 false w refl below,
                              (
                                back_store B1 w below,
                                (
                                  back_store B2 w below,
                                  (
                                    back_store B4 w below,
                                    (
                                      back_immediate Add 0x13 0 w refl refl below,
                                      (
                                        back_immediate Slt 0x13 2 w refl refl below,
                                        (
                                          back_immediate Sltu 0x13 3 w refl refl below,
                                          (
                                            back_immediate Xor 0x13 4 w refl refl below,
                                            (
                                              back_immediate Or 0x13 6 w refl refl below,
                                              (
                                                back_immediate And 0x13 7 w refl refl below,
                                                (
                                                  back_op Add 0x33 0 0x00 w refl below,
                                                  (
                                                    back_op Sub 0x33 0 0x20 w refl below,
                                                    (
                                                      back_op Sll 0x33 1 0x00 w refl below,
                                                      (
                                                        back_op Slt 0x33 2 0x00 w refl below,
                                                        (
                                                          back_op Sltu 0x33 3 0x00 w refl below,
                                                          (
                                                            back_op Xor 0x33 4 0x00 w refl below,
                                                            (
                                                              back_op Srl 0x33 5 0x00 w refl below,
                                                              (
                                                                back_op Sra 0x33 5 0x20 w refl below,
                                                                (
                                                                  back_op Or 0x33 6 0x00 w refl below,
                                                                  (
                                                                    back_op And 0x33 7 0x00 w refl below,
                                                                    (
                                                                      back_fence w below,
                                                                      (
                                                                        (λ h. (refl, fixed_12 w 0x73 0 0 below h)),
                                                                        (
                                                                          (λ h. (refl, fixed_12 w 0x73 0 1 below h)),
                                                                          (
                                                                            back_load B4 false w refl below,
                                                                            (
                                                                              back_load B8 true w refl below,
                                                                              (
                                                                                back_store B8 w below,
                                                                                (
                                                                                  back_shift Sll 0x13 1 0x00 w refl refl below,
                                                                                  (
                                                                                    back_shift Srl 0x13 5 0x00 w refl refl below,
                                                                                    (
                                                                                      back_shift Sra 0x13 5 0x10 w refl refl below,
                                                                                      (
                                                                                        back_immediate Addw 0x1b 0 w refl refl below,
                                                                                        (
                                                                                          back_half_shift Sllw 0x1b 1 0x00 w refl refl below,
                                                                                          (
                                                                                            back_half_shift Srlw 0x1b 5 0x00 w refl refl below,
                                                                                            (
                                                                                              back_half_shift Sraw 0x1b 5 0x20 w refl refl below,
                                                                                              (
                                                                                                back_op Addw 0x3b 0 0x00 w refl below,
                                                                                                (
                                                                                                  back_op Subw 0x3b 0 0x20 w refl below,
                                                                                                  (
                                                                                                    back_op Sllw 0x3b 1 0x00 w refl below,
                                                                                                    (
                                                                                                      back_op Srlw 0x3b 5 0x00 w refl below,
                                                                                                      (
                                                                                                        back_op Sraw 0x3b 5 0x20 w refl below,
                                                                                                        (
                                                                                                          back_op Mul 0x33 0 0x01 w refl below,
                                                                                                          (
                                                                                                            back_op Mulh 0x33 1 0x01 w refl below,
                                                                                                            (
                                                                                                              back_op Mulhsu 0x33 2 0x01 w refl below,
                                                                                                              (
                                                                                                                back_op Mulhu 0x33 3 0x01 w refl below,
                                                                                                                (
                                                                                                                  back_op Div 0x33 4 0x01 w refl below,
                                                                                                                  (
                                                                                                                    back_op Divu 0x33 5 0x01 w refl below,
                                                                                                                    (
                                                                                                                      back_op Rem 0x33 6 0x01 w refl below,
                                                                                                                      (
                                                                                                                        back_op Remu 0x33 7 0x01 w refl below,
                                                                                                                        (
                                                                                                                          back_op Mulw 0x3b 0 0x01 w refl below,
                                                                                                                          (
                                                                                                                            back_op Divw 0x3b 4 0x01 w refl below,
                                                                                                                            (
                                                                                                                              back_op Divuw 0x3b 5 0x01 w refl below,
                                                                                                                              (
                                                                                                                                back_op Remw 0x3b 6 0x01 w refl below,
                                                                                                                                (
                                                                                                                                  back_op Remuw 0x3b 7 0x01 w refl below,
                                                                                                                                  tt,
                                                                                                                                ),
                                                                                                                              ),
                                                                                                                            ),
                                                                                                                          ),
                                                                                                                        ),
                                                                                                                      ),
                                                                                                                    ),
                                                                                                                  ),
                                                                                                                ),
                                                                                                              ),
                                                                                                            ),
                                                                                                          ),
                                                                                                        ),
                                                                                                      ),
                                                                                                    ),
                                                                                                  ),
                                                                                                ),
                                                                                              ),
                                                                                            ),
                                                                                          ),
                                                                                        ),
                                                                                      ),
                                                                                    ),
                                                                                  ),
                                                                                ),
                                                                              ),
                                                                            ),
                                                                          ),
                                                                        ),
                                                                      ),
                                                                    ),
                                                                  ),
                                                                ),
                                                              ),
                                                            ),
                                                          ),
                                                        ),
                                                      ),
                                                    ),
                                                  ),
                                                ),
                                              ),
                                            ),
                                          ),
                                        ),
                                      ),
                                    ),
                                  ),
                                ),
                              ),
                            ),
                          ),
                        ),
                      ),
                    ),
                  ),
                ),
              ),
            ),
          ),
        ),
      ),
    ),
  ),
)

-- An instruction whose fields are in their ranges is what its word decodes to.
use Rattle.std.proofs.Common.{◌≡◌, ℕ, ◌+◌, ◌*◌, ◌/◌, ◌%◌, ◌^◌, eqb, Bool, true, false, ◌&&◌, Some, [], ◌∷◌, refl, sym, ap, ◌∙◌, arith, eqb-true}
use Rattle.std.specs.Prelude.{ℤ, pos, negsuc, nat_lt, nat_abs, int_le}
use Rattle.std.proofs.Math.Nat.{mod-eq_of_lt}
use Rattle.std.proofs.lemmas.Bool.{ltb-true, false≢true}
use Rattle.rv_words.specs.declared.operation.Op.{Op as Operation}
use Rattle.rv_words.specs.declared.operation.Op.TheVariants.{Add, Sub, Sll, Slt, Sltu, Xor, Srl, Sra, Or, And, Mul, Mulh, Mulhsu, Mulhu, Div, Divu, Rem, Remu, Addw, Subw, Sllw, Srlw, Sraw, Mulw, Divw, Divuw, Remw, Remuw}
use Rattle.rv_words.specs.declared.comparison.Cmp.{Cmp}
use Rattle.rv_words.specs.declared.comparison.Cmp.TheVariants.{Eq, Ne, Lt, Ge, Ltu, Geu}
use Rattle.rv_words.specs.declared.width.Width.{Width}
use Rattle.rv_words.specs.declared.width.Width.TheVariants.{B1, B2, B4, B8}
use Rattle.rv_words.specs.Operation.{signed_of}
use Rattle.rv_decode.specs.declared.instruction.Instr.{Instr}
use Rattle.rv_decode.specs.declared.instruction.Instr.TheVariants.{Op, OpImm, Lui, Auipc, Jal, Jalr, Branch, Load, Store, Fence, Ecall, Ebreak}
use Rattle.rv_decode.specs.Fields.{bits, rd, rs1, rs2, immediate_i, immediate_s, immediate_b, immediate_u, immediate_j}
use Rattle.rv_decode.specs.Decodes.{op, op_immediate, shift_immediate, half_shift_immediate, branch, load, store, table, decoded}
use Rattle.rv_decode.specs.inner.Rows.{jalr, fence}
use Rattle.rv_decode.specs.Ranges.{is_register, has_bits, is_amount, is_offset, is_encodable}
use Rattle.rv_decode.specs.Encodes.{join, fields_r, fields_i, fields_shift, fields_s, fields_b, fields_u, fields_j, unsigned_of, word_of}
use Rattle.rv_decode.proofs.RowLemmas.{opcode_is, funct3_is, funct7_is, funct6_is, is, left_by, at_opcode, at_funct3, at_funct7, at_funct6, and_true, call_word, break_word}
use Rattle.rv_decode.proofs.JoinLemmas.{bits_at}
use Rattle.rv_decode.proofs.ImmediateLemmas.{signed_12, signed_13, signed_21, offset_even}

-- ---- what a test of ranges tells

below : (n m : ℕ) → nat_lt n m ≡ true → n % m ≡ n
below n m h = mod-eq_of_lt (ltb-true n m h)

two : (a b : ℕ) (t : Bool) → (is_register a && is_register b && t) ≡ true → (a % 32 ≡ a) × (b % 32 ≡ b) × (t ≡ true)
two a b t h =
    let outer = and_true (is_register a && is_register b) t h in
    let inner = and_true (is_register a) (is_register b) outer.0 in
    (below a 32 inner.0, below b 32 inner.1, outer.1)

amount_is : (n : ℕ) (z : ℤ) → is_amount n z ≡ true → pos (unsigned_of z % n) ≡ z
amount_is n (pos m) h = ap pos (below m n (and_true (int_le (pos 0) (pos m)) (nat_lt m n) h).1)
amount_is n (negsuc m) h = absurd (false≢true h)

-- ---- rows of each format, at the fields that make a word

at_r : (gives : ℕ → Instr) (p f g d a b : ℕ) → p % 2 ^ 7 ≡ p → f % 2 ^ 3 ≡ f → g % 2 ^ 7 ≡ g → ((w : ℕ) → left_by (is (opcode_is p) ∷ is (funct3_is f) ∷ is (funct7_is g) ∷ []) table w ≡ Some (gives w)) → decoded (join (fields_r p f g d a b)) ≡ Some (gives (join (fields_r p f g d a b)))
at_r gives p f g d a b hp hf hg left =
    let fs = fields_r p f g d a b in
    sym (at_funct7 (join fs) p f g (bits_at fs 0 ∙ hp) (bits_at fs 2 ∙ hf) (bits_at fs 5 ∙ hg)) ∙ left (join fs)

at_i : (gives : ℕ → Instr) (p f d a n : ℕ) → p % 2 ^ 7 ≡ p → f % 2 ^ 3 ≡ f → ((w : ℕ) → left_by (is (opcode_is p) ∷ is (funct3_is f) ∷ []) table w ≡ Some (gives w)) → decoded (join (fields_i p f d a n)) ≡ Some (gives (join (fields_i p f d a n)))
at_i gives p f d a n hp hf left =
    let fs = fields_i p f d a n in
    sym (at_funct3 (join fs) p f (bits_at fs 0 ∙ hp) (bits_at fs 2 ∙ hf)) ∙ left (join fs)

at_shift : (gives : ℕ → Instr) (p f g d a n : ℕ) → p % 2 ^ 7 ≡ p → f % 2 ^ 3 ≡ f → g % 2 ^ 6 ≡ g → ((w : ℕ) → left_by (is (opcode_is p) ∷ is (funct3_is f) ∷ is (funct6_is g) ∷ []) table w ≡ Some (gives w)) → decoded (join (fields_shift p f g d a n)) ≡ Some (gives (join (fields_shift p f g d a n)))
at_shift gives p f g d a n hp hf hg left =
    let fs = fields_shift p f g d a n in
    sym (at_funct6 (join fs) p f g (bits_at fs 0 ∙ hp) (bits_at fs 2 ∙ hf) (bits_at fs 5 ∙ hg)) ∙ left (join fs)

-- ---- operations

op_row : (o : Operation) (p f g d a b : ℕ) → p % 2 ^ 7 ≡ p → f % 2 ^ 3 ≡ f → g % 2 ^ 7 ≡ g → ((w : ℕ) → left_by (is (opcode_is p) ∷ is (funct3_is f) ∷ is (funct7_is g) ∷ []) table w ≡ Some (op o w)) → (is_register d && is_register a && is_register b) ≡ true → decoded (join (fields_r p f g d a b)) ≡ Some (Op o d a b)
op_row o p f g d a b hp hf hg left h =
    let fs = fields_r p f g d a b in
    let r = two d a (is_register b) h in
    let at_d : rd (join fs) ≡ d = bits_at fs 1 ∙ r.0 in
    let at_a : rs1 (join fs) ≡ a = bits_at fs 3 ∙ r.1 in
    let at_b : rs2 (join fs) ≡ b = bits_at fs 4 ∙ below b 32 r.2 in
    at_r (op o) p f g d a b hp hf hg left ∙ (λ i. Some (Op o (at_d i) (at_a i) (at_b i)))

op_forth : (o : Operation) (d a b : ℕ) → is_encodable (Op o d a b) ≡ true → decoded (word_of (Op o d a b)) ≡ Some (Op o d a b)
op_forth Add d a b h = op_row Add 0x33 0 0x00 d a b refl refl refl (λ w. refl) h
op_forth Sub d a b h = op_row Sub 0x33 0 0x20 d a b refl refl refl (λ w. refl) h
op_forth Sll d a b h = op_row Sll 0x33 1 0x00 d a b refl refl refl (λ w. refl) h
op_forth Slt d a b h = op_row Slt 0x33 2 0x00 d a b refl refl refl (λ w. refl) h
op_forth Sltu d a b h = op_row Sltu 0x33 3 0x00 d a b refl refl refl (λ w. refl) h
op_forth Xor d a b h = op_row Xor 0x33 4 0x00 d a b refl refl refl (λ w. refl) h
op_forth Srl d a b h = op_row Srl 0x33 5 0x00 d a b refl refl refl (λ w. refl) h
op_forth Sra d a b h = op_row Sra 0x33 5 0x20 d a b refl refl refl (λ w. refl) h
op_forth Or d a b h = op_row Or 0x33 6 0x00 d a b refl refl refl (λ w. refl) h
op_forth And d a b h = op_row And 0x33 7 0x00 d a b refl refl refl (λ w. refl) h
op_forth Mul d a b h = op_row Mul 0x33 0 0x01 d a b refl refl refl (λ w. refl) h
op_forth Mulh d a b h = op_row Mulh 0x33 1 0x01 d a b refl refl refl (λ w. refl) h
op_forth Mulhsu d a b h = op_row Mulhsu 0x33 2 0x01 d a b refl refl refl (λ w. refl) h
op_forth Mulhu d a b h = op_row Mulhu 0x33 3 0x01 d a b refl refl refl (λ w. refl) h
op_forth Div d a b h = op_row Div 0x33 4 0x01 d a b refl refl refl (λ w. refl) h
op_forth Divu d a b h = op_row Divu 0x33 5 0x01 d a b refl refl refl (λ w. refl) h
op_forth Rem d a b h = op_row Rem 0x33 6 0x01 d a b refl refl refl (λ w. refl) h
op_forth Remu d a b h = op_row Remu 0x33 7 0x01 d a b refl refl refl (λ w. refl) h
op_forth Addw d a b h = op_row Addw 0x3b 0 0x00 d a b refl refl refl (λ w. refl) h
op_forth Subw d a b h = op_row Subw 0x3b 0 0x20 d a b refl refl refl (λ w. refl) h
op_forth Sllw d a b h = op_row Sllw 0x3b 1 0x00 d a b refl refl refl (λ w. refl) h
op_forth Srlw d a b h = op_row Srlw 0x3b 5 0x00 d a b refl refl refl (λ w. refl) h
op_forth Sraw d a b h = op_row Sraw 0x3b 5 0x20 d a b refl refl refl (λ w. refl) h
op_forth Mulw d a b h = op_row Mulw 0x3b 0 0x01 d a b refl refl refl (λ w. refl) h
op_forth Divw d a b h = op_row Divw 0x3b 4 0x01 d a b refl refl refl (λ w. refl) h
op_forth Divuw d a b h = op_row Divuw 0x3b 5 0x01 d a b refl refl refl (λ w. refl) h
op_forth Remw d a b h = op_row Remw 0x3b 6 0x01 d a b refl refl refl (λ w. refl) h
op_forth Remuw d a b h = op_row Remuw 0x3b 7 0x01 d a b refl refl refl (λ w. refl) h

-- ---- operations with an immediate

immediate_row : (o : Operation) (p f d a : ℕ) (z : ℤ) → p % 2 ^ 7 ≡ p → f % 2 ^ 3 ≡ f → ((w : ℕ) → left_by (is (opcode_is p) ∷ is (funct3_is f) ∷ []) table w ≡ Some (op_immediate o w)) → (is_register d && is_register a && has_bits 12 z) ≡ true → decoded (join (fields_i p f d a (unsigned_of z))) ≡ Some (OpImm o d a z)
immediate_row o p f d a z hp hf left h =
    let fs = fields_i p f d a (unsigned_of z) in
    let r = two d a (has_bits 12 z) h in
    let at_d : rd (join fs) ≡ d = bits_at fs 1 ∙ r.0 in
    let at_a : rs1 (join fs) ≡ a = bits_at fs 3 ∙ r.1 in
    let at_z : immediate_i (join fs) ≡ z = ap (signed_of 12) (bits_at fs 4) ∙ signed_12 z r.2 in
    at_i (op_immediate o) p f d a (unsigned_of z) hp hf left ∙ (λ i. Some (OpImm o (at_d i) (at_a i) (at_z i)))

shift_row : (o : Operation) (p f g d a : ℕ) (z : ℤ) → p % 2 ^ 7 ≡ p → f % 2 ^ 3 ≡ f → g % 2 ^ 6 ≡ g → ((w : ℕ) → left_by (is (opcode_is p) ∷ is (funct3_is f) ∷ is (funct6_is g) ∷ []) table w ≡ Some (shift_immediate o w)) → (is_register d && is_register a && is_amount 64 z) ≡ true → decoded (join (fields_shift p f g d a (unsigned_of z))) ≡ Some (OpImm o d a z)
shift_row o p f g d a z hp hf hg left h =
    let fs = fields_shift p f g d a (unsigned_of z) in
    let r = two d a (is_amount 64 z) h in
    let at_d : rd (join fs) ≡ d = bits_at fs 1 ∙ r.0 in
    let at_a : rs1 (join fs) ≡ a = bits_at fs 3 ∙ r.1 in
    let at_z : pos (bits 20 6 (join fs)) ≡ z = ap pos (bits_at fs 4) ∙ amount_is 64 z r.2 in
    at_shift (shift_immediate o) p f g d a (unsigned_of z) hp hf hg left ∙ (λ i. Some (OpImm o (at_d i) (at_a i) (at_z i)))

half_shift_row : (o : Operation) (p f g d a : ℕ) (z : ℤ) → p % 2 ^ 7 ≡ p → f % 2 ^ 3 ≡ f → g % 2 ^ 7 ≡ g → ((w : ℕ) → left_by (is (opcode_is p) ∷ is (funct3_is f) ∷ is (funct7_is g) ∷ []) table w ≡ Some (half_shift_immediate o w)) → (is_register d && is_register a && is_amount 32 z) ≡ true → decoded (join (fields_r p f g d a (unsigned_of z))) ≡ Some (OpImm o d a z)
half_shift_row o p f g d a z hp hf hg left h =
    let fs = fields_r p f g d a (unsigned_of z) in
    let r = two d a (is_amount 32 z) h in
    let at_d : rd (join fs) ≡ d = bits_at fs 1 ∙ r.0 in
    let at_a : rs1 (join fs) ≡ a = bits_at fs 3 ∙ r.1 in
    let at_z : pos (bits 20 5 (join fs)) ≡ z = ap pos (bits_at fs 4) ∙ amount_is 32 z r.2 in
    at_r (half_shift_immediate o) p f g d a (unsigned_of z) hp hf hg left ∙ (λ i. Some (OpImm o (at_d i) (at_a i) (at_z i)))

-- the operation has no form with an immediate
no_form : (d a : ℕ) (o : Operation) (z : ℤ) (w : ℕ) → (is_register d && is_register a && false) ≡ true → decoded w ≡ Some (OpImm o d a z)
no_form d a o z w h = absurd (false≢true (two d a false h).2)

op_immediate_forth : (o : Operation) (d a : ℕ) (z : ℤ) → is_encodable (OpImm o d a z) ≡ true → decoded (word_of (OpImm o d a z)) ≡ Some (OpImm o d a z)
op_immediate_forth Add d a z h = immediate_row Add 0x13 0 d a z refl refl (λ w. refl) h
op_immediate_forth Slt d a z h = immediate_row Slt 0x13 2 d a z refl refl (λ w. refl) h
op_immediate_forth Sltu d a z h = immediate_row Sltu 0x13 3 d a z refl refl (λ w. refl) h
op_immediate_forth Xor d a z h = immediate_row Xor 0x13 4 d a z refl refl (λ w. refl) h
op_immediate_forth Or d a z h = immediate_row Or 0x13 6 d a z refl refl (λ w. refl) h
op_immediate_forth And d a z h = immediate_row And 0x13 7 d a z refl refl (λ w. refl) h
op_immediate_forth Sll d a z h = shift_row Sll 0x13 1 0x00 d a z refl refl refl (λ w. refl) h
op_immediate_forth Srl d a z h = shift_row Srl 0x13 5 0x00 d a z refl refl refl (λ w. refl) h
op_immediate_forth Sra d a z h = shift_row Sra 0x13 5 0x10 d a z refl refl refl (λ w. refl) h
op_immediate_forth Addw d a z h = immediate_row Addw 0x1b 0 d a z refl refl (λ w. refl) h
op_immediate_forth Sllw d a z h = half_shift_row Sllw 0x1b 1 0x00 d a z refl refl refl (λ w. refl) h
op_immediate_forth Srlw d a z h = half_shift_row Srlw 0x1b 5 0x00 d a z refl refl refl (λ w. refl) h
op_immediate_forth Sraw d a z h = half_shift_row Sraw 0x1b 5 0x20 d a z refl refl refl (λ w. refl) h
op_immediate_forth Sub d a z h = no_form d a Sub z (word_of (OpImm Sub d a z)) h
op_immediate_forth Mul d a z h = no_form d a Mul z (word_of (OpImm Mul d a z)) h
op_immediate_forth Mulh d a z h = no_form d a Mulh z (word_of (OpImm Mulh d a z)) h
op_immediate_forth Mulhsu d a z h = no_form d a Mulhsu z (word_of (OpImm Mulhsu d a z)) h
op_immediate_forth Mulhu d a z h = no_form d a Mulhu z (word_of (OpImm Mulhu d a z)) h
op_immediate_forth Div d a z h = no_form d a Div z (word_of (OpImm Div d a z)) h
op_immediate_forth Divu d a z h = no_form d a Divu z (word_of (OpImm Divu d a z)) h
op_immediate_forth Rem d a z h = no_form d a Rem z (word_of (OpImm Rem d a z)) h
op_immediate_forth Remu d a z h = no_form d a Remu z (word_of (OpImm Remu d a z)) h
op_immediate_forth Subw d a z h = no_form d a Subw z (word_of (OpImm Subw d a z)) h
op_immediate_forth Mulw d a z h = no_form d a Mulw z (word_of (OpImm Mulw d a z)) h
op_immediate_forth Divw d a z h = no_form d a Divw z (word_of (OpImm Divw d a z)) h
op_immediate_forth Divuw d a z h = no_form d a Divuw z (word_of (OpImm Divuw d a z)) h
op_immediate_forth Remw d a z h = no_form d a Remw z (word_of (OpImm Remw d a z)) h
op_immediate_forth Remuw d a z h = no_form d a Remuw z (word_of (OpImm Remuw d a z)) h

-- ---- upper immediates and jumps

lui_forth : (d n : ℕ) → is_encodable (Lui d n) ≡ true → decoded (word_of (Lui d n)) ≡ Some (Lui d n)
lui_forth d n h =
    let fs = fields_u 0x37 d n in
    let r = and_true (is_register d) (nat_lt n (2 ^ 20)) h in
    let at_d : rd (join fs) ≡ d = bits_at fs 1 ∙ below d 32 r.0 in
    let at_n : immediate_u (join fs) ≡ n = bits_at fs 2 ∙ below n (2 ^ 20) r.1 in
    sym (at_opcode (join fs) 0x37 (bits_at fs 0)) ∙ (λ i. Some (Lui (at_d i) (at_n i)))

auipc_forth : (d n : ℕ) → is_encodable (Auipc d n) ≡ true → decoded (word_of (Auipc d n)) ≡ Some (Auipc d n)
auipc_forth d n h =
    let fs = fields_u 0x17 d n in
    let r = and_true (is_register d) (nat_lt n (2 ^ 20)) h in
    let at_d : rd (join fs) ≡ d = bits_at fs 1 ∙ below d 32 r.0 in
    let at_n : immediate_u (join fs) ≡ n = bits_at fs 2 ∙ below n (2 ^ 20) r.1 in
    sym (at_opcode (join fs) 0x17 (bits_at fs 0)) ∙ (λ i. Some (Auipc (at_d i) (at_n i)))

-- an even number is made of its parts
parts_b : (n a b c d : ℕ) → n % 2 ≡ 0 → a ≡ n / 2 ^ 12 % 2 ^ 1 → b ≡ n / 2 ^ 11 % 2 ^ 1 → c ≡ n / 2 ^ 5 % 2 ^ 6 → d ≡ n / 2 ^ 1 % 2 ^ 4 → 2 ^ 12 * a + 2 ^ 11 * b + 2 ^ 5 * c + 2 ^ 1 * d ≡ n % 2 ^ 13
parts_b n a b c d even ea eb ec ed = omega arith

parts_j : (n a b c d : ℕ) → n % 2 ≡ 0 → a ≡ n / 2 ^ 20 % 2 ^ 1 → b ≡ n / 2 ^ 12 % 2 ^ 8 → c ≡ n / 2 ^ 11 % 2 ^ 1 → d ≡ n / 2 ^ 1 % 2 ^ 10 → 2 ^ 20 * a + 2 ^ 12 * b + 2 ^ 11 * c + 2 ^ 1 * d ≡ n % 2 ^ 21
parts_j n a b c d even ea eb ec ed = omega arith

parts_s : (n a b : ℕ) → a ≡ n / 2 ^ 5 % 2 ^ 7 → b ≡ n % 2 ^ 5 → 2 ^ 5 * a + b ≡ n % 2 ^ 12
parts_s n a b ea eb = omega arith

is_even : (k : ℕ) (z : ℤ) → is_offset k z ≡ true → (has_bits k z ≡ true) × (unsigned_of z % 2 ≡ 0)
is_even k z h = let r = and_true (has_bits k z) (eqb (nat_abs z % 2) 0) h in (r.0, offset_even z (eqb-true (nat_abs z % 2) 0 r.1))

jal_forth : (d : ℕ) (z : ℤ) → is_encodable (Jal d z) ≡ true → decoded (word_of (Jal d z)) ≡ Some (Jal d z)
jal_forth d z h =
    let n = unsigned_of z in
    let fs = fields_j 0x6f d n in
    let w = join fs in
    let r = and_true (is_register d) (is_offset 21 z) h in
    let e = is_even 21 z r.1 in
    let at_d : rd w ≡ d = bits_at fs 1 ∙ below d 32 r.0 in
    let at_z : immediate_j w ≡ z =
    ap (signed_of 21) (parts_j n (bits 31 1 w) (bits 12 8 w) (bits 20 1 w) (bits 21 10 w) e.1 (bits_at fs 5) (bits_at fs 2) (bits_at fs 3) (bits_at fs 4)) ∙ signed_21 z e.0
    in
    sym (at_opcode w 0x6f (bits_at fs 0)) ∙ (λ i. Some (Jal (at_d i) (at_z i)))

jalr_forth : (d a : ℕ) (z : ℤ) → is_encodable (Jalr d a z) ≡ true → decoded (word_of (Jalr d a z)) ≡ Some (Jalr d a z)
jalr_forth d a z h =
    let fs = fields_i 0x67 0 d a (unsigned_of z) in
    let r = two d a (has_bits 12 z) h in
    let at_d : rd (join fs) ≡ d = bits_at fs 1 ∙ r.0 in
    let at_a : rs1 (join fs) ≡ a = bits_at fs 3 ∙ r.1 in
    let at_z : immediate_i (join fs) ≡ z = ap (signed_of 12) (bits_at fs 4) ∙ signed_12 z r.2 in
    at_i jalr 0x67 0 d a (unsigned_of z) refl refl (λ w. refl) ∙ (λ i. Some (Jalr (at_d i) (at_a i) (at_z i)))

branch_row : (c : Cmp) (f a b : ℕ) (z : ℤ) → f % 2 ^ 3 ≡ f → ((w : ℕ) → left_by (is (opcode_is 0x63) ∷ is (funct3_is f) ∷ []) table w ≡ Some (branch c w)) → (is_register a && is_register b && is_offset 13 z) ≡ true → decoded (join (fields_b 0x63 f a b (unsigned_of z))) ≡ Some (Branch c a b z)
branch_row c f a b z hf left h =
    let n = unsigned_of z in
    let fs = fields_b 0x63 f a b n in
    let w = join fs in
    let r = two a b (is_offset 13 z) h in
    let e = is_even 13 z r.2 in
    let at_a : rs1 w ≡ a = bits_at fs 4 ∙ r.0 in
    let at_b : rs2 w ≡ b = bits_at fs 5 ∙ r.1 in
    let at_z : immediate_b w ≡ z =
    ap (signed_of 13) (parts_b n (bits 31 1 w) (bits 7 1 w) (bits 25 6 w) (bits 8 4 w) e.1 (bits_at fs 7) (bits_at fs 1) (bits_at fs 6) (bits_at fs 2)) ∙ signed_13 z e.0
    in
    sym (at_funct3 w 0x63 f (bits_at fs 0) (bits_at fs 3 ∙ hf)) ∙ left w ∙ (λ i. Some (Branch c (at_a i) (at_b i) (at_z i)))

branch_forth : (c : Cmp) (a b : ℕ) (z : ℤ) → is_encodable (Branch c a b z) ≡ true → decoded (word_of (Branch c a b z)) ≡ Some (Branch c a b z)
branch_forth Eq a b z h = branch_row Eq 0 a b z refl (λ w. refl) h
branch_forth Ne a b z h = branch_row Ne 1 a b z refl (λ w. refl) h
branch_forth Lt a b z h = branch_row Lt 4 a b z refl (λ w. refl) h
branch_forth Ge a b z h = branch_row Ge 5 a b z refl (λ w. refl) h
branch_forth Ltu a b z h = branch_row Ltu 6 a b z refl (λ w. refl) h
branch_forth Geu a b z h = branch_row Geu 7 a b z refl (λ w. refl) h

-- ---- loads, stores and fences

load_row : (n : Width) (s : Bool) (f d a : ℕ) (z : ℤ) → f % 2 ^ 3 ≡ f → ((w : ℕ) → left_by (is (opcode_is 0x03) ∷ is (funct3_is f) ∷ []) table w ≡ Some (load n s w)) → (true && is_register d && is_register a && has_bits 12 z) ≡ true → decoded (join (fields_i 0x03 f d a (unsigned_of z))) ≡ Some (Load n s d a z)
load_row n s f d a z hf left h =
    let fs = fields_i 0x03 f d a (unsigned_of z) in
    let r = two d a (has_bits 12 z) h in
    let at_d : rd (join fs) ≡ d = bits_at fs 1 ∙ r.0 in
    let at_a : rs1 (join fs) ≡ a = bits_at fs 3 ∙ r.1 in
    let at_z : immediate_i (join fs) ≡ z = ap (signed_of 12) (bits_at fs 4) ∙ signed_12 z r.2 in
    at_i (load n s) 0x03 f d a (unsigned_of z) refl hf left ∙ (λ i. Some (Load n s (at_d i) (at_a i) (at_z i)))

load_forth : (n : Width) (s : Bool) (d a : ℕ) (z : ℤ) → is_encodable (Load n s d a z) ≡ true → decoded (word_of (Load n s d a z)) ≡ Some (Load n s d a z)
load_forth B1 true d a z h = load_row B1 true 0 d a z refl (λ w. refl) h
load_forth B2 true d a z h = load_row B2 true 1 d a z refl (λ w. refl) h
load_forth B4 true d a z h = load_row B4 true 2 d a z refl (λ w. refl) h
load_forth B8 true d a z h = load_row B8 true 3 d a z refl (λ w. refl) h
load_forth B1 false d a z h = load_row B1 false 4 d a z refl (λ w. refl) h
load_forth B2 false d a z h = load_row B2 false 5 d a z refl (λ w. refl) h
load_forth B4 false d a z h = load_row B4 false 6 d a z refl (λ w. refl) h
load_forth B8 false d a z h = absurd (false≢true h)

store_row : (n : Width) (f a b : ℕ) (z : ℤ) → f % 2 ^ 3 ≡ f → ((w : ℕ) → left_by (is (opcode_is 0x23) ∷ is (funct3_is f) ∷ []) table w ≡ Some (store n w)) → (is_register a && is_register b && has_bits 12 z) ≡ true → decoded (join (fields_s 0x23 f a b (unsigned_of z))) ≡ Some (Store n a b z)
store_row n f a b z hf left h =
    let m = unsigned_of z in
    let fs = fields_s 0x23 f a b m in
    let w = join fs in
    let r = two a b (has_bits 12 z) h in
    let at_a : rs1 w ≡ a = bits_at fs 3 ∙ r.0 in
    let at_b : rs2 w ≡ b = bits_at fs 4 ∙ r.1 in
    let at_z : immediate_s w ≡ z = ap (signed_of 12) (parts_s m (bits 25 7 w) (bits 7 5 w) (bits_at fs 5) (bits_at fs 1)) ∙ signed_12 z r.2 in
    sym (at_funct3 w 0x23 f (bits_at fs 0) (bits_at fs 2 ∙ hf)) ∙ left w ∙ (λ i. Some (Store n (at_a i) (at_b i) (at_z i)))

store_forth : (n : Width) (a b : ℕ) (z : ℤ) → is_encodable (Store n a b z) ≡ true → decoded (word_of (Store n a b z)) ≡ Some (Store n a b z)
store_forth B1 a b z h = store_row B1 0 a b z refl (λ w. refl) h
store_forth B2 a b z h = store_row B2 1 a b z refl (λ w. refl) h
store_forth B4 a b z h = store_row B4 2 a b z refl (λ w. refl) h
store_forth B8 a b z h = store_row B8 3 a b z refl (λ w. refl) h

fence_forth : (n a d : ℕ) → is_encodable (Fence n a d) ≡ true → decoded (word_of (Fence n a d)) ≡ Some (Fence n a d)
fence_forth n a d h =
    let fs = fields_i 0x0f 0 d a n in
    let outer = and_true (nat_lt n (2 ^ 12) && is_register a) (is_register d) h in
    let inner = and_true (nat_lt n (2 ^ 12)) (is_register a) outer.0 in
    let at_d : rd (join fs) ≡ d = bits_at fs 1 ∙ below d 32 outer.1 in
    let at_a : rs1 (join fs) ≡ a = bits_at fs 3 ∙ below a 32 inner.1 in
    let at_n : bits 20 12 (join fs) ≡ n = bits_at fs 4 ∙ below n (2 ^ 12) inner.0 in
    at_i fence 0x0f 0 d a n refl refl (λ w. refl) ∙ (λ i. Some (Fence (at_n i) (at_a i) (at_d i)))

-- ---- all instructions

pub forth : (i : Instr) → is_encodable i ≡ true → decoded (word_of i) ≡ Some i
forth (Op o d a b) h = op_forth o d a b h
forth (OpImm o d a z) h = op_immediate_forth o d a z h
forth (Lui d n) h = lui_forth d n h
forth (Auipc d n) h = auipc_forth d n h
forth (Jal d z) h = jal_forth d z h
forth (Jalr d a z) h = jalr_forth d a z h
forth (Branch c a b z) h = branch_forth c a b z h
forth (Load n s d a z) h = load_forth n s d a z h
forth (Store n a b z) h = store_forth n a b z h
forth (Fence n a d) h = fence_forth n a d h
forth Ecall h = call_word
forth Ebreak h = break_word

-- A step leads to an even address: instructions have two bytes or four, and the offsets of jumps are even.
use Rattle.std.proofs.Common.{◌≡◌, ℕ, ◌*◌, ◌/◌, ◌%◌, ◌^◌, ◌<◌, Bool, true, false, cond, ◌&&◌, eqb-true, eq-eqb, ℤ, pos, negsuc, Some, refl, sym, ap, subst, ◌∙◌, arith}
use Rattle.std.specs.Prelude.{IfSome, IsTrue, nat_abs}
use Rattle.std.proofs.lemmas.Nat.Bits.{and_high_mask}
use Rattle.rv_words.specs.Bytes.{load}
use Rattle.rv_words.specs.Operation.{comparison_holds, word_of}
use Rattle.rv_words.proofs.MemoryLemmas.{load_small}
use Rattle.rv_decode.specs.declared.instruction.Instr.{Instr}
use Rattle.rv_decode.specs.declared.instruction.Instr.TheVariants.{Op, OpImm, Lui, Auipc, Jal, Jalr, Branch, Load, Store, Fence, Ecall, Ebreak}
use Rattle.rv_decode.specs.Ranges.{has_bits, is_encodable, is_offset, is_register}
use Rattle.rv_decode.proofs.EncodeLemmas.{decoded_ranges}
use Rattle.rvc.specs.Number.{instruction_of, is_word, length_of, number_at}
use Rattle.rvc.proofs.RangeLemmas.{compressed_ranges}
use Rattle.rvc.proofs.NumberLemmas.{instruction-compressed, instruction-small, instruction-word, number_at-is}
use Rattle.rv_machine.specs.State.{IsState, State}
use Rattle.rv_machine.specs.Step.{is_even, jump_target, length_at, next, plus, reads, step}
use Rattle.rv_machine.specs.Update.{pc_after}
use Rattle.rv_machine.proofs.StepLemmas.{instruction_at-is, length_at-is, step-updated}

-- ---- sums

low_64 : (n : ℕ) → n % 2 ^ 64 < 2 ^ 64
low_64 n = omega arith

jump_target-even : (x : ℕ) (imm : ℤ) → is_even (jump_target x imm) ≡ true
jump_target-even x imm =
    let e : jump_target x imm ≡ plus x imm / 2 * 2 = and_high_mask 64 1 (omega arith) (plus x imm) (low_64 _) in
    eq-eqb (jump_target x imm % 2) 0 (omega (arith, e))

word-even : (z : ℤ) → nat_abs z % 2 ≡ 0 → word_of z % 2 ≡ 0
word-even (pos n) e = omega (arith, e)
word-even (negsuc n) e = omega (arith, e)

plus-even : (x : ℕ) (z : ℤ) → is_even x ≡ true → nat_abs z % 2 ≡ 0 → is_even (plus x z) ≡ true
plus-even x z even e =
    let first : x % 2 ≡ 0 = eqb-true (x % 2) 0 even in
    let second = word-even z e in
    eq-eqb (plus x z % 2) 0 (omega (arith, first, second))

length-even : (w : ℕ) → length_of w % 2 ≡ 0
length-even w = by_test (is_word w)
  where
    by_test : (t : Bool) → cond t 4 2 % 2 ≡ 0
    by_test true = refl
    by_test false = refl

next-even : (n : ℕ) (s : State) → is_even s.pc ≡ true → n % 2 ≡ 0 → is_even (next n s) ≡ true
next-even n s even e =
    let first : s.pc % 2 ≡ 0 = eqb-true (s.pc % 2) 0 even in
    eq-eqb (next n s % 2) 0 (omega (arith, first, e))

-- ---- instructions

last : (a b : Bool) → (a && b) ≡ true → b ≡ true
last true b h = h
last false b h = absurd (cc)

offset-even : (k : ℕ) (z : ℤ) → is_offset k z ≡ true → nat_abs z % 2 ≡ 0
offset-even k z h = eqb-true (nat_abs z % 2) 0 (last (has_bits k z) _ h)

pc_after-even : (i : Instr) (n : ℕ) (s : State) → is_encodable i ≡ true → is_even s.pc ≡ true → n % 2 ≡ 0 → is_even (pc_after i n s) ≡ true
pc_after-even (Op o rd rs1 rs2) n s fits even e = next-even n s even e
pc_after-even (OpImm o rd rs1 imm) n s fits even e = next-even n s even e
pc_after-even (Lui rd imm) n s fits even e = next-even n s even e
pc_after-even (Auipc rd imm) n s fits even e = next-even n s even e
pc_after-even (Jal rd offset) n s fits even e = plus-even s.pc offset even (offset-even 21 offset (last (is_register rd) _ fits))
pc_after-even (Jalr rd rs1 imm) n s fits even e = jump_target-even (reads rs1 s) imm
pc_after-even (Branch c rs1 rs2 offset) n s fits even e =
    by_test (comparison_holds c (reads rs1 s) (reads rs2 s)) (plus-even s.pc offset even (offset-even 13 offset (last (is_register rs1 && is_register rs2) _ fits))) (next-even n s even e)
  where
    by_test : (t : Bool) → is_even (plus s.pc offset) ≡ true → is_even (next n s) ≡ true → is_even (cond t (plus s.pc offset) (next n s)) ≡ true
    by_test true there on = there
    by_test false there on = on
pc_after-even (Load w signed rd rs1 imm) n s fits even e = next-even n s even e
pc_after-even (Store w rs1 rs2 imm) n s fits even e = next-even n s even e
pc_after-even (Fence imm rs1 rd) n s fits even e = next-even n s even e
pc_after-even Ecall n s fits even e = next-even n s even e
pc_after-even Ebreak n s fits even e = next-even n s even e

instruction-fits : (w : ℕ) (i : Instr) → w < 2 ^ 32 → instruction_of w ≡ Some i → is_encodable i ≡ true
instruction-fits w i small e = by_length (is_word w) refl
  where
    by_length : (t : Bool) → is_word w ≡ t → is_encodable i ≡ true
    by_length true long = subst (λ o. IfSome o (λ j. IsTrue (is_encodable j))) e (decoded_ranges w (instruction_of w) small (instruction-word w long))
    by_length false short = subst (λ o. IfSome o (λ j. IsTrue (is_encodable j))) e (compressed_ranges w (instruction_of w) (instruction-compressed w short (instruction-small w i e short)))

-- the number at an address of a memory of bytes has four bytes at most
number-small : (s : State) (w : ℕ) → IsState s → number_at s.mem s.pc ≡ Some w → w < 2 ^ 32
number-small s w is there = by_length (is_word w) ((number_at-is s.mem s.pc w).0 there).1
  where
    by_length : (t : Bool) → load (cond t 4 2) s.mem s.pc ≡ w → w < 2 ^ 32
    by_length true e = subst (λ n. n < 2 ^ 32) e (load_small 4 s.mem s.pc is.memory.bytes)
    by_length false e = let small = subst (λ n. n < 256 ^ 2) e (load_small 2 s.mem s.pc is.memory.bytes) in omega (arith, small)

pub step-even : (s t : State) → IsState s → step s ≡ Some t → is_even t.pc ≡ true
step-even s t is e =
    let a = step-updated s t e in
    let at = (instruction_at-is a.0 s).0 a.1 in
    let fits = instruction-fits at.0 a.0 (number-small s at.0 is at.2) at.3 in
    let long : length_at s % 2 ≡ 0 = ap (λ n. n % 2) (length_at-is s at.0 at.2) ∙ length-even at.0 in
    subst (λ (u : State). is_even u.pc ≡ true) (sym a.3) (pc_after-even a.0 (length_at s) s fits at.1 long)

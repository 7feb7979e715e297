-- What an instruction does to registers: it writes its destination alone, by what it reads.
use Rattle.std.proofs.Common.{◌≡◌, ℕ, ◌+◌, ◌%◌, ◌^◌, Bool, true, false, cond, eqb, eqb-true, eq-eqb, ◌||◌, refl, sym, ◌∙◌}
use Rattle.rv_words.specs.Bytes.{bytes_of, store}
use Rattle.rv_words.specs.Operation.{comparison_holds, operation_value, word_of}
use Rattle.rv_decode.specs.declared.instruction.Instr.{Instr}
use Rattle.rv_decode.specs.declared.instruction.Instr.TheVariants.{Op, OpImm, Lui, Auipc, Jal, Jalr, Branch, Load, Store, Fence, Ecall, Ebreak}
use Rattle.rv_decode.specs.Registers.{destination, is_read, is_written}
use Rattle.rv_machine.specs.State.{State, with_register}
use Rattle.rv_machine.specs.Step.{has, jump_target, loaded, plus, reads, upper}
use Rattle.rv_machine.specs.Update.{HaveSame, is_possible, mem_after, pc_after, reg_after}

-- ---- the register that is written

with_other : (d x r : ℕ) (reg : ℕ → ℕ) → eqb d r ≡ false → with_register d x reg r ≡ reg r
with_other d x r reg h = both (eqb d 0) (eqb r d) (λ e. let same = eq-eqb d r (sym (eqb-true r d e)) in absurd (cc))
  where
    both : (t u : Bool) → (u ≡ true → ⊥) → cond t (reg r) (cond u x (reg r)) ≡ reg r
    both true u h = refl
    both false false h = refl
    both false true h = absurd (h refl)

-- a register that isn't the destination stays as it is
pub unwritten : (i : Instr) (n : ℕ) (s : State) (r : ℕ) → is_written i r ≡ false → reg_after i n s r ≡ s.reg r
unwritten (Op o rd rs1 rs2) n s r h = with_other rd _ r s.reg h
unwritten (OpImm o rd rs1 imm) n s r h = with_other rd _ r s.reg h
unwritten (Lui rd imm) n s r h = with_other rd _ r s.reg h
unwritten (Auipc rd imm) n s r h = with_other rd _ r s.reg h
unwritten (Jal rd offset) n s r h = with_other rd _ r s.reg h
unwritten (Jalr rd rs1 imm) n s r h = with_other rd _ r s.reg h
unwritten (Branch c rs1 rs2 offset) n s r h = refl
unwritten (Load w signed rd rs1 imm) n s r h = with_other rd _ r s.reg h
unwritten (Store w rs1 rs2 imm) n s r h = refl
unwritten (Fence imm rs1 rd) n s r h = refl
unwritten Ecall n s r h = refl
unwritten Ebreak n s r h = refl

-- ---- the words that are read

or_last : (a b : Bool) → b ≡ true → (a || b) ≡ true
or_last true b e = refl
or_last false b e = e

same_first : (i : Instr) (s u : State) (r : ℕ) (more : Bool) → HaveSame i s u → is_read i r ≡ (eqb r r || more) → reads r u ≡ reads r s
same_first i s u r more h e = h.read r (e ∙ (λ j. eq-eqb r r refl j || more))

same_last : (i : Instr) (s u : State) (q r : ℕ) → HaveSame i s u → is_read i r ≡ (eqb q r || (eqb r r || false)) → reads r u ≡ reads r s
same_last i s u q r h e = h.read r (e ∙ or_last (eqb q r) (eqb r r || false) (λ j. eq-eqb r r refl j || false))

pub same-possible : (i : Instr) (s u : State) → HaveSame i s u → is_possible i u ≡ is_possible i s
same-possible (Op o rd rs1 rs2) s u h = refl
same-possible (OpImm o rd rs1 imm) s u h = refl
same-possible (Lui rd imm) s u h = refl
same-possible (Auipc rd imm) s u h = refl
same-possible (Jal rd offset) s u h = refl
same-possible (Jalr rd rs1 imm) s u h = refl
same-possible (Branch c rs1 rs2 offset) s u h = refl
same-possible (Load w signed rd rs1 imm) s u h = let a = same_first (Load w signed rd rs1 imm) s u rs1 _ h refl in λ j. has w (h.mem j) (plus (a j) imm)
same-possible (Store w rs1 rs2 imm) s u h = let a = same_first (Store w rs1 rs2 imm) s u rs1 _ h refl in λ j. has w (h.mem j) (plus (a j) imm)
same-possible (Fence imm rs1 rd) s u h = refl
same-possible Ecall s u h = refl
same-possible Ebreak s u h = refl

pub same-pc : (i : Instr) (n : ℕ) (s u : State) → HaveSame i s u → pc_after i n u ≡ pc_after i n s
same-pc (Op o rd rs1 rs2) n s u h = λ j. (h.pc j + n) % 2 ^ 64
same-pc (OpImm o rd rs1 imm) n s u h = λ j. (h.pc j + n) % 2 ^ 64
same-pc (Lui rd imm) n s u h = λ j. (h.pc j + n) % 2 ^ 64
same-pc (Auipc rd imm) n s u h = λ j. (h.pc j + n) % 2 ^ 64
same-pc (Jal rd offset) n s u h = λ j. plus (h.pc j) offset
same-pc (Jalr rd rs1 imm) n s u h = let a = same_first (Jalr rd rs1 imm) s u rs1 _ h refl in λ j. jump_target (a j) imm
same-pc (Branch c rs1 rs2 offset) n s u h = let a = same_first (Branch c rs1 rs2 offset) s u rs1 _ h refl in let b = same_last (Branch c rs1 rs2 offset) s u rs1 rs2 h refl in λ j. cond (comparison_holds c (a j) (b j)) (plus (h.pc j) offset) ((h.pc j + n) % 2 ^ 64)
same-pc (Load w signed rd rs1 imm) n s u h = λ j. (h.pc j + n) % 2 ^ 64
same-pc (Store w rs1 rs2 imm) n s u h = λ j. (h.pc j + n) % 2 ^ 64
same-pc (Fence imm rs1 rd) n s u h = λ j. (h.pc j + n) % 2 ^ 64
same-pc Ecall n s u h = λ j. (h.pc j + n) % 2 ^ 64
same-pc Ebreak n s u h = λ j. (h.pc j + n) % 2 ^ 64

pub same-mem : (i : Instr) (s u : State) → HaveSame i s u → mem_after i u ≡ mem_after i s
same-mem (Op o rd rs1 rs2) s u h = h.mem
same-mem (OpImm o rd rs1 imm) s u h = h.mem
same-mem (Lui rd imm) s u h = h.mem
same-mem (Auipc rd imm) s u h = h.mem
same-mem (Jal rd offset) s u h = h.mem
same-mem (Jalr rd rs1 imm) s u h = h.mem
same-mem (Branch c rs1 rs2 offset) s u h = h.mem
same-mem (Load w signed rd rs1 imm) s u h = h.mem
same-mem (Store w rs1 rs2 imm) s u h = let a = same_first (Store w rs1 rs2 imm) s u rs1 _ h refl in let b = same_last (Store w rs1 rs2 imm) s u rs1 rs2 h refl in λ j. store (bytes_of w) (h.mem j) (plus (a j) imm) (b j)
same-mem (Fence imm rs1 rd) s u h = h.mem
same-mem Ecall s u h = h.mem
same-mem Ebreak s u h = h.mem

with_same : (d x y : ℕ) (f g : ℕ → ℕ) → (d ≡ 0 → ⊥) → x ≡ y → with_register d x f d ≡ with_register d y g d
with_same d x y f g some e = both (eqb d 0) (eqb d d) (λ z. some (eqb-true d 0 z)) (eq-eqb d d refl)
  where
    both : (t u : Bool) → (t ≡ true → ⊥) → u ≡ true → cond t (f d) (cond u x (f d)) ≡ cond t (g d) (cond u y (g d))
    both true u h k = absurd (h refl)
    both false true h k = e
    both false false h k = absurd (cc)

-- the destination gets the same word
pub same-word : (i : Instr) (n : ℕ) (s u : State) → HaveSame i s u → (destination i ≡ 0 → ⊥) → reg_after i n u (destination i) ≡ reg_after i n s (destination i)
same-word (Op o rd rs1 rs2) n s u h some = let a = same_first (Op o rd rs1 rs2) s u rs1 _ h refl in let b = same_last (Op o rd rs1 rs2) s u rs1 rs2 h refl in with_same rd _ _ u.reg s.reg some (λ j. operation_value o (a j) (b j))
same-word (OpImm o rd rs1 imm) n s u h some = let a = same_first (OpImm o rd rs1 imm) s u rs1 _ h refl in with_same rd _ _ u.reg s.reg some (λ j. operation_value o (a j) (word_of imm))
same-word (Lui rd imm) n s u h some = with_same rd _ _ u.reg s.reg some (refl)
same-word (Auipc rd imm) n s u h some = with_same rd _ _ u.reg s.reg some (λ j. (h.pc j + upper imm) % 2 ^ 64)
same-word (Jal rd offset) n s u h some = with_same rd _ _ u.reg s.reg some (λ j. (h.pc j + n) % 2 ^ 64)
same-word (Jalr rd rs1 imm) n s u h some = with_same rd _ _ u.reg s.reg some (λ j. (h.pc j + n) % 2 ^ 64)
same-word (Branch c rs1 rs2 offset) n s u h some = absurd (some refl)
same-word (Load w signed rd rs1 imm) n s u h some = let a = same_first (Load w signed rd rs1 imm) s u rs1 _ h refl in with_same rd _ _ u.reg s.reg some (λ j. loaded w signed (h.mem j) (plus (a j) imm))
same-word (Store w rs1 rs2 imm) n s u h some = absurd (some refl)
same-word (Fence imm rs1 rd) n s u h some = absurd (some refl)
same-word Ecall n s u h some = absurd (some refl)
same-word Ebreak n s u h some = absurd (some refl)

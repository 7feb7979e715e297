-- States of words and bytes, and that a step leads from one to another.
use Rattle.std.proofs.Common.{◌≡◌, ℕ, zero, suc, ◌+◌, ◌-◌, ◌*◌, ◌%◌, ◌^◌, ◌<◌, Bool, true, false, cond, eqb, Option, Some, None, List, get_or, replicate, refl, sym, ap, subst, ◌∙◌, arith}
use Rattle.std.specs.Option.{option_and_then}
use Rattle.std.specs.FinMap.{get}
use Rattle.std.proofs.Math.Nat.{mod-lt}
use Rattle.std.proofs.lemmas.Nat.{pow_pos, and_le_l}
use Rattle.rv_words.specs.Bytes.{AreBytes, Bytes, IsMemory, bytes_of, load}
use Rattle.rv_words.specs.declared.width.Width.{Width}
use Rattle.rv_words.specs.declared.width.Width.TheVariants.{B1, B2, B4, B8}
use Rattle.rv_words.specs.declared.extension.Ext.TheVariants.{Sx1, Sx2, Sx4}
use Rattle.rv_words.specs.Operation.{comparison_holds, word_of}
use Rattle.rv_words.proofs.MemoryLemmas.{load_small, store-memory}
use Rattle.rv_words.proofs.WordLemmas.{operation_small, extension_small, word_of_small}
use Rattle.rv_decode.specs.declared.instruction.Instr.{Instr}
use Rattle.rv_decode.specs.declared.instruction.Instr.TheVariants.{Op, OpImm, Lui, Auipc, Jal, Jalr, Branch, Load, Store, Fence, Ecall, Ebreak}
use Rattle.rv_machine.specs.State.{Contents, IsState, State, register, state_of, with_register}
use Rattle.rv_machine.specs.Step.{length_at, loaded, plus, reads, step}
use Rattle.rv_machine.specs.Update.{mem_after, pc_after, reg_after, updated}
use Rattle.rv_machine.specs.Run.{run}
use Rattle.rv_machine.proofs.StepLemmas.{step-updated, step-zero}

word_small : (n : ℕ) → n % 2 ^ 64 < 2 ^ 64
word_small n = mod-lt n (pow_pos 64)

cond_small : (t : Bool) (x y : ℕ) → x < 2 ^ 64 → y < 2 ^ 64 → cond t x y < 2 ^ 64
cond_small true x y p q = p
cond_small false x y p q = q

pc_small : (i : Instr) (n : ℕ) (s : State) → pc_after i n s < 2 ^ 64
pc_small (Op o rd rs1 rs2) n s = word_small _
pc_small (OpImm o rd rs1 imm) n s = word_small _
pc_small (Lui rd imm) n s = word_small _
pc_small (Auipc rd imm) n s = word_small _
pc_small (Jal rd offset) n s = word_small _
pc_small (Jalr rd rs1 imm) n s = let l = word_small (reads rs1 s + word_of imm) in omega (arith, and_le_l (plus (reads rs1 s) imm) (2 ^ 64 - 2))
pc_small (Branch c rs1 rs2 offset) n s = cond_small (comparison_holds c (reads rs1 s) (reads rs2 s)) _ _ (word_small _) (word_small _)
pc_small (Load w signed rd rs1 imm) n s = word_small _
pc_small (Store w rs1 rs2 imm) n s = word_small _
pc_small (Fence imm rs1 rd) n s = word_small _
pc_small Ecall n s = word_small _
pc_small Ebreak n s = word_small _

-- ---- loads

loaded_small : (w : Width) (signed : Bool) (m : Bytes) (a : ℕ) → AreBytes m → loaded w signed m a < 2 ^ 64
loaded_small B1 true m a h = extension_small Sx1 (load 1 m a)
loaded_small B2 true m a h = extension_small Sx2 (load 2 m a)
loaded_small B4 true m a h = extension_small Sx4 (load 4 m a)
loaded_small B8 true m a h = load_small 8 m a h
loaded_small B1 false m a h = let l = load_small 1 m a h in omega arith
loaded_small B2 false m a h = let l = load_small 2 m a h in omega arith
loaded_small B4 false m a h = let l = load_small 4 m a h in omega arith
loaded_small B8 false m a h = load_small 8 m a h

-- ---- registers

reads_small : (r : ℕ) (s : State) → ((n : ℕ) → s.reg n < 2 ^ 64) → reads r s < 2 ^ 64
reads_small r s h = cond_small (eqb r 0) 0 (s.reg r) (omega arith) (h r)

with_small : (d x : ℕ) (reg : ℕ → ℕ) (r : ℕ) → x < 2 ^ 64 → reg r < 2 ^ 64 → with_register d x reg r < 2 ^ 64
with_small d x reg r p q = cond_small (eqb d 0) (reg r) _ q (cond_small (eqb r d) x (reg r) p q)

reg_small : (i : Instr) (n : ℕ) (s : State) (r : ℕ) → IsState s → reg_after i n s r < 2 ^ 64
reg_small (Op o rd rs1 rs2) n s r h = with_small rd _ s.reg r (operation_small o _ _ (reads_small rs1 s h.words) (reads_small rs2 s h.words)) (h.words r)
reg_small (OpImm o rd rs1 imm) n s r h = with_small rd _ s.reg r (operation_small o _ _ (reads_small rs1 s h.words) (word_of_small imm)) (h.words r)
reg_small (Lui rd imm) n s r h = with_small rd _ s.reg r (extension_small Sx4 (imm * 2 ^ 12)) (h.words r)
reg_small (Auipc rd imm) n s r h = with_small rd _ s.reg r (word_small _) (h.words r)
reg_small (Jal rd offset) n s r h = with_small rd _ s.reg r (word_small _) (h.words r)
reg_small (Jalr rd rs1 imm) n s r h = with_small rd _ s.reg r (word_small _) (h.words r)
reg_small (Branch c rs1 rs2 offset) n s r h = h.words r
reg_small (Load w signed rd rs1 imm) n s r h = with_small rd _ s.reg r (loaded_small w signed s.mem (plus (reads rs1 s) imm) h.memory.bytes) (h.words r)
reg_small (Store w rs1 rs2 imm) n s r h = h.words r
reg_small (Fence imm rs1 rd) n s r h = h.words r
reg_small Ecall n s r h = h.words r
reg_small Ebreak n s r h = h.words r

-- ---- stores

mem_small : (i : Instr) (s : State) → IsMemory s.mem → IsMemory (mem_after i s)
mem_small (Op o rd rs1 rs2) s h = h
mem_small (OpImm o rd rs1 imm) s h = h
mem_small (Lui rd imm) s h = h
mem_small (Auipc rd imm) s h = h
mem_small (Jal rd offset) s h = h
mem_small (Jalr rd rs1 imm) s h = h
mem_small (Branch c rs1 rs2 offset) s h = h
mem_small (Load w signed rd rs1 imm) s h = h
mem_small (Store w rs1 rs2 imm) s h = store-memory (bytes_of w) s.mem (plus (reads rs1 s) imm) (reads rs2 s) h
mem_small (Fence imm rs1 rd) s h = h
mem_small Ecall s h = h
mem_small Ebreak s h = h

updated-state : (i : Instr) (n : ℕ) (s : State) → IsState s → reg_after i n s 0 ≡ s.reg 0 → IsState (updated i n s)
updated-state i n s h same = record {
  pc = pc_small i n s;
  x0 = same ∙ h.x0;
  words = λ r. reg_small i n s r h;
  memory = mem_small i s h.memory;
}

-- a step leads from a state of words and bytes to another
pub step-state : (s t : State) → IsState s → step s ≡ Some t → IsState t
step-state s t h e =
    let a = step-updated s t e in
    let same = a.3 in
    subst IsState (sym same) (updated-state a.0 (length_at s) s h (ap (λ (u : State). u.reg 0) (sym same) ∙ step-zero s t e))

pub run-state : (s t : State) (k : ℕ) → IsState s → run s k ≡ Some t → IsState t
unfolding run
run-state s t zero h e = let same : s ≡ t = cc in subst IsState same h
run-state s t (suc k) h e = after_step (step s) (λ u is rest. run-state u t k (step-state s u h is) rest) e
  where
    after_step : (o : Option State) → ((u : State) → o ≡ Some u → run u k ≡ Some t → IsState t) → option_and_then (λ u. run u k) o ≡ Some t → IsState t
    after_step None more rest = absurd (cc)
    after_step (Some u) more rest = more u refl rest

-- ---- contents

zeros : (n r : ℕ) → let none : ℕ = 0 in get_or (replicate n none) r none ≡ none
zeros zero r = refl
zeros (suc n) zero = refl
zeros (suc n) (suc r) = zeros n r

pub zero_words : (n r : ℕ) → get_or (replicate n 0) r 0 < 2 ^ 64
zero_words n r = let e = zeros n r in omega arith

register_small : (words : List ℕ) (r : ℕ) → ((k : ℕ) → get_or words k 0 < 2 ^ 64) → register words r < 2 ^ 64
register_small words r h = cond_small (eqb r 0) 0 (get_or words r 0) (omega arith) (h r)

-- contents of words and bytes are a machine's state
pub contents-state : (c : Contents) → c.pc < 2 ^ 64 → ((k : ℕ) → get_or c.registers k 0 < 2 ^ 64) → IsMemory (get c.memory) → IsState (state_of c)
contents-state c pc words memory = record { pc = pc; x0 = refl; words = λ r. register_small c.registers r words; memory = memory }

-- A register that has an offset holds the word of the entry's x2 plus this.
use Rattle.std.proofs.Common.{◌≡◌, ℕ, zero, suc, ◌+◌, ◌%◌, ◌^◌, ◌<◌, Bool, true, false, cond, eqb, eqb-true, eq-eqb, Option, Some, None, refl, sym, ap, subst, ◌∙◌, arith}
use Rattle.std.specs.Prelude.{option_and_then}
use Rattle.rv_words.specs.Bytes.{Bytes}
use Rattle.rv_words.specs.Operation.{word_of, operation_value}
use Rattle.rv_words.specs.declared.operation.Op.TheVariants as op
use Rattle.rv_decode.specs.declared.instruction.Instr.{Instr}
use Rattle.rv_decode.specs.declared.instruction.Instr.TheVariants as instr
use Rattle.rv_decode.specs.Registers.{destination}
use Rattle.rv_machine.specs.State.{State, with_register}
use Rattle.rv_machine.specs.Step.{instruction_at, reads, step, length_at}
use Rattle.rv_machine.specs.Update.{reg_after}
use Rattle.rv_machine.specs.Run.{run}
use Rattle.rv_machine.proofs.StepLemmas.{step-act, act-some}
use Rattle.stack_offsets.specs.Offsets.{Offsets, entry_offsets, given_offset, offsets_after, IsFollowed, AtEntry, Behind, HasOffset, LeadsIn}
use Rattle.stack_offsets.specs.Runs.{RunsAlong, StepsAlong}
use Rattle.stack_offsets.proofs.OffsetLemmas.{moved_some, some_one}

-- each register that has an offset holds that word
abbrev AreHeld : ℕ → State → Offsets → Type 0
AreHeld x s o = (r c : ℕ) → o r ≡ Some c → (s.reg r ≡ (x + c) % 2 ^ 64) × (r ≡ 0 → ⊥)

mod_more : (x c w : ℕ) → ((x + c) % 2 ^ 64 + w) % 2 ^ 64 ≡ (x + (c + w) % 2 ^ 64) % 2 ^ 64
mod_more x c w = omega arith

read_is : (r : ℕ) (s : State) → (r ≡ 0 → ⊥) → reads r s ≡ s.reg r
read_is r s ne = by (eqb r 0) refl
  where
    by : (b : Bool) → eqb r 0 ≡ b → cond b 0 (s.reg r) ≡ s.reg r
    by true e = absurd (ne (eqb-true r 0 e))
    by false e = refl

-- ---- no other register than an instruction's destination is written

module _ (r : ℕ) where
  with_other : (d x : ℕ) (reg : ℕ → ℕ) → ((d ≡ 0 → ⊥) → r ≡ d → ⊥) → with_register d x reg r ≡ reg r
  with_other d x reg h = both (eqb d 0) (eqb r d) refl refl
    where
      both : (t u : Bool) → eqb d 0 ≡ t → eqb r d ≡ u → cond t (reg r) (cond u x (reg r)) ≡ reg r
      both true u e f = refl
      both false false e f = refl
      both false true e f = absurd (h (λ z. differ e z) (eqb-true r d f))
        where
          differ : eqb d 0 ≡ false → d ≡ 0 → ⊥
          differ e z = let q : eqb 0 0 ≡ false = ap (λ n. eqb n 0) (sym z) ∙ e in cc

  other_kept : (i : Instr) (n : ℕ) (s : State) → ((destination i ≡ 0 → ⊥) → r ≡ destination i → ⊥) → reg_after i n s r ≡ s.reg r
  other_kept (instr.Op o rd rs1 rs2) n s h = with_other rd _ s.reg h
  other_kept (instr.OpImm o rd rs1 imm) n s h = with_other rd _ s.reg h
  other_kept (instr.Lui rd imm) n s h = with_other rd _ s.reg h
  other_kept (instr.Auipc rd imm) n s h = with_other rd _ s.reg h
  other_kept (instr.Jal rd offset) n s h = with_other rd _ s.reg h
  other_kept (instr.Jalr rd rs1 imm) n s h = with_other rd _ s.reg h
  other_kept (instr.Branch c rs1 rs2 offset) n s h = refl
  other_kept (instr.Load w signed rd rs1 imm) n s h = with_other rd _ s.reg h
  other_kept (instr.Store w rs1 rs2 imm) n s h = refl
  other_kept (instr.Fence imm rs1 rd) n s h = refl
  other_kept instr.Ecall n s h = refl
  other_kept instr.Ebreak n s h = refl

-- ---- a step

-- what the instruction writes, where that has an offset
written : (x : ℕ) (i : Instr) (n : ℕ) (s : State) (o : Offsets) → AreHeld x s o → (c : ℕ) → given_offset i o ≡ Some c → (z : ℕ) × (reg_after i n s ≡ with_register (destination i) z s.reg) × (z ≡ (x + c) % 2 ^ 64)
written x (instr.OpImm op.Add rd rs1 imm) n s o held c e =
    let d = moved_some (o rs1) (word_of imm) c e in
    let h = held rs1 d.0 d.1 in (
      operation_value op.Add (reads rs1 s) (word_of imm),
      refl,
      (λ j. (read_is rs1 s h.1 j + word_of imm) % 2 ^ 64) ∙ (λ j. (h.0 j + word_of imm) % 2 ^ 64) ∙ mod_more x d.0 (word_of imm) ∙ (λ j. (x + d.2 j) % 2 ^ 64),
    )
written x (instr.Op op.Add rd rs1 rs2) n s o held c e = by (eqb rs1 0) (eqb rs2 0) refl refl e
  where
    zero_is : (r : ℕ) → eqb r 0 ≡ true → reads r s ≡ 0
    zero_is r t = λ j. cond (t j) 0 (s.reg r)

    small : (y : ℕ) → y ≡ (x + c) % 2 ^ 64 → y % 2 ^ 64 ≡ (x + c) % 2 ^ 64
    small y e = omega (arith, e)

    by : (b d : Bool) → eqb rs1 0 ≡ b → eqb rs2 0 ≡ d → cond b (o rs2) (cond d (o rs1) None) ≡ Some c
        → (z : ℕ) × (reg_after (instr.Op op.Add rd rs1 rs2) n s ≡ with_register rd z s.reg) × (z ≡ (x + c) % 2 ^ 64)
    by true d t u e =
        let h = held rs2 c e in
        let none : 0 + s.reg rs2 ≡ s.reg rs2 = omega arith in
        (operation_value op.Add (reads rs1 s) (reads rs2 s), refl, (λ j. (zero_is rs1 t j + read_is rs2 s h.1 j) % 2 ^ 64) ∙ ap (λ y. y % 2 ^ 64) none ∙ small (s.reg rs2) h.0)
    by false true t u e =
        let h = held rs1 c e in
        let none : s.reg rs1 + 0 ≡ s.reg rs1 = omega arith in
        (operation_value op.Add (reads rs1 s) (reads rs2 s), refl, (λ j. (read_is rs1 s h.1 j + zero_is rs2 u j) % 2 ^ 64) ∙ ap (λ y. y % 2 ^ 64) none ∙ small (s.reg rs1) h.0)
    by false false t u e = absurd (cc)
written x i n s o held c e = absurd (cc)

-- one step
held_step : (x : ℕ) (s u : State) (i : Instr) (o : Offsets) → instruction_at s ≡ Some i → step s ≡ Some u → AreHeld x s o → AreHeld x u (offsets_after i o)
held_step x s u i o fetch ran held r c e = by (eqb (destination i) 0) (eqb r (destination i)) refl refl e
  where
    regs : u.reg ≡ reg_after i (length_at s) s
    regs =
        let a = step-act s u ran in
        let same : a.0 ≡ i = some_one a.0 i (sym a.1 ∙ fetch) in
        (λ j r. ((act-some a.0 (length_at s) s u a.2).1 j).reg r) ∙ (λ j. reg_after (same j) (length_at s) s)

    by : (z w : Bool) → eqb (destination i) 0 ≡ z → eqb r (destination i) ≡ w → cond z (o r) (cond w (given_offset i o) (o r)) ≡ Some c → (u.reg r ≡ (x + c) % 2 ^ 64) × (r ≡ 0 → ⊥)
    by true w t v h =
        let old = held r c h in
        ((λ j. regs j r) ∙ other_kept r i (length_at s) s (λ ne d. ne (eqb-true (destination i) 0 t)) ∙ old.0, old.1)
    by false false t v h =
        let old = held r c h in
        ((λ j. regs j r) ∙ other_kept r i (length_at s) s (λ ne d. differ (eq-eqb r (destination i) d) v) ∙ old.0, old.1)
      where
        differ : eqb r (destination i) ≡ true → eqb r (destination i) ≡ false → ⊥
        differ p q = let f : true ≡ false = sym p ∙ q in cc
    by false true t v h =
        let new = written x i (length_at s) s o held c h in
        ((λ j. regs j r) ∙ (λ j. new.1 j r) ∙ (λ j. cond (t j) (s.reg r) (cond (v j) new.0 (s.reg r))) ∙ new.2, λ z. (let f : eqb (destination i) 0 ≡ true = eq-eqb (destination i) 0 (sym (eqb-true r (destination i) v) ∙ z) in let g : true ≡ false = sym f ∙ t in cc))

-- ---- a run

-- a run along the code, followed by its offsets
record IsOn (code : Bytes) (e x : ℕ) (u : State) : Type 0 where
  offsets : Offsets
  followed : IsFollowed (LeadsIn code) e u.pc offsets
  held : AreHeld x u offsets

on_step : (code : Bytes) (e x : ℕ) (s u : State) → IsOn code e x s → step s ≡ Some u → StepsAlong code s u → IsOn code e x u
on_step code e x s u on ran along = record {
  offsets = offsets_after along.instruction on.offsets;
  followed = Behind s.pc u.pc along.instruction on.offsets on.followed along.leads;
  held = held_step x s u along.instruction on.offsets along.fetched ran on.held;
}

on_run : (code : Bytes) (e x k : ℕ) (s t : State) → IsOn code e x s → RunsAlong code s k → run s k ≡ Some t → IsOn code e x t
unfolding run
on_run code e x zero s t on along ran = subst (IsOn code e x) (some_one s t ran) on
on_run code e x (suc k) s t on along ran = by (step s) refl (λ u st later. on_run code e x k u t (on_step code e x s u on st (along 0 s u (omega arith) refl st)) (λ j v w l at next. along (suc j) v w (omega arith) ((λ i. option_and_then (λ z. run z j) (st i)) ∙ at) next) later) ran
  where
    by : (o : Option State) → step s ≡ o → ((u : State) → step s ≡ Some u → run u k ≡ Some t → IsOn code e x t) → option_and_then (λ z. run z k) o ≡ Some t → IsOn code e x t
    by None st go ran = absurd (cc)
    by (Some u) st go ran = go u st ran

on_entry : (code : Bytes) (s : State) → s.reg 2 < 2 ^ 64 → IsOn code s.pc (s.reg 2) s
on_entry code s small = record {
  offsets = entry_offsets;
  followed = AtEntry;
  held = λ r c h. by r c (eqb r 2) refl h;
}
  where
    by : (r c : ℕ) (b : Bool) → eqb r 2 ≡ b → cond b (Some 0) None ≡ Some c → (s.reg r ≡ (s.reg 2 + c) % 2 ^ 64) × (r ≡ 0 → ⊥)
    by r c true t h =
        let two : r ≡ 2 = eqb-true r 2 t in
        let none : 0 ≡ c = some_one 0 c h in
        let same : s.reg 2 ≡ (s.reg 2 + c) % 2 ^ 64 = omega arith in
        (ap s.reg two ∙ same, λ z. omega arith)
    by r c false t h = absurd (cc)

pub offset_held : (code : Bytes) (s t : State) (k r c : ℕ) → s.reg 2 < 2 ^ 64 → RunsAlong code s k → run s k ≡ Some t → HasOffset (LeadsIn code) s.pc t.pc r c → t.reg r ≡ (s.reg 2 + c) % 2 ^ 64
offset_held code s t k r c small along ran has =
    let on = on_run code s.pc (s.reg 2) k s t (on_entry code s small) along ran in
    (on.held r c (has on.offsets on.followed)).0

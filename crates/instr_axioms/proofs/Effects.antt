-- What an instruction's terms say is what the machine does: where its conditions are true it is carried out, and the other way.
use Rattle.std.proofs.Common.{◌≡◌, ℕ, ◌+◌, ◌%◌, ◌^◌, ◌<◌, Bool, true, false, cond, not, ◌↔◌, ℤ, IsTrue, Option, Some, None, is_some, List, [], ◌∷◌, Contains, refl, sym, ap, ◌∙◌, arith}
use Rattle.std.proofs.Math.Nat.{mod-lt}
use Rattle.std.proofs.lemmas.Nat.{pow_pos}
use Rattle.rv_words.specs.Operation.{operation_value, comparison_holds, word_of}
use Rattle.rv_words.specs.Bytes.{away, Bytes, bytes_of, inside, load, store}
use Rattle.rv_words.specs.declared.width.Width.{Width}
use Rattle.rv_words.specs.declared.width.Width.TheVariants.{B1, B2, B4, B8}
use Rattle.rv_words.specs.declared.comparison.Cmp.{Cmp}
use Rattle.rv_decode.specs.declared.instruction.Instr.{Instr}
use Rattle.rv_decode.specs.declared.instruction.Instr.TheVariants as instr
use Rattle.rv_machine.specs.State.{State, with_register}
use Rattle.rv_machine.specs.Step as machine
use Rattle.rv_machine.specs.Step.{act, jump_target, next, only_if, plus, reads, upper, has}
use Rattle.rv_words.proofs.MemoryLemmas.{inside-all, store-present, store-same}
use Rattle.rv_machine.specs.Update as step
use Rattle.rv_machine.specs.Update.{is_possible, reg_after, updated}
use Rattle.rv_machine.proofs.StepLemmas.{act-is, act-some}
use Rattle.word_terms.specs.Tree.{WordTree, MemTree, Load}
use Rattle.word_terms.specs.Environment.{Environment}
use Rattle.word_terms.specs.Value.{word_value, mem_value}
use Rattle.sep_assert.specs.Code.{IsWithin}
use Rattle.triple_kernel.specs.declared.form.Form.{Form}
use Rattle.triple_kernel.specs.declared.form.Form.TheVariants.{Next, Taken}
use Rattle.rv_decode.specs.Registers.{destination}
use Rattle.instr_axioms.specs.Terms.{Names, word_in, sum, loaded, conditions, result, memory_after, pc_after, has_form}
use Rattle.instr_axioms.specs.Effects.{AreTrue, Fits, IsTouchedIn, GoesOn, IsAfter}
use Rattle.instr_axioms.proofs.Memories.{inside-within, load-within}

not_false : false ≡ true → ⊥
not_false e = cc

-- ---- what is written

load-value : (w : Width) (signed : Bool) (m : MemTree) (t : WordTree) (e : Environment) (bytes : Bytes) (a : ℕ)
    → load (bytes_of w) bytes a ≡ word_value (Load w m t) e → machine.loaded w signed bytes a ≡ word_value (loaded w signed m t) e
load-value B1 true m t e bytes a h = ap (λ x. machine.sign_extended B1 x) h
load-value B2 true m t e bytes a h = ap (λ x. machine.sign_extended B2 x) h
load-value B4 true m t e bytes a h = ap (λ x. machine.sign_extended B4 x) h
load-value B8 true m t e bytes a h = h
load-value w false m t e bytes a h = h

module _ (a : ℕ) (n : Names) (e : Environment) (s : State) where
  next_is : (k : ℕ) → s.pc ≡ a → next k s ≡ (a + k) % 2 ^ 64
  next_is k at = ap (λ p. (p + k) % 2 ^ 64) at

  first : (r : ℕ) (rs : List ℕ) → Contains (r ∷ rs) r
  first r rs = (0, omega arith, refl)

  second : (r q : ℕ) → Contains (r ∷ q ∷ []) q
  second r q = (1, omega arith, refl)

  -- the memory has all bytes that an access asks for
  has_all : (w : Width) (x y : ℕ) (imm : ℤ) → x ≡ y → IsWithin (mem_value n.memory e) s.mem → inside (bytes_of w) (mem_value n.memory e) (plus y imm) ≡ true → has w s.mem (plus x imm) ≡ true
  has_all w x y imm same within h = ap (λ z. has w s.mem (plus z imm)) same ∙ inside-within (bytes_of w) (mem_value n.memory e) s.mem (plus y imm) within h

  -- ---- where the conditions are true

  -- an instruction whose conditions are true in a form that it has is carried out
  pub possible : (i : Instr) (form : Form) → Fits i a n e s → has_form i form ≡ true → AreTrue (conditions i form n) e → is_possible i s ≡ true
  possible (instr.Op o rd rs1 rs2) form f h c = refl
  possible (instr.OpImm o rd rs1 imm) form f h c = refl
  possible (instr.Lui rd imm) form f h c = refl
  possible (instr.Auipc rd imm) form f h c = refl
  possible (instr.Jal rd offset) form f h c = refl
  possible (instr.Jalr rd rs1 imm) form f h c = refl
  possible (instr.Branch c rs1 rs2 offset) form f h k = refl
  possible (instr.Load w signed rd rs1 imm) form f h c = has_all w (reads rs1 s) (word_value (word_in n rs1) e) imm (f.word rs1 (first rs1 [])) (f.bytes refl) c.0
  possible (instr.Store w rs1 rs2 imm) form f h c = has_all w (reads rs1 s) (word_value (word_in n rs1) e) imm (f.word rs1 (first rs1 (rs2 ∷ []))) (f.bytes refl) c.0
  possible (instr.Fence imm rs1 rd) form f h c = refl
  possible instr.Ecall form f h c = absurd (not_false h)
  possible instr.Ebreak form f h c = absurd (not_false h)

  to_next : (t u : Bool) (x y z : ℕ) → t ≡ u → IsTrue (not u) → y ≡ z → cond t x y ≡ z
  to_next true true x y z same h k = absurd (not_false h)
  to_next true false x y z same h k = absurd (not_false (sym same))
  to_next false u x y z same h k = k

  to_target : (t u : Bool) (x y z : ℕ) → t ≡ u → IsTrue u → x ≡ z → cond t x y ≡ z
  to_target true u x y z same h k = k
  to_target false true x y z same h k = absurd (not_false same)
  to_target false false x y z same h k = absurd (not_false h)

  -- .. and goes where its term says
  pub goes : (k : ℕ) (i : Instr) (form : Form) → Fits i a n e s → has_form i form ≡ true → AreTrue (conditions i form n) e → step.pc_after i k s ≡ word_value (pc_after i form a k n) e
  goes k (instr.Op o rd rs1 rs2) form f h c = next_is k f.pc
  goes k (instr.OpImm o rd rs1 imm) form f h c = next_is k f.pc
  goes k (instr.Lui rd imm) form f h c = next_is k f.pc
  goes k (instr.Auipc rd imm) form f h c = next_is k f.pc
  goes k (instr.Jal rd offset) form f h c = ap (λ p. plus p offset) f.pc
  goes k (instr.Jalr rd rs1 imm) form f h c = ap (λ x. jump_target x imm) (f.word rs1 (first rs1 []))
  goes k (instr.Branch c rs1 rs2 offset) Next f h t =
      let one = f.word rs1 (first rs1 (rs2 ∷ [])) in
      let two = f.word rs2 (second rs1 rs2) in
      to_next (comparison_holds c (reads rs1 s) (reads rs2 s)) (comparison_holds c (word_value (word_in n rs1) e) (word_value (word_in n rs2) e)) _ _ _
      (λ i. comparison_holds c (one i) (two i)) t.0 (next_is k f.pc)
  goes k (instr.Branch c rs1 rs2 offset) Taken f h t =
      let one = f.word rs1 (first rs1 (rs2 ∷ [])) in
      let two = f.word rs2 (second rs1 rs2) in
      to_target (comparison_holds c (reads rs1 s) (reads rs2 s)) (comparison_holds c (word_value (word_in n rs1) e) (word_value (word_in n rs2) e)) _ _ _
      (λ i. comparison_holds c (one i) (two i)) t.0 (ap (λ p. plus p offset) f.pc)
  goes k (instr.Load w signed rd rs1 imm) form f h c = next_is k f.pc
  goes k (instr.Store w rs1 rs2 imm) form f h c = next_is k f.pc
  goes k (instr.Fence imm rs1 rd) form f h c = next_is k f.pc
  goes k instr.Ecall form f h c = absurd (not_false h)
  goes k instr.Ebreak form f h c = absurd (not_false h)

  -- what a load gives
  gives : (w : Width) (signed : Bool) (x : ℕ) (rs1 : ℕ) (imm : ℤ) → x ≡ word_value (word_in n rs1) e → IsWithin (mem_value n.memory e) s.mem
      → inside (bytes_of w) (mem_value n.memory e) (plus (word_value (word_in n rs1) e) imm) ≡ true
      → machine.loaded w signed s.mem (plus x imm) ≡ word_value (loaded w signed n.memory (sum n rs1 imm)) e
  gives w signed x rs1 imm same within h =
      ap (λ z. machine.loaded w signed s.mem (plus z imm)) same
      ∙ load-value w signed n.memory (sum n rs1 imm) e s.mem (plus (word_value (word_in n rs1) e) imm)
      (load-within (bytes_of w) (mem_value n.memory e) s.mem (plus (word_value (word_in n rs1) e) imm) within h)

  -- .. and writes what its term says to its destination
  pub writes : (k : ℕ) (i : Instr) (form : Form) → Fits i a n e s → has_form i form ≡ true → AreTrue (conditions i form n) e → reg_after i k s ≡ with_register (destination i) (word_value (result i a k n) e) s.reg
  writes k (instr.Op o rd rs1 rs2) form f h c =
      let one = f.word rs1 (first rs1 (rs2 ∷ [])) in
      let two = f.word rs2 (second rs1 rs2) in
      λ i. with_register rd (operation_value o (one i) (two i)) s.reg
  writes k (instr.OpImm o rd rs1 imm) form f h c = let one = f.word rs1 (first rs1 []) in λ i. with_register rd (operation_value o (one i) (word_of imm)) s.reg
  writes k (instr.Lui rd imm) form f h c = refl
  writes k (instr.Auipc rd imm) form f h c = ap (λ p. with_register rd ((p + upper imm) % 2 ^ 64) s.reg) f.pc
  writes k (instr.Jal rd offset) form f h c = ap (λ p. with_register rd p s.reg) (next_is k f.pc)
  writes k (instr.Jalr rd rs1 imm) form f h c = ap (λ p. with_register rd p s.reg) (next_is k f.pc)
  writes k (instr.Branch c rs1 rs2 offset) form f h t = refl
  writes k (instr.Load w signed rd rs1 imm) form f h c =
      ap (λ x. with_register rd x s.reg) (gives w signed (reads rs1 s) rs1 imm (f.word rs1 (first rs1 [])) (f.bytes refl) c.0)
  writes k (instr.Store w rs1 rs2 imm) form f h c = refl
  writes k (instr.Fence imm rs1 rd) form f h c = refl
  writes k instr.Ecall form f h c = refl
  writes k instr.Ebreak form f h c = refl

-- ---- the other way: what a step that exists says of the conditions

module _ (a : ℕ) (n : Names) (e : Environment) (s : State) where
  -- an access whose bytes are all in the memory
  all_inside : (w : Width) (x y : ℕ) (imm : ℤ) → x ≡ y → ((q : ℕ) → (k : ℕ) × (k < bytes_of w) × (q ≡ (plus x imm + k) % 2 ^ 64) → is_some (mem_value n.memory e q) ≡ true)
      → inside (bytes_of w) (mem_value n.memory e) (plus y imm) ≡ true
  all_inside w x y imm same there =
      ap (λ z. inside (bytes_of w) (mem_value n.memory e) (plus z imm)) (sym same)
      ∙ (inside-all (bytes_of w) (mem_value n.memory e) (plus x imm) (mod-lt (x + word_of imm) (pow_pos 64))).1 (λ k l. there (away (plus x imm) k) (k, l, refl))

  branch_either : (c : Cmp) (rs1 rs2 : ℕ) (offset : ℤ) (t : Bool) → t ≡ comparison_holds c (word_value (word_in n rs1) e) (word_value (word_in n rs2) e) → GoesOn (instr.Branch c rs1 rs2 offset) n e
  branch_either c rs1 rs2 offset true is = record { form = Taken; has = refl; conditions = (sym is, tt) }
  branch_either c rs1 rs2 offset false is = record { form = Next; has = refl; conditions = (ap not (sym is), tt) }

  pub goes_on : (i : Instr) → Fits i a n e s → IsTouchedIn i s (mem_value n.memory e) → is_possible i s ≡ true → GoesOn i n e
  goes_on (instr.Op o rd rs1 rs2) f t h = record { form = Next; has = refl; conditions = tt }
  goes_on (instr.OpImm o rd rs1 imm) f t h = record { form = Next; has = refl; conditions = tt }
  goes_on (instr.Lui rd imm) f t h = record { form = Next; has = refl; conditions = tt }
  goes_on (instr.Auipc rd imm) f t h = record { form = Next; has = refl; conditions = tt }
  goes_on (instr.Jal rd offset) f t h = record { form = Next; has = refl; conditions = tt }
  goes_on (instr.Jalr rd rs1 imm) f t h = record { form = Next; has = refl; conditions = tt }
  goes_on (instr.Branch c rs1 rs2 offset) f t h =
      let one = f.word rs1 (0, omega arith, refl) in
      let two = f.word rs2 (1, omega arith, refl) in
      branch_either c rs1 rs2 offset (comparison_holds c (reads rs1 s) (reads rs2 s)) (λ i. comparison_holds c (one i) (two i))
  goes_on (instr.Load w signed rd rs1 imm) f t h = record { form = Next; has = refl; conditions = (all_inside w (reads rs1 s) (word_value (word_in n rs1) e) imm (f.word rs1 (0, omega arith, refl)) t, tt) }
  goes_on (instr.Store w rs1 rs2 imm) f t h = record { form = Next; has = refl; conditions = (all_inside w (reads rs1 s) (word_value (word_in n rs1) e) imm (f.word rs1 (0, omega arith, refl)) t, tt) }
  goes_on (instr.Fence imm rs1 rd) f t h = record { form = Next; has = refl; conditions = tt }
  goes_on instr.Ecall f t h = absurd (not_false h)
  goes_on instr.Ebreak f t h = absurd (not_false h)

  after_form : (k : ℕ) (i : Instr) (u : State) → Fits i a n e s → GoesOn i n e → u ≡ updated i k s → IsAfter i a k n e s u
  after_form k i u f g same = record {
    on = g;
    pc = ap (λ (x : State). x.pc) same ∙ goes a n e s k i g.form f g.has g.conditions;
    reg = ap (λ (x : State). x.reg) same ∙ writes a n e s k i g.form f g.has g.conditions;
    mem = ap (λ (x : State). x.mem) same;
  }

  form_after : (k : ℕ) (i : Instr) (u : State) → Fits i a n e s → IsAfter i a k n e s u → act i k s ≡ Some u
  form_after k i u f is =
      let g = is.on in
      let pc = is.pc ∙ sym (goes a n e s k i g.form f g.has g.conditions) in
      let reg = is.reg ∙ sym (writes a n e s k i g.form f g.has g.conditions) in
      act-is i k s ∙ ap (λ b. only_if b (updated i k s)) (possible a n e s i g.form f g.has g.conditions)
      ∙ ap Some (λ j. record { pc = sym pc j; reg = sym reg j; mem = sym is.mem j })

  -- An instruction is carried out exactly where its conditions are true in a form that it has, and then does what its terms
  -- say. The converse wants that the named memory has what the instruction touches.
  pub act-terms : (k : ℕ) (i : Instr) (u : State) → Fits i a n e s → IsTouchedIn i s (mem_value n.memory e) → (act i k s ≡ Some u) ↔ IsAfter i a k n e s u
  act-terms k i u f t = (
    λ h. let done = act-some i k s u h in after_form k i u f (goes_on i f t done.0) done.1,
    form_after k i u f,
  )

-- ---- a memory cut down to a region

abbrev pub cut : (ℕ → Bool) → Bytes → Bytes
cut region m q = cond (region q) (m q) None

cut_none : (o : Option ℕ) → is_some o ≡ false → o ≡ None
cut_none None h = refl
cut_none (Some b) h = absurd (cc)

-- a store in the region's bytes is the region's bytes of the store
pub cut-store : (region : ℕ → Bool) (k : ℕ) (m : Bytes) (x v q : ℕ) → store k (cut region m) x v q ≡ cut region (store k m x v) q
cut-store region k m x v q = at (region q) refl
  where
    at : (t : Bool) → region q ≡ t → store k (cut region m) x v q ≡ cut region (store k m x v) q
    at true is = store-same k (cut region m) m x v q (λ i. cond (is i) (m q) None) ∙ (λ i. cond (sym is i) (store k m x v q) None)
    at false is =
        cut_none (store k (cut region m) x v q) (store-present k (cut region m) x v q ∙ (λ i. is_some (cond (is i) (m q) None)))
        ∙ (λ i. cond (sym is i) (store k m x v q) None)

cut_part : (t : Bool) (o : Option ℕ) (b : ℕ) → cond t o None ≡ Some b → o ≡ Some b
cut_part true o b h = h
cut_part false o b h = absurd (cc)

pub cut-within : (region : ℕ → Bool) (m : Bytes) → IsWithin (cut region m) m
cut-within region m q b h = cut_part (region q) (m q) b h

-- the named memory goes on being the region's bytes of the state
pub memory-cut : (region : ℕ → Bool) (a : ℕ) (n : Names) (e : Environment) (s : State) (i : Instr) → Fits i a n e s → ((q : ℕ) → mem_value n.memory e q ≡ cut region s.mem q)
    → (q : ℕ) → mem_value (memory_after i n) e q ≡ cut region (step.mem_after i s) q
memory-cut region a n e s (instr.Op o rd rs1 rs2) f h q = h q
memory-cut region a n e s (instr.OpImm o rd rs1 imm) f h q = h q
memory-cut region a n e s (instr.Lui rd imm) f h q = h q
memory-cut region a n e s (instr.Auipc rd imm) f h q = h q
memory-cut region a n e s (instr.Jal rd offset) f h q = h q
memory-cut region a n e s (instr.Jalr rd rs1 imm) f h q = h q
memory-cut region a n e s (instr.Branch c rs1 rs2 offset) f h q = h q
memory-cut region a n e s (instr.Load w signed rd rs1 imm) f h q = h q
memory-cut region a n e s (instr.Store w rs1 rs2 imm) f h q =
    let one = sym (f.word rs1 (0, omega arith, refl)) in
    let two = sym (f.word rs2 (1, omega arith, refl)) in
    (λ i. store (bytes_of w) (λ x. h x i) (plus (one i) imm) (two i) q) ∙ cut-store region (bytes_of w) s.mem (plus (reads rs1 s) imm) (reads rs2 s) q
memory-cut region a n e s (instr.Fence imm rs1 rd) f h q = h q
memory-cut region a n e s instr.Ecall f h q = h q
memory-cut region a n e s instr.Ebreak f h q = h q

-- ---- the form is determined

contrary : (b : Bool) → IsTrue (not b) → IsTrue b → ⊥
contrary true h k = not_false h
contrary false h k = not_false k

not_both : (i : Instr) (n : Names) (e : Environment) → has_form i Taken ≡ true → AreTrue (conditions i Next n) e → AreTrue (conditions i Taken n) e → ⊥
not_both (instr.Op o rd rs1 rs2) n e h p q = not_false h
not_both (instr.OpImm o rd rs1 imm) n e h p q = not_false h
not_both (instr.Lui rd imm) n e h p q = not_false h
not_both (instr.Auipc rd imm) n e h p q = not_false h
not_both (instr.Jal rd offset) n e h p q = not_false h
not_both (instr.Jalr rd rs1 imm) n e h p q = not_false h
not_both (instr.Branch c rs1 rs2 offset) n e h p q = contrary (comparison_holds c (word_value (word_in n rs1) e) (word_value (word_in n rs2) e)) p.0 q.0
not_both (instr.Load w signed rd rs1 imm) n e h p q = not_false h
not_both (instr.Store w rs1 rs2 imm) n e h p q = not_false h
not_both (instr.Fence imm rs1 rd) n e h p q = not_false h
not_both instr.Ecall n e h p q = not_false h
not_both instr.Ebreak n e h p q = not_false h

-- at most one form that an instruction has has true conditions
pub one_form : (i : Instr) (f g : Form) (n : Names) (e : Environment) → has_form i f ≡ true → has_form i g ≡ true → AreTrue (conditions i f n) e → AreTrue (conditions i g n) e → f ≡ g
one_form i Next Next n e h k p q = refl
one_form i Taken Taken n e h k p q = refl
one_form i Next Taken n e h k p q = absurd (not_both i n e k p q)
one_form i Taken Next n e h k p q = absurd (not_both i n e h q p)

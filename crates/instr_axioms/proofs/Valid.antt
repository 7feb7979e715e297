-- The triple of an instruction is valid: one step leads from a state in which `pre` holds to one in which `post` does.
use Rattle.std.proofs.Common.{◌≡◌, ℕ, suc, ◌+◌, ◌^◌, ◌<◌, ◌≤◌, Bool, true, false, cond, eqb, eqb-true, Option, Some, None, List, [], ◌∷◌, get_or, map, Contains, refl, sym, ap, ◌∙◌, arith}
use Rattle.std.proofs.lemmas.Bool.{eqb-false}
use Rattle.std.specs.Option.{option_and_then}
use Rattle.rvc.specs.Number.{bytes_of as bytes_of_number, instruction_of, length_of, number_at}
use Rattle.rvc.proofs.NumberLemmas.{instruction-small}
use Rattle.rv_words.specs.Bytes.{Bytes, bytes_from, bytes_of, inside, store}
use Rattle.rv_decode.specs.declared.instruction.Instr.{Instr}
use Rattle.rv_decode.specs.declared.instruction.Instr.TheVariants as instr
use Rattle.rv_machine.specs.State.{State, with_register}
use Rattle.rv_machine.specs.Step.{is_even, instruction_at, length_at, only_if, plus, step}
use Rattle.rv_machine.specs.Run.{run}
use Rattle.rv_machine.specs.Update as machine
use Rattle.rv_machine.specs.Update.{is_possible, reg_after, updated}
use Rattle.rv_machine.proofs.StepLemmas.{act-is, act-step, instruction_at-is, length_at-is}
use Rattle.rv_words.proofs.MemoryLemmas.{store-same}
use Rattle.word_terms.specs.Tree.{WordTree, CondTree, Const}
use Rattle.word_terms.specs.Environment.{Environment}
use Rattle.word_terms.specs.Value.{word_value, mem_value}
use Rattle.rv_words.specs.declared.range.Range.{Range}
use Rattle.tailrec_lang.specs.Tree.{GroupTree}
use Rattle.rv_words.specs.Ranges.{range_bytes}
use Rattle.sep_assert.specs.Code.{IsWithin}
use Rattle.sep_assert.specs.Part.{Pc, Register, Byte, Key, Part, Slot, Free, Has, Clash, both, ◌⊕◌, slot_of, code_part, part_of}
use Rattle.triple_kernel.specs.Tree.{So}
use Rattle.triple_kernel.specs.Fact.{AllHold}
use Rattle.triple_kernel.specs.Valid.{Valid, is_register, state_part}
use Rattle.triple_kernel.specs.declared.form.Form.{Form}
use Rattle.rv_decode.specs.Registers.{sources, destination}
use Rattle.instr_axioms.specs.Terms.{Names, has_memory, word_in, conditions, result, word_after, memory_after, has_form}
use Rattle.instr_axioms.specs.Axiom.{triple_over}
use Rattle.sep_assert.proofs.Keys.{both_free, has_same, part-pc, part-register, part-byte}
use Rattle.instr_axioms.proofs.Parts.{slot_in, registers-slot, Times, never, once, twice, times, not_free, memory_slot, memory-slot}
use Rattle.instr_axioms.proofs.Memories.{has-number, store-outside}
use Rattle.instr_axioms.specs.Effects.{AreTrue, Fits}
use Rattle.instr_axioms.proofs.Effects.{possible, goes, writes}

-- ---- facts

has_more : {A : Type 0} (x y : A) (ys : List A) → Contains ys y → Contains (x ∷ ys) y
has_more x y ys c = (suc c.0, omega (arith, c.1), c.2)

pub are-true : (g : GroupTree) (e : Environment) (cs : List CondTree) → AllHold g e (map So cs) → AreTrue cs e
are-true g e [] h = tt
are-true g e (c ∷ cs) h = (h (So c) (0, omega arith, refl), are-true g e cs (λ f k. h f (has_more (So c) f (map So cs) k)))

-- ---- one step

run_one : (s u : State) → step s ≡ Some u → run s 1 ≡ Some u
unfolding run
run_one s u e = ap (option_and_then (λ t. Some t)) e

-- the instruction at a step's address, where it is possible
step_to : (i : Instr) (a w : ℕ) (s : State) → s.pc ≡ a → is_even a ≡ true → instruction_of w ≡ Some i → number_at s.mem a ≡ Some w → is_possible i s ≡ true → step s ≡ Some (updated i (length_of w) s)
step_to i a w s at even is number can =
    let there : number_at s.mem s.pc ≡ Some w = ap (number_at s.mem) at ∙ number in
    let here : instruction_at s ≡ Some i = (instruction_at-is i s).1 (w, ap is_even at ∙ even, there, is) in
    let long : length_at s ≡ length_of w = length_at-is s w there in
    act-step i s here ∙ act-is i (length_at s) s ∙ ap (λ b. only_if b (updated i (length_at s) s)) can ∙ (λ j. Some (updated i (long j) s))

-- ---- what a state says of its parts, key by key

kept_clash : (b : Bool) (n : ℕ) → cond b (Has n) Free ≡ Clash → ⊥
kept_clash true n e = cc
kept_clash false n e = cc

byte_clash : (o : Option ℕ) → slot_of o ≡ Clash → ⊥
byte_clash None e = cc
byte_clash (Some b) e = cc

no_state : (x y : Slot) → x ≡ both Clash y → (x ≡ Clash → ⊥) → ⊥
no_state x y e h = h e

-- a register that a part has
pub record IsHeld (b : Bool) (n x : ℕ) (rest : Slot) : Type 0 where
  pub register : b ≡ true
  pub value : n ≡ x
  pub free : rest ≡ Free

held : (b : Bool) (n x : ℕ) (rest : Slot) → cond b (Has n) Free ≡ both (Has x) rest → IsHeld b n x rest
held true n x Free e = record { register = refl; value = has_same n x e; free = refl }
held true n x (Has m) e = absurd (cc)
held true n x Clash e = absurd (cc)
held false n x Free e = absurd (cc)
held false n x (Has m) e = absurd (cc)
held false n x Clash e = absurd (cc)

-- a byte that a part has
byte_held : (o : Option ℕ) (b : ℕ) (rest : Slot) → slot_of o ≡ both (Has b) rest → (o ≡ Some b) × (rest ≡ Free)
byte_held None b Free e = absurd (cc)
byte_held None b (Has m) e = absurd (cc)
byte_held None b Clash e = absurd (cc)
byte_held (Some c) b Free e = (ap Some (has_same c b e), refl)
byte_held (Some c) b (Has m) e = absurd (cc)
byte_held (Some c) b Clash e = absurd (cc)

code_held : (o : Option ℕ) (b : ℕ) (x rest : Slot) → slot_of o ≡ both x (both (Has b) rest) → o ≡ Some b
code_held o b Free rest e = (byte_held o b rest e).0
code_held o b (Has m) Free e = absurd (byte_clash o e)
code_held o b (Has m) (Has k) e = absurd (byte_clash o e)
code_held o b (Has m) Clash e = absurd (byte_clash o e)
code_held o b Clash rest e = absurd (byte_clash o e)

-- ---- registers

-- a written register by its two tests
by_tests : (zero same : Bool) (x y : ℕ) (t r : WordTree) (e : Environment) → (zero ≡ true → same ≡ false) → x ≡ word_value t e → y ≡ word_value r e
    → cond zero y (cond same x y) ≡ word_value (cond same t r) e
by_tests true true x y t r e h p q = absurd (let f = h refl in cc)
by_tests true false x y t r e h p q = q
by_tests false true x y t r e h p q = p
by_tests false false x y t r e h p q = q

not_written : (zero same : Bool) (x y : ℕ) → (zero ≡ false → same ≡ false) → cond zero y (cond same x y) ≡ y
not_written true same x y h = refl
not_written false true x y h = absurd (let f = h refl in cc)
not_written false false x y h = refl

false_if : (t : Bool) → (t ≡ true → ⊥) → t ≡ false
false_if true h = absurd (h refl)
false_if false h = refl

read_value : (zero : Bool) (x : ℕ) (t : WordTree) (e : Environment) → (zero ≡ false → x ≡ word_value t e) → cond zero 0 x ≡ word_value (cond zero (Const 0) t) e
read_value true x t e h = refl
read_value false x t e h = h refl

no_zero : (q : ℕ) → is_register q ≡ true → q ≡ 0 → ⊥
no_zero q h z = zero_is (ap is_register (sym z) ∙ h)
  where
    zero_is : is_register 0 ≡ true → ⊥
    zero_is e = cc

-- ---- memory

stored : (k : ℕ) (part all : Bytes) (x v q : ℕ) (others : Slot) → inside k part x ≡ true → slot_of (all q) ≡ both (slot_of (part q)) others
    → slot_of (store k all x v q) ≡ both (slot_of (store k part x v q)) others
stored k part all x v q others there e = at (part q) refl e
  where
    at : (o : Option ℕ) → part q ≡ o → slot_of (all q) ≡ both (slot_of o) others → slot_of (store k all x v q) ≡ both (slot_of (store k part x v q)) others
    at None none e =
        let mine = store-outside k part part x v q there none ∙ none in
        ap slot_of (store-outside k part all x v q there none) ∙ e ∙ (λ i. both (slot_of (sym mine i)) others)
    at (Some b) some e =
        let is = byte_held (all q) b others e in
        let same = store-same k all part x v q (is.0 ∙ sym some) in
        ap slot_of same ∙ sym (both_free (slot_of (store k part x v q))) ∙ (λ i. both (slot_of (store k part x v q)) (sym is.1 i))

-- ---- the law

-- the instruction stands at a as the parcel or word w in code, and its registers and its memory are among those
pub record StandsIn (i : Instr) (a w : ℕ) (code : List Range) (regs : List ℕ) (mem : Bool) : Type 0 where
  pub small : a < 2 ^ 64
  pub even : is_even a ≡ true
  pub room : a + length_of w ≤ 2 ^ 64
  pub word : w < 2 ^ 32
  pub is : instruction_of w ≡ Some i
  pub bytes : IsWithin (bytes_from a (bytes_of_number w)) (range_bytes code)
  pub reads : (r : ℕ) → Contains (sources i) r → (r ≡ 0 → ⊥) → Contains regs r
  pub writes : (destination i ≡ 0 → ⊥) → Contains regs (destination i)
  pub memory : has_memory i ≡ true → mem ≡ true

module _ (i : Instr) (form : Form) (a w : ℕ) (code : List Range) (regs : List ℕ) (mem : Bool) (n : Names) (h : StandsIn i a w code regs mem) (has : has_form i form ≡ true) where
  module _ (e : Environment) (s : State) (rest : Part) (whole : state_part s ≡ part_of (triple_over i form a (length_of w) code regs mem n).pre e ⊕ (code_part code ⊕ rest)) where
    at_pc : Has s.pc ≡ both (Has a) (rest Pc)
    at_pc = (λ j. whole j Pc) ∙ (λ j. both (part-pc (triple_over i form a (length_of w) code regs mem n).pre e j) (rest Pc))

    at_register : (q : ℕ) → cond (is_register q) (Has (s.reg q)) Free ≡ both (slot_in regs q (word_value (n.word q) e)) (rest (Register q))
    at_register q =
        let part = part-register (triple_over i form a (length_of w) code regs mem n).pre e q ∙ registers-slot e n.word regs q in
        (λ j. whole j (Register q)) ∙ (λ j. both (part j) (rest (Register q)))

    at_byte : (q : ℕ) → slot_of (s.mem q) ≡ both (memory_slot mem (mem_value n.memory e q)) (both (slot_of (range_bytes code q)) (rest (Byte q)))
    at_byte q =
        let part = part-byte (triple_over i form a (length_of w) code regs mem n).pre e q ∙ memory-slot mem n.memory e q in
        (λ j. whole j (Byte q)) ∙ (λ j. both (part j) (both (slot_of (range_bytes code q)) (rest (Byte q))))

    pc_held : IsHeld true s.pc a (rest Pc)
    pc_held = held true s.pc a (rest Pc) at_pc

    -- a register of the precondition
    register_held : (q x : ℕ) → slot_in regs q (word_value (n.word q) e) ≡ Has x → IsHeld (is_register q) (s.reg q) x (rest (Register q))
    register_held q x is = held (is_register q) (s.reg q) x (rest (Register q)) (at_register q ∙ (λ j. both (is j) (rest (Register q))))

    not_twice : (q : ℕ) → slot_in regs q (word_value (n.word q) e) ≡ Clash → ⊥
    not_twice q is = kept_clash (is_register q) (s.reg q) (at_register q ∙ (λ j. both (is j) (rest (Register q))))

    reads_word : (q : ℕ) → Contains regs q → Times regs q → s.reg q ≡ word_value (n.word q) e
    reads_word q c (never is) = absurd (not_free regs q (word_value (n.word q) e) c.0 c.1 c.2 (is _))
    reads_word q c (once is) = (register_held q (word_value (n.word q) e) (is _)).value
    reads_word q c (twice is) = absurd (not_twice q (is _))

    in_memory : mem ≡ true → IsWithin (mem_value n.memory e) s.mem
    in_memory there q b is =
        (byte_held (s.mem q) b (both (slot_of (range_bytes code q)) (rest (Byte q)))
        (at_byte q ∙ (λ j. both (cond (there j) (slot_of (is j)) Free) (both (slot_of (range_bytes code q)) (rest (Byte q)))))).0

    code_there : IsWithin (bytes_from a (bytes_of_number w)) s.mem
    code_there q b is =
        let c = h.bytes q b is in
        code_held (s.mem q) b (memory_slot mem (mem_value n.memory e q)) (rest (Byte q))
        (at_byte q ∙ (λ j. both (memory_slot mem (mem_value n.memory e q)) (both (slot_of (c j)) (rest (Byte q)))))

    fits : Fits i a n e s
    fits = record {
      pc = pc_held.value;
      word = λ r c. read_value (eqb r 0) (s.reg r) (n.word r) e (λ k. reads_word r (h.reads r c (eqb-false r 0 k)) (times regs r));
      bytes = λ k. in_memory (h.memory k);
    }

    -- ---- after the step
    module _ (c : AreTrue (conditions i form n) e) where
      steps : step s ≡ Some (updated i (length_of w) s)
      steps = step_to i a w s pc_held.value h.even h.is (has-number s.mem a w h.room h.word (instruction-small w i h.is) code_there) (possible a n e s i form fits has c)

      after_pc : Has (machine.pc_after i (length_of w) s) ≡ both (part_of (triple_over i form a (length_of w) code regs mem n).post e Pc) (rest Pc)
      after_pc =
          let part = part-pc (triple_over i form a (length_of w) code regs mem n).post e in
          ap Has (goes a n e s (length_of w) i form fits has c) ∙ (λ j. both (sym part j) (sym pc_held.free j))

      written : (q : ℕ) → Times regs q
          → cond (is_register q) (Has (with_register (destination i) (word_value (result i a (length_of w) n) e) s.reg q)) Free ≡ both (slot_in regs q (word_value (word_after i a (length_of w) n q) e)) (rest (Register q))
      written q (never is) =
          let other = λ (k : eqb (destination i) 0 ≡ false). false_if (eqb q (destination i)) (λ same.
          let there = h.writes (eqb-false (destination i) 0 k) in
          not_free regs q 0 there.0 there.1 (missing q (destination i) there.0 (eqb-true q (destination i) same) there.2) (is 0)) in
          ap (λ x. cond (is_register q) (Has x) Free) (not_written (eqb (destination i) 0) (eqb q (destination i)) (word_value (result i a (length_of w) n) e) (s.reg q) other)
          ∙ at_register q ∙ (λ j. both (is (word_value (n.word q) e) j) (rest (Register q))) ∙ (λ j. both (sym (is (word_value (word_after i a (length_of w) n q) e)) j) (rest (Register q)))
        where
          missing : (x d k : ℕ) → x ≡ d → get_or regs k d ≡ d → get_or regs k x ≡ x
          missing x d k same there = (λ j. get_or regs k (same j)) ∙ there ∙ sym same
      written q (once is) =
          let k = register_held q (word_value (n.word q) e) (is _) in
          let other = λ (z : eqb (destination i) 0 ≡ true). false_if (eqb q (destination i)) (λ same. no_zero q k.register (eqb-true q (destination i) same ∙ eqb-true (destination i) 0 z)) in
          let value = by_tests (eqb (destination i) 0) (eqb q (destination i)) (word_value (result i a (length_of w) n) e) (s.reg q) (result i a (length_of w) n) (n.word q) e other refl k.value in
          (λ j. cond (k.register j) (Has (value j)) Free) ∙ (λ j. both (sym (is (word_value (word_after i a (length_of w) n q) e)) j) (sym k.free j))
      written q (twice is) = absurd (not_twice q (is _))

      after_register : (q : ℕ) → cond (is_register q) (Has (reg_after i (length_of w) s q)) Free ≡ both (part_of (triple_over i form a (length_of w) code regs mem n).post e (Register q)) (rest (Register q))
      after_register q =
          let part = part-register (triple_over i form a (length_of w) code regs mem n).post e q ∙ registers-slot e (word_after i a (length_of w) n) regs q in
          ap (λ (f : ℕ → ℕ). cond (is_register q) (Has (f q)) Free) (writes a n e s (length_of w) i form fits has c) ∙ written q (times regs q) ∙ (λ j. both (sym part j) (rest (Register q)))

      memory_after-slot : (j : Instr) (q : ℕ) (others : Slot) → Fits j a n e s → AreTrue (conditions j form n) e → (has_memory j ≡ true → mem ≡ true)
          → slot_of (s.mem q) ≡ both (memory_slot mem (mem_value n.memory e q)) others
          → slot_of (machine.mem_after j s q) ≡ both (memory_slot mem (mem_value (memory_after j n) e q)) others
      memory_after-slot (instr.Op o rd rs1 rs2) q others f k there before = before
      memory_after-slot (instr.OpImm o rd rs1 imm) q others f k there before = before
      memory_after-slot (instr.Lui rd imm) q others f k there before = before
      memory_after-slot (instr.Auipc rd imm) q others f k there before = before
      memory_after-slot (instr.Jal rd offset) q others f k there before = before
      memory_after-slot (instr.Jalr rd rs1 imm) q others f k there before = before
      memory_after-slot (instr.Branch d rs1 rs2 offset) q others f k there before = before
      memory_after-slot (instr.Load width signed rd rs1 imm) q others f k there before = before
      memory_after-slot (instr.Store width rs1 rs2 imm) q others f k there before =
          let one = f.word rs1 (0, omega arith, refl) in
          let two = f.word rs2 (1, omega arith, refl) in
          let t = there refl in
          let at = plus (word_value (word_in n rs1) e) imm in
          let mine = stored (bytes_of width) (mem_value n.memory e) s.mem at (word_value (word_in n rs2) e) q others k.0 (before ∙ (λ j. both (memory_slot (t j) (mem_value n.memory e q)) others)) in
          (λ j. slot_of (store (bytes_of width) s.mem (plus (one j) imm) (two j) q)) ∙ mine
          ∙ (λ j. both (memory_slot (sym t j) (store (bytes_of width) (mem_value n.memory e) at (word_value (word_in n rs2) e) q)) others)
      memory_after-slot (instr.Fence imm rs1 rd) q others f k there before = before
      memory_after-slot instr.Ecall q others f k there before = before
      memory_after-slot instr.Ebreak q others f k there before = before

      after_byte : (q : ℕ) → slot_of (machine.mem_after i s q) ≡ both (part_of (triple_over i form a (length_of w) code regs mem n).post e (Byte q)) (both (slot_of (range_bytes code q)) (rest (Byte q)))
      after_byte q =
          let part = part-byte (triple_over i form a (length_of w) code regs mem n).post e q ∙ memory-slot mem (memory_after i n) e q in
          memory_after-slot i q (both (slot_of (range_bytes code q)) (rest (Byte q))) fits c h.memory (at_byte q) ∙ (λ j. both (sym part j) (both (slot_of (range_bytes code q)) (rest (Byte q))))

      after : (k : Key) → state_part (updated i (length_of w) s) k ≡ (part_of (triple_over i form a (length_of w) code regs mem n).post e ⊕ (code_part code ⊕ rest)) k
      after Pc = after_pc
      after (Register q) = after_register q
      after (Byte q) = after_byte q

  -- the triple of the instruction is valid, over any registers and names, in any code in which it stands
  pub valid_over : (g : GroupTree) → Valid g (triple_over i form a (length_of w) code regs mem n)
  valid_over g = record {
    runs = λ e holds rest s whole.
        let c = are-true g e (conditions i form n) holds in
        (updated i (length_of w) s, record { steps = 1; ran = run_one s (updated i (length_of w) s) (steps e s rest whole c) }, λ j k. after e s rest whole c k j);
  }

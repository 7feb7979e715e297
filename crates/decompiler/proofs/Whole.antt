-- The machine's runs through a group's code, and that nothing is lost of them.
use Rattle.std.proofs.Common.{◌≡◌, ℕ, ◌+◌, ◌%◌, ◌<◌, Bool, true, false, cond, not, Option, Some, None, List, ◌++◌, map, length, IsTrue, refl, sym, ap, subst, ◌∙◌, arith}
use Rattle.std.specs.Prelude.{pos, ℤ, ◌^◌, AllPairs, IsSomeAnd, slice_get}
use Rattle.std.specs.Option.{option_or}
use Rattle.rvc.specs.Number.{bytes_of, length_of, number_at}
use Rattle.rvc.proofs.NumberLemmas.{instruction-small}
use Rattle.rv_words.specs.Bytes.{Bytes, over, bytes_from, away}
use Rattle.rv_decode.specs.declared.instruction.Instr.{Instr}
use Rattle.rv_decode.specs.declared.instruction.Instr.TheVariants as instr
use Rattle.rv_machine.specs.State.{State}
use Rattle.rv_machine.specs.Step.{act, instruction_at, is_even, length_at, plus, step}
use Rattle.rv_machine.specs.Touches.{IsTouched, touches}
use Rattle.rv_machine.proofs.StepLemmas.{act-step, touches-at, instruction_at-is, length_at-is}
use Rattle.word_terms.specs.Tree.{CondTree, Compare}
use Rattle.rv_words.specs.declared.range.Range.{Range}
use Rattle.word_terms.specs.Environment.{Environment}
use Rattle.word_terms.specs.Value.{word_value, cond_holds}
use Rattle.rv_words.specs.Ranges.{range_bytes}
use Rattle.sep_assert.specs.Code.{IsWithin}
use Rattle.tailrec_lang.specs.Tree.{GroupTree}
use Rattle.triple_kernel.specs.declared.form.Form.{Form}
use Rattle.triple_kernel.specs.declared.form.Form.TheVariants.{Next, Taken}
use Rattle.instr_axioms.specs.Terms.{has_memory, word_in, conditions, pc_after, has_form}
use Rattle.instr_axioms.specs.Effects.{AreTrue, IsAfter}
use Rattle.instr_axioms.proofs.Effects.{act-terms, cut}
use Rattle.instr_axioms.proofs.Memories.{has-number}
use Rattle.instr_axioms.proofs.Valid.{StandsIn}
use Rattle.code_parts.specs.Bodies.{Flow, VariableMap, size, Action, Straight, names, place_after, needs, writes, action_of, action_calling, action}
use Rattle.code_parts.specs.declared.callee.Callee.{Callee}
use Rattle.claims.specs.Headline.{Region, AreApart, is_within, held_in}
use Rattle.claims.specs.Headline as headline
use Rattle.rv_machine.specs.Run.{IsAtReturn}
use Rattle.claims.specs.LinkExact.{IsAtCall, after_instruction}
use Rattle.decompiler.proofs.Returns.{Steps, IsKept, kept-step, in-one}
use Rattle.decompiler.proofs.StateVariables.{Stands}
use Rattle.decompiler.proofs.BodyLemmas.{AllHold, after_steps, needs-hold, needs-after}
use Rattle.code_parts.proofs.Lists.{length-map}
use Rattle.code_parts.specs.Graph.{has_edge, is_jump_through, StandsAt, IsCode}
use Rattle.decompiler.proofs.PartLaw.{IsDone}
use Rattle.decompiler.proofs.Simulation.{region_of, in-region, held, fits, touched-in, written, only-next, regs_same}

pub same_instr : (i j : Instr) → Some i ≡ Some j → i ≡ j
same_instr i j e = cc

not_true : (b : Bool) → IsTrue (not b) → b ≡ false
not_true true h = absurd (let q : false ≡ true = h in cc)
not_true false h = refl

first_of : (x : Bytes) (a b : ℕ) → x a ≡ Some b → over x (λ q. None) a ≡ Some b
first_of x a b e = λ i. option_or (e i) None

-- a node's instruction stands in the code
pub stands-in : (f : Flow) (code : List Range) (n : ℕ) → StandsAt f code n → StandsIn (f.instr n) (f.addr n) (f.word n) code f.regs (has_memory (f.instr n))
stands-in f code n h = record {
  small = h.address;
  even = h.even;
  room = h.room;
  word = h.small;
  is = h.is;
  bytes = λ a b e. h.bytes a b (first_of (bytes_from (f.addr n) (bytes_of (f.word n))) a b e);
  reads = h.reads;
  writes = h.writes;
  memory = λ k. k;
}

-- the parcel or word whose bytes stand in code is there in each memory that has the code
pub fetched : (i : Instr) (a w : ℕ) (code : List Range) (regs : List ℕ) (mem : Bool) (s : State) → StandsIn i a w code regs mem → IsWithin (range_bytes code) s.mem → s.pc ≡ a
    → (instruction_at s ≡ Some i) × (length_at s ≡ length_of w)
fetched i a w code regs mem s h within at =
    let there = has-number s.mem a w h.room h.word (instruction-small w i h.is) (λ q b e. within q b (h.bytes q b e)) in
    let here : number_at s.mem s.pc ≡ Some w = ap (number_at s.mem) at ∙ there in
    ((instruction_at-is i s).1 (w, ap is_even at ∙ h.even, here, h.is), length_at-is s w here)

module _ (f : Flow) (regions : List Region) (count : length regions ≡ f.mems) (apart : AllPairs AreApart regions) (Uses : ℕ → ℕ → Type 0)
    (Calls : State → Type 0) (Good : State → Type 0) where
  abbrev IsActed : Action → VariableMap → Environment → State → State → Type 0
  IsActed = IsDone f State (λ s. s.pc) (held f regions count) after_instruction IsAtReturn Calls Good (Steps Uses regions)

  module _ (a w : ℕ) (code : List Range) (q : ℕ) (v : VariableMap) (e : Environment) (s u : State) (at : s.pc ≡ a) (is : Stands f v e (held f regions count s))
      (steps : step s ≡ Some u) (within : (x : ℕ) → IsTouched (touches s) x → region_of regions q x ≡ true) where
    -- the steps of an instruction that has one form
    one-form : (i : Instr) → StandsIn i a w code f.regs (has_memory i) → (has_memory i ≡ true → q < length regions) → has_form i Taken ≡ false → IsAfter i a (length_of w) (names v q) e s u
        → AllHold (needs i q v ++ writes i a (length_of w) q v) e × Stands f (place_after i q v) (after_steps (needs i q v ++ writes i a (length_of w) q v) e) (held f regions count u) × (u.pc ≡ word_value (pc_after i Next a (length_of w) (names v q)) e)
    one-form i there uses taken after =
        let form = only-next i taken after.on.form after.on.has in
        let true_conditions : AreTrue (conditions i Next (names v q)) e = subst (λ g. AreTrue (conditions i g (names v q)) e) form after.on.conditions in
        let wrote = written f regions count i a w code there q uses v e s is u after at steps apart within in (
          needs-hold (conditions i Next (names v q)) (writes i a (length_of w) q v) e true_conditions wrote.0,
          subst (λ d. Stands f (place_after i q v) d (held f regions count u)) (sym (needs-after (conditions i Next (names v q)) (writes i a (length_of w) q v) e)) wrote.1,
          after.pc ∙ (λ j. word_value (pc_after i (form j) a (length_of w) (names v q)) e),
        )

    -- an instruction that goes on to one node
    straight : (i : Instr) → StandsIn i a w code f.regs (has_memory i) → (has_memory i ≡ true → q < length regions) → has_form i Taken ≡ false → instruction_at s ≡ Some i → (i ≡ instr.Jalr 0 1 (pos 0) → ⊥)
        → (Calls s → ⊥) → IsAfter i a (length_of w) (names v q) e s u → (to : ℕ) → word_value (pc_after i Next a (length_of w) (names v q)) e ≡ f.addr to → IsActed (Straight (needs i q v ++ writes i a (length_of w) q v) (place_after i q v) to) v e s u
    straight i there uses taken fetch no_return no_call after to goes =
        let one = one-form i there uses taken after in
        (one.0, one.1, one.2 ∙ goes, (λ r. no_return (same_instr i (instr.Jalr 0 1 (pos 0)) (sym fetch ∙ r))), no_call)

    -- a call
    entered : (offset : ℤ) → StandsIn (instr.Jal 1 offset) a w code f.regs false → (c : Callee) (to : Form → ℕ) → c.entry ≡ plus a offset → f.addr (to Next) ≡ away a (length_of w) → length_at s ≡ length_of w
        → instruction_at s ≡ Some (instr.Jal 1 offset) → (IsAtCall s → Calls s) → IsAfter (instr.Jal 1 offset) a (length_of w) (names v q) e s u
        → IsActed (action_calling (Some c) (instr.Jal 1 offset) a (length_of w) q to v) v e s u
    entered offset there c to entry back long fetch calls after =
        let one = one-form (instr.Jal 1 offset) there (λ h. absurd (cc)) refl after in (
          one.0,
          one.1,
          one.2 ∙ sym entry,
          λ j. (at j + long j) % 2 ^ 64,
          sym back,
          calls (offset, fetch),
          λ r. (let z = same_instr (instr.Jal 1 offset) (instr.Jalr 0 1 (pos 0)) (sym fetch ∙ r) in cc),
        )

    -- what is left as it is, has the same values
    held-same : u.reg ≡ s.reg → u.mem ≡ s.mem → held f regions count u ≡ held f regions count s
    held-same r m = λ i. record { words = map (r i) f.regs; mems = map (λ x. cut x (m i)) regions }

    acted : (i : Instr) → StandsIn i a w code f.regs (has_memory i) → (has_memory i ≡ true → q < length regions) → (to : Form → ℕ) → ((form : Form) → has_edge i form ≡ true → word_value (pc_after i form a (length_of w) (names v q)) e ≡ f.addr (to form))
        → (is_jump_through i ≡ true → i ≡ instr.Jalr 0 1 (pos 0)) → (Calls s → ⊥) → instruction_at s ≡ Some i → IsAfter i a (length_of w) (names v q) e s u
        → IsActed (action_of i a (length_of w) q to v) v e s u
    acted (instr.Op o rd rs1 rs2) there uses to goes alone no_call fetch after = straight (instr.Op o rd rs1 rs2) there uses refl fetch (λ z. cc) no_call after (to Next) (goes Next refl)
    acted (instr.OpImm o rd rs1 imm) there uses to goes alone no_call fetch after = straight (instr.OpImm o rd rs1 imm) there uses refl fetch (λ z. cc) no_call after (to Next) (goes Next refl)
    acted (instr.Lui rd imm) there uses to goes alone no_call fetch after = straight (instr.Lui rd imm) there uses refl fetch (λ z. cc) no_call after (to Next) (goes Next refl)
    acted (instr.Auipc rd imm) there uses to goes alone no_call fetch after = straight (instr.Auipc rd imm) there uses refl fetch (λ z. cc) no_call after (to Next) (goes Next refl)
    acted (instr.Jal rd offset) there uses to goes alone no_call fetch after = straight (instr.Jal rd offset) there uses refl fetch (λ z. cc) no_call after (to Next) (goes Next refl)
    acted (instr.Load wd signed rd rs1 imm) there uses to goes alone no_call fetch after = straight (instr.Load wd signed rd rs1 imm) there uses refl fetch (λ z. cc) no_call after (to Next) (goes Next refl)
    acted (instr.Store wd rs1 rs2 imm) there uses to goes alone no_call fetch after = straight (instr.Store wd rs1 rs2 imm) there uses refl fetch (λ z. cc) no_call after (to Next) (goes Next refl)
    acted (instr.Fence imm rs1 rd) there uses to goes alone no_call fetch after = straight (instr.Fence imm rs1 rd) there uses refl fetch (λ z. cc) no_call after (to Next) (goes Next refl)
    acted instr.Ecall there uses to goes alone no_call fetch after = straight instr.Ecall there uses refl fetch (λ z. cc) no_call after (to Next) (goes Next refl)
    acted instr.Ebreak there uses to goes alone no_call fetch after = straight instr.Ebreak there uses refl fetch (λ z. cc) no_call after (to Next) (goes Next refl)
    acted (instr.Branch c rs1 rs2 offset) there uses to goes alone no_call fetch after = (
      held-same after.reg after.mem,
      after.pc ∙ by after.on.form after.on.conditions,
      λ r. (let q = same_instr (instr.Branch c rs1 rs2 offset) (instr.Jalr 0 1 (pos 0)) (sym fetch ∙ r) in cc),
      no_call,
    )
      where
        asked : CondTree
        asked = Compare c (word_in (names v q) rs1) (word_in (names v q) rs2)

        by : (form : Form) → AreTrue (conditions (instr.Branch c rs1 rs2 offset) form (names v q)) e → word_value (pc_after (instr.Branch c rs1 rs2 offset) form a (length_of w) (names v q)) e ≡ f.addr (cond (cond_holds (Compare c (word_in (names v q) rs1) (word_in (names v q) rs2)) e) (to Taken) (to Next))
        by Next k = goes Next refl ∙ (λ j. f.addr (cond (sym (not_true (cond_holds (Compare c (word_in (names v q) rs1) (word_in (names v q) rs2)) e) k.0) j) (to Taken) (to Next)))
        by Taken k = goes Taken refl ∙ (λ j. f.addr (cond (sym k.0 j) (to Taken) (to Next)))
    acted (instr.Jalr rd rs1 imm) there uses to goes alone no_call fetch after =
        let i = instr.Jalr rd rs1 imm in
        let form = only-next i refl after.on.form after.on.has in
        let true_conditions : AreTrue (conditions i Next (names v q)) e = subst (λ g. AreTrue (conditions i g (names v q)) e) form after.on.conditions in
        let zero_rd : rd ≡ 0 = (let q : instr.Jalr rd rs1 imm ≡ instr.Jalr 0 1 (pos 0) = alone refl in cc) in
        (true_conditions, sym (after.pc ∙ (λ j. word_value (pc_after i (form j) a (length_of w) (names v q)) e)), is.same ∙ sym (held-same (regs_same f regions count i a w code there q uses v e s is u after at steps apart within zero_rd) after.mem), fetch ∙ ap Some (alone refl), no_call)

-- ---- a node's instruction, where the code is held

module _ (f : Flow) (code : List Range) (has : IsCode f code) (regions : List Region) (count : length regions ≡ f.mems) (apart : AllPairs AreApart regions)
    (Uses : ℕ → ℕ → Type 0) (uses : (n : ℕ) → n < f.nodes → Uses (f.addr n) (f.uses n))
    (Calls : State → Type 0) (no_calls : (n : ℕ) (s : State) → n < f.nodes → f.callee n ≡ None → instruction_at s ≡ Some (f.instr n) → Calls s → ⊥)
    (calls : (n : ℕ) (c : Callee) (s : State) → n < f.nodes → f.callee n ≡ Some c → IsAtCall s → Calls s)
    (s0 : State) (holds : IsWithin (range_bytes code) s0.mem) (beside : (a b : ℕ) → range_bytes code a ≡ Some b → is_within regions a ≡ false) where
  -- all else is as at the entry
  abbrev Good : State → Type 0
  Good = IsKept f.regs regions s0

  code-kept : (s : State) → Good s → IsWithin (range_bytes code) s.mem
  code-kept s good a b e = good.bytes a (beside a b e) ∙ holds a b e

  -- a step that stays within the regions keeps all else, and is what a definition has for the instruction
  pub step-done : (n : ℕ) (v : VariableMap) (e : Environment) (s u : State) → n < f.nodes → Good s → s.pc ≡ f.addr n → Stands f v e (held f regions count s) → Steps Uses regions s u
      → Good u × IsDone f State (λ s. s.pc) (held f regions count) after_instruction IsAtReturn Calls Good (Steps Uses regions) (action f n v) v e s u
  step-done n v e s u node good at is go = (kept-step f.regs regions s0 s u i fetch there.writes (go.0, λ x t. in-one regions q x (in-its x t)) good, by (f.callee n) refl)
    where
      i : Instr
      i = f.instr n

      a : ℕ
      a = f.addr n

      q : ℕ
      q = f.uses n

      at_n : StandsAt f code n
      at_n = has.each n node

      there : StandsIn i a (f.word n) code f.regs (has_memory i)
      there = stands-in f code n at_n

      fetches : (instruction_at s ≡ Some i) × (length_at s ≡ length_of (f.word n))
      fetches = fetched i a (f.word n) code f.regs (has_memory i) s there (code-kept s good) at

      fetch : instruction_at s ≡ Some i
      fetch = fetches.0

      enough : has_memory i ≡ true → q < length regions
      enough h = let l = at_n.memory h in omega (arith, count)

      in-its : (x : ℕ) → IsTouched (touches s) x → IsSomeAnd (slice_get regions q) (λ region. region x ≡ true)
      in-its x t = go.1 q x (subst (λ y. Uses y q) (sym at) (uses n node)) t

      within : (x : ℕ) → IsTouched (touches s) x → region_of regions q x ≡ true
      within x t = in-region regions q x (in-its x t)

      after : IsAfter i a (size f n) (names v q) e s u
      after =
          let acts : act i (size f n) s ≡ Some u = (λ j. act i (sym fetches.1 j) s) ∙ sym (act-step i s fetch) ∙ go.0 in
          let touch = touched-in f regions count i a (f.word n) code there q enough v e s is u fetch go.0 (λ x t. within x (subst (λ y. IsTouched y x) (sym (touches-at i s fetch)) t)) in
          (act-terms a (names v q) e s (size f n) i u (fits f regions count i a (f.word n) code there q enough v e s is at) touch).0 acts

      entering : (c : Callee) → f.callee n ≡ Some c → (offset : ℤ) → (j : Instr) → j ≡ instr.Jal 1 offset → StandsIn j a (f.word n) code f.regs (has_memory j) → instruction_at s ≡ Some j → IsAfter j a (size f n) (names v q) e s u
          → c.entry ≡ plus a offset → f.addr (f.to n Next) ≡ away a (size f n) → IsDone f State (λ s. s.pc) (held f regions count) after_instruction IsAtReturn Calls Good (Steps Uses regions) (action_calling (Some c) j a (size f n) q (f.to n) v) v e s u
      entering c has_c offset j same here fetched_j after_j entry back =
          let J = instr.Jal 1 offset in
          subst (λ j. IsDone f State (λ s. s.pc) (held f regions count) after_instruction IsAtReturn Calls Good (Steps Uses regions) (action_calling (Some c) j a (size f n) q (f.to n) v) v e s u) (sym same)
          (entered f regions count apart Uses Calls Good a (f.word n) code q v e s u at is go.0 within offset (subst (λ j. StandsIn j a (f.word n) code f.regs (has_memory j)) same here) c (f.to n) entry back fetches.1
          (fetched_j ∙ ap Some same) (calls n c s node has_c) (subst (λ j. IsAfter j a (size f n) (names v q) e s u) same after_j))

      by : (o : Option Callee) → f.callee n ≡ o → IsDone f State (λ s. s.pc) (held f regions count) after_instruction IsAtReturn Calls Good (Steps Uses regions) (action_calling o i a (size f n) q (f.to n) v) v e s u
      by None none =
          acted f regions count apart Uses Calls Good a (f.word n) code q v e s u at is go.0 within i there enough (f.to n)
          (λ form edge. ap (λ t. word_value t e) (at_n.goes form (names v q) none edge)) at_n.return_is (no_calls n s node none fetch) fetch after
      by (Some c) some = let h = at_n.calls c some in entering c some h.offset i h.instr there fetch after h.entry h.back

pub held-long : (f : Flow) (regions : List Region) (count : length regions ≡ f.mems) (u : State) → (length (held f regions count u).words ≡ length f.regs) × (length (held f regions count u).mems ≡ f.mems)
held-long f regions count u = (length-map u.reg f.regs, length-map (λ r. cut r u.mem) regions ∙ count)

pub held-is : (f : Flow) (g : GroupTree) (regions : List Region) (count : length regions ≡ f.mems) (u : State) → g.regs ≡ f.regs → held_in u g regions ≡ held f regions count u
held-is f g regions count u regs = λ i. record { words = map u.reg (regs i); mems = map (headline.cut u.mem) regions }

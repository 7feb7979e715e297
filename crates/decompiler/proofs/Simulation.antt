-- One step of the machine is what a definition has for the instruction.
use Rattle.std.proofs.Common.{◌≡◌, ℕ, zero, suc, ◌+◌, ◌<◌, Bool, true, false, cond, eqb, eqb-true, Some, None, is_some, ◌⊎◌, inl, inr, ⊎_elim, get_or, length, List, [], ◌∷◌, map, Contains, refl, sym, ap, subst, ◌∙◌, arith}
use Rattle.std.proofs.lemmas.Bool.{eqb-false}
use Rattle.rv_words.specs.Bytes.{Bytes}
use Rattle.rv_decode.specs.declared.instruction.Instr.{Instr}
use Rattle.rv_decode.specs.declared.instruction.Instr.TheVariants as instr
use Rattle.rv_machine.specs.State.{State, with_register}
use Rattle.rv_machine.specs.Step.{instruction_at, reads, step}
use Rattle.rv_machine.specs.Touches.{IsTouched, touched, touches}
use Rattle.rv_machine.proofs.StepLemmas.{touches-at, step-there, step-untouched}
use Rattle.rv_machine.specs.Update.{mem_after}
use Rattle.word_terms.specs.Tree.{Const, Var, MemVar}
use Rattle.rv_words.specs.declared.range.Range.{Range}
use Rattle.word_terms.specs.Environment.{Environment, with_word, with_mem}
use Rattle.word_terms.specs.Value.{word_value, mem_value}
use Rattle.word_terms.proofs.Agreement.{extends-with_word, extends-with_mem}
use Rattle.sep_assert.specs.Code.{IsWithin}
use Rattle.tailrec_lang.specs.Tree.{Bind, BindMem}
use Rattle.tailrec_lang.specs.Eval.{Arguments}
use Rattle.triple_kernel.specs.declared.form.Form.{Form}
use Rattle.triple_kernel.specs.declared.form.Form.TheVariants.{Next, Taken}
use Rattle.rv_decode.specs.Registers.{sources, destination}
use Rattle.rvc.specs.Number.{length_of}
use Rattle.instr_axioms.specs.Terms.{has_memory, word_in, result, memory_after, has_form}
use Rattle.claims.specs.Headline.{Region, AreApart}
use Rattle.std.specs.Prelude.{AllPairs, IsSomeAnd, slice_get}
use Rattle.std.specs.List.{range_with_len}
use Rattle.instr_axioms.specs.Effects.{Fits, IsTouchedIn, IsAfter}
use Rattle.instr_axioms.proofs.Effects.{cut, cut-within, memory-cut}
use Rattle.instr_axioms.proofs.Valid.{StandsIn}
use Rattle.code_parts.proofs.Counts.{store-writes_none}
use Rattle.code_parts.specs.Bodies.{Flow, VariableMap, names, is_store, stored, place_after, writes}
use Rattle.word_terms.proofs.Variables.{new_word, new_mem}
use Rattle.decompiler.proofs.StateVariables.{Stands}
use Rattle.decompiler.proofs.BodyLemmas.{AllHold, after_steps}

-- ---- lists over the same registers, place by place

words-at : (t : ℕ → ℕ) (e : Environment) (x : ℕ → ℕ) (rs : List ℕ) → map (λ y. word_value y e) (map (λ r. Var (t r)) rs) ≡ map x rs → (r : ℕ) → Contains rs r → e.word (t r) ≡ x r
words-at t e x [] h r (k, l, is) = absurd (omega arith)
words-at t e x (y ∷ rs) h r (zero, l, is) = let q : e.word (t y) ≡ x y = cc in subst (λ z. e.word (t z) ≡ x z) is q
words-at t e x (y ∷ rs) h r (suc k, l, is) = words-at t e x rs (cc) r (k, omega arith, is)

words-all : (t : ℕ → ℕ) (e : Environment) (x : ℕ → ℕ) (rs : List ℕ) → ((r : ℕ) → Contains rs r → e.word (t r) ≡ x r) → map (λ y. word_value y e) (map (λ r. Var (t r)) rs) ≡ map x rs
words-all t e x [] h = refl
words-all t e x (y ∷ rs) h =
    let here = h y (0, omega arith, refl) in
    let rest = words-all t e x rs (λ r c. h r (suc c.0, omega (arith, c.1), c.2)) in
    λ i. here i ∷ rest i

-- ---- memories and regions, place by place

first-same : {A : Type 0} {x y : A} {xs ys : List A} → x ∷ xs ≡ y ∷ ys → x ≡ y
first-same e = cc

rest-same : {A : Type 0} {x y : A} {xs ys : List A} → x ∷ xs ≡ y ∷ ys → xs ≡ ys
rest-same e = cc

-- the region of a memory; there is no address in one that isn't there
abbrev pub region_of : List Region → ℕ → Region
region_of [] q a = false
region_of (r ∷ rs) zero a = r a
region_of (r ∷ rs) (suc q) a = region_of rs q a

pub in-region : (rs : List Region) (q a : ℕ) → IsSomeAnd (slice_get rs q) (λ region. region a ≡ true) → region_of rs q a ≡ true
in-region [] q a h = absurd h
in-region (r ∷ rs) zero a h = h
in-region (r ∷ rs) (suc q) a h = in-region rs q a h

mems-at : (t : ℕ → ℕ) (e : Environment) (m : Bytes) (rs : List Region) (w : ℕ) → map (λ y. mem_value y e) (map (λ q. MemVar (t q)) (range_with_len w (length rs))) ≡ map (λ r. cut r m) rs
    → (q : ℕ) → q < length rs → e.mem (t (w + q)) ≡ cut (region_of rs q) m
mems-at t e m [] w h q l = absurd (omega arith)
mems-at t e m (r ∷ rs) w h zero l = let none : w + 0 ≡ w = omega arith in let is : e.mem (t w) ≡ cut r m = first-same h in ap (λ k. e.mem (t k)) none ∙ is
mems-at t e m (r ∷ rs) w h (suc q) l =
    let next : w + suc q ≡ w + 1 + q = omega arith in
    ap (λ k. e.mem (t k)) next ∙ mems-at t e m rs (w + 1) (rest-same h) q (omega arith)

mems-all : (t : ℕ → ℕ) (e : Environment) (m : Bytes) (rs : List Region) (w : ℕ) → ((q : ℕ) → q < length rs → e.mem (t (w + q)) ≡ cut (region_of rs q) m)
    → map (λ y. mem_value y e) (map (λ q. MemVar (t q)) (range_with_len w (length rs))) ≡ map (λ r. cut r m) rs
mems-all t e m [] w h = refl
mems-all t e m (r ∷ rs) w h =
    let none : w + 0 ≡ w = omega arith in
    let here = ap (λ k. e.mem (t k)) (sym none) ∙ h 0 (omega arith) in
    let rest = mems-all t e m rs (w + 1) (λ q l. let next : w + 1 + q ≡ w + suc q = omega arith in ap (λ k. e.mem (t k)) next ∙ h (suc q) (omega arith)) in
    λ i. here i ∷ rest i

not_two : (b : Bool) → b ≡ true → b ≡ false → ⊥
not_two b t f = let e : true ≡ false = sym t ∙ f in cc

-- an address of one region is in no other
region-at : (rs : List Region) (q a : ℕ) (d : Region) → q < length rs → get_or rs q d a ≡ region_of rs q a
region-at [] q a d l = absurd (omega arith)
region-at (r ∷ rs) zero a d l = refl
region-at (r ∷ rs) (suc q) a d l = region-at rs q a d (omega arith)

no_region : Region
no_region a = false

pub regions-apart : (rs : List Region) → AllPairs AreApart rs → (p q a : ℕ) → p < length rs → q < length rs → (p ≡ q → ⊥) → region_of rs p a ≡ true → region_of rs q a ≡ false
regions-apart rs apart p q a lp lq ne is = ⊎_elim before after (trichotomy p q ne)
  where
    trichotomy : (x y : ℕ) → (x ≡ y → ⊥) → (x < y) ⊎ (y < x)
    trichotomy zero zero ne = absurd (ne refl)
    trichotomy zero (suc y) ne = inl (omega arith)
    trichotomy (suc x) zero ne = inr (omega arith)
    trichotomy (suc x) (suc y) ne = ⊎_elim (λ h. inl (omega (arith, h))) (λ h. inr (omega (arith, h))) (trichotomy x y (λ e. ne (ap suc e)))

    before : p < q → region_of rs q a ≡ false
    before l = sym (region-at rs q a no_region lq) ∙ apart p q no_region l lq a (region-at rs p a no_region lp ∙ is)

    after : q < p → region_of rs q a ≡ false
    after l = by (region_of rs q a) refl
      where
        by : (b : Bool) → region_of rs q a ≡ b → b ≡ false
        by false h = refl
        by true h = absurd (not_two (region_of rs p a) is (sym (region-at rs p a no_region lp) ∙ apart q p no_region l lp a (region-at rs q a no_region lq ∙ h)))

-- ---- rows of the table

no_touch : false ≡ true → ⊥
no_touch e = cc

-- what touches has a memory
touches-memory : (i : Instr) (s : State) (q : ℕ) → IsTouched (touched i s) q → has_memory i ≡ true
touches-memory (instr.Op o rd rs1 rs2) s q (k, l, e) = absurd (omega arith)
touches-memory (instr.OpImm o rd rs1 imm) s q (k, l, e) = absurd (omega arith)
touches-memory (instr.Lui rd imm) s q (k, l, e) = absurd (omega arith)
touches-memory (instr.Auipc rd imm) s q (k, l, e) = absurd (omega arith)
touches-memory (instr.Jal rd offset) s q (k, l, e) = absurd (omega arith)
touches-memory (instr.Jalr rd rs1 imm) s q (k, l, e) = absurd (omega arith)
touches-memory (instr.Branch c rs1 rs2 offset) s q (k, l, e) = absurd (omega arith)
touches-memory (instr.Load w signed rd rs1 imm) s q t = refl
touches-memory (instr.Store w rs1 rs2 imm) s q t = refl
touches-memory (instr.Fence imm rs1 rd) s q (k, l, e) = absurd (omega arith)
touches-memory instr.Ecall s q (k, l, e) = absurd (omega arith)
touches-memory instr.Ebreak s q (k, l, e) = absurd (omega arith)

-- no instruction but a store changes bytes
other-memory : (i : Instr) (s : State) → is_store i ≡ false → mem_after i s ≡ s.mem
other-memory (instr.Op o rd rs1 rs2) s h = refl
other-memory (instr.OpImm o rd rs1 imm) s h = refl
other-memory (instr.Lui rd imm) s h = refl
other-memory (instr.Auipc rd imm) s h = refl
other-memory (instr.Jal rd offset) s h = refl
other-memory (instr.Jalr rd rs1 imm) s h = refl
other-memory (instr.Branch c rs1 rs2 offset) s h = refl
other-memory (instr.Load w signed rd rs1 imm) s h = refl
other-memory (instr.Store w rs1 rs2 imm) s h = absurd (no_touch (sym h))
other-memory (instr.Fence imm rs1 rd) s h = refl
other-memory instr.Ecall s h = refl
other-memory instr.Ebreak s h = refl

-- a store has a memory
store-memory : (i : Instr) → is_store i ≡ true → has_memory i ≡ true
store-memory (instr.Op o rd rs1 rs2) h = absurd (no_touch h)
store-memory (instr.OpImm o rd rs1 imm) h = absurd (no_touch h)
store-memory (instr.Lui rd imm) h = absurd (no_touch h)
store-memory (instr.Auipc rd imm) h = absurd (no_touch h)
store-memory (instr.Jal rd offset) h = absurd (no_touch h)
store-memory (instr.Jalr rd rs1 imm) h = absurd (no_touch h)
store-memory (instr.Branch c rs1 rs2 offset) h = absurd (no_touch h)
store-memory (instr.Load w signed rd rs1 imm) h = refl
store-memory (instr.Store w rs1 rs2 imm) h = refl
store-memory (instr.Fence imm rs1 rd) h = absurd (no_touch h)
store-memory instr.Ecall h = absurd (no_touch h)
store-memory instr.Ebreak h = absurd (no_touch h)

-- an instruction that can't be taken goes on
pub only-next : (i : Instr) → has_form i Taken ≡ false → (form : Form) → has_form i form ≡ true → form ≡ Next
only-next i none Next h = refl
only-next i none Taken h = absurd (no_touch (sym none ∙ h))

-- ---- the arguments of a state

module _ (f : Flow) (regions : List Region) (count : length regions ≡ f.mems) where
  -- what the state has in the group's registers and in the regions
  abbrev pub held : State → Arguments
  held s = record { words = map s.reg f.regs; mems = map (λ r. cut r s.mem) regions }

  pub reg-is : (v : VariableMap) (e : Environment) (s : State) → Stands f v e (held s) → (r : ℕ) → Contains f.regs r → e.word (v.reg r) ≡ s.reg r
  reg-is v e s is r c = words-at v.reg e s.reg f.regs (λ i. (is.same i).words) r c

  pub mem-is : (v : VariableMap) (e : Environment) (s : State) → Stands f v e (held s) → (q : ℕ) → q < length regions → e.mem (v.memory q) ≡ cut (region_of regions q) s.mem
  mem-is v e s is q l =
      let none : 0 + q ≡ q = omega arith in
      ap (λ k. e.mem (v.memory k)) (sym none)
      ∙ mems-at v.memory e s.mem regions 0 ((λ i. map (λ y. mem_value y e) (map (λ q. MemVar (v.memory q)) (range_with_len 0 (count i)))) ∙ (λ i. (is.same i).mems)) q l

  stands-all : (v : VariableMap) (e : Environment) (s : State) → v.words ≡ e.words → v.mems ≡ e.mems → ((r : ℕ) → Contains f.regs r → (e.word (v.reg r) ≡ s.reg r) × (v.reg r < v.words))
      → ((q : ℕ) → q < length regions → (e.mem (v.memory q) ≡ cut (region_of regions q) s.mem) × (v.memory q < v.mems)) → Stands f v e (held s)
  stands-all v e s words mems regs mem =
      let all_words = words-all v.reg e s.reg f.regs (λ r c. (regs r c).0) in
      let all_mems = (λ i. map (λ y. mem_value y e) (map (λ q. MemVar (v.memory q)) (range_with_len 0 (sym count i))))
      ∙ mems-all v.memory e s.mem regions 0 (λ q l. let none : 0 + q ≡ q = omega arith in ap (λ k. e.mem (v.memory k)) none ∙ (mem q l).0) in
      record {
        words = words;
        mems = mems;
        same = λ i. record { words = all_words i; mems = all_mems i };
        regs_in = λ r c. (regs r c).1;
        memory_in = λ q l. (mem q (omega (arith, count))).1;
      }

  module _ (i : Instr) (a w : ℕ) (code : List Range) (there : StandsIn i a w code f.regs (has_memory i)) (q : ℕ) (uses : has_memory i ≡ true → q < length regions)
      (v : VariableMap) (e : Environment) (s : State) (is : Stands f v e (held s)) where
    source-is : (r : ℕ) → Contains (sources i) r → reads r s ≡ word_value (word_in (names v q) r) e
    source-is r c = by (eqb r 0) refl
      where
        by : (t : Bool) → eqb r 0 ≡ t → cond t 0 (s.reg r) ≡ word_value (cond t (Const 0) (Var (v.reg r))) e
        by true h = refl
        by false h = sym (reg-is v e s is r (there.reads r c (eqb-false r 0 h)))

    -- the variables stand for what the instruction reads
    pub fits : s.pc ≡ a → Fits i a (names v q) e s
    fits at = record { pc = at; word = source-is; bytes = λ h. subst (λ m. IsWithin m s.mem) (sym (mem-is v e s is q (uses h))) (cut-within (region_of regions q) s.mem) }

    pub touched-in : (u : State) → instruction_at s ≡ Some i → step s ≡ Some u → ((x : ℕ) → IsTouched (touched i s) x → region_of regions q x ≡ true) → IsTouchedIn i s (mem_value (names v q).memory e)
    touched-in u fetch steps within x t =
        let inside = within x t in
        let present = step-there s u x steps (subst (λ y. IsTouched y x) (sym (touches-at i s fetch)) t) in
        (λ j. is_some (mem-is v e s is q (uses (touches-memory i s x t)) j x)) ∙ (λ j. is_some (cond (inside j) (s.mem x) None)) ∙ present

    -- ---- what is written

    module _ (u : State) (after : IsAfter i a (length_of w) (names v q) e s u) (at : s.pc ≡ a) (steps : step s ≡ Some u) (apart : AllPairs AreApart regions) (within : (x : ℕ) → IsTouched (touches s) x → region_of regions q x ≡ true) where
      pub regs_same : destination i ≡ 0 → u.reg ≡ s.reg
      regs_same z = after.reg ∙ (λ j. with_register (z j) (word_value (result i a (length_of w) (names v q)) e) s.reg)

      pub mem_same : is_store i ≡ false → u.mem ≡ s.mem
      mem_same h = after.mem ∙ other-memory i s h

      wrote-none : destination i ≡ 0 → is_store i ≡ false → Stands f v e (held u)
      wrote-none z h = let r = regs_same z in let m = mem_same h in subst (Stands f v e) (λ j. record { words = map (sym r j) f.regs; mems = map (λ r. cut r (sym m j)) regions }) is

      abbrev x : ℕ
      x = word_value (result i a (length_of w) (names v q)) e

      wrote-word : eqb (destination i) 0 ≡ false → is_store i ≡ false
          → Stands f (record { words = suc v.words; mems = v.mems; reg = λ r. cond (eqb r (destination i)) v.words (v.reg r); memory = v.memory }) (with_word e x) (held u)
      wrote-word z h =
          let more : suc v.words ≡ e.words + 1 = omega (arith, is.words) in
          stands-all (record { words = suc v.words; mems = v.mems; reg = λ r. cond (eqb r (destination i)) v.words (v.reg r); memory = v.memory }) (with_word e x) u more is.mems regs
          (λ p l. (mem-is v e s is p l ∙ (λ j. cut (region_of regions p) (sym (mem_same h) j)), is.memory_in p (omega (arith, count))))
        where
          by : (r : ℕ) → Contains f.regs r → (b : Bool) → ((with_word e x).word (cond b v.words (v.reg r)) ≡ cond b x (s.reg r)) × (cond b v.words (v.reg r) < suc v.words)
          by r c true = (ap (with_word e x).word is.words ∙ new_word e x, omega arith)
          by r c false =
              let low = is.regs_in r c in
              (sym ((extends-with_word e x).word (v.reg r) (omega (arith, is.words))) ∙ reg-is v e s is r c, omega arith)

          regs : (r : ℕ) → Contains f.regs r → ((with_word e x).word (cond (eqb r (destination i)) v.words (v.reg r)) ≡ u.reg r) × (cond (eqb r (destination i)) v.words (v.reg r) < suc v.words)
          regs r c =
              let p = by r c (eqb r (destination i)) in
              (p.0 ∙ (λ j. cond (sym z j) (s.reg r) (cond (eqb r (destination i)) x (s.reg r))) ∙ (λ j. sym after.reg j r), p.1)

      -- a store to one memory leaves the regions of the others
      elsewhere : has_memory i ≡ true → (p : ℕ) → p < length regions → (p ≡ q → ⊥) → (x : ℕ) → cut (region_of regions p) s.mem x ≡ cut (region_of regions p) u.mem x
      elsewhere has p l ne x = by (region_of regions p x) refl
        where
          by : (b : Bool) → region_of regions p x ≡ b → cond b (s.mem x) None ≡ cond b (u.mem x) None
          by false h = refl
          by true h = sym (step-untouched s u x steps (λ t. not_two (region_of regions q x) (within x t) (regions-apart regions apart p q x l (uses has) ne h)))

      wrote-memory : is_store i ≡ true → Stands f (stored q v) (with_mem e (mem_value (memory_after i (names v q)) e)) (held u)
      wrote-memory h =
          let more : suc v.mems ≡ e.mems + 1 = omega (arith, is.mems) in
          let same = regs_same (store-writes_none i h) in
          stands-all (stored q v) (with_mem e m) u is.words more (λ r c. (reg-is v e s is r c ∙ (λ j. sym same j r), is.regs_in r c)) (λ p l. by p l (eqb p q) refl)
        where
          m : Bytes
          m = mem_value (memory_after i (names v q)) e

          has : has_memory i ≡ true
          has = store-memory i h

          now : m ≡ cut (region_of regions q) (mem_after i s)
          now = λ j x. memory-cut (region_of regions q) a (names v q) e s i (fits at) (λ y k. mem-is v e s is q (uses has) k y) x j

          by : (p : ℕ) → p < length regions → (b : Bool) → eqb p q ≡ b → ((with_mem e m).mem (cond b v.mems (v.memory p)) ≡ cut (region_of regions p) u.mem) × (cond b v.mems (v.memory p) < suc v.mems)
          by p l true z =
              (ap (with_mem e m).mem is.mems ∙ new_mem e m ∙ now ∙ (λ j. cut (region_of regions q) (sym after.mem j)) ∙ (λ j. cut (region_of regions (sym (eqb-true p q z) j)) u.mem), omega arith)
          by p l false z =
              let low = is.memory_in p (omega (arith, count)) in
              (sym ((extends-with_mem e m).mem (v.memory p) (omega (arith, is.mems, low))) ∙ mem-is v e s is p l ∙ (λ j x. elsewhere has p l (eqb-false p q z) x j), omega (arith, low))

      -- what is written comes to stand for what the state then has
      pub written : AllHold (writes i a (length_of w) q v) e × Stands f (place_after i q v) (after_steps (writes i a (length_of w) q v) e) (held u)
      written = by (is_store i) (eqb (destination i) 0) refl refl
        where
          by : (b z : Bool) → is_store i ≡ b → eqb (destination i) 0 ≡ z
              → AllHold (cond b (BindMem (memory_after i (names v q)) ∷ []) (cond z [] (Bind (result i a (length_of w) (names v q)) ∷ []))) e
              × Stands f (cond b (stored q v) (cond z v (record { words = suc v.words; mems = v.mems; reg = λ r. cond (eqb r (destination i)) v.words (v.reg r); memory = v.memory })))
              (after_steps (cond b (BindMem (memory_after i (names v q)) ∷ []) (cond z [] (Bind (result i a (length_of w) (names v q)) ∷ []))) e) (held u)
          by true z h d = ((refl, tt), wrote-memory h)
          by false true h d = (tt, wrote-none (eqb-true (destination i) 0 d) h)
          by false false h d = ((refl, tt), wrote-word d h)

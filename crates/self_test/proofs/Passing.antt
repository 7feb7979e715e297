-- Runs from a place of code to a later one, and the steps that they are made of.
use Rattle.std.proofs.Common.{◌≡◌, ◌≢◌, ℕ, ◌+◌, ◌*◌, ◌%◌, ◌^◌, ◌==◌, ◌<◌, ◌≤◌, ℤ, Bool, true, false, cond, Some, refl, sym, subst, ◌∙◌, arith}
use Rattle.std.proofs.Math.Nat.{mod-eq_of_lt}
use Rattle.std.proofs.lemmas.Bool.{eq-eqb}
use Rattle.rv_decode.proofs.RowLemmas.{neq-eqb}
use Rattle.rv_words.specs.Bytes.{Bytes}
use Rattle.rv_words.specs.Operation.{comparison_holds, operation_value, word_of as word_of_number}
use Rattle.rv_words.specs.declared.comparison.Cmp.{Cmp}
use Rattle.rv_words.specs.declared.operation.Op.{Op as Operation}
use Rattle.rv_decode.specs.declared.instruction.Instr.{Instr}
use Rattle.rv_decode.specs.declared.instruction.Instr.TheVariants.{Op, OpImm, Jal, Branch}
use Rattle.rv_decode.specs.Encodes.{word_of}
use Rattle.rv_decode.specs.Ranges.{is_encodable}
use Rattle.rv_machine.specs.State.{State, with_register}
use Rattle.rvc.specs.Number.{number_at}
use Rattle.rvc.proofs.LongLemmas.{instruction_of-word, number_at-word, word-long}
use Rattle.rv_machine.specs.Step.{instruction_at, is_even, length_at, next, plus, reads}
use Rattle.rv_machine.specs.Update.{is_possible, mem_after, pc_after, updated}
use Rattle.rv_machine.proofs.StepLemmas.{instruction_at-is, length_at-is, updated-step}
use Rattle.code_gen.specs.Structure.{IsWordAt}
use Rattle.self_test.proofs.Ways.{Way, stays, goes, join, is_plain}

-- code stands from b on, up to q at most, in memory m
pub record Ground (q b : ℕ) : Type 0 where
  pub even : b % 2 ≡ 0
  pub below : q < 2 ^ 64

-- the state stands at place k of it
pub record At (m : Bytes) (b k : ℕ) (s : State) : Type 0 where
  pub pc : s.pc ≡ b + 4 * k
  pub mem : s.mem ≡ m

-- the registers below the counters of code at depth d are kept, but for x10
abbrev pub Keeps : ℕ → State → State → Type 0
Keeps d s t = (r : ℕ) → r ≢ 10 → r < 12 + d → t.reg r ≡ s.reg r

-- a run from s to place k in at most so many steps
pub record Passes (q b : ℕ) (m : Bytes) (d : ℕ) (s : State) (k most : ℕ) : Type 0 where
  pub last : State
  pub steps : ℕ
  pub way : Way q s last steps
  pub few : steps ≤ most
  pub at : At m b k last
  pub kept : Keeps d s last

abbrev pub none : {q b d k : ℕ} {m : Bytes} (s : State) → At m b k s → Passes q b m d s k 0
none s at = record { last = s; steps = 0; way = stays s; few = omega arith; at = at; kept = λ r a l. refl }

abbrev pub glue : {q b d k j x y : ℕ} {m : Bytes} {s : State} (p : Passes q b m d s k x) → Passes q b m d p.last j y → Passes q b m d s j (x + y)
glue {q} {s = s} p r = record {
  last = r.last;
  steps = p.steps + r.steps;
  way = join q s p.last r.last p.steps r.steps p.way r.way;
  few = omega (arith, p.few, r.few);
  at = r.at;
  kept = λ n a l. r.kept n a l ∙ p.kept n a l;
}

-- with a greater bound, and for lesser depths
abbrev pub within : {q b d k x : ℕ} {m : Bytes} {s : State} (y : ℕ) → x ≤ y → Passes q b m d s k x → Passes q b m d s k y
within y h p = record { last = p.last; steps = p.steps; way = p.way; few = omega (arith, p.few, h); at = p.at; kept = p.kept }

abbrev pub around : {q b d k x : ℕ} {m : Bytes} {s : State} → Passes q b m (d + 1) s k x → Passes q b m d s k x
around p = record { last = p.last; steps = p.steps; way = p.way; few = p.few; at = p.at; kept = λ r a l. p.kept r a (omega (arith, l)) }

-- ---- one step

even-at : (q b k : ℕ) → Ground q b → is_even (b + 4 * k) ≡ true
even-at q b k g = let e : (b + 4 * k) % 2 ≡ 0 = omega (arith, g.even) in eq-eqb ((b + 4 * k) % 2) 0 e

number : (b k : ℕ) (m : Bytes) (i : Instr) (s : State) → At m b k s → IsWordAt m b k i → is_encodable i ≡ true → number_at s.mem s.pc ≡ Some (word_of i)
number b k m i s at here fits = (λ j. number_at (at.mem j) (at.pc j)) ∙ number_at-word m (b + 4 * k) (word_of i) (word-long i fits) here

pub stands : (q b k : ℕ) (m : Bytes) (i : Instr) (s : State) → Ground q b → At m b k s → IsWordAt m b k i → is_encodable i ≡ true → instruction_at s ≡ Some i
stands q b k m i s g at here fits =
    (instruction_at-is i s).1 (word_of i, (λ j. is_even (at.pc j)) ∙ even-at q b k g, number b k m i s at here fits, instruction_of-word i fits)

-- .. of four bytes
pub long : (b k : ℕ) (m : Bytes) (i : Instr) (s : State) → At m b k s → IsWordAt m b k i → is_encodable i ≡ true → length_at s ≡ 4
long b k m i s at here fits = length_at-is s (word_of i) (number b k m i s at here fits) ∙ (λ j. cond (word-long i fits j) 4 2)

-- what is known of an instruction at a place
pub record Here (q b k : ℕ) (m : Bytes) (i : Instr) (s : State) : Type 0 where
  pub ground : Ground q b
  pub at : At m b k s
  pub word : IsWordAt m b k i
  pub fits : is_encodable i ≡ true
  pub below : b + 4 * k < q

-- it is found there, below q
pub found : {q b k : ℕ} {m : Bytes} {i : Instr} {s : State} → Here q b k m i s → instruction_at s ≡ Some i
found {q} {b} {k} {m} {i} {s} h = stands q b k m i s h.ground h.at h.word h.fits

pub four : {q b k : ℕ} {m : Bytes} {i : Instr} {s : State} → Here q b k m i s → length_at s ≡ 4
four {q} {b} {k} {m} {i} {s} h = long b k m i s h.at h.word h.fits

pub under : {q b k : ℕ} {m : Bytes} {i : Instr} {s : State} → Here q b k m i s → s.pc < q
under {q} h = subst (λ (x : ℕ). x < q) (sym h.at.pc) h.below

abbrev pub one : {q b k : ℕ} {m : Bytes} {s : State} (d j : ℕ) (i : Instr) → Here q b k m i s → is_plain i ≡ true → is_possible i s ≡ true
    → pc_after i 4 s ≡ b + 4 * j → mem_after i s ≡ s.mem → Keeps d s (updated i 4 s) → Passes q b m d s j 1
one {q} {b} {k} {m} {s} d j i h plain may to still kept = record {
  last = updated i 4 s;
  steps = 1;
  way = goes s (updated i 4 s) (updated i 4 s) 0
      (record { below = under h; instr = i; there = found h; plain = plain })
      (updated-step i s (found h) may ∙ (λ z. Some (updated i (four h z) s))) (stays (updated i 4 s));
  few = omega arith;
  at = record { pc = to; mem = still ∙ h.at.mem };
  kept = kept;
}

-- on to the next place
pub goes-on : (q b k : ℕ) (m : Bytes) (s : State) → Ground q b → At m b k s → b + 4 * (k + 1) ≤ q → next 4 s ≡ b + 4 * (k + 1)
goes-on q b k m s g at h =
    let small : s.pc + 4 < 2 ^ 64 = omega (arith, at.pc, h, g.below) in
    let here : s.pc + 4 ≡ b + 4 * (k + 1) = omega (arith, at.pc) in
    mod-eq_of_lt small ∙ here

pub unwritten : (d x : ℕ) (reg : ℕ → ℕ) (r : ℕ) → r ≢ d → with_register d x reg r ≡ reg r
unwritten d x reg r h = (λ i. cond (d == 0) (reg r) (cond (neq-eqb r d h i) x (reg r))) ∙ either (d == 0) (reg r)
  where
    either : (b : Bool) (y : ℕ) → cond b y y ≡ y
    either true y = refl
    either false y = refl

pub written : (d x : ℕ) (reg : ℕ → ℕ) → (d == 0) ≡ false → with_register d x reg d ≡ x
written d x reg h = (λ i. cond (h i) (reg d) (cond (eq-eqb d d refl i) x (reg d)))

-- ---- the instructions of pieces

-- an operation that writes a register that needn't be kept
abbrev pub operates : {q b k : ℕ} {m : Bytes} {s : State} (d : ℕ) (i : Instr) → Here q b k m i s → b + 4 * (k + 1) ≤ q → is_plain i ≡ true → is_possible i s ≡ true
    → pc_after i 4 s ≡ next 4 s → mem_after i s ≡ s.mem → Keeps d s (updated i 4 s) → Passes q b m d s (k + 1) 1
operates {q} {b} {k} {m} {s} d i h room plain may to still kept = one d (k + 1) i h plain may (to ∙ goes-on q b k m s h.ground h.at room) still kept

abbrev pub immediate : {q b k : ℕ} {m : Bytes} {s : State} (d rd a : ℕ) (o : Operation) (imm : ℤ) → Here q b k m (OpImm o rd a imm) s → b + 4 * (k + 1) ≤ q
    → ((r : ℕ) → r ≢ 10 → r < 12 + d → r ≢ rd) → Passes q b m d s (k + 1) 1
immediate {s = s} d rd a o imm h room other =
    operates d (OpImm o rd a imm) h room refl refl refl refl (λ r x l. unwritten rd (operation_value o (reads a s) (word_of_number imm)) s.reg r (other r x l))

abbrev pub register : {q b k : ℕ} {m : Bytes} {s : State} (d rd a c : ℕ) (o : Operation) → Here q b k m (Op o rd a c) s → b + 4 * (k + 1) ≤ q
    → ((r : ℕ) → r ≢ 10 → r < 12 + d → r ≢ rd) → Passes q b m d s (k + 1) 1
register {s = s} d rd a c o h room other =
    operates d (Op o rd a c) h room refl refl refl refl (λ r x l. unwritten rd (operation_value o (reads a s) (reads c s)) s.reg r (other r x l))

-- a jump, which writes no register
abbrev pub jumps : {q b k : ℕ} {m : Bytes} {s : State} (d j : ℕ) (offset : ℤ) → Here q b k m (Jal 0 offset) s → plus s.pc offset ≡ b + 4 * j → Passes q b m d s j 1
jumps {q} {b} {s = s} d j offset h to = one d j (Jal 0 offset) h refl refl to refl (λ r x l. refl)

-- a branch that is taken, and one that isn't
abbrev pub taken : {q b k : ℕ} {m : Bytes} {s : State} (d j : ℕ) (c : Cmp) (x y : ℕ) (offset : ℤ) → Here q b k m (Branch c x y offset) s
    → comparison_holds c (reads x s) (reads y s) ≡ true → plus s.pc offset ≡ b + 4 * j → Passes q b m d s j 1
taken {q} {b} {s = s} d j c x y offset h t to =
    one d j (Branch c x y offset) h refl refl
    ((λ i. cond (t i) (plus s.pc offset) (next 4 s)) ∙ to)
    refl (λ r u l. refl)

abbrev pub passed : {q b k : ℕ} {m : Bytes} {s : State} (d : ℕ) (c : Cmp) (x y : ℕ) (offset : ℤ) → Here q b k m (Branch c x y offset) s
    → comparison_holds c (reads x s) (reads y s) ≡ false → b + 4 * (k + 1) ≤ q → Passes q b m d s (k + 1) 1
passed {q} {b} {k} {m} {s} d c x y offset h f room =
    operates d (Branch c x y offset) h room refl refl
    (λ i. cond (f i) (plus s.pc offset) (next 4 s))
    refl (λ r u l. refl)

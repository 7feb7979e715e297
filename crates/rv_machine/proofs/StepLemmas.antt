-- What a step changes, and on what it depends.
use Rattle.std.proofs.Common.{◌≡◌, ℕ, ◌^◌, ◌<◌, Bool, true, false, cond, ◌↔◌, eqb, eqb-true, eq-eqb, ℤ, Option, Some, None, is_some, refl, sym, ap, subst, ◌∙◌, arith}
use Rattle.std.specs.Option.{option_and_then, unwrap_or}
use Rattle.std.proofs.Math.Nat.{mod-lt}
use Rattle.std.proofs.lemmas.Nat.{pow_pos}
use Rattle.rv_words.specs.Bytes.{AreSame, Bytes, away, bytes_of, inside, load}
use Rattle.rvc.specs.Number.{instruction_of, length_of, number_at}
use Rattle.rvc.proofs.NumberLemmas.{number-same}
use Rattle.rv_words.specs.Operation.{comparison_holds}
use Rattle.rv_words.specs.declared.width.Width.{Width}
use Rattle.rv_decode.specs.declared.instruction.Instr.{Instr}
use Rattle.rv_decode.specs.declared.instruction.Instr.TheVariants.{Op, OpImm, Lui, Auipc, Jal, Jalr, Branch, Load, Store, Fence, Ecall, Ebreak}
use Rattle.rv_machine.specs.State.{State, with_memory, with_register}
use Rattle.rv_machine.specs.Step.{act, branches, goes_to, instruction_at, is_even, length_at, loaded, next, only_if, plus, reads, sign_extended, step}
use Rattle.rv_machine.specs.Update.{is_possible, mem_after, pc_after, reg_after, updated}
use Rattle.rv_machine.specs.Touches.{AreSameOn, IsStepWith, IsTouched, fetches, touched, touched_by, touches}
use Rattle.rv_words.proofs.MemoryLemmas.{inside-all, inside-same, load-same, store-elsewhere, store-present, store-same}

-- ---- an instruction's test and its update

by_branch : (taken : Bool) (offset : ℤ) (n : ℕ) (s : State) → branches taken offset n s ≡ goes_to (cond taken (plus s.pc offset) (next n s)) s
by_branch true offset n s = refl
by_branch false offset n s = refl

-- an instruction gives its update exactly where its test is true
pub act-is : (i : Instr) (n : ℕ) (s : State) → act i n s ≡ only_if (is_possible i s) (updated i n s)
act-is (Op o rd rs1 rs2) n s = refl
act-is (OpImm o rd rs1 imm) n s = refl
act-is (Lui rd imm) n s = refl
act-is (Auipc rd imm) n s = refl
act-is (Jal rd offset) n s = refl
act-is (Jalr rd rs1 imm) n s = refl
act-is (Branch c rs1 rs2 offset) n s = ap Some (by_branch (comparison_holds c (reads rs1 s) (reads rs2 s)) offset n s)
act-is (Load w signed rd rs1 imm) n s = refl
act-is (Store w rs1 rs2 imm) n s = refl
act-is (Fence imm rs1 rd) n s = refl
act-is Ecall n s = refl
act-is Ebreak n s = refl

pub only_if-some : (b : Bool) (s t : State) → only_if b s ≡ Some t → (b ≡ true) × (t ≡ s)
only_if-some true s t e = (refl, sym (ap (λ o. unwrap_or o s) e))
only_if-some false s t e = absurd (cc)

pub act-some : (i : Instr) (n : ℕ) (s t : State) → act i n s ≡ Some t → (is_possible i s ≡ true) × (t ≡ updated i n s)
act-some i n s t e = only_if-some (is_possible i s) (updated i n s) t (sym (act-is i n s) ∙ e)

-- ---- the instruction of a step

and_then-some : (o : Option Instr) (f : Instr → Option State) (t : State) → option_and_then f o ≡ Some t → (i : Instr) × (o ≡ Some i) × (f i ≡ Some t)
and_then-some None f t e = absurd (cc)
and_then-some (Some i) f t e = (i, refl, e)

pub step-act : (s t : State) → step s ≡ Some t → (i : Instr) × (instruction_at s ≡ Some i) × (act i (length_at s) s ≡ Some t)
unfolding step
step-act s t e = and_then-some (instruction_at s) (λ i. act i (length_at s) s) t e

pub act-step : (i : Instr) (s : State) → instruction_at s ≡ Some i → step s ≡ act i (length_at s) s
unfolding step
act-step i s e = ap (option_and_then (λ i. act i (length_at s) s)) e

-- a step is the update of the instruction at pc, which can be carried out
pub step-updated : (s t : State) → step s ≡ Some t → (i : Instr) × (instruction_at s ≡ Some i) × (is_possible i s ≡ true) × (t ≡ updated i (length_at s) s)
step-updated s t e = let a = step-act s t e in let b = act-some a.0 (length_at s) s t a.2 in (a.0, a.1, b.0, b.1)

pub updated-step : (i : Instr) (s : State) → instruction_at s ≡ Some i → is_possible i s ≡ true → step s ≡ Some (updated i (length_at s) s)
updated-step i s e possible = act-step i s e ∙ act-is i (length_at s) s ∙ ap (λ b. only_if b (updated i (length_at s) s)) possible

fetch_some : (t : Bool) (o : Option ℕ) (i : Instr) → cond t (option_and_then instruction_of o) None ≡ Some i → (w : ℕ) × (t ≡ true) × (o ≡ Some w) × (instruction_of w ≡ Some i)
fetch_some true (Some w) i e = (w, refl, refl, e)
fetch_some true None i e = absurd (cc)
fetch_some false o i e = absurd (cc)

-- the instruction at pc: pc is even, a parcel or a word stands there, and it is the instruction
pub instruction_at-is : (i : Instr) (s : State)
    → (instruction_at s ≡ Some i) ↔ ((w : ℕ) × (is_even s.pc ≡ true) × (number_at s.mem s.pc ≡ Some w) × (instruction_of w ≡ Some i))
instruction_at-is i s = (
  fetch_some (is_even s.pc) (number_at s.mem s.pc) i,
  λ (w, even, there, is). (λ j. cond (even j) (option_and_then instruction_of (there j)) None) ∙ is,
)

-- its length
pub length_at-is : (s : State) (w : ℕ) → number_at s.mem s.pc ≡ Some w → length_at s ≡ length_of w
length_at-is s w e = ap (λ o. length_of (unwrap_or o 0)) e

-- ---- what a step never changes

with_zero : (d x : ℕ) (reg : ℕ → ℕ) → with_register d x reg 0 ≡ reg 0
with_zero d x reg = both (eqb d 0) (eqb 0 d) x (reg 0) (λ t. eq-eqb d 0 (sym (eqb-true 0 d t)))
  where
    both : (t u : Bool) (x y : ℕ) → (u ≡ true → t ≡ true) → cond t y (cond u x y) ≡ y
    both true u x y h = refl
    both false false x y h = refl
    both false true x y h = absurd (let e = h refl in cc)

reg_after-zero : (i : Instr) (n : ℕ) (s : State) → reg_after i n s 0 ≡ s.reg 0
reg_after-zero (Op o rd rs1 rs2) n s = with_zero rd _ s.reg
reg_after-zero (OpImm o rd rs1 imm) n s = with_zero rd _ s.reg
reg_after-zero (Lui rd imm) n s = with_zero rd _ s.reg
reg_after-zero (Auipc rd imm) n s = with_zero rd _ s.reg
reg_after-zero (Jal rd offset) n s = with_zero rd _ s.reg
reg_after-zero (Jalr rd rs1 imm) n s = with_zero rd _ s.reg
reg_after-zero (Branch c rs1 rs2 offset) n s = refl
reg_after-zero (Load w signed rd rs1 imm) n s = with_zero rd _ s.reg
reg_after-zero (Store w rs1 rs2 imm) n s = refl
reg_after-zero (Fence imm rs1 rd) n s = refl
reg_after-zero Ecall n s = refl
reg_after-zero Ebreak n s = refl

-- x0 is never changed
pub step-zero : (s t : State) → step s ≡ Some t → t.reg 0 ≡ s.reg 0
step-zero s t e = let a = step-act s t e in ap (λ (u : State). u.reg 0) (act-some a.0 (length_at s) s t a.2).1 ∙ reg_after-zero a.0 (length_at s) s

mem_after-present : (i : Instr) (s : State) (q : ℕ) → is_some (mem_after i s q) ≡ is_some (s.mem q)
mem_after-present (Op o rd rs1 rs2) s q = refl
mem_after-present (OpImm o rd rs1 imm) s q = refl
mem_after-present (Lui rd imm) s q = refl
mem_after-present (Auipc rd imm) s q = refl
mem_after-present (Jal rd offset) s q = refl
mem_after-present (Jalr rd rs1 imm) s q = refl
mem_after-present (Branch c rs1 rs2 offset) s q = refl
mem_after-present (Load w signed rd rs1 imm) s q = refl
mem_after-present (Store w rs1 rs2 imm) s q = store-present (bytes_of w) s.mem (plus (reads rs1 s) imm) (reads rs2 s) q
mem_after-present (Fence imm rs1 rd) s q = refl
mem_after-present Ecall s q = refl
mem_after-present Ebreak s q = refl

-- the addresses that are present stay the same
pub step-present : (s t : State) → step s ≡ Some t → (q : ℕ) → is_some (t.mem q) ≡ is_some (s.mem q)
step-present s t e q = let a = step-act s t e in ap (λ (u : State). is_some (u.mem q)) (act-some a.0 (length_at s) s t a.2).1 ∙ mem_after-present a.0 s q

-- ---- what it touches

plus_small : (x : ℕ) (imm : ℤ) → plus x imm < 2 ^ 64
plus_small x imm = mod-lt _ (pow_pos 64)

all_there : (n : ℕ) (m : Bytes) (x : ℕ) (imm : ℤ) (q : ℕ) → inside n m (plus x imm) ≡ true → (k : ℕ) × (k < n) × (q ≡ away (plus x imm) k) → is_some (m q) ≡ true
all_there n m x imm q e h = ap (λ a. is_some (m a)) h.2 ∙ (inside-all n m (plus x imm) (plus_small x imm)).0 e h.0 h.1

mem_after-untouched : (i : Instr) (s : State) (q : ℕ) → (IsTouched (touched i s) q → ⊥) → mem_after i s q ≡ s.mem q
mem_after-untouched (Op o rd rs1 rs2) s q h = refl
mem_after-untouched (OpImm o rd rs1 imm) s q h = refl
mem_after-untouched (Lui rd imm) s q h = refl
mem_after-untouched (Auipc rd imm) s q h = refl
mem_after-untouched (Jal rd offset) s q h = refl
mem_after-untouched (Jalr rd rs1 imm) s q h = refl
mem_after-untouched (Branch c rs1 rs2 offset) s q h = refl
mem_after-untouched (Load w signed rd rs1 imm) s q h = refl
mem_after-untouched (Store w rs1 rs2 imm) s q h =
    store-elsewhere (bytes_of w) s.mem (plus (reads rs1 s) imm) (reads rs2 s) q (plus_small (reads rs1 s) imm) (λ k l e. h (k, l, e))
mem_after-untouched (Fence imm rs1 rd) s q h = refl
mem_after-untouched Ecall s q h = refl
mem_after-untouched Ebreak s q h = refl

pub touches-at : (i : Instr) (s : State) → instruction_at s ≡ Some i → touches s ≡ touched i s
unfolding touches
touches-at i s e = ap (λ o. touched_by o s) e

-- a byte that isn't touched stays as it is
pub step-untouched : (s t : State) (q : ℕ) → step s ≡ Some t → (IsTouched (touches s) q → ⊥) → t.mem q ≡ s.mem q
step-untouched s t q e h =
    let a = step-act s t e in
    ap (λ (u : State). u.mem q) (act-some a.0 (length_at s) s t a.2).1 ∙ mem_after-untouched a.0 s q (λ k. h (subst (λ x. IsTouched x q) (sym (touches-at a.0 s a.1)) k))

present-touched : (i : Instr) (s : State) (q : ℕ) → is_possible i s ≡ true → IsTouched (touched i s) q → is_some (s.mem q) ≡ true
present-touched (Op o rd rs1 rs2) s q e h = let l = h.1 in absurd (omega arith)
present-touched (OpImm o rd rs1 imm) s q e h = let l = h.1 in absurd (omega arith)
present-touched (Lui rd imm) s q e h = let l = h.1 in absurd (omega arith)
present-touched (Auipc rd imm) s q e h = let l = h.1 in absurd (omega arith)
present-touched (Jal rd offset) s q e h = let l = h.1 in absurd (omega arith)
present-touched (Jalr rd rs1 imm) s q e h = let l = h.1 in absurd (omega arith)
present-touched (Branch c rs1 rs2 offset) s q e h = let l = h.1 in absurd (omega arith)
present-touched (Load w signed rd rs1 imm) s q e h = all_there (bytes_of w) s.mem (reads rs1 s) imm q e h
present-touched (Store w rs1 rs2 imm) s q e h = all_there (bytes_of w) s.mem (reads rs1 s) imm q e h
present-touched (Fence imm rs1 rd) s q e h = let l = h.1 in absurd (omega arith)
present-touched Ecall s q e h = let l = h.1 in absurd (omega arith)
present-touched Ebreak s q e h = let l = h.1 in absurd (omega arith)

-- all that a step touches is present
pub step-there : (s t : State) (q : ℕ) → step s ≡ Some t → IsTouched (touches s) q → is_some (s.mem q) ≡ true
step-there s t q e h =
    let a = step-act s t e in present-touched a.0 s q (act-some a.0 (length_at s) s t a.2).0 (subst (λ x. IsTouched x q) (touches-at a.0 s a.1) h)

-- the same instruction in two states that differ only in bytes that it doesn't touch
pub record IsAlike (i : Instr) (n : ℕ) (s u : State) : Type 0 where
  pub possible : is_possible i u ≡ is_possible i s
  pub pc : pc_after i n u ≡ pc_after i n s
  pub reg : reg_after i n u ≡ reg_after i n s
  pub mem : (q : ℕ) → u.mem q ≡ s.mem q → mem_after i u q ≡ mem_after i s q

loaded-same : (w : Width) (signed : Bool) (m n : Bytes) (a : ℕ) → load (bytes_of w) m a ≡ load (bytes_of w) n a → loaded w signed m a ≡ loaded w signed n a
loaded-same w signed m n a e = λ i. cond signed (sign_extended w (e i)) (e i)

-- what an instruction does depends on no byte that it doesn't touch
pub act-alike : (i : Instr) (n : ℕ) (s : State) (m : Bytes) → AreSameOn (touched i s) m s.mem → IsAlike i n s (with_memory m s)
act-alike (Op o rd rs1 rs2) n s m h = record { possible = refl; pc = refl; reg = refl; mem = λ q e. e }
act-alike (OpImm o rd rs1 imm) n s m h = record { possible = refl; pc = refl; reg = refl; mem = λ q e. e }
act-alike (Lui rd imm) n s m h = record { possible = refl; pc = refl; reg = refl; mem = λ q e. e }
act-alike (Auipc rd imm) n s m h = record { possible = refl; pc = refl; reg = refl; mem = λ q e. e }
act-alike (Jal rd offset) n s m h = record { possible = refl; pc = refl; reg = refl; mem = λ q e. e }
act-alike (Jalr rd rs1 imm) n s m h = record { possible = refl; pc = refl; reg = refl; mem = λ q e. e }
act-alike (Branch c rs1 rs2 offset) n s m h = record { possible = refl; pc = refl; reg = refl; mem = λ q e. e }
act-alike (Load w signed rd rs1 imm) n s m h =
    let a = plus (reads rs1 s) imm in
    let small = plus_small (reads rs1 s) imm in
    let same = λ (k : ℕ) (l : k < bytes_of w). h (away a k) (k, l, refl) in
    let number = loaded-same w signed m s.mem a (load-same (bytes_of w) m s.mem a small same) in
    record { possible = inside-same (bytes_of w) m s.mem a small same; pc = refl; reg = λ i. with_register rd (number i) s.reg; mem = λ q e. e }
act-alike (Store w rs1 rs2 imm) n s m h =
    let a = plus (reads rs1 s) imm in
    let same = λ (k : ℕ) (l : k < bytes_of w). h (away a k) (k, l, refl) in
    record {
      possible = inside-same (bytes_of w) m s.mem a (plus_small (reads rs1 s) imm) same;
      pc = refl;
      reg = refl;
      mem = λ q e. store-same (bytes_of w) m s.mem a (reads rs2 s) q e;
    }
act-alike (Fence imm rs1 rd) n s m h = record { possible = refl; pc = refl; reg = refl; mem = λ q e. e }
act-alike Ecall n s m h = record { possible = refl; pc = refl; reg = refl; mem = λ q e. e }
act-alike Ebreak n s m h = record { possible = refl; pc = refl; reg = refl; mem = λ q e. e }

touched-alike : (i : Instr) (s : State) (m : Bytes) → touched i (with_memory m s) ≡ touched i s
touched-alike (Op o rd rs1 rs2) s m = refl
touched-alike (OpImm o rd rs1 imm) s m = refl
touched-alike (Lui rd imm) s m = refl
touched-alike (Auipc rd imm) s m = refl
touched-alike (Jal rd offset) s m = refl
touched-alike (Jalr rd rs1 imm) s m = refl
touched-alike (Branch c rs1 rs2 offset) s m = refl
touched-alike (Load w signed rd rs1 imm) s m = refl
touched-alike (Store w rs1 rs2 imm) s m = refl
touched-alike (Fence imm rs1 rd) s m = refl
touched-alike Ecall s m = refl
touched-alike Ebreak s m = refl

-- the number at pc, where an instruction stands there, depends on its bytes alone
pub number-alike : (i : Instr) (s : State) (m : Bytes) → s.pc < 2 ^ 64 → instruction_at s ≡ Some i → AreSame (length_at s) m s.mem s.pc → number_at m s.pc ≡ number_at s.mem s.pc
number-alike i s m h e same =
    let at = (instruction_at-is i s).0 e in
    number-same s.mem m s.pc at.0 h at.2 (subst (λ n. AreSame n m s.mem s.pc) (length_at-is s at.0 at.2) same) ∙ sym at.2

-- a step depends on no byte but those at pc and those that it touches
pub step-alike : (s t : State) (m : Bytes) → s.pc < 2 ^ 64 → step s ≡ Some t → AreSameOn (fetches s) m s.mem → AreSameOn (touches s) m s.mem → IsStepWith s t m
step-alike s t m h e code same =
    let a = step-act s t e in
    let i = a.0 in
    let n = length_at s in
    let u = with_memory m s in
    let at = touches-at i s a.1 in
    let done = act-some i n s t a.2 in
    let like = act-alike i n s m (λ q k. same q (subst (λ x. IsTouched x q) (sym at) k)) in
    let number : number_at m s.pc ≡ number_at s.mem s.pc = number-alike i s m h a.1 (λ k l. code (away s.pc k) (k, l, refl)) in
    let there : instruction_at u ≡ Some i = (λ j. cond (is_even s.pc) (option_and_then instruction_of (number j)) None) ∙ a.1 in
    let long : length_at u ≡ n = λ j. length_of (unwrap_or (number j) 0) in
    let able : is_possible i u ≡ true = like.possible ∙ done.0 in
    record {
      next = updated i n u;
      steps = updated-step i u there able ∙ (λ j. Some (updated i (long j) u));
      touched = touches-at i u there ∙ touched-alike i s m ∙ sym at;
      pc = like.pc ∙ sym (ap (λ (x : State). x.pc) done.1);
      reg = like.reg ∙ sym (ap (λ (x : State). x.reg) done.1);
      mem = λ q k. like.mem q k ∙ sym (ap (λ (x : State). x.mem q) done.1);
    }

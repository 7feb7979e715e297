-- A run that returns, step by step, and what none of its steps changes.
use Rattle.std.proofs.Common.{◌≡◌, ℕ, zero, suc, ◌+◌, ◌-◌, Bool, true, false, cond, eqb, eqb-true, ◌⊎◌, inl, inr, Option, Some, None, is_some, List, [], ◌∷◌, ◌++◌, Contains, refl, sym, ap, subst, ◌∙◌, ◌||◌, arith}
use Rattle.std.specs.Prelude.{option_and_then, slice_get, IsSomeAnd}
use Rattle.rv_decode.specs.declared.instruction.Instr.{Instr}
use Rattle.rv_decode.specs.declared.instruction.Instr.TheVariants.{Op, OpImm, Lui, Auipc, Jal, Jalr, Branch, Load, Store, Fence, Ecall, Ebreak}
use Rattle.rv_machine.specs.State.{State, with_register}
use Rattle.rv_machine.specs.Step.{step, instruction_at}
use Rattle.rv_machine.specs.Run.{run, IsAtReturn}
use Rattle.rv_machine.specs.Step.{length_at}
use Rattle.rv_machine.specs.Touches.{IsTouched, touches}
use Rattle.rv_machine.specs.Update.{reg_after}
use Rattle.rv_machine.proofs.StepLemmas.{step-act, act-some, step-untouched, step-present}
use Rattle.rv_decode.specs.Registers.{destination}
use Rattle.claims.specs.Headline.{Region, is_within}
use Rattle.claims.specs.LinkExact.{IsAtCall, StaysIn, FirstReturnsIn, after_instruction}
use Rattle.claims.specs.LinkExact as exact

-- one step, which stays in the region of its memory
abbrev pub Steps : (ℕ → ℕ → Type 0) → List Region → State → State → Type 0
Steps Uses regions s u = (step s ≡ Some u) × StaysIn Uses regions s

-- what a return does
abbrev pub returned_to : {State : Type 0} → (State → ℕ) → (List ℕ → Type 0) → Type 0 → List ℕ → State → Type 0
returned_to pc on ended [] u = ended
returned_to pc on ended (r ∷ rest) u = (pc u ≡ r) × on rest

-- The run from s returns after k steps, in t, where the calls that it is in are to return to these addresses.
module _ (State : Type 0) (pc : State → ℕ) (back : State → ℕ) (Returns Calls : State → Type 0) (Steps : State → State → Type 0) (t : State) where
  abbrev pub Comes : List ℕ → ℕ → State → Type 0
  Comes stack zero s = ⊥
  Comes stack (suc k) s =
      (u : State) × Steps s u
      × ((Returns s × returned_to pc (λ rest. Comes rest k u) ((k ≡ 0) × (u ≡ t)) stack u)
      ⊎ ((Calls s × Comes (back s ∷ stack) k u)
      ⊎ ((Returns s → ⊥) × (Calls s → ⊥) × Comes stack k u)))

-- a call and what comes behind it: the run within returns to the address, and goes on from there
pub record Split (State : Type 0) (pc : State → ℕ) (back : State → ℕ) (Returns Calls : State → Type 0) (Steps : State → State → Type 0) (t : State) (stack : List ℕ) (r : ℕ) (rest : List ℕ) (k : ℕ) (s : State) : Type 0 where
  pub inner : ℕ
  pub outer : ℕ
  pub sum : inner + outer ≡ k
  pub state : State
  pub within : Comes State pc back Returns Calls Steps state stack inner s
  pub place : pc state ≡ r
  pub behind : Comes State pc back Returns Calls Steps t rest outer state

module _ (State : Type 0) (pc : State → ℕ) (back : State → ℕ) (Returns Calls : State → Type 0) (Steps : State → State → Type 0) (t : State) (r : ℕ) (rest : List ℕ) where
  longer : (stack more : List ℕ) (k : ℕ) (s u : State) → Steps s u → Split State pc back Returns Calls Steps t more r rest k u
      → ((x : State) (i : ℕ) → Comes State pc back Returns Calls Steps x more i u
      → ((Returns s × returned_to pc (λ rest. Comes State pc back Returns Calls Steps x rest i u) ((i ≡ 0) × (u ≡ x)) stack u)
      ⊎ ((Calls s × Comes State pc back Returns Calls Steps x (back s ∷ stack) i u)
      ⊎ ((Returns s → ⊥) × (Calls s → ⊥) × Comes State pc back Returns Calls Steps x stack i u))))
      → Split State pc back Returns Calls Steps t stack r rest (suc k) s
  longer stack more k s u steps h on = record {
    inner = suc h.inner;
    outer = h.outer;
    sum = omega (arith, h.sum);
    state = h.state;
    within = (u, steps, on h.state h.inner h.within);
    place = h.place;
    behind = h.behind;
  }

  pub split : (k : ℕ) (stack : List ℕ) (s : State) → Comes State pc back Returns Calls Steps t (stack ++ r ∷ rest) k s → Split State pc back Returns Calls Steps t stack r rest k s
  split zero stack s h = absurd h
  split (suc k) [] s (u, steps, inl (at, (place, behind))) = record {
    inner = 1;
    outer = k;
    sum = omega arith;
    state = u;
    within = (u, steps, inl (at, (refl, refl)));
    place = place;
    behind = behind;
  }
  split (suc k) (x ∷ xs) s (u, steps, inl (at, (place, behind))) = longer (x ∷ xs) xs k s u steps (split k xs u behind) (λ y i c. inl (at, (place, c)))
  split (suc k) stack s (u, steps, inr (inl (at, h))) = longer stack (back s ∷ stack) k s u steps (split k (back s ∷ stack) u h) (λ y i c. inr (inl (at, c)))
  split (suc k) stack s (u, steps, inr (inr (a, b, h))) = longer stack stack k s u steps (split k stack u h) (λ y i c. inr (inr (a, b, c)))

-- the machine's runs are such
module _ (Uses : ℕ → ℕ → Type 0) (regions : List Region) (t : State) where
  pub comes : (k : ℕ) (stack : List ℕ) (s : State) → exact.ReturnsBack Uses regions t stack k s → Comes State (λ s. s.pc) after_instruction IsAtReturn IsAtCall (Steps Uses regions) t stack k s
  comes zero stack s h = absurd h
  comes (suc k) stack s (u, ran, within, inl (at, h)) = (u, (ran, within), inl (at, on (λ rest h. comes k rest u h) stack h))
    where
      on : ((rest : List ℕ) → exact.ReturnsBack Uses regions t rest k u → Comes State (λ s. s.pc) after_instruction IsAtReturn IsAtCall (Steps Uses regions) t rest k u) → (stack : List ℕ) → exact.returns_into (λ rest. exact.ReturnsBack Uses regions t rest k u) ((k ≡ 0) × (u ≡ t)) stack u
          → returned_to (λ s. s.pc) (λ rest. Comes State (λ s. s.pc) after_instruction IsAtReturn IsAtCall (Steps Uses regions) t rest k u) ((k ≡ 0) × (u ≡ t)) stack u
      on go [] h = h
      on go (r ∷ rest) h = (h.0, go rest h.1)
  comes (suc k) stack s (u, ran, within, inr (inl (at, h))) = (u, (ran, within), inr (inl (at, comes k (after_instruction s ∷ stack) u h)))
  comes (suc k) stack s (u, ran, within, inr (inr (a, b, h))) = (u, (ran, within), inr (inr (a, b, comes k stack u h)))

same_some : (s t : State) → Some s ≡ Some t → s ≡ t
same_some s t e = cc

run-zero : (s : State) → run s 0 ≡ Some s
unfolding run
run-zero s = refl

run-suc : (s u : State) (k : ℕ) → step s ≡ Some u → run s (suc k) ≡ run u k
unfolding run
run-suc s u k e = ap (option_and_then (λ t. run t k)) e

-- a run of one step or more begins with a step
run-first : (s t : State) (k : ℕ) → run s (suc k) ≡ Some t → (u : State) × (step s ≡ Some u) × (run u k ≡ Some t)
unfolding run
run-first s t k e = by (step s) e
  where
    by : (o : Option State) → option_and_then (λ r. run r k) o ≡ Some t → (u : State) × (o ≡ Some u) × (run u k ≡ Some t)
    by None h = absurd (cc)
    by (Some u) h = (u, refl, h)

-- a run that first returns is one step after another, where calls are no matter
module _ (Uses : ℕ → ℕ → Type 0) (regions : List Region) (t : State) where
  pub comes-plain : (k : ℕ) (s : State) → FirstReturnsIn Uses regions s k t → Comes State (λ s. s.pc) after_instruction IsAtReturn (λ s. ⊥) (Steps Uses regions) t [] k s
  comes-plain zero s h = let lt = h.some in absurd (omega arith)
  comes-plain (suc zero) s h =
      let one = run-first s t 0 h.ran in
      (one.0, (one.1, h.within 0 s (omega arith) (run-zero s)), inl (h.last s (run-zero s), (refl, same_some one.0 t (sym (run-zero one.0) ∙ one.2))))
  comes-plain (suc (suc k)) s h =
      let one = run-first s t (suc k) h.ran in
      let u = one.0 in
      let after = λ (j : ℕ). run-suc s u j one.1 in
      let two : suc (suc k) - 1 ≡ suc k = omega arith in
      let less : suc k - 1 ≡ k = omega arith in (
        u,
        (one.1, h.within 0 s (omega arith) (run-zero s)),
        inr (inr (
          h.first 0 s (omega arith) (run-zero s),
          (λ c. c),
          comes-plain (suc k) u (record {
            some = omega arith;
            ran = one.2;
            within = λ j x l r. h.within (suc j) x (omega arith) (after j ∙ r);
            last = λ x r. h.last x (ap (run s) two ∙ after k ∙ ap (run u) (sym less) ∙ r);
            first = λ j x l r. h.first (suc j) x (omega arith) (after j ∙ r);
          }),
        )),
      )

-- ---- what is left alone

-- the registers that aren't among these, the bytes outside the regions and which addresses are present are as in s
pub record IsKept (rs : List ℕ) (regions : List Region) (s t : State) : Type 0 where
  pub registers : (r : ℕ) → (Contains rs r → ⊥) → t.reg r ≡ s.reg r
  pub bytes : (a : ℕ) → is_within regions a ≡ false → t.mem a ≡ s.mem a
  pub present : (a : ℕ) → is_some (t.mem a) ≡ is_some (s.mem a)

pub kept-here : (rs : List ℕ) (regions : List Region) (s : State) → IsKept rs regions s s
kept-here rs regions s = record { registers = λ r h. refl; bytes = λ a h. refl; present = λ a. refl }

module _ (r : ℕ) where
  with_other : (d x : ℕ) (reg : ℕ → ℕ) → ((d ≡ 0 → ⊥) → r ≡ d → ⊥) → with_register d x reg r ≡ reg r
  with_other d x reg h = both (eqb d 0) (eqb r d) refl refl
    where
      both : (t u : Bool) → eqb d 0 ≡ t → eqb r d ≡ u → cond t (reg r) (cond u x (reg r)) ≡ reg r
      both true u e f = refl
      both false false e f = refl
      both false true e f = absurd (h (λ z. differ e z) (eqb-true r d f))
        where
          differ : eqb d 0 ≡ false → d ≡ 0 → ⊥
          differ e z = let q : eqb 0 0 ≡ false = ap (λ n. eqb n 0) (sym z) ∙ e in cc

  -- no other register than an instruction's destination is written
  pub reg_after-other : (i : Instr) (n : ℕ) (s : State) → ((destination i ≡ 0 → ⊥) → r ≡ destination i → ⊥) → reg_after i n s r ≡ s.reg r
  reg_after-other (Op o rd rs1 rs2) n s h = with_other rd _ s.reg h
  reg_after-other (OpImm o rd rs1 imm) n s h = with_other rd _ s.reg h
  reg_after-other (Lui rd imm) n s h = with_other rd _ s.reg h
  reg_after-other (Auipc rd imm) n s h = with_other rd _ s.reg h
  reg_after-other (Jal rd offset) n s h = with_other rd _ s.reg h
  reg_after-other (Jalr rd rs1 imm) n s h = with_other rd _ s.reg h
  reg_after-other (Branch c rs1 rs2 offset) n s h = refl
  reg_after-other (Load w signed rd rs1 imm) n s h = with_other rd _ s.reg h
  reg_after-other (Store w rs1 rs2 imm) n s h = refl
  reg_after-other (Fence imm rs1 rd) n s h = refl
  reg_after-other Ecall n s h = refl
  reg_after-other Ebreak n s h = refl

not_both : (b : Bool) → b ≡ true → b ≡ false → ⊥
not_both b t f = let e : true ≡ false = sym t ∙ f in cc

-- a step that stays within the regions keeps all else, where its destination is one of the registers
pub kept-step : (rs : List ℕ) (regions : List Region) (s0 s u : State) (i : Instr) → instruction_at s ≡ Some i → ((destination i ≡ 0 → ⊥) → Contains rs (destination i))
    → (step s ≡ Some u) × ((a : ℕ) → IsTouched (touches s) a → is_within regions a ≡ true) → IsKept rs regions s0 s → IsKept rs regions s0 u
kept-step rs regions s0 s u i is writes steps h = record {
  registers = λ r out. (
      let a = step-act s u steps.0 in
      let same : a.0 ≡ i = some_instr a.0 i (sym a.1 ∙ is) in
      ap (λ (x : State). x.reg r) (act-some a.0 (length_at s) s u a.2).1
      ∙ reg_after-other r a.0 (length_at s) s (λ ne e. out (subst (Contains rs) (sym (e ∙ ap destination same)) (writes (λ z. ne (ap destination same ∙ z)))))
      ∙ h.registers r out);
  bytes = λ a out. step-untouched s u a steps.0 (λ t. not_both (is_within regions a) (steps.1 a t) out) ∙ h.bytes a out;
  present = λ a. step-present s u steps.0 a ∙ h.present a;
}
  where
    some_instr : (x y : Instr) → Some x ≡ Some y → x ≡ y
    some_instr x y e = cc

-- an address in one of the regions is within them
pub in-one : (regions : List Region) (q a : ℕ) → IsSomeAnd (slice_get regions q) (λ region. region a ≡ true) → is_within regions a ≡ true
in-one [] q a h = absurd h
in-one (r ∷ rs) zero a h = λ i. h i || is_within rs a
in-one (r ∷ rs) (suc q) a h = by (r a) (in-one rs q a h)
  where
    by : (b : Bool) → is_within rs a ≡ true → (b || is_within rs a) ≡ true
    by true h = refl
    by false h = h

-- Runs below an address, a step after the other.
use Rattle.std.proofs.Common.{◌≡◌, ◌≢◌, ℕ, zero, suc, ◌+◌, ◌-◌, ◌<◌, ◌≤◌, Bool, true, false, Some, pos, refl, sym, ap, subst, ◌∙◌, inl, inr, arith}
use Rattle.std.specs.Option.{option_and_then, unwrap_or}
use Rattle.std.proofs.lemmas.Bool.Decides.{leb_tells}
use Rattle.rv_decode.specs.declared.instruction.Instr.{Instr}
use Rattle.rv_decode.specs.declared.instruction.Instr.TheVariants.{Op, OpImm, Lui, Auipc, Jal, Jalr, Branch, Load, Store, Fence, Ecall, Ebreak}
use Rattle.rv_machine.specs.State.{State}
use Rattle.rv_machine.specs.Step.{instruction_at, step}
use Rattle.rv_machine.specs.Run.{run, Misses, IsAtReturn}
use Rattle.rv_machine.specs.Touches.{touched, touched_by, touches, nothing}
use Rattle.rv_machine.proofs.RunLemmas.{run-more}
use Rattle.self_test.specs.Runs.{TouchesNothing}

-- an operation, a jump by an offset or a branch
abbrev pub is_plain : Instr → Bool
is_plain (Op o rd rs1 rs2) = true
is_plain (OpImm o rd rs1 imm) = true
is_plain (Jal rd offset) = true
is_plain (Branch c rs1 rs2 offset) = true
is_plain i = false

-- the state stands below q, at such an instruction
pub record IsPlain (q : ℕ) (s : State) : Type 0 where
  pub below : s.pc < q
  pub instr : Instr
  pub there : instruction_at s ≡ Some instr
  pub plain : is_plain instr ≡ true

-- a run of k steps from s to t, each of which begins in such a state
pub data Way (q : ℕ) : State → State → ℕ → Type 0 where
  stays : (s : State) → Way q s s 0
  goes : (s t u : State) (k : ℕ) → IsPlain q s → step s ≡ Some t → Way q t u k → Way q s u (suc k)

pub join : (q : ℕ) (s t u : State) (j k : ℕ) → Way q s t j → Way q t u k → Way q s u (j + k)
join q _ _ u _ k (stays s) w = let e : k ≡ 0 + k = omega arith in subst (Way q s u) e w
join q _ _ u _ k (goes s r t j plain e v) w =
    let more : suc (j + k) ≡ suc j + k = omega arith in
    subst (Way q s u) more (goes s r u (j + k) plain e (join q r t u j k v w))

pub way-run : (q : ℕ) (s t : State) (k : ℕ) → Way q s t k → run s k ≡ Some t
unfolding run
way-run q _ _ _ (stays s) = refl
way-run q _ _ _ (goes s r t k plain e v) = ap (option_and_then (λ x. run x k)) e ∙ way-run q r t k v

same : (s t : State) → Some s ≡ Some t → s ≡ t
same s t e = ap (λ o. unwrap_or o s) e

way-plain : (q : ℕ) (s t : State) (k : ℕ) → Way q s t k → (j : ℕ) → j < k → (x : State) → run s j ≡ Some x → IsPlain q x
unfolding run
way-plain q _ _ _ (stays s) j h x e = elim (nothing_below j h) [ ]
  where
    nothing_below : (j : ℕ) → j < 0 → ⊥
    nothing_below j h = omega (arith, h)
way-plain q _ _ _ (goes s r t k plain e v) zero h x at = subst (IsPlain q) (same s x at) plain
way-plain q _ _ _ (goes s r t k plain e v) (suc j) h x at =
    way-plain q r t k v j (omega (arith, h)) x (sym (ap (option_and_then (λ y. run y j)) e) ∙ at)

-- ---- what such a state does not do

touches-nothing : (s : State) (i : Instr) → touched i s ≡ nothing → instruction_at s ≡ Some i → TouchesNothing s
unfolding touches
touches-nothing s i none there a t =
    let e : touches s ≡ nothing = ap (λ o. touched_by o s) there ∙ none in
    let few : t.0 < (touches s).count = t.1 in
    let zero : (touches s).count ≡ 0 = (λ k. (e k).count) in
    omega (arith, few, zero)

plain-touched : (i : Instr) (s : State) → is_plain i ≡ true → touched i s ≡ nothing
plain-touched (Op o rd rs1 rs2) s h = refl
plain-touched (OpImm o rd rs1 imm) s h = refl
plain-touched (Jal rd offset) s h = refl
plain-touched (Branch c rs1 rs2 offset) s h = refl
plain-touched (Lui rd imm) s h = refl
plain-touched (Auipc rd imm) s h = refl
plain-touched (Jalr rd rs1 imm) s h = refl
plain-touched (Load w signed rd rs1 imm) s h = absurd (cc)
plain-touched (Store w rs1 rs2 imm) s h = absurd (cc)
plain-touched (Fence imm rs1 rd) s h = refl
plain-touched Ecall s h = refl
plain-touched Ebreak s h = refl

same-instr : (i j : Instr) → Some i ≡ Some j → i ≡ j
same-instr i j e = ap (λ o. unwrap_or o i) e

plain-no-return : (q : ℕ) (s : State) → IsPlain q s → IsAtReturn s → ⊥
plain-no-return q s p r =
    let e : p.instr ≡ Jalr 0 1 (pos 0) = same-instr p.instr (Jalr 0 1 (pos 0)) (sym p.there ∙ r) in
    let never : false ≡ true = sym (ap is_plain e) ∙ p.plain in
    cc

-- ---- a way, and a return after it

module _ (q k : ℕ) (s t u : State) (w : Way q s t k) (below : t.pc < q) (there : IsAtReturn t) (returns : step t ≡ Some u) where
  pub return-run : run s (k + 1) ≡ Some u
  return-run = run-more s t u k (way-run q s t k w) returns

  -- what holds at each step
  each : (P : State → Type 0) → ((x : State) → IsPlain q x → P x) → P t → (j : ℕ) → j < k + 1 → (x : State) → run s j ≡ Some x → P x
  each P plain last j h x at = elim (leb_tells k j) [
    | inl l ↦
        let e : k ≡ j = omega (arith, l.1, h) in
        subst P (same t x (sym (way-run q s t k w) ∙ (λ i. run s (e i)) ∙ at)) last
    | inr l ↦ plain x (way-plain q s t k w j l.1 x at)
  ]

  -- it meets no address from q on before
  pub return-misses : (a : ℕ) → q ≤ a → Misses a s (k + 1)
  return-misses a far j h x at = each (λ y. y.pc ≢ a) (λ y p e. omega (arith, p.below, far, e)) (λ e. omega (arith, below, far, e)) j h x at

  pub return-untouched : (j : ℕ) (x : State) → j < k + 1 → run s j ≡ Some x → TouchesNothing x
  return-untouched j x h at =
      each TouchesNothing (λ y p. touches-nothing y p.instr (plain-touched p.instr y p.plain) p.there) (touches-nothing t (Jalr 0 1 (pos 0)) refl there) j h x at

  pub return-last : (x : State) → run s (k + 1 - 1) ≡ Some x → IsAtReturn x
  return-last x at =
      let e : k ≡ k + 1 - 1 = omega arith in
      subst IsAtReturn (same t x (sym (way-run q s t k w) ∙ (λ i. run s (e i)) ∙ at)) there

  pub return-first : (j : ℕ) (x : State) → j < k + 1 - 1 → run s j ≡ Some x → IsAtReturn x → ⊥
  return-first j x h at = plain-no-return q x (way-plain q s t k w j (omega (arith, h)) x at)

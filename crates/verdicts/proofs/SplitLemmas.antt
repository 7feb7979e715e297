-- A state that a function starts in consists of its registers, its regions, its code and the rest.
use Rattle.std.proofs.Common.{◌≡◌, ℕ, ◌+◌, ◌≤◌, Bool, true, false, cond, Option, Some, None, List, [], ◌∷◌, map, refl, sym, ap, ◌∙◌, arith}
use Rattle.std.specs.Prelude.{◌==◌, ◌||◌, Contains, AllPairs}
use Rattle.std.proofs.lemmas.Bool.{eqb-true}
use Rattle.rv_words.specs.Bytes.{Bytes}
use Rattle.rv_machine.specs.State.{State}
use Rattle.tailrec_lang.specs.Tree.{GroupTree}
use Rattle.rv_words.specs.Ranges.{range_bytes}
use Rattle.sep_assert.specs.Part.{Key, Pc, Register, Byte, Slot, Free, Has, both, Part, ◌⊕◌, slot_of, code_part}
use Rattle.triple_kernel.specs.Valid.{is_register, state_part}
use Rattle.tailrec_lang.specs.Registers.{AreRegistersFrom}
use Rattle.claims.specs.Headline.{Region, cut, is_within, AreApart}
use Rattle.verdicts.proofs.PartLemmas.{both-free, both-assoc, has-left, has-same, held_part, memories_part, words-pc, words-byte, memories-pc, memories-register, has_register, has_none, words-of, words-elsewhere, is_register-in, regions-of}

-- a byte that isn't code
abbrev pub beside : Option ℕ → Option ℕ → Slot
beside None o = slot_of o
beside (Some b) o = Free

-- what of a state is neither in the group's registers nor in the regions nor code
abbrev pub left_over : GroupTree → List Region → State → Part
left_over g regions s Pc = Free
left_over g regions s (Register r) = cond (has_register g.regs r) Free (state_part s (Register r))
left_over g regions s (Byte a) = cond (is_within regions a) Free (beside (range_bytes g.code a) (s.mem a))

listed-step : (b : Bool) (k r : ℕ) (t : Bool) → (k == r) ≡ b → (b || t) ≡ true → 1 ≤ r → r ≤ 31 → (t ≡ true → is_register k ≡ true) → is_register k ≡ true
listed-step true k r t e h low high later = let same = eqb-true k r e in is_register-in k (omega arith) (omega arith)
listed-step false k r t e h low high later = later h

listed_def-register : (least : ℕ) (rs : List ℕ) (k : ℕ) → 1 ≤ least → AreRegistersFrom least rs → has_register rs k ≡ true → is_register k ≡ true
listed_def-register least [] k low are e = absurd (cc)
listed_def-register least (r ∷ rs) k low are e =
    listed-step (k == r) k r (has_register rs k) refl e (omega (arith, are.0)) are.1 (λ h. listed_def-register (r + 1) rs k (omega arith) are.2 h)

register-split : (h : Bool) (x W M : Slot) (n : ℕ) → W ≡ cond h (Has n) Free → M ≡ Free → (h ≡ true → x ≡ Has n) → x ≡ both (both Free (both W M)) (both Free (cond h Free x))
register-split true x W M n w m is = is refl ∙ (λ i. both (both (sym w i) (sym m i)) Free)
register-split false x W M n w m is = λ i. both (both (sym w i) (sym m i)) x

-- code and the rest at an address outside the regions have what the state has
pub code-beside : (c o : Option ℕ) → ((b : ℕ) → c ≡ Some b → o ≡ Some b) → both (slot_of c) (beside c o) ≡ slot_of o
code-beside None o same = refl
code-beside (Some b) o same = ap slot_of (sym (same b refl))

byte-split : (t : Bool) (c o : Option ℕ) (W M : Slot) → W ≡ Free → M ≡ cond t (slot_of o) Free → ((b : ℕ) → c ≡ Some b → t ≡ false) → ((b : ℕ) → c ≡ Some b → o ≡ Some b)
    → slot_of o ≡ both (both W M) (both (slot_of c) (cond t Free (beside c o)))
byte-split true None o W M w m apart same = sym (both-free (slot_of o)) ∙ (λ i. both (both (sym w i) (sym m i)) Free)
byte-split true (Some b) o W M w m apart same = absurd (let e = apart b refl in cc)
byte-split false c o W M w m apart same = sym (code-beside c o same) ∙ (λ i. both (both (sym w i) (sym m i)) (both (slot_of c) (beside c o)))

module _ (g : GroupTree) (regions : List Region) (s : State) (are : AreRegistersFrom 1 g.regs) (apart : AllPairs AreApart regions)
    (beside_code : (a b : ℕ) → range_bytes g.code a ≡ Some b → is_within regions a ≡ false) (code : (a b : ℕ) → range_bytes g.code a ≡ Some b → s.mem a ≡ Some b) where
  split-at : (k : Key) → state_part s k ≡ (held_part s.pc g.regs (map s.reg g.regs) (map (cut s.mem) regions) ⊕ (code_part g.code ⊕ left_over g regions s)) k
  split-at Pc = λ i. both (both (Has s.pc) (both (sym (words-pc g.regs (map s.reg g.regs)) i) (sym (memories-pc (map (cut s.mem) regions)) i))) Free
  split-at (Register r) =
      register-split (has_register g.regs r) (state_part s (Register r)) _ _ (s.reg r) (words-of s.reg g.regs r are) (memories-register (map (cut s.mem) regions) r)
      (λ listed_def. λ i. cond (listed_def-register 1 g.regs r (omega arith) are listed_def i) (Has (s.reg r)) Free)
  split-at (Byte a) =
      byte-split (is_within regions a) (range_bytes g.code a) (s.mem a) _ _ (words-byte g.regs (map s.reg g.regs) a) (regions-of s.mem regions a apart) (beside_code a) (code a)

  pub state-splits : state_part s ≡ held_part s.pc g.regs (map s.reg g.regs) (map (cut s.mem) regions) ⊕ (code_part g.code ⊕ left_over g regions s)
  state-splits = λ i k. split-at k i

  -- ---- and what a state is that has the rest of it
  module _ (u : State) (pc : ℕ) (ws : List ℕ) (ms : List Bytes) (whole : state_part u ≡ held_part pc g.regs ws ms ⊕ (code_part g.code ⊕ left_over g regions s)) where
    pub pc-read : u.pc ≡ pc
    pc-read = sym (has-left pc u.pc _ (sym ((λ i. whole i Pc) ∙ both-assoc (Has pc) _ _)))

    pub register-read : (r : ℕ) → is_register r ≡ true → (Contains g.regs r → ⊥) → u.reg r ≡ s.reg r
    register-read r is never =
        let none = has_none g.regs r never in
        has-same (u.reg r) (s.reg r)
        ((λ i. cond (sym is i) (Has (u.reg r)) Free) ∙ (λ i. whole i (Register r))
        ∙ (λ i. both (both Free (both (words-elsewhere g.regs ws r none i) (memories-register ms r i))) (both Free (cond (none i) Free (cond (is i) (Has (s.reg r)) Free)))))

    bytes-are : (a : ℕ) → slot_of (u.mem a) ≡ both (memories_part ms (Byte a)) (both (slot_of (range_bytes g.code a)) (cond (is_within regions a) Free (beside (range_bytes g.code a) (s.mem a))))
    bytes-are a =
        (λ i. whole i (Byte a))
        ∙ (λ i. both (both Free (both (words-byte g.regs ws a i) (memories_part ms (Byte a)))) (both (slot_of (range_bytes g.code a)) (cond (is_within regions a) Free (beside (range_bytes g.code a) (s.mem a)))))

    pub byte-outside : (a : ℕ) → is_within regions a ≡ false → slot_of (u.mem a) ≡ both (memories_part ms (Byte a)) (slot_of (s.mem a))
    byte-outside a out =
        bytes-are a
        ∙ (λ i. both (memories_part ms (Byte a)) (both (slot_of (range_bytes g.code a)) (cond (out i) Free (beside (range_bytes g.code a) (s.mem a)))))
        ∙ (λ i. both (memories_part ms (Byte a)) (code-beside (range_bytes g.code a) (s.mem a) (code a) i))

    pub byte-inside : (a : ℕ) → is_within regions a ≡ true → slot_of (u.mem a) ≡ both (memories_part ms (Byte a)) Free
    byte-inside a there =
        bytes-are a
        ∙ (λ i. both (memories_part ms (Byte a)) (both (slot_of (range_bytes g.code a)) (cond (there i) Free (beside (range_bytes g.code a) (s.mem a)))))
        ∙ (λ i. both (memories_part ms (Byte a)) (no-code (range_bytes g.code a) (λ b is. beside_code a b is) there i))
      where
        no-code : (c : Option ℕ) → ((b : ℕ) → c ≡ Some b → is_within regions a ≡ false) → is_within regions a ≡ true → both (slot_of c) Free ≡ Free
        no-code None apart_code there = refl
        no-code (Some b) apart_code there = absurd (let e = apart_code b refl in cc)

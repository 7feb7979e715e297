-- What the parts that assertions describe have at each key.
use Rattle.std.proofs.Common.{◌≡◌, ℕ, List, [], ◌∷◌, refl, ◌∙◌}
use Rattle.word_terms.specs.Tree.{WordTree, MemTree}
use Rattle.word_terms.specs.Environment.{Environment}
use Rattle.word_terms.specs.Value.{word_value}
use Rattle.sep_assert.specs.Tree.{AssertionTree}
use Rattle.sep_assert.specs.Part.{Pc, Register, Byte, Slot, Free, Has, Clash, both, registers_part, mems_part, part_of}

-- ---- slots

pub both_free : (x : Slot) → both x Free ≡ x
both_free Free = refl
both_free (Has n) = refl
both_free Clash = refl

-- the two are nothing
pub left_free : (x y : Slot) → both x y ≡ Free → (x ≡ Free) × (y ≡ Free)
left_free Free y e = (refl, e)
left_free (Has n) Free e = absurd (cc)
left_free (Has n) (Has m) e = absurd (cc)
left_free (Has n) Clash e = absurd (cc)
left_free Clash y e = absurd (cc)

-- where one of two slots has a number and they don't clash, the other has nothing
pub other_free : (n : ℕ) (y : Slot) → (both (Has n) y ≡ Clash → ⊥) → y ≡ Free
other_free n Free h = refl
other_free n (Has m) h = absurd (h refl)
other_free n Clash h = absurd (h refl)

pub has_same : (n m : ℕ) → Has n ≡ Has m → n ≡ m
has_same n m e = cc

-- ---- assertions

registers-pc : (rs : List (ℕ × WordTree)) (e : Environment) → registers_part rs e Pc ≡ Free
registers-pc [] e = refl
registers-pc (r ∷ rs) e = registers-pc rs e

registers-byte : (rs : List (ℕ × WordTree)) (e : Environment) (a : ℕ) → registers_part rs e (Byte a) ≡ Free
registers-byte [] e a = refl
registers-byte (r ∷ rs) e a = registers-byte rs e a

mems-pc : (ms : List MemTree) (e : Environment) → mems_part ms e Pc ≡ Free
mems-pc [] e = refl
mems-pc (m ∷ ms) e = mems-pc ms e

mems-register : (ms : List MemTree) (e : Environment) (q : ℕ) → mems_part ms e (Register q) ≡ Free
mems-register [] e q = refl
mems-register (m ∷ ms) e q = mems-register ms e q

pub part-pc : (a : AssertionTree) (e : Environment) → part_of a e Pc ≡ Has (word_value a.pc e)
part-pc a e = let r = registers-pc a.regs e in let m = mems-pc a.mems e in λ i. both (Has (word_value a.pc e)) (both (r i) (m i))

pub part-register : (a : AssertionTree) (e : Environment) (q : ℕ) → part_of a e (Register q) ≡ registers_part a.regs e (Register q)
part-register a e q = let m = mems-register a.mems e q in (λ i. both (registers_part a.regs e (Register q)) (m i)) ∙ both_free _

pub part-byte : (a : AssertionTree) (e : Environment) (q : ℕ) → part_of a e (Byte q) ≡ mems_part a.mems e (Byte q)
part-byte a e q = let r = registers-byte a.regs e q in λ i. both (r i) (mems_part a.mems e (Byte q))

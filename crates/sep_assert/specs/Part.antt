-- Parts of a machine's state, and their union. A part may hold the program counter, some registers and some bytes, each
-- with a number. Parts are put together only where none of them holds what another holds: then each may be changed
-- without a look at the others (Reynolds, Separation Logic, 2002).
use Rattle.std.specs.Prelude.{◌≡◌, ℕ, ◌==◌, if◌then◌else◌, ◌↔◌, ◌⊎◌, Option, Some, None, List, [], ◌∷◌}
use Rattle.rv_words.specs.Bytes.{Bytes}
use Rattle.rv_words.specs.declared.range.Range.{Range}
use Rattle.word_terms.specs.Tree.{WordTree, MemTree}
use Rattle.word_terms.specs.Environment.{Environment}
use Rattle.word_terms.specs.Value.{word_value, mem_value}
use Rattle.sep_assert.specs.Tree.{AssertionTree}
use Rattle.rv_words.specs.Ranges.{range_bytes}

-- what a part may hold: the program counter, a register, or the byte at an address
pub data Key : Type 0 where
  Pc : Key
  Register : (r : ℕ) → Key
  Byte : (a : ℕ) → Key

-- what is at a key: nothing, a number, or a clash of two parts that both have something there
pub data Slot : Type 0 where
  Free : Slot
  Has : (n : ℕ) → Slot
  Clash : Slot

abbrev pub Part : Type 0
Part = Key → Slot

-- two slots put together
abbrev pub both : Slot → Slot → Slot
both Free y = y
both (Has n) Free = Has n
both (Has n) (Has m) = Clash
both (Has n) Clash = Clash
both Clash y = Clash

-- the union of two parts, which clashes wherever they aren't disjoint
infixl 20 ◌⊕◌
abbrev pub ◌⊕◌ : Part → Part → Part
(p ⊕ q) k = both (p k) (q k)

-- ---- what a clash stands for

-- a part in which nothing clashes; any other is a union that doesn't exist
abbrev pub Exists : Part → Type 0
Exists p = (k : Key) → p k ≡ Clash → ⊥

-- no key is in both
abbrev pub Disjoint : Part → Part → Type 0
Disjoint p q = (k : Key) → (p k ≡ Free) ⊎ (q k ≡ Free)

-- three parts that exist, no two of which share a key, and which are the whole together
pub record MakeUp (whole p q r : Part) : Type 0 where
  pub first : Exists p
  pub second : Exists q
  pub third : Exists r
  pub first_second : Disjoint p q
  pub first_third : Disjoint p r
  pub second_third : Disjoint q r
  pub together : (k : Key) (n : ℕ) → (whole k ≡ Has n) ↔ ((p k ≡ Has n) ⊎ ((q k ≡ Has n) ⊎ (r k ≡ Has n)))

-- ---- the part that an assertion describes

abbrev pub nothing : Part
nothing k = Free

-- a number, or nothing
abbrev pub slot_of : Option ℕ → Slot
slot_of None = Free
slot_of (Some n) = Has n

-- the program counter alone
abbrev pub pc_part : ℕ → Part
pc_part n Pc = Has n
pc_part n (Register q) = Free
pc_part n (Byte a) = Free

-- one register alone
abbrev pub register_part : ℕ → ℕ → Part
register_part r n Pc = Free
register_part r n (Register q) = if q == r then Has n else Free
register_part r n (Byte a) = Free

-- bytes alone
abbrev pub bytes_part : Bytes → Part
bytes_part m Pc = Free
bytes_part m (Register q) = Free
bytes_part m (Byte a) = slot_of (m a)

-- the bytes of code alone
abbrev pub code_part : List Range → Part
code_part ranges = bytes_part (range_bytes ranges)

-- registers with the values of their terms
abbrev pub registers_part : List (ℕ × WordTree) → Environment → Part
registers_part [] e = nothing
registers_part (r ∷ rs) e = register_part r.0 (word_value r.1 e) ⊕ registers_part rs e

-- the bytes of memories
abbrev pub mems_part : List MemTree → Environment → Part
mems_part [] e = nothing
mems_part (m ∷ ms) e = bytes_part (mem_value m e) ⊕ mems_part ms e

-- the program counter, the registers and the memories of an assertion, with the values of their terms, and nothing else.
-- It clashes where two memories share an address.
abbrev pub part_of : AssertionTree → Environment → Part
part_of a e = pc_part (word_value a.pc e) ⊕ (registers_part a.regs e ⊕ mems_part a.mems e)

-- Parts put together in other orders, and parts of lists.
use Rattle.std.proofs.Common.{◌≡◌, ℕ, Bool, true, false, cond, not, List, [], ◌∷◌, ◌++◌, Option, Some, None, refl, sym, ap, ◌∙◌}
use Rattle.std.specs.List.{filter}
use Rattle.std.specs.Option.{option_or}
use Rattle.rv_words.specs.Bytes.{Bytes, over}
use Rattle.rv_words.specs.Ranges.{range_bytes}
use Rattle.rv_words.specs.declared.range.Range.{Range}
use Rattle.word_terms.specs.Tree.{WordTree, MemTree}
use Rattle.word_terms.specs.Environment.{Environment}
use Rattle.word_terms.specs.Value.{word_value, mem_value}
use Rattle.sep_assert.specs.Code.{Agree, IsWithin}
use Rattle.sep_assert.specs.Part.{Key, Pc, Register, Byte, both, Part, ◌⊕◌, slot_of, register_part, bytes_part, code_part, registers_part, mems_part}
use Rattle.sep_assert.proofs.Unions.{union-comm, union-assoc}

-- the second of three comes first
pub union-left : (p q r : Part) → p ⊕ (q ⊕ r) ≡ q ⊕ (p ⊕ r)
union-left p q r = sym (union-assoc p q r) ∙ (λ i. union-comm p q i ⊕ r) ∙ union-assoc q p r

-- a part goes over the next one
pub union-over : (p f c r : Part) → (p ⊕ f) ⊕ (c ⊕ r) ≡ p ⊕ (c ⊕ (f ⊕ r))
union-over p f c r = union-assoc p f (c ⊕ r) ∙ (λ i. p ⊕ union-left f c r i)

pub union-pairs : (p f c r : Part) → (p ⊕ f) ⊕ (c ⊕ r) ≡ (p ⊕ c) ⊕ (f ⊕ r)
union-pairs p f c r = union-over p f c r ∙ sym (union-assoc p c (f ⊕ r))

-- registers are those with a test and those without
pub registers-parted : (e : Environment) (test : ℕ × WordTree → Bool) (rs : List (ℕ × WordTree))
    → registers_part rs e ≡ registers_part (filter test rs) e ⊕ registers_part (filter (λ r. not (test r)) rs) e
registers-parted e test [] = refl
registers-parted e test (r ∷ rs) = here (test r) (registers-parted e test rs)
  where
    one : Part
    one = register_part r.0 (word_value r.1 e)

    has : List (ℕ × WordTree)
    has = filter test rs

    lacks : List (ℕ × WordTree)
    lacks = filter (λ q. not (test q)) rs

    here : (b : Bool) → registers_part rs e ≡ registers_part has e ⊕ registers_part lacks e
        → one ⊕ registers_part rs e ≡ registers_part (cond b (r ∷ has) has) e ⊕ registers_part (cond (not b) (r ∷ lacks) lacks) e
    here true rest = (λ i. one ⊕ rest i) ∙ sym (union-assoc one (registers_part has e) (registers_part lacks e))
    here false rest = (λ i. one ⊕ rest i) ∙ union-left one (registers_part has e) (registers_part lacks e)

-- memories one after another
pub mems-append : (e : Environment) (ms ns : List MemTree) → mems_part (ms ++ ns) e ≡ mems_part ms e ⊕ mems_part ns e
mems-append e [] ns = refl
mems-append e (m ∷ ms) ns = (λ i. bytes_part (mem_value m e) ⊕ mems-append e ms ns i) ∙ sym (union-assoc (bytes_part (mem_value m e)) (mems_part ms e) (mems_part ns e))

-- ---- bytes beyond others

-- what y has where x has nothing
abbrev pub beyond : Option ℕ → Option ℕ → Option ℕ
beyond None y = y
beyond (Some b) y = None

beyond-slot : (x y : Option ℕ) → ((b : ℕ) → x ≡ Some b → y ≡ Some b) → slot_of y ≡ both (slot_of x) (slot_of (beyond x y))
beyond-slot None y within = refl
beyond-slot (Some b) y within = ap slot_of (within b refl)

within-at : (x y : Bytes) → IsWithin x y → (k : Key) → bytes_part y k ≡ (bytes_part x ⊕ bytes_part (λ a. beyond (x a) (y a))) k
within-at x y within Pc = refl
within-at x y within (Register r) = refl
within-at x y within (Byte a) = beyond-slot (x a) (y a) (within a)

-- bytes are those within them and others
pub bytes-within : (x y : Bytes) → IsWithin x y → bytes_part y ≡ bytes_part x ⊕ bytes_part (λ a. beyond (x a) (y a))
bytes-within x y within = let at : (k : Key) → bytes_part y k ≡ (bytes_part x ⊕ bytes_part (λ a. beyond (x a) (y a))) k = within-at x y within in λ i k. at k i

-- code with other code in it is that code and a rest
pub code-within : (a b : List Range) → IsWithin (range_bytes a) (range_bytes b) → (more : Part) × (code_part b ≡ code_part a ⊕ more)
code-within a b within = (bytes_part (λ q. beyond (range_bytes a q) (range_bytes b q)), bytes-within (range_bytes a) (range_bytes b) within)

-- ---- bytes that agree

some-same : (b c : ℕ) → Some b ≡ Some c → b ≡ c
some-same b c e = cc

pub agree-within : (x y z : Bytes) → IsWithin x z → IsWithin y z → Agree x y
agree-within x y z f g a b c hb hc = some-same b c (sym (f a b hb) ∙ g a c hc)

over-first : (x y : Option ℕ) (b : ℕ) → x ≡ Some b → option_or x y ≡ Some b
over-first x y b e = (λ i. option_or (e i) y)

over-second : (x y : Option ℕ) (b : ℕ) → ((c : ℕ) → x ≡ Some c → c ≡ b) → y ≡ Some b → option_or x y ≡ Some b
over-second None y b agree e = e
over-second (Some c) y b agree e = ap Some (agree c refl)

pub within-first : (x y : Bytes) → IsWithin x (over x y)
within-first x y a b e = over-first (x a) (y a) b e

pub within-second : (x y : Bytes) → Agree x y → IsWithin y (over x y)
within-second x y agree a b e = over-second (x a) (y a) b (λ c f. agree a c b f e) e

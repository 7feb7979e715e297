-- A memory as two arrays.
use Rattle.std.specs.Prelude.{◌≡◌, ℕ, ◌<◌, ◌^◌, Some, is_some, if◌then◌else◌}
use Rattle.rv_words.specs.Bytes.{Bytes}
use Rattle.smt_terms.specs.Operators.{Value, Array}

-- the first array has the memory's bytes where they are present, and anything elsewhere; the second says where they are
pub record IsMemoryOf (memory : Bytes) (bytes domain : Value) : Type 0 where
  pub at : ℕ → ℕ
  pub bits : ℕ → ℕ
  pub bytes_is : bytes ≡ Array 8 at
  pub domain_is : domain ≡ Array 1 bits
  pub byte : (a b : ℕ) → memory a ≡ Some b → at a ≡ b
  pub present : (a : ℕ) → a < 2 ^ 64 → bits a ≡ (if is_some (memory a) then 1 else 0)

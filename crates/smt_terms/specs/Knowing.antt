-- When functions stand for operations and accesses.
use Rattle.std.specs.Prelude.{◌≡◌, ℕ, ◌<◌, ◌^◌, [], ◌∷◌, codes, Option, Some, None}
use Rattle.rv_words.specs.Operation.{operation_value, extension_value}
use Rattle.rv_words.specs.Bytes.{Bytes, bytes_of, load, store, inside}
use Rattle.rv_words.specs.declared.operation.Op.{Op}
use Rattle.rv_words.specs.declared.extension.Ext.{Ext}
use Rattle.rv_words.specs.declared.width.Width.{Width}
use Rattle.smt_terms.specs.declared.sort.Sort.{Sort}
use Rattle.smt_terms.specs.declared.sort.Sort.TheVariants as sort
use Rattle.smt_terms.specs.Operators.{Value, Bits, Truth}
use Rattle.smt_terms.specs.Meaning.{Functions, applied}
use Rattle.smt_terms.specs.Sorts.{Rules, applied_sort}
use Rattle.smt_terms.specs.Memory.{IsMemoryOf}
use Rattle.smt_terms.specs.Functions.{op_name, ext_name, load_name, store_name, inside_name}

-- their values
pub record Knows (fs : Functions) : Type 0 where
  pub operation : (op : Op) (x y : ℕ) → x < 2 ^ 64 → y < 2 ^ 64 → applied fs (op_name op) (Bits 64 x ∷ Bits 64 y ∷ []) ≡ Bits 64 (operation_value op x y)
  pub extension : (ext : Ext) (x : ℕ) → applied fs (ext_name ext) (Bits 64 x ∷ []) ≡ Bits 64 (extension_value ext x)
  pub loads : (width : Width) (M : Bytes) (m d : Value) (x : ℕ) → IsMemoryOf M m d → x < 2 ^ 64 → applied fs (load_name width) (m ∷ d ∷ Bits 64 x ∷ []) ≡ Bits 64 (load (bytes_of width) M x)
  pub stores : (width : Width) (M : Bytes) (m d : Value) (x y : ℕ) → IsMemoryOf M m d → x < 2 ^ 64 → y < 2 ^ 64
      → IsMemoryOf (store (bytes_of width) M x y) (applied fs (store_name width) (m ∷ Bits 64 x ∷ Bits 64 y ∷ [])) d
  pub insides : (width : Width) (M : Bytes) (m d : Value) (x : ℕ) → IsMemoryOf M m d → x < 2 ^ 64 → applied fs (inside_name width) (d ∷ Bits 64 x ∷ []) ≡ Truth (inside (bytes_of width) M x)
  pub truth : fs (codes "true") ≡ None

-- and their sorts
abbrev pub word_sort : Option Sort
word_sort = Some (sort.Bits 64)

abbrev pub bytes_sort : Option Sort
bytes_sort = Some (sort.Array 8)

abbrev pub domain_sort : Option Sort
domain_sort = Some (sort.Array 1)

pub record KnowsRules (fs : Rules) : Type 0 where
  pub operation : (op : Op) → applied_sort fs (op_name op) (word_sort ∷ word_sort ∷ []) ≡ word_sort
  pub extension : (ext : Ext) → applied_sort fs (ext_name ext) (word_sort ∷ []) ≡ word_sort
  pub loads : (width : Width) → applied_sort fs (load_name width) (bytes_sort ∷ domain_sort ∷ word_sort ∷ []) ≡ word_sort
  pub stores : (width : Width) → applied_sort fs (store_name width) (bytes_sort ∷ word_sort ∷ word_sort ∷ []) ≡ bytes_sort
  pub insides : (width : Width) → applied_sort fs (inside_name width) (domain_sort ∷ word_sort ∷ []) ≡ Some sort.Bool
  pub truth : fs (codes "true") ≡ None

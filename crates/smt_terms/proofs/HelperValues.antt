-- The functions of operations and accesses have their values.
use Rattle.std.proofs.Common.{◌≡◌, ℕ, ◌<◌, ◌^◌, [], ◌∷◌, refl}
use Rattle.rv_words.specs.Operation.{operation_value, extension_value}
use Rattle.rv_words.specs.Bytes.{Bytes, bytes_of, load, store, inside}
use Rattle.rv_words.specs.declared.operation.Op.{Op}
use Rattle.rv_words.specs.declared.operation.Op.TheVariants.{Add, Sub, Sll, Slt, Sltu, Xor, Srl, Sra, Or, And, Mul, Mulh, Mulhsu, Mulhu, Div, Divu, Rem, Remu, Addw, Subw, Sllw, Srlw, Sraw, Mulw, Divw, Divuw, Remw, Remuw}
use Rattle.rv_words.specs.declared.extension.Ext.{Ext}
use Rattle.rv_words.specs.declared.extension.Ext.TheVariants.{Sx1, Sx2, Sx4}
use Rattle.rv_words.specs.declared.width.Width.{Width}
use Rattle.rv_words.specs.declared.width.Width.TheVariants.{B1, B2, B4, B8}
use Rattle.smt_terms.specs.Operators.{Value, Bits, Truth}
use Rattle.smt_terms.specs.Meaning.{Functions, functions_after, applied, no_names}
use Rattle.smt_terms.specs.Memory.{IsMemoryOf}
use Rattle.smt_terms.specs.Functions.{op_name, ext_name, load_name, store_name, inside_name, helpers}
use Rattle.smt_terms.specs.Knowing.{Knows}
use Rattle.smt_terms.proofs.OperationValues.{operations}
use Rattle.smt_terms.proofs.AccessValues.{extensions, loads, stores, insides}

abbrev pub base : Functions
base = functions_after no_names helpers

op_known : (op : Op) (x y : ℕ) → x < 2 ^ 64 → y < 2 ^ 64 → applied base (op_name op) (Bits 64 x ∷ Bits 64 y ∷ []) ≡ Bits 64 (operation_value op x y)
op_known Add x y h l = operations no_names Add x y h l
op_known Sub x y h l = operations no_names Sub x y h l
op_known Sll x y h l = operations no_names Sll x y h l
op_known Slt x y h l = operations no_names Slt x y h l
op_known Sltu x y h l = operations no_names Sltu x y h l
op_known Xor x y h l = operations no_names Xor x y h l
op_known Srl x y h l = operations no_names Srl x y h l
op_known Sra x y h l = operations no_names Sra x y h l
op_known Or x y h l = operations no_names Or x y h l
op_known And x y h l = operations no_names And x y h l
op_known Mul x y h l = operations no_names Mul x y h l
op_known Mulh x y h l = operations no_names Mulh x y h l
op_known Mulhsu x y h l = operations no_names Mulhsu x y h l
op_known Mulhu x y h l = operations no_names Mulhu x y h l
op_known Div x y h l = operations no_names Div x y h l
op_known Divu x y h l = operations no_names Divu x y h l
op_known Rem x y h l = operations no_names Rem x y h l
op_known Remu x y h l = operations no_names Remu x y h l
op_known Addw x y h l = operations no_names Addw x y h l
op_known Subw x y h l = operations no_names Subw x y h l
op_known Sllw x y h l = operations no_names Sllw x y h l
op_known Srlw x y h l = operations no_names Srlw x y h l
op_known Sraw x y h l = operations no_names Sraw x y h l
op_known Mulw x y h l = operations no_names Mulw x y h l
op_known Divw x y h l = operations no_names Divw x y h l
op_known Divuw x y h l = operations no_names Divuw x y h l
op_known Remw x y h l = operations no_names Remw x y h l
op_known Remuw x y h l = operations no_names Remuw x y h l

ext_known : (ext : Ext) (x : ℕ) → applied base (ext_name ext) (Bits 64 x ∷ []) ≡ Bits 64 (extension_value ext x)
ext_known Sx1 x = extensions no_names Sx1 x
ext_known Sx2 x = extensions no_names Sx2 x
ext_known Sx4 x = extensions no_names Sx4 x

load_known : (width : Width) (M : Bytes) (m d : Value) (x : ℕ) → IsMemoryOf M m d → x < 2 ^ 64 → applied base (load_name width) (m ∷ d ∷ Bits 64 x ∷ []) ≡ Bits 64 (load (bytes_of width) M x)
load_known B1 M m d x is h = loads no_names M m d is x h B1
load_known B2 M m d x is h = loads no_names M m d is x h B2
load_known B4 M m d x is h = loads no_names M m d is x h B4
load_known B8 M m d x is h = loads no_names M m d is x h B8

store_known : (width : Width) (M : Bytes) (m d : Value) (x y : ℕ) → IsMemoryOf M m d → x < 2 ^ 64 → y < 2 ^ 64
    → IsMemoryOf (store (bytes_of width) M x y) (applied base (store_name width) (m ∷ Bits 64 x ∷ Bits 64 y ∷ [])) d
store_known B1 M m d x y is h l = stores no_names M m d is x y h l B1
store_known B2 M m d x y is h l = stores no_names M m d is x y h l B2
store_known B4 M m d x y is h l = stores no_names M m d is x y h l B4
store_known B8 M m d x y is h l = stores no_names M m d is x y h l B8

inside_known : (width : Width) (M : Bytes) (m d : Value) (x : ℕ) → IsMemoryOf M m d → x < 2 ^ 64 → applied base (inside_name width) (d ∷ Bits 64 x ∷ []) ≡ Truth (inside (bytes_of width) M x)
inside_known B1 M m d x is h = insides no_names M m d is x h B1 refl
inside_known B2 M m d x is h = insides no_names M m d is x h B2 refl
inside_known B4 M m d x is h = insides no_names M m d is x h B4 refl
inside_known B8 M m d x is h = insides no_names M m d is x h B8 refl

pub helpers-know : Knows base
helpers-know = record { operation = op_known; extension = ext_known; loads = load_known; stores = store_known; insides = inside_known; truth = refl }

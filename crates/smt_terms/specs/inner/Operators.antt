-- The operators by their names.
use Rattle.std.specs.Prelude.{ℕ, List, [], ◌∷◌, codes, Option, Some, None, if◌then◌else◌}
use Rattle.std.specs.Str.{bytes_eq}
use Rattle.smt_terms.specs.Operators.{Head, NoHead, operators, with_numeral, with_numerals, found}
use Rattle.smt_terms.specs.declared.operator.Binary.{Binary}
use Rattle.smt_terms.specs.declared.operator.Binary.TheVariants as binary
use Rattle.smt_terms.specs.declared.operator.Operator.{Operator}
use Rattle.smt_terms.specs.declared.operator.Operator.TheVariants as operator

abbrev pub binary_name : Binary → List ℕ
binary_name binary.Add = codes "bvadd"
binary_name binary.Sub = codes "bvsub"
binary_name binary.Mul = codes "bvmul"
binary_name binary.Udiv = codes "bvudiv"
binary_name binary.Urem = codes "bvurem"
binary_name binary.And = codes "bvand"
binary_name binary.Or = codes "bvor"
binary_name binary.Xor = codes "bvxor"
binary_name binary.Shl = codes "bvshl"
binary_name binary.Lshr = codes "bvlshr"
binary_name binary.Ashr = codes "bvashr"

abbrev pub operator_name : Operator → List ℕ
operator_name operator.Ite = codes "ite"
operator_name operator.And = codes "and"
operator_name operator.Not = codes "not"
operator_name operator.Equal = codes "="
operator_name operator.Neg = codes "bvneg"
operator_name (operator.Binary op) = binary_name op
operator_name operator.Ult = codes "bvult"
operator_name operator.Slt = codes "bvslt"
operator_name operator.Concat = codes "concat"
operator_name operator.Select = codes "select"
operator_name operator.Store = codes "store"
operator_name (operator.SignExtend k) = codes "sign_extend"
operator_name (operator.ZeroExtend k) = codes "zero_extend"
operator_name (operator.Extract i j) = codes "extract"

-- those without numerals
abbrev pub plain_operators : List Operator
plain_operators =
    operator.Ite ∷ operator.And ∷ operator.Not ∷ operator.Equal
    ∷ operator.Binary binary.Add ∷ operator.Binary binary.Sub ∷ operator.Neg ∷ operator.Binary binary.Mul ∷ operator.Binary binary.Udiv ∷ operator.Binary binary.Urem
    ∷ operator.Binary binary.And ∷ operator.Binary binary.Or ∷ operator.Binary binary.Xor ∷ operator.Binary binary.Shl ∷ operator.Binary binary.Lshr ∷ operator.Binary binary.Ashr
    ∷ operator.Ult ∷ operator.Slt ∷ operator.Concat ∷ operator.Select ∷ operator.Store ∷ []

abbrev pub operator_named : List ℕ → List Operator → Option Operator
operator_named name [] = None
operator_named name (op ∷ ops) = if bytes_eq name (operator_name op) then Some op else operator_named name ops

-- the row of the table of operators
abbrev pub row_of : Operator → Head
row_of (operator.SignExtend k) = found (codes "sign_extend") (with_numeral k) NoHead
row_of (operator.ZeroExtend k) = found (codes "zero_extend") (with_numeral k) NoHead
row_of (operator.Extract i j) = found (codes "extract") (with_numerals i j) NoHead
row_of op = found (operator_name op) operators NoHead

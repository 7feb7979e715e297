-- The functions that stand for the operations of words.
use Rattle.std.specs.Prelude.{ℕ, List, [], ◌∷◌, codes}
use Rattle.rv_words.specs.declared.operation.Op.{Op}
use Rattle.rv_words.specs.declared.operation.Op.TheVariants.{Add, Sub, Sll, Slt, Sltu, Xor, Srl, Sra, Or, And, Mul, Mulh, Mulhsu, Mulhu, Div, Divu, Rem, Remu, Addw, Subw, Sllw, Srlw, Sraw, Mulw, Divw, Divuw, Remw, Remuw}
use Rattle.smt_terms.specs.Expression.{Expr, Atom, apply, indexed, literal, ite}
use Rattle.smt_terms.specs.declared.operations.Sign.{Sign}
use Rattle.smt_terms.specs.declared.operations.Sign.TheVariants.{Plus, Minus}

abbrev pub a : Expr
a = Atom (codes "a")

abbrev pub b : Expr
b = Atom (codes "b")

abbrev pub two : List ℕ → Expr → Expr → Expr
two name x y = apply name (x ∷ y ∷ [])

-- bits I to J, J the lower one
abbrev pub extract : List ℕ → List ℕ → Expr → Expr
extract i j x = indexed (codes "extract") (i ∷ j ∷ []) (x ∷ [])

abbrev pub sign_extend : List ℕ → Expr → Expr
sign_extend k x = indexed (codes "sign_extend") (k ∷ []) (x ∷ [])

abbrev pub zero_extend : List ℕ → Expr → Expr
zero_extend k x = indexed (codes "zero_extend") (k ∷ []) (x ∷ [])

-- the shift's amount
abbrev pub shift_operand : Expr
shift_operand = two (codes "bvand") b (literal (codes "64") (codes "63"))

abbrev pub low_half : Expr → Expr
low_half x = extract (codes "31") (codes "0") x

-- a result of 32 bits, with its sign extended
abbrev pub from_half : Expr → Expr
from_half x = sign_extend (codes "32") x

abbrev pub truth_as_word : Expr → Expr
truth_as_word c = ite c (literal (codes "64") (codes "1")) (literal (codes "64") (codes "0"))

abbrev pub negated : Expr → Expr
negated x = apply (codes "bvneg") (x ∷ [])

abbrev pub is_below_zero : List ℕ → Expr → Expr
is_below_zero w x = two (codes "bvslt") x (literal w (codes "0"))

-- the first where x is below zero, else the second
abbrev pub by_sign : List ℕ → Expr → Expr → Expr → Expr
by_sign w x p q = ite (is_below_zero w x) p q

abbrev pub turned : Sign → Expr → Expr
turned Minus x = negated x
turned Plus x = x

-- a result of absolute values, with its sign; n and m are those of the operands
abbrev pub of_absolute : List ℕ → Sign → Sign → Sign → Expr → Expr → Expr
of_absolute op sign n m x y = turned sign (two op (turned n x) (turned m y))

-- the result by the signs of the operands, with its own signs where both are below zero, the first alone and the second alone
abbrev pub by_signs : List ℕ → List ℕ → Sign → Sign → Sign → Expr → Expr → Expr
by_signs op w both first second x y =
    by_sign w x
    (by_sign w y (of_absolute op both Minus Minus x y) (of_absolute op first Minus Plus x y))
    (by_sign w y (of_absolute op second Plus Minus x y) (of_absolute op Plus Plus Plus x y))

-- the quotient of two numbers in two's complement, all ones by zero
abbrev pub signed_quotient : List ℕ → List ℕ → Expr → Expr → Expr
signed_quotient w ones x y = ite (two (codes "=") y (literal w (codes "0"))) (literal w ones) (by_signs (codes "bvudiv") w Plus Minus Minus x y)

abbrev pub signed_remainder : List ℕ → Expr → Expr → Expr
signed_remainder w x y = by_signs (codes "bvurem") w Minus Minus Plus x y

-- the high half of the product of 128 bits
abbrev pub high : Expr → Expr → Expr
high x y = extract (codes "127") (codes "64") (two (codes "bvmul") x y)

-- the operations, a row each: their values on a and b
abbrev pub operation_expr : Op → Expr
operation_expr Add = two (codes "bvadd") a b
operation_expr Sub = two (codes "bvsub") a b
operation_expr Sll = two (codes "bvshl") a shift_operand
operation_expr Slt = truth_as_word (two (codes "bvslt") a b)
operation_expr Sltu = truth_as_word (two (codes "bvult") a b)
operation_expr Xor = two (codes "bvxor") a b
operation_expr Srl = two (codes "bvlshr") a shift_operand
operation_expr Sra = two (codes "bvashr") a shift_operand
operation_expr Or = two (codes "bvor") a b
operation_expr And = two (codes "bvand") a b
operation_expr Mul = two (codes "bvmul") a b
operation_expr Mulh = high (sign_extend (codes "64") a) (sign_extend (codes "64") b)
operation_expr Mulhsu = high (sign_extend (codes "64") a) (zero_extend (codes "64") b)
operation_expr Mulhu = high (zero_extend (codes "64") a) (zero_extend (codes "64") b)
operation_expr Div = signed_quotient (codes "64") (codes "18446744073709551615") a b
operation_expr Divu = two (codes "bvudiv") a b
operation_expr Rem = signed_remainder (codes "64") a b
operation_expr Remu = two (codes "bvurem") a b
operation_expr Addw = from_half (two (codes "bvadd") (low_half a) (low_half b))
operation_expr Subw = from_half (two (codes "bvsub") (low_half a) (low_half b))
operation_expr Sllw = from_half (two (codes "bvshl") (low_half a) (two (codes "bvand") (low_half b) (literal (codes "32") (codes "31"))))
operation_expr Srlw = from_half (two (codes "bvlshr") (low_half a) (two (codes "bvand") (low_half b) (literal (codes "32") (codes "31"))))
operation_expr Sraw = from_half (two (codes "bvashr") (low_half a) (two (codes "bvand") (low_half b) (literal (codes "32") (codes "31"))))
operation_expr Mulw = from_half (two (codes "bvmul") (low_half a) (low_half b))
operation_expr Divw = from_half (signed_quotient (codes "32") (codes "4294967295") (low_half a) (low_half b))
operation_expr Divuw = from_half (two (codes "bvudiv") (low_half a) (low_half b))
operation_expr Remw = from_half (signed_remainder (codes "32") (low_half a) (low_half b))
operation_expr Remuw = from_half (two (codes "bvurem") (low_half a) (low_half b))

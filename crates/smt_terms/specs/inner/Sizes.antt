-- Operands of 64 and of 32 bits, and the addresses and values of accesses byte by byte.
use Rattle.std.specs.Prelude.{ℕ, zero, suc, List, codes}
use Rattle.smt_terms.specs.Expression.{Expr, literal}
use Rattle.smt_terms.specs.declared.operations.Size.{Size}
use Rattle.smt_terms.specs.declared.operations.Size.TheVariants.{Word, Half}
use Rattle.smt_terms.specs.Helpers.{a, low_half, two}
use Rattle.smt_terms.specs.Accesses.{next_address, v}

abbrev pub width_of : Size → List ℕ
width_of Word = codes "64"
width_of Half = codes "32"

abbrev pub ones_of : Size → List ℕ
ones_of Word = codes "18446744073709551615"
ones_of Half = codes "4294967295"

abbrev pub operand : Size → Expr → Expr
operand Word x = x
operand Half x = low_half x

-- k addresses on
abbrev pub address : ℕ → Expr
address zero = a
address (suc k) = next_address (address k)

-- without its k lowest bytes
abbrev pub shifted : ℕ → Expr
shifted zero = v
shifted (suc k) = two (codes "bvlshr") (shifted k) (literal (codes "64") (codes "8"))

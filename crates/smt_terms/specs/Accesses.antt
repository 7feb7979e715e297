-- The functions that stand for extensions of words, and for loads and stores. A memory is two arrays: its bytes, and a bit
-- at each address that is 1 where a byte is present.
use Rattle.std.specs.Prelude.{ℕ, zero, suc, [], ◌∷◌, codes}
use Rattle.rv_words.specs.declared.extension.Ext.{Ext}
use Rattle.rv_words.specs.declared.extension.Ext.TheVariants.{Sx1, Sx2, Sx4}
use Rattle.rv_words.specs.declared.width.Width.{Width}
use Rattle.rv_words.specs.declared.width.Width.TheVariants.{B1, B2, B4, B8}
use Rattle.smt_terms.specs.Expression.{Expr, Atom, apply, literal, ite}
use Rattle.smt_terms.specs.Helpers.{a, two, extract, sign_extend, zero_extend}

abbrev pub extension_expr : Ext → Expr
extension_expr Sx1 = sign_extend (codes "56") (extract (codes "7") (codes "0") a)
extension_expr Sx2 = sign_extend (codes "48") (extract (codes "15") (codes "0") a)
extension_expr Sx4 = sign_extend (codes "32") (extract (codes "31") (codes "0") a)

abbrev pub m : Expr
m = Atom (codes "m")

abbrev pub d : Expr
d = Atom (codes "d")

abbrev pub v : Expr
v = Atom (codes "v")

-- the address after x
abbrev pub next_address : Expr → Expr
next_address x = two (codes "bvadd") x (literal (codes "64") (codes "1"))

-- a byte is present at x
abbrev pub is_present : Expr → Expr
is_present x = two (codes "=") (two (codes "select") d x) (literal (codes "1") (codes "1"))

-- the byte at x; 0 where it is absent
abbrev pub byte_at : Expr → Expr
byte_at x = ite (is_present x) (two (codes "select") m x) (literal (codes "8") (codes "0"))

-- the byte at x and the n bytes after it, low byte first
abbrev pub loaded_bytes : ℕ → Expr → Expr
loaded_bytes zero x = byte_at x
loaded_bytes (suc n) x = two (codes "concat") (loaded_bytes n (next_address x)) (byte_at x)

abbrev pub load_expr : Width → Expr
load_expr B1 = zero_extend (codes "56") (loaded_bytes 0 a)
load_expr B2 = zero_extend (codes "48") (loaded_bytes 1 a)
load_expr B4 = zero_extend (codes "32") (loaded_bytes 3 a)
load_expr B8 = loaded_bytes 7 a

-- the memory after a store of the low n bytes of y at x and the addresses after it
abbrev pub after_store : ℕ → Expr → Expr → Expr
after_store zero x y = m
after_store (suc n) x y =
    apply (codes "store") (after_store n (next_address x) (two (codes "bvlshr") y (literal (codes "64") (codes "8"))) ∷ x ∷ extract (codes "7") (codes "0") y ∷ [])

abbrev pub store_expr : Width → Expr
store_expr B1 = after_store 1 a v
store_expr B2 = after_store 2 a v
store_expr B4 = after_store 4 a v
store_expr B8 = after_store 8 a v

-- n bytes from x on are present
abbrev pub all_present : ℕ → Expr → Expr
all_present zero x = Atom (codes "true")
all_present (suc n) x = two (codes "and") (is_present x) (all_present n (next_address x))

abbrev pub inside_expr : Width → Expr
inside_expr B1 = all_present 1 a
inside_expr B2 = all_present 2 a
inside_expr B4 = all_present 4 a
inside_expr B8 = all_present 8 a

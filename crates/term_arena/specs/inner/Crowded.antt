-- Nodes that are found by an order of all nodes.
use Rattle.std.specs.Prelude.{◌≡◌, ◌⊎◌, ℕ, Bool, true, false, Option, Some}
use Rattle.std.specs.declared.cmp.Ordering.{Ordering}
use Rattle.std.specs.Ordering.{nat_cmp, ordering_then}
use Rattle.std.specs.BTreeMap.{BTreeMap, get}
use Rattle.rv_words.specs.Bytes.{bytes_of}
use Rattle.rv_words.specs.declared.operation.Op.{Op}
use Rattle.rv_words.specs.declared.operation.Op.TheVariants as op
use Rattle.rv_words.specs.declared.extension.Ext.{Ext}
use Rattle.rv_words.specs.declared.extension.Ext.TheVariants.{Sx1, Sx2, Sx4}
use Rattle.rv_words.specs.declared.comparison.Cmp.{Cmp}
use Rattle.rv_words.specs.declared.comparison.Cmp.TheVariants.{Eq, Ne, Lt, Ge, Ltu, Geu}
use Rattle.term_arena.specs.declared.crowded.Crowded.{Crowded}
use Rattle.term_arena.specs.declared.node.Node.{Node}
use Rattle.term_arena.specs.declared.node.Node.TheVariants as node

-- each operation, extension and comparison has a number of its own
abbrev pub operation_number : Op → ℕ
operation_number op.Add = 0
operation_number op.Sub = 1
operation_number op.Sll = 2
operation_number op.Slt = 3
operation_number op.Sltu = 4
operation_number op.Xor = 5
operation_number op.Srl = 6
operation_number op.Sra = 7
operation_number op.Or = 8
operation_number op.And = 9
operation_number op.Mul = 10
operation_number op.Mulh = 11
operation_number op.Mulhsu = 12
operation_number op.Mulhu = 13
operation_number op.Div = 14
operation_number op.Divu = 15
operation_number op.Rem = 16
operation_number op.Remu = 17
operation_number op.Addw = 18
operation_number op.Subw = 19
operation_number op.Sllw = 20
operation_number op.Srlw = 21
operation_number op.Sraw = 22
operation_number op.Mulw = 23
operation_number op.Divw = 24
operation_number op.Divuw = 25
operation_number op.Remw = 26
operation_number op.Remuw = 27

abbrev pub extension_number : Ext → ℕ
extension_number Sx1 = 0
extension_number Sx2 = 1
extension_number Sx4 = 2

abbrev pub comparison_number : Cmp → ℕ
comparison_number Eq = 0
comparison_number Ne = 1
comparison_number Lt = 2
comparison_number Ge = 3
comparison_number Ltu = 4
comparison_number Geu = 5

-- a node's form, the operation or the width that it has, and its further numbers
abbrev pub Key : Type 0
Key = ℕ × ℕ × ℕ × ℕ × ℕ

abbrev pub key_of : Node → Key
key_of (node.Const n) = (0, 0, n, 0, 0)
key_of (node.WordVar i) = (1, 0, i, 0, 0)
key_of (node.Bin op a b) = (2, operation_number op, a, b, 0)
key_of (node.Extend ext a) = (3, extension_number ext, a, 0, 0)
key_of (node.Load width m a) = (4, bytes_of width, m, a, 0)
key_of (node.MemVar i) = (5, 0, i, 0, 0)
key_of (node.Store width m a v) = (6, bytes_of width, m, a, v)
key_of (node.Compare cmp a b) = (7, comparison_number cmp, a, b, 0)
key_of (node.Neg c) = (8, 0, c, 0, 0)
key_of (node.Inside width m a) = (9, bytes_of width, m, a, 0)

-- the order of keys
abbrev pub key_order : Key → Key → Ordering
key_order k l = ordering_then (ordering_then (ordering_then (ordering_then (nat_cmp k.0 l.0) (nat_cmp k.1 l.1)) (nat_cmp k.2 l.2)) (nat_cmp k.3 l.3)) (nat_cmp k.4 l.4)

-- the number of each node that has one
abbrev pub Numbers : Type 0
Numbers = Node → Option ℕ

-- the number under the node's key
abbrev pub number_under : BTreeMap Key ℕ → Numbers
number_under numbers n = get key_order numbers (key_of n)

abbrev pub numbers_in : Crowded → Numbers
numbers_in crowded = number_under crowded.numbers

-- each number of the first is one of the second
abbrev pub Keeps : Numbers → Numbers → Type 0
Keeps old new = (n : Node) (k : ℕ) → old n ≡ Some k → new n ≡ Some k

-- the node has that number now, and each other number was there
pub record Has (n : Node) (k : ℕ) (old new : Numbers) : Type 0 where
  pub here : new n ≡ Some k
  pub keeps : Keeps old new
  pub only : (m : Node) (j : ℕ) → new m ≡ Some j → (old m ≡ Some j) ⊎ (j ≡ k)

-- it has, or nothing changed
abbrev pub IsPut : Node → ℕ → Bool → Numbers → Numbers → Type 0
IsPut n k true old new = Has n k old new
IsPut n k false old new = new ≡ old

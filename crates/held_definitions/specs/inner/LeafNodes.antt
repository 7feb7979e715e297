-- Terms without children, by their nodes.
use Rattle.std.specs.Prelude.{ℕ, Option, Some, None}
use Rattle.term_arena.specs.declared.node.Node.{Node}
use Rattle.term_arena.specs.declared.node.Node.TheVariants as node

-- the constant, the variable of a word, the variable of a memory that the node is
abbrev pub constant_of : Node → Option ℕ
constant_of (node.Const n) = Some n
constant_of n = None

abbrev pub variable_of : Node → Option ℕ
variable_of (node.WordVar i) = Some i
variable_of n = None

abbrev pub mem_variable_of : Node → Option ℕ
mem_variable_of (node.MemVar i) = Some i
mem_variable_of n = None

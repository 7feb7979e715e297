-- The kinds of terms.
use Rattle.std.specs.Prelude.{ℕ, Bool, true, false, List, Option, Some, None, slice_get}
use Rattle.term_arena.specs.declared.node.Node.{Node}
use Rattle.term_arena.specs.declared.node.Node.TheVariants as node
use Rattle.term_arena.specs.Arena.{IsWordAt, IsMemAt, IsCondAt}
use Rattle.short_text.specs.declared.kind.Kind.{Kind}
use Rattle.short_text.specs.declared.kind.Kind.TheVariants.{Word, Mem, Cond}

-- the kind of a node's term
abbrev pub kind_of : Node → Kind
kind_of (node.Const n) = Word
kind_of (node.WordVar i) = Word
kind_of (node.Bin op a b) = Word
kind_of (node.Extend ext a) = Word
kind_of (node.Load width m a) = Word
kind_of (node.MemVar i) = Mem
kind_of (node.Store width m a v) = Mem
kind_of (node.Compare cmp a b) = Cond
kind_of (node.Neg c) = Cond
kind_of (node.Inside width m a) = Cond

abbrev pub same_kind : Kind → Kind → Bool
same_kind Word Word = true
same_kind Mem Mem = true
same_kind Cond Cond = true
same_kind _ _ = false

abbrev pub is_of_kind : Kind → Option Node → Bool
is_of_kind kind None = false
is_of_kind kind (Some n) = same_kind (kind_of n) kind

-- whether the table has a term of that number and kind
abbrev pub has_kind : List Node → Kind → ℕ → Bool
has_kind ns kind k = is_of_kind kind (slice_get ns k)

abbrev pub IsOfKind : List Node → Kind → ℕ → Type 0
IsOfKind ns Word k = IsWordAt ns k
IsOfKind ns Mem k = IsMemAt ns k
IsOfKind ns Cond k = IsCondAt ns k

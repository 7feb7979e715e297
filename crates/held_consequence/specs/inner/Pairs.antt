-- The children of two terms of one form, in pairs.
use Rattle.std.specs.Prelude.{◌≡◌, ◌⊎◌, ℕ, ◌<◌, List}
use Rattle.term_arena.specs.declared.node.Node.{Node}
use Rattle.term_arena.specs.declared.node.Node.TheVariants as node
use Rattle.term_arena.specs.Arena.{Tree, word_of, mem_of, IsWordAt, IsMemAt}
use Rattle.triple_kernel.specs.Tree.{FactTree}
use Rattle.triple_kernel.specs.Swap.{SwapWord, SwapMem}
use Rattle.held_consequence.specs.declared.swaps.WordPairs.{WordPairs}
use Rattle.held_consequence.specs.declared.swaps.WordPairs.TheVariants as words
use Rattle.held_consequence.specs.declared.swaps.MemPairs.{MemPairs}
use Rattle.held_consequence.specs.declared.swaps.MemPairs.TheVariants as mems
use Rattle.held_consequence.specs.inner.Table.{HasBoth}

-- these pairs, where a test of the forms holds, else none
abbrev pub Where : {A : Type 0} → Type 0 → A → A → A → Type 0
Where P given other ps = (P × (ps ≡ given)) ⊎ ((P → ⊥) × (ps ≡ other))

abbrev pub WordPairsAre : Node → Node → WordPairs → Type 0
WordPairsAre (node.Bin op x y) (node.Bin o u v) ps = Where (op ≡ o) (words.Two x u y v) words.Differ ps
WordPairsAre (node.Extend ext x) (node.Extend e u) ps = Where (ext ≡ e) (words.One x u) words.Differ ps
WordPairsAre (node.Load width p x) (node.Load w q u) ps = Where (width ≡ w) (words.Load p q x u) words.Differ ps
WordPairsAre n m ps = ps ≡ words.Differ

abbrev pub MemPairsAre : Node → Node → MemPairs → Type 0
MemPairsAre (node.Store width p x y) (node.Store w q u v) ps = Where (width ≡ w) (mems.Store p q x u y v) mems.Differ ps
MemPairsAre n m ps = ps ≡ mems.Differ

-- the first of each pair is below the number, and both are there
abbrev pub WordPairsFit : List Node → ℕ → WordPairs → Type 0
WordPairsFit ns a words.Differ = Unit {0}
WordPairsFit ns a (words.One x u) = (x < a) × IsWordAt ns x × IsWordAt ns u
WordPairsFit ns a (words.Two x u y v) = (x < a) × IsWordAt ns x × IsWordAt ns u × (y < a) × IsWordAt ns y × IsWordAt ns v
WordPairsFit ns a (words.Load p q x u) = (p < a) × IsMemAt ns p × IsMemAt ns q × (x < a) × IsWordAt ns x × IsWordAt ns u

abbrev pub MemPairsFit : List Node → ℕ → MemPairs → Type 0
MemPairsFit ns a mems.Differ = Unit {0}
MemPairsFit ns a (mems.Store p q x u y v) =
    (p < a) × IsMemAt ns p × IsMemAt ns q × (x < a) × IsWordAt ns x × IsWordAt ns u × (y < a) × IsWordAt ns y × IsWordAt ns v

-- those of each pair may be swapped
abbrev pub WordPairsSwap : List FactTree → List Node → WordPairs → Type 0
WordPairsSwap facts ns words.Differ = ⊥
WordPairsSwap facts ns (words.One x u) = SwapWord facts (word_of ns x) (word_of ns u)
WordPairsSwap facts ns (words.Two x u y v) = SwapWord facts (word_of ns x) (word_of ns u) × SwapWord facts (word_of ns y) (word_of ns v)
WordPairsSwap facts ns (words.Load p q x u) = SwapMem facts (mem_of ns p) (mem_of ns q) × SwapWord facts (word_of ns x) (word_of ns u)

abbrev pub MemPairsSwap : List FactTree → List Node → MemPairs → Type 0
MemPairsSwap facts ns mems.Differ = ⊥
MemPairsSwap facts ns (mems.Store p q x u y v) =
    SwapMem facts (mem_of ns p) (mem_of ns q) × SwapWord facts (word_of ns x) (word_of ns u) × SwapWord facts (word_of ns y) (word_of ns v)

-- a list that has each subterm of the first pair has each of the second
abbrev pub IsUnder : List Node → ℕ → ℕ → ℕ → ℕ → Type 0
IsUnder ns a b x u = (ts : List Tree) → HasBoth ns a b ts → HasBoth ns x u ts

abbrev pub WordPairsUnder : List Node → ℕ → ℕ → WordPairs → Type 0
WordPairsUnder ns a b words.Differ = Unit {0}
WordPairsUnder ns a b (words.One x u) = IsUnder ns a b x u
WordPairsUnder ns a b (words.Two x u y v) = IsUnder ns a b x u × IsUnder ns a b y v
WordPairsUnder ns a b (words.Load p q x u) = IsUnder ns a b p q × IsUnder ns a b x u

abbrev pub MemPairsUnder : List Node → ℕ → ℕ → MemPairs → Type 0
MemPairsUnder ns a b mems.Differ = Unit {0}
MemPairsUnder ns a b (mems.Store p q x u y v) = IsUnder ns a b p q × IsUnder ns a b x u × IsUnder ns a b y v

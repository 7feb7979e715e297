-- Tables of terms: each term cites earlier ones, of the kinds that it has in these places, and is none of them.
use Rattle.std.specs.Prelude.{ℕ, ◌+◌, ◌<◌, ◌≤◌, ◌^◌, max, List, [], ◌∷◌, ◌++◌, fold, slice_get, unwrap_or, Contains}
use Rattle.mc_text.specs.Number.{IsNumber}
use Rattle.group_text.specs.TermLimits.{depth_limit}
use Rattle.term_arena.specs.declared.node.Node.{Node}
use Rattle.term_arena.specs.declared.node.Node.TheVariants as node
use Rattle.term_arena.specs.Arena.{AreChildren}

-- ---- depths

abbrev pub depth_in : List ℕ → ℕ → ℕ
depth_in ds k = unwrap_or (slice_get ds k) 0

-- a constant or a variable has depth 1, any other term one more than its deepest child
abbrev pub depth_over : List ℕ → Node → ℕ
depth_over ds (node.Const n) = 1
depth_over ds (node.WordVar i) = 1
depth_over ds (node.Bin op a b) = max (depth_in ds a) (depth_in ds b) + 1
depth_over ds (node.Extend ext a) = depth_in ds a + 1
depth_over ds (node.Load width m a) = max (depth_in ds m) (depth_in ds a) + 1
depth_over ds (node.MemVar i) = 1
depth_over ds (node.Store width m a v) = max (depth_in ds m) (max (depth_in ds a) (depth_in ds v)) + 1
depth_over ds (node.Compare cmp a b) = max (depth_in ds a) (depth_in ds b) + 1
depth_over ds (node.Neg c) = depth_in ds c + 1
depth_over ds (node.Inside width m a) = max (depth_in ds m) (depth_in ds a) + 1

abbrev pub with_depth : List ℕ → Node → List ℕ
with_depth ds n = ds ++ depth_over ds n ∷ []

-- the depth of each term
unfoldable pub depths_of : List Node → List ℕ
depths_of ns = fold with_depth [] ns

-- ---- tables

-- the numbers in it fit: those of constants and terms have 64 bits, those of variables 32
abbrev pub HasNumbers : Node → Type 0
HasNumbers (node.Const n) = IsNumber n
HasNumbers (node.WordVar i) = i < 2 ^ 32
HasNumbers (node.Bin op a b) = IsNumber a × IsNumber b
HasNumbers (node.Extend ext a) = IsNumber a
HasNumbers (node.Load width m a) = IsNumber m × IsNumber a
HasNumbers (node.MemVar i) = i < 2 ^ 32
HasNumbers (node.Store width m a v) = IsNumber m × IsNumber a × IsNumber v
HasNumbers (node.Compare cmp a b) = IsNumber a × IsNumber b
HasNumbers (node.Neg c) = IsNumber c
HasNumbers (node.Inside width m a) = IsNumber m × IsNumber a

-- the term may stand behind these
pub record IsNextTerm (ns : List Node) (n : Node) : Type 0 where
  pub children : AreChildren ns n
  pub numbers : HasNumbers n
  pub other : Contains ns n → ⊥
  pub depth : depth_over (depths_of ns) n ≤ depth_limit

-- each of the terms may stand behind those before it
abbrev pub AreNextTerms : List Node → List Node → Type 0
AreNextTerms ns [] = Unit {0}
AreNextTerms ns (m ∷ ms) = IsNextTerm ns m × AreNextTerms (ns ++ m ∷ []) ms

-- a table: its terms are numbered from 0 on
abbrev pub IsTable : List Node → Type 0
IsTable ns = AreNextTerms [] ns

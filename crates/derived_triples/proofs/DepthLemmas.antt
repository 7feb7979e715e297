-- A term whose numbers fit is within the limits exactly where its depth is.
use Rattle.std.proofs.Common.{◌≡◌, ℕ, zero, suc, ◌<◌, ◌≤◌, ◌^◌, arith}
use Rattle.std.specs.Prelude.{◌↔◌, IsTrue}
use Rattle.std.proofs.lemmas.Bool.{le-leb, leb-true}
use lib.Dec.{leb}
use Rattle.word_terms.specs.Scope.{CondInRange, CondInScope, MemInRange, MemInScope, WordInRange, WordInScope}
use Rattle.word_terms.specs.Tree.{WordTree, MemTree, CondTree, Const, Var, Bin, Extend, Load, MemVar, Store, Compare, Neg, Inside, depth_of_cond, depth_of_mem, depth_of_word, told_depth}
use Rattle.word_terms.proofs.Depths.{deep_cond}
use Rattle.group_text.specs.TermLimits.{FitsWord, FitsMem, FitsCond, depth_limit}
use Rattle.term_arena.specs.Arena.{OfWord, OfMem, OfCond, Tree, TreeInRange, tree_depth}
use Rattle.derived_triples.specs.inner.Depths.{FitsTree}

deep_word : (t : WordTree) → 0 < depth_of_word t
deep_word (Const n) = omega arith
deep_word (Var i) = omega arith
deep_word (Bin op a b) = omega arith
deep_word (Extend ext a) = omega arith
deep_word (Load width m a) = omega arith

deep_mem : (m : MemTree) → 0 < depth_of_mem m
deep_mem (MemVar i) = omega arith
deep_mem (Store width m a v) = omega arith

-- ---- a term that is deep enough

mutual
  word-fits : (d : ℕ) (t : WordTree) → WordInRange t → WordInScope t (2 ^ 32) (2 ^ 32) → depth_of_word t ≤ d → FitsWord d t
  word-fits zero t r s low = let deep = deep_word t in absurd (omega (arith, low, deep))
  word-fits (suc d) (Const n) r s low = r
  word-fits (suc d) (Var i) r s low = s
  word-fits (suc d) (Bin op a b) r s low = (word-fits d a r.0 s.0 (omega (arith, low)), word-fits d b r.1 s.1 (omega (arith, low)))
  word-fits (suc d) (Extend ext a) r s low = word-fits d a r s (omega (arith, low))
  word-fits (suc d) (Load width m a) r s low = (mem-fits d m r.0 s.0 (omega (arith, low)), word-fits d a r.1 s.1 (omega (arith, low)))

  mem-fits : (d : ℕ) (m : MemTree) → MemInRange m → MemInScope m (2 ^ 32) (2 ^ 32) → depth_of_mem m ≤ d → FitsMem d m
  mem-fits zero m r s low = let deep = deep_mem m in absurd (omega (arith, low, deep))
  mem-fits (suc d) (MemVar i) r s low = s
  mem-fits (suc d) (Store width m a v) r s low = (mem-fits d m r.0 s.0 (omega (arith, low)), word-fits d a r.1 s.1 (omega (arith, low)), word-fits d v r.2 s.2 (omega (arith, low)))

cond-fits : (d : ℕ) (c : CondTree) → CondInRange c → CondInScope c (2 ^ 32) (2 ^ 32) → depth_of_cond c ≤ d → FitsCond d c
cond-fits zero c r s low = let deep = deep_cond c in absurd (omega (arith, low, deep))
cond-fits (suc d) (Compare cmp a b) r s low = (word-fits d a r.0 s.0 (omega (arith, low)), word-fits d b r.1 s.1 (omega (arith, low)))
cond-fits (suc d) (Neg c) r s low = cond-fits d c r s (omega (arith, low))
cond-fits (suc d) (Inside width m a) r s low = (mem-fits d m r.0 s.0 (omega (arith, low)), word-fits d a r.1 s.1 (omega (arith, low)))

pub tree_fits : (d : ℕ) (t : Tree) → TreeInRange t → tree_depth t ≤ d → FitsTree d t
tree_fits d (OfWord t) r low = word-fits d t r.0 r.1 low
tree_fits d (OfMem m) r low = mem-fits d m r.0 r.1 low
tree_fits d (OfCond c) r low = cond-fits d c r.0 r.1 low

-- ---- how deep it has to be

mutual
  word-deep : (d : ℕ) (t : WordTree) → FitsWord d t → depth_of_word t ≤ d
  word-deep zero t f = absurd f
  word-deep (suc d) (Const n) f = omega arith
  word-deep (suc d) (Var i) f = omega arith
  word-deep (suc d) (Bin op a b) f = let x = word-deep d a f.0 in let y = word-deep d b f.1 in omega (arith, x, y)
  word-deep (suc d) (Extend ext a) f = let x = word-deep d a f in omega (arith, x)
  word-deep (suc d) (Load width m a) f = let x = mem-deep d m f.0 in let y = word-deep d a f.1 in omega (arith, x, y)

  mem-deep : (d : ℕ) (m : MemTree) → FitsMem d m → depth_of_mem m ≤ d
  mem-deep zero m f = absurd f
  mem-deep (suc d) (MemVar i) f = omega arith
  mem-deep (suc d) (Store width m a v) f = let x = mem-deep d m f.0 in let y = word-deep d a f.1 in let z = word-deep d v f.2 in omega (arith, x, y, z)

cond-deep : (d : ℕ) (c : CondTree) → FitsCond d c → depth_of_cond c ≤ d
cond-deep zero c f = absurd f
cond-deep (suc d) (Compare cmp a b) f = let x = word-deep d a f.0 in let y = word-deep d b f.1 in omega (arith, x, y)
cond-deep (suc d) (Neg c) f = let x = cond-deep d c f in omega (arith, x)
cond-deep (suc d) (Inside width m a) f = let x = mem-deep d m f.0 in let y = word-deep d a f.1 in omega (arith, x, y)

tree-deep : (d : ℕ) (t : Tree) → FitsTree d t → tree_depth t ≤ d
tree-deep d (OfWord t) f = word-deep d t f
tree-deep d (OfMem m) f = mem-deep d m f
tree-deep d (OfCond c) f = cond-deep d c f

-- a depth as an arena tells it
pub depth_tells : (t : Tree) (n : ℕ) → TreeInRange t → n ≡ told_depth (tree_depth t) → IsTrue (leb n depth_limit) ↔ FitsTree depth_limit t
depth_tells t n range is = (
  λ e. let low : n ≤ depth_limit = leb-true n depth_limit e in tree_fits depth_limit t range (omega (arith, low, is)),
  λ f. let deep : tree_depth t ≤ depth_limit = tree-deep depth_limit t f in le-leb n depth_limit (omega (arith, deep, is)),
)

-- Which terms have a text: their numbers fit, and they are at most 64 deep. And which ranges.
use Rattle.std.specs.Prelude.{ℕ, zero, suc, ◌<◌, ◌^◌}
use Rattle.mc_text.specs.Number.{AreSomeBytes}
use Rattle.rv_words.specs.declared.range.Range.{Range}
use Rattle.word_terms.specs.Tree.{WordTree, Const, Var, Bin, Extend, Load, MemTree, MemVar, Store, CondTree, Compare, Neg, Inside}

-- a term that is at most that deep; constants have 64 bits, and the numbers of variables 32
abbrev mutual
  pub FitsWord : ℕ → WordTree → Type 0
  FitsWord zero t = ⊥
  FitsWord (suc d) (Const n) = n < 2 ^ 64
  FitsWord (suc d) (Var i) = i < 2 ^ 32
  FitsWord (suc d) (Bin op a b) = FitsWord d a × FitsWord d b
  FitsWord (suc d) (Extend ext a) = FitsWord d a
  FitsWord (suc d) (Load width m a) = FitsMem d m × FitsWord d a

  pub FitsMem : ℕ → MemTree → Type 0
  FitsMem zero m = ⊥
  FitsMem (suc d) (MemVar i) = i < 2 ^ 32
  FitsMem (suc d) (Store width m a v) = FitsMem d m × FitsWord d a × FitsWord d v

abbrev pub FitsCond : ℕ → CondTree → Type 0
FitsCond zero c = ⊥
FitsCond (suc d) (Compare cmp a b) = FitsWord d a × FitsWord d b
FitsCond (suc d) (Neg c) = FitsCond d c
FitsCond (suc d) (Inside width m a) = FitsMem d m × FitsWord d a

-- the deepest term that is written
abbrev pub depth_limit : ℕ
depth_limit = 64

abbrev pub IsWord : WordTree → Type 0
IsWord t = FitsWord depth_limit t

abbrev pub IsMem : MemTree → Type 0
IsMem m = FitsMem depth_limit m

abbrev pub IsCond : CondTree → Type 0
IsCond c = FitsCond depth_limit c

-- an address and one byte or more
abbrev pub IsRange : Range → Type 0
IsRange r = (r.at < 2 ^ 64) × AreSomeBytes r.bytes

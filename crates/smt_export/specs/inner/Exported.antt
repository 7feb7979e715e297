-- Which definitions of a group are exported, and what is asked of the group.
use Rattle.std.specs.Prelude.{◌≡◌, ℕ, ◌+◌, ◌<◌, ◌^◌, Bool, true, length, slice_get, Some}
use Rattle.tailrec_lang.specs.declared.group.Exit.TheVariants.{At}
use Rattle.tailrec_lang.specs.Tree.{DefTree, GroupTree, exits_at}
use Rattle.tailrec_lang.specs.WellFormed.{IsWellFormed}
use Rattle.group_terms.specs.Range.{BodyInRange}
use Rattle.smt_export.specs.inner.Following.{room, EachCall}

-- the definitions that pass the test call none but such, and make no entry again
abbrev pub IsClosed : GroupTree → (ℕ → Bool) → Type 0
IsClosed g test = (d : ℕ) (def : DefTree) → slice_get g.defs d ≡ Some def → test d ≡ true → EachCall (λ c. test c ≡ true) def.body

-- numbers are 64-bit words, and sizes are those of a text
pub record HasRange (g : GroupTree) : Type 0 where
  pub well_formed : IsWellFormed g
  pub bodies : (d : ℕ) (def : DefTree) → slice_get g.defs d ≡ Some def → BodyInRange def.body
  pub exits : (d n a : ℕ) → slice_get (exits_at g d) n ≡ Some (At a) → a < 2 ^ 64
  pub few_exits : (d : ℕ) → length (exits_at g d) < 2 ^ 32
  pub few_words : (d : ℕ) (def : DefTree) → slice_get g.defs d ≡ Some def → length g.regs + room g def.body < 2 ^ 64
  pub few_mems : (d : ℕ) (def : DefTree) → slice_get g.defs d ≡ Some def → g.mems + room g def.body < 2 ^ 64
  pub few_defs : length g.defs < 2 ^ 64

-- Definitions whose variables and exits have numbers of 64 and of 32 bits.
use Rattle.std.specs.Prelude.{◌+◌, ◌<◌, ◌^◌, length}
use Rattle.std.specs.List.{AllByRecursion}
use Rattle.tailrec_lang.specs.Tree.{DefTree, GroupTree}
use Rattle.smt_export.specs.inner.Following.{room}

pub record DefHasRoom (g : GroupTree) (def : DefTree) : Type 0 where
  pub exits : length def.exits < 2 ^ 32
  pub words : length g.regs + room g def.body < 2 ^ 64
  pub mems : g.mems + room g def.body < 2 ^ 64

abbrev pub HasRoom : GroupTree → Type 0
HasRoom g = AllByRecursion (DefHasRoom g) g.defs

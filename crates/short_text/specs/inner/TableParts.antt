-- Tables as they are read: their parts, and a term more.
use Rattle.std.specs.Prelude.{◌≡◌, ℕ, true, false, List, [], ◌∷◌, ◌++◌, Result, Ok, Err}
use Rattle.mc_text.specs.declared.cursor.TokenError.{TokenError}
use Rattle.mc_text.specs.declared.cursor.TokenError.TheVariants as stop
use Rattle.term_arena.specs.declared.node.Node.{Node}
use Rattle.short_text.specs.Table.{IsTable, depths_of}
use Rattle.short_text.specs.inner.ShortReading.{may_follow}

-- the terms' nodes, their depths, and what finds a node
pub record AreTableParts (nodes : List Node) (depths : List ℕ) (arena : List Node) : Type 0 where
  pub terms : IsTable nodes
  pub measured : depths ≡ depths_of nodes
  pub kept : arena ≡ nodes

-- a term was put behind those of the table, or it may not stand there; else the table is the same
abbrev pub Puts : List Node → Node → Result (Unit {0}) TokenError → List Node → Type 0
Puts ns n (Ok _) more = (more ≡ ns ++ n ∷ []) × (may_follow ns n ≡ true)
Puts ns n (Err stop.Bad) more = (more ≡ ns) × (may_follow ns n ≡ false)
Puts ns n (Err stop.NoMemory) more = more ≡ ns

-- Which memories the functions of a group use.
use Rattle.std.specs.Prelude.{◌≡◌, ℕ, List}
use Rattle.std.specs.List.{Contains}
use Rattle.code_parts.specs.Members.{Member}

-- in one of these functions the instruction at the address a has that memory
abbrev pub UsedBy : List Member → ℕ → ℕ → Type 0
UsedBy ms a q = (m : Member) × Contains ms m × Contains m.graph.addrs a × (m.context.uses a ≡ q)

-- The regions that there may be, and where a part ends.
use Rattle.std.specs.Prelude.{ℕ, ◌<◌, ◌==◌, Bool, true, is_some, if◌then◌else◌, Option, None, Some}
use Rattle.code_parts.specs.declared.part.Part.{Part}
use Rattle.code_parts.specs.declared.part.Part.TheVariants.{Loop, Rest}
use Rattle.code_parts.specs.Bodies.{Flow, index_of, own, rest_targets}

-- the region is the whole function, or one of the loops
abbrev pub IsRegion : Flow → Option ℕ → Type 0
IsRegion f None = Unit {0}
IsRegion f (Some l) = l < f.loops

-- .. whose code the part is of
abbrev pub IsOfRegion : Flow → Part → Type 0
IsOfRegion f p = IsRegion f (own p)

-- the part ends at the node by itself
abbrev pub ends_at : Flow → Part → ℕ → Bool
ends_at f (Loop l) n = if n == f.head l then true else is_some (index_of (f.exits l) n)
ends_at f (Rest r c) n = is_some (index_of (rest_targets f r) n)

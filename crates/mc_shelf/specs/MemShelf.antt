-- What a shelf in memory is seen as.
use Rattle.std.specs.Prelude.{ℕ, List}
use Rattle.mc_shelf.specs.Files.{Files}

pub record ShelfState : Type 0 where
  -- the names with their bytes
  pub files : Files
  -- how many calls were made
  pub calls : ℕ
  -- the calls that are to fail, each with the number of bytes that it keeps
  pub failures : List (ℕ × ℕ)
  -- how many reads failed
  pub read_faults : ℕ
  -- how many calls of `create` and `append` failed
  pub write_faults : ℕ

-- What a sink in memory is seen as.
use Rattle.std.specs.Prelude.{ℕ, List}

pub record SinkState : Type 0 where
  -- the bytes written
  pub written : List ℕ
  -- how many calls were made
  pub calls : ℕ
  -- the calls that are to fail, each with the number of bytes that it keeps
  pub failures : List (ℕ × ℕ)
  -- how many calls failed
  pub faults : ℕ

-- The numbers of terms that steps have.
use Rattle.std.specs.Prelude.{◌<◌, ◌^◌, List}
use Rattle.std.specs.List.{AllByRecursion}
use Rattle.fun_laws.specs.declared.step.Rw.{Rw}

abbrev pub HaveNumbers : List Rw → Type 0
HaveNumbers rs = AllByRecursion (λ (r : Rw). r.term < 2 ^ 32) rs

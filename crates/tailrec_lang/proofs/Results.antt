-- What follows from a fact of a result's value.
use Rattle.std.specs.Prelude.{Result, Ok, Err, IfOk}

pub if_ok-then : {A E : Type 0} (P Q : A → Type 0) (r : Result A E) → ((x : A) → P x → Q x) → IfOk r P → IfOk r Q
if_ok-then P Q (Ok x) step h = step x h
if_ok-then P Q (Err e) step h = tt

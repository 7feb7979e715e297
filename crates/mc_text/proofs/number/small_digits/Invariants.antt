use Rattle.std.proofs.Common.{◌≡◌, ◌^◌, ◌<◌, take}
use Rattle.std.specs.List.{AllPass}
use Rattle.std.specs.Str.Parse.{digits_value}
use Rattle.mc_text.specs.inner.Number.{is_digit_of}
use Rattle.mc_text.proofs.number.small_digits.Given as goal

abbrev pub invariant-digits : goal.invariant-digits
invariant-digits l = AllPass (is_digit_of 10) (take l.i l.bytes) × (l.value ≡ digits_value 10 (take l.i l.bytes)) × (l.value < 2 ^ 32)

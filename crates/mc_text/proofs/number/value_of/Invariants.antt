use Rattle.std.proofs.Common.{◌≡◌, ◌^◌, ◌<◌, take}
use Rattle.std.specs.List.{AllPass}
use Rattle.std.specs.Str.Parse.{digits_value}
use Rattle.mc_text.specs.inner.Number.{base_number, is_digit_of}
use Rattle.mc_text.proofs.number.value_of.Given as goal

abbrev pub invariant-digits : goal.invariant-digits
invariant-digits l =
    AllPass (is_digit_of (base_number l.base)) (take l.byte-index l.digits) × (l.value ≡ digits_value (base_number l.base) (take l.byte-index l.digits))
    × (l.value < 2 ^ 64)

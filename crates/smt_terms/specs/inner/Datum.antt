-- What terms stand for, as it is computed.
use Rattle.std.specs.Prelude.{◌≡◌, Option, Some}
use Rattle.smt_terms.specs.declared.sort.Sort.{Sort}
use Rattle.smt_terms.specs.declared.sort.Sort.TheVariants as sort
use Rattle.smt_terms.specs.Operators.{Value, Truth, Bits, Array}
use Rattle.smt_terms.specs.declared.datum.Datum.{Datum}
use Rattle.smt_terms.specs.declared.datum.Datum.TheVariants as datum
use Rattle.smt_terms.specs.Elements.{element}

abbrev pub sort_of_datum : Datum → Sort
sort_of_datum (datum.Truth b) = sort.Bool
sort_of_datum (datum.Bits v) = sort.Bits v.width
sort_of_datum (datum.Array a) = sort.Array a.width

abbrev pub sorted : Datum → Option Sort
sorted d = Some (sort_of_datum d)

abbrev pub meaning : Datum → Value
meaning (datum.Truth b) = Truth b
meaning (datum.Bits v) = Bits v.width v.number
meaning (datum.Array a) = Array a.width (element a.bytes.value)

-- where there is a sort, it is the datum's, and the datum means the value
abbrev pub StandsFor : Option Sort → Value → Datum → Type 0
StandsFor o v d = (s : Sort) → o ≡ Some s → (sort_of_datum d ≡ s) × (meaning d ≡ v)

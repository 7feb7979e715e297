-- Why a file was not read, by why a piece was not.
use Rattle.mc_shelf.specs.declared.measuring.MeasureEnd.{MeasureEnd}
use Rattle.mc_shelf.specs.declared.measuring.MeasureEnd.TheVariants as piece
use Rattle.mc_shelf.specs.declared.reading.ReadEnd.{ReadEnd}
use Rattle.mc_shelf.specs.declared.reading.ReadEnd.TheVariants as file

abbrev pub read_end : MeasureEnd → ReadEnd
read_end piece.Fault = file.Fault
read_end piece.TooLong = file.TooLong

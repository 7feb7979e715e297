use Rattle.std.proofs.Common.{[], ◌∷◌, arith}
use Rattle.rvc.specs.Expands.{Quadrant, Is}
use Rattle.rvc.proofs.RowLemmas.{left_by-is, is}
use Rattle.rvc.proofs.expansion.compressed_instruction.Goals as goal

pub returns-in_default : goal.returns-in_default
returns-in_default c = left_by-is (Is Quadrant 3 ∷ []) c.args.h (is _ 3 (omega arith), tt)

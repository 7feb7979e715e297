use Rattle.std.proofs.Common.{Some, [], ◌∷◌, ap, ◌∙◌, arith}
use Rattle.rvc.specs.Expands.{Quadrant, Funct3, Funct2, Is}
use Rattle.rvc.proofs.RowLemmas.{left_by-is, is}
use Rattle.rvc.proofs.expansion.decode_arithmetic.Goals as goal

pub returns-in-0 : goal.returns-in-0
returns-in-0 c = ap Some c.right_shift.ensures ∙ left_by-is (Is Quadrant 1 ∷ Is Funct3 4 ∷ Is Funct2 0 ∷ []) c.args.h (is _ 1 c.requires.quadrant, (is _ 4 c.requires.funct3, (is _ 0 (omega arith), tt)))

pub returns-in-1 : goal.returns-in-1
returns-in-1 c = ap Some c.right_shift-in-1.ensures ∙ left_by-is (Is Quadrant 1 ∷ Is Funct3 4 ∷ Is Funct2 1 ∷ []) c.args.h (is _ 1 c.requires.quadrant, (is _ 4 c.requires.funct3, (is _ 1 (omega arith), tt)))

pub returns-in-2 : goal.returns-in-2
returns-in-2 c = ap Some c.and_immediate.ensures ∙ left_by-is (Is Quadrant 1 ∷ Is Funct3 4 ∷ Is Funct2 2 ∷ []) c.args.h (is _ 1 c.requires.quadrant, (is _ 4 c.requires.funct3, (is _ 2 (omega arith), tt)))

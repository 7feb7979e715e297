use Rattle.std.proofs.Common.{Some, [], ◌∷◌, ap, ◌∙◌, arith}
use Rattle.rvc.specs.Expands.{Quadrant, Funct3, Is, IsNot}
use Rattle.rvc.proofs.RowLemmas.{left_by-is, is, isnt}
use Rattle.rvc.proofs.expansion.in_quadrant_2.Goals as goal

pub returns-in-0 : goal.returns-in-0
returns-in-0 c = ap Some c.left_shift.ensures ∙ left_by-is (Is Quadrant 2 ∷ Is Funct3 0 ∷ []) c.args.h (is _ 2 c.requires, (is _ 0 (omega arith), tt))

pub returns-in-6 : goal.returns-in-6
returns-in-6 c = ap Some c.store_4_to_stack.ensures ∙ left_by-is (Is Quadrant 2 ∷ Is Funct3 6 ∷ []) c.args.h (is _ 2 c.requires, (is _ 6 (omega arith), tt))

pub returns-in-7 : goal.returns-in-7
returns-in-7 c = ap Some c.store_8_to_stack.ensures ∙ left_by-is (Is Quadrant 2 ∷ Is Funct3 7 ∷ []) c.args.h (is _ 2 c.requires, (is _ 7 (omega arith), tt))

pub returns-in_default : goal.returns-in_default
returns-in_default c = left_by-is (Is Quadrant 2 ∷ IsNot Funct3 0 ∷ IsNot Funct3 2 ∷ IsNot Funct3 3 ∷ IsNot Funct3 4 ∷ IsNot Funct3 6 ∷ IsNot Funct3 7 ∷ []) c.args.h (is _ 2 c.requires, (isnt _ 0 (omega arith), (isnt _ 2 (omega arith), (isnt _ 3 (omega arith), (isnt _ 4 (omega arith), (isnt _ 6 (omega arith), (isnt _ 7 (omega arith), tt)))))))

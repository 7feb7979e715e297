use Rattle.std.proofs.Common.{Some, [], ◌∷◌, ap, ◌∙◌, arith}
use Rattle.rvc.specs.Expands.{Quadrant, Funct3, Is, IsNot}
use Rattle.rvc.proofs.RowLemmas.{left_by-is, is, isnt}
use Rattle.rvc.proofs.expansion.in_quadrant_0.Goals as goal

pub returns-in-2 : goal.returns-in-2
returns-in-2 c = ap Some c.load_4.ensures ∙ left_by-is (Is Quadrant 0 ∷ Is Funct3 2 ∷ []) c.args.h (is _ 0 c.requires, (is _ 2 (omega arith), tt))

pub returns-in-3 : goal.returns-in-3
returns-in-3 c = ap Some c.load_8.ensures ∙ left_by-is (Is Quadrant 0 ∷ Is Funct3 3 ∷ []) c.args.h (is _ 0 c.requires, (is _ 3 (omega arith), tt))

pub returns-in-6 : goal.returns-in-6
returns-in-6 c = ap Some c.store_4.ensures ∙ left_by-is (Is Quadrant 0 ∷ Is Funct3 6 ∷ []) c.args.h (is _ 0 c.requires, (is _ 6 (omega arith), tt))

pub returns-in-7 : goal.returns-in-7
returns-in-7 c = ap Some c.store_8.ensures ∙ left_by-is (Is Quadrant 0 ∷ Is Funct3 7 ∷ []) c.args.h (is _ 0 c.requires, (is _ 7 (omega arith), tt))

pub returns-in_default : goal.returns-in_default
returns-in_default c = left_by-is (Is Quadrant 0 ∷ IsNot Funct3 0 ∷ IsNot Funct3 2 ∷ IsNot Funct3 3 ∷ IsNot Funct3 6 ∷ IsNot Funct3 7 ∷ []) c.args.h (is _ 0 c.requires, (isnt _ 0 (omega arith), (isnt _ 2 (omega arith), (isnt _ 3 (omega arith), (isnt _ 6 (omega arith), (isnt _ 7 (omega arith), tt))))))

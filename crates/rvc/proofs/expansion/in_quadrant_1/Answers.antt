use Rattle.std.proofs.Common.{Some, [], ◌∷◌, ap, ◌∙◌, arith}
use Rattle.rvc.specs.Expands.{Quadrant, Funct3, Is}
use Rattle.rvc.proofs.RowLemmas.{left_by-is, is}
use Rattle.rvc.proofs.expansion.in_quadrant_1.Goals as goal

pub returns-in-0 : goal.returns-in-0
returns-in-0 c = ap Some c.op_immediate.ensures ∙ left_by-is (Is Quadrant 1 ∷ Is Funct3 0 ∷ []) c.args.h (is _ 1 c.requires, (is _ 0 (omega arith), tt))

pub returns-in-2 : goal.returns-in-2
returns-in-2 c = ap Some c.constant.ensures ∙ left_by-is (Is Quadrant 1 ∷ Is Funct3 2 ∷ []) c.args.h (is _ 1 c.requires, (is _ 2 (omega arith), tt))

pub returns-in-5 : goal.returns-in-5
returns-in-5 c = ap Some c.jump.ensures ∙ left_by-is (Is Quadrant 1 ∷ Is Funct3 5 ∷ []) c.args.h (is _ 1 c.requires, (is _ 5 (omega arith), tt))

pub returns-in-6 : goal.returns-in-6
returns-in-6 c = ap Some c.branch-h.ensures ∙ left_by-is (Is Quadrant 1 ∷ Is Funct3 6 ∷ []) c.args.h (is _ 1 c.requires, (is _ 6 (omega arith), tt))

pub returns-in_default : goal.returns-in_default
returns-in_default c = ap Some c.branch-h-in_default.ensures ∙ left_by-is (Is Quadrant 1 ∷ Is Funct3 7 ∷ []) c.args.h (is _ 1 c.requires, (is _ 7 (omega arith), tt))

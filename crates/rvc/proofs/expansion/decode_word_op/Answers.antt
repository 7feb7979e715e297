use Rattle.std.proofs.Common.{Some, [], ◌∷◌, ap, ◌∙◌, arith}
use Rattle.rvc.specs.Expands.{Quadrant, Funct3, Funct1, Funct2, Funct2Low, Is}
use Rattle.rvc.proofs.RowLemmas.{left_by-is, is}
use Rattle.rvc.proofs.expansion.decode_word_op.Goals as goal

pub returns-in-0 : goal.returns-in-0
returns-in-0 c = ap Some c.op.ensures ∙ left_by-is (Is Quadrant 1 ∷ Is Funct3 4 ∷ Is Funct2 3 ∷ Is Funct1 0 ∷ Is Funct2Low 0 ∷ []) c.args.h (is _ 1 c.requires.quadrant, (is _ 4 c.requires.funct3, (is _ 3 c.requires.funct2, (is _ 0 c.requires.funct1, (is _ 0 (omega arith), tt)))))

pub returns-in-1 : goal.returns-in-1
returns-in-1 c = ap Some c.op-in-1.ensures ∙ left_by-is (Is Quadrant 1 ∷ Is Funct3 4 ∷ Is Funct2 3 ∷ Is Funct1 0 ∷ Is Funct2Low 1 ∷ []) c.args.h (is _ 1 c.requires.quadrant, (is _ 4 c.requires.funct3, (is _ 3 c.requires.funct2, (is _ 0 c.requires.funct1, (is _ 1 (omega arith), tt)))))

pub returns-in-2 : goal.returns-in-2
returns-in-2 c = ap Some c.op-in-2.ensures ∙ left_by-is (Is Quadrant 1 ∷ Is Funct3 4 ∷ Is Funct2 3 ∷ Is Funct1 0 ∷ Is Funct2Low 2 ∷ []) c.args.h (is _ 1 c.requires.quadrant, (is _ 4 c.requires.funct3, (is _ 3 c.requires.funct2, (is _ 0 c.requires.funct1, (is _ 2 (omega arith), tt)))))

pub returns-in_default : goal.returns-in_default
returns-in_default c = ap Some c.op-in_default.ensures ∙ left_by-is (Is Quadrant 1 ∷ Is Funct3 4 ∷ Is Funct2 3 ∷ Is Funct1 0 ∷ Is Funct2Low 3 ∷ []) c.args.h (is _ 1 c.requires.quadrant, (is _ 4 c.requires.funct3, (is _ 3 c.requires.funct2, (is _ 0 c.requires.funct1, (is _ 3 (omega arith), tt)))))

use Rattle.std.proofs.Common.{Some, [], ◌∷◌, ap, ◌∙◌, arith}
use Rattle.rvc.specs.Expands.{Quadrant, Funct3, Funct1, Rd, Rs2, Is, IsNot}
use Rattle.rvc.proofs.RowLemmas.{left_by-is, is, isnt}
use Rattle.rvc.proofs.expansion.decode_move.Goals as goal

pub returns-then-rs2-ne0 : goal.returns-then-rs2-ne0
returns-then-rs2-ne0 c = ap Some c.copy.ensures ∙ left_by-is (Is Quadrant 2 ∷ Is Funct3 4 ∷ Is Funct1 0 ∷ IsNot Rs2 0 ∷ []) c.args.h (is _ 2 c.requires.quadrant, (is _ 4 c.requires.funct3, (is _ 0 (omega arith), (isnt _ 0 (omega arith), tt))))

pub returns-then-rd-ne0 : goal.returns-then-rd-ne0
returns-then-rd-ne0 c = ap Some c.jump_through.ensures ∙ left_by-is (Is Quadrant 2 ∷ Is Funct3 4 ∷ Is Funct1 0 ∷ Is Rs2 0 ∷ IsNot Rd 0 ∷ []) c.args.h (is _ 2 c.requires.quadrant, (is _ 4 c.requires.funct3, (is _ 0 (omega arith), (is _ 0 (omega arith), (isnt _ 0 (omega arith), tt)))))

pub returns-then-funct1-eq0 : goal.returns-then-funct1-eq0
returns-then-funct1-eq0 c = left_by-is (Is Quadrant 2 ∷ Is Funct3 4 ∷ Is Funct1 0 ∷ Is Rs2 0 ∷ Is Rd 0 ∷ []) c.args.h (is _ 2 c.requires.quadrant, (is _ 4 c.requires.funct3, (is _ 0 (omega arith), (is _ 0 (omega arith), (is _ 0 (omega arith), tt)))))

pub returns-then-rs2-ne0-2 : goal.returns-then-rs2-ne0-2
returns-then-rs2-ne0-2 c = ap Some c.sum.ensures ∙ left_by-is (Is Quadrant 2 ∷ Is Funct3 4 ∷ Is Funct1 1 ∷ IsNot Rs2 0 ∷ []) c.args.h (is _ 2 c.requires.quadrant, (is _ 4 c.requires.funct3, (is _ 1 (omega arith), (isnt _ 0 (omega arith), tt))))

pub returns-then-rd-ne0-2 : goal.returns-then-rd-ne0-2
returns-then-rd-ne0-2 c = ap Some c.jump_through-then-rd-ne0-2.ensures ∙ left_by-is (Is Quadrant 2 ∷ Is Funct3 4 ∷ Is Funct1 1 ∷ Is Rs2 0 ∷ IsNot Rd 0 ∷ []) c.args.h (is _ 2 c.requires.quadrant, (is _ 4 c.requires.funct3, (is _ 1 (omega arith), (is _ 0 (omega arith), (isnt _ 0 (omega arith), tt)))))

pub returns : goal.returns
returns c = left_by-is (Is Quadrant 2 ∷ Is Funct3 4 ∷ Is Funct1 1 ∷ Is Rs2 0 ∷ Is Rd 0 ∷ []) c.args.h (is _ 2 c.requires.quadrant, (is _ 4 c.requires.funct3, (is _ 1 (omega arith), (is _ 0 (omega arith), (is _ 0 (omega arith), tt)))))

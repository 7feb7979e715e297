use Rattle.std.proofs.Common.{Some, [], ◌∷◌, ap, ◌∙◌, arith}
use Rattle.rvc.specs.Expands.{Quadrant, Funct3, Rd, Is, IsNot}
use Rattle.rvc.proofs.RowLemmas.{left_by-is, is, isnt}
use Rattle.rvc.proofs.expansion.decode_half_sum.Goals as goal

pub returns-then-rd-eq0 : goal.returns-then-rd-eq0
returns-then-rd-eq0 c = left_by-is (Is Quadrant 1 ∷ Is Funct3 1 ∷ Is Rd 0 ∷ []) c.args.h (is _ 1 c.requires.quadrant, (is _ 1 c.requires.funct3, (is _ 0 (omega arith), tt)))

pub returns : goal.returns
returns c = ap Some c.op_immediate.ensures ∙ left_by-is (Is Quadrant 1 ∷ Is Funct3 1 ∷ IsNot Rd 0 ∷ []) c.args.h (is _ 1 c.requires.quadrant, (is _ 1 c.requires.funct3, (isnt _ 0 (omega arith), tt)))

use Rattle.std.proofs.Common.{Some, [], ◌∷◌, ap, ◌∙◌, arith}
use Rattle.rvc.specs.Expands.{Quadrant, Funct3, Rd, SixBits, Is, IsNot}
use Rattle.rvc.proofs.RowLemmas.{left_by-is, is, isnt}
use Rattle.rvc.proofs.expansion.decode_upper.Goals as goal

pub returns-then-six_bits-eq0 : goal.returns-then-six_bits-eq0
returns-then-six_bits-eq0 c = left_by-is (Is Quadrant 1 ∷ Is Funct3 3 ∷ Is SixBits 0 ∷ []) c.args.h (is _ 1 c.requires.quadrant, (is _ 3 c.requires.funct3, (is _ 0 (omega arith), tt)))

pub returns-then-rd-eq2 : goal.returns-then-rd-eq2
returns-then-rd-eq2 c = ap Some c.move_stack.ensures ∙ left_by-is (Is Quadrant 1 ∷ Is Funct3 3 ∷ IsNot SixBits 0 ∷ Is Rd 2 ∷ []) c.args.h (is _ 1 c.requires.quadrant, (is _ 3 c.requires.funct3, (isnt _ 0 (omega arith), (is _ 2 (omega arith), tt))))

pub returns : goal.returns
returns c = ap Some c.upper.ensures ∙ left_by-is (Is Quadrant 1 ∷ Is Funct3 3 ∷ IsNot SixBits 0 ∷ IsNot Rd 2 ∷ []) c.args.h (is _ 1 c.requires.quadrant, (is _ 3 c.requires.funct3, (isnt _ 0 (omega arith), (isnt _ 2 (omega arith), tt))))

use Rattle.std.proofs.Common.{Some, [], ◌∷◌, ap, ◌∙◌, arith}
use Rattle.rvc.specs.Expands.{Quadrant, Funct3, Rd, Is, IsNot}
use Rattle.rvc.proofs.RowLemmas.{left_by-is, is, isnt}
use Rattle.rvc.proofs.expansion.decode_stack_load_8.Goals as goal

pub returns-then-rd-eq0 : goal.returns-then-rd-eq0
returns-then-rd-eq0 c = left_by-is (Is Quadrant 2 ∷ Is Funct3 3 ∷ Is Rd 0 ∷ []) c.args.h (is _ 2 c.requires.quadrant, (is _ 3 c.requires.funct3, (is _ 0 (omega arith), tt)))

pub returns : goal.returns
returns c = ap Some c.load_8_from_stack.ensures ∙ left_by-is (Is Quadrant 2 ∷ Is Funct3 3 ∷ IsNot Rd 0 ∷ []) c.args.h (is _ 2 c.requires.quadrant, (is _ 3 c.requires.funct3, (isnt _ 0 (omega arith), tt)))

use Rattle.std.proofs.Common.{Some, [], ◌∷◌, ap, ◌∙◌, arith}
use Rattle.rvc.specs.Expands.{Quadrant, Funct3, StackAddend, Is, IsNot}
use Rattle.rvc.proofs.RowLemmas.{left_by-is, is, isnt}
use Rattle.rvc.proofs.expansion.decode_stack_address.Goals as goal

pub returns-then-stack_addend-eq0 : goal.returns-then-stack_addend-eq0
returns-then-stack_addend-eq0 c = left_by-is (Is Quadrant 0 ∷ Is Funct3 0 ∷ Is StackAddend 0 ∷ []) c.args.h (is _ 0 c.requires.quadrant, (is _ 0 c.requires.funct3, (is _ 0 (omega arith), tt)))

pub returns : goal.returns
returns c = ap Some c.stack_address.ensures ∙ left_by-is (Is Quadrant 0 ∷ Is Funct3 0 ∷ IsNot StackAddend 0 ∷ []) c.args.h (is _ 0 c.requires.quadrant, (is _ 0 c.requires.funct3, (isnt _ 0 (omega arith), tt)))

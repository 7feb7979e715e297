use Rattle.std.proofs.Common.{Some, [], ◌∷◌, ap, ◌∙◌, arith, eq-eqb}
use Rattle.rv_decode.specs.Fields.{opcode, funct3, funct6}
use Rattle.rv_decode.proofs.RowLemmas.{opcode_is, funct3_is, funct6_is, is, is_not, neq-eqb, left_by-is, at_funct6}
use Rattle.rv_decode.proofs.decoder.decode_left_shift.Goals as goal

pub returns-in-0 : goal.returns-in-0
returns-in-0 c = ap Some c.shift_immediate.ensures ∙ at_funct6 c.args.w 0x13 1 0 c.requires.opcode c.requires.funct3 (omega arith)

pub returns-in_default : goal.returns-in_default
returns-in_default c =
    let w = c.args.w in
    left_by-is (is (opcode_is 0x13) ∷ is (funct3_is 1) ∷ is_not (funct6_is 0) ∷ []) w
    (eq-eqb (opcode w) 0x13 c.requires.opcode, (eq-eqb (funct3 w) 1 c.requires.funct3, (neq-eqb (funct6 w) 0 (omega arith), tt)))

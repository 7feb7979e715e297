use Rattle.std.proofs.Common.{Some, [], ◌∷◌, ap, ◌∙◌, arith, eq-eqb}
use Rattle.rv_decode.specs.Fields.{opcode, funct3, funct7}
use Rattle.rv_decode.proofs.RowLemmas.{opcode_is, funct3_is, funct7_is, is, is_not, neq-eqb, left_by-is, at_funct7}
use Rattle.rv_decode.proofs.decoder.decode_half_right_shift.Goals as goal

pub returns-in-0 : goal.returns-in-0
returns-in-0 c = ap Some c.half_shift_immediate.ensures ∙ at_funct7 c.args.w 0x1b 5 0 c.requires.opcode c.requires.funct3 (omega arith)

pub returns-in-32 : goal.returns-in-32
returns-in-32 c = ap Some c.half_shift_immediate-in-32.ensures ∙ at_funct7 c.args.w 0x1b 5 0x20 c.requires.opcode c.requires.funct3 (omega arith)

pub returns-in_default : goal.returns-in_default
returns-in_default c =
    let w = c.args.w in
    left_by-is (is (opcode_is 0x1b) ∷ is (funct3_is 5) ∷ is_not (funct7_is 0) ∷ is_not (funct7_is 0x20) ∷ []) w
    (eq-eqb (opcode w) 0x1b c.requires.opcode, (eq-eqb (funct3 w) 5 c.requires.funct3, (neq-eqb (funct7 w) 0 (omega arith), (neq-eqb (funct7 w) 0x20 (omega arith), tt))))

use Rattle.std.proofs.Common.{Some, [], ◌∷◌, ap, ◌∙◌, arith, eq-eqb}
use Rattle.rv_decode.specs.Fields.{opcode, funct3, funct7}
use Rattle.rv_decode.proofs.RowLemmas.{opcode_is, funct3_is, funct7_is, is, is_not, neq-eqb, left_by-is, at_funct7}
use Rattle.rv_decode.proofs.decoder.decode_half_op_1.Goals as goal

pub returns-in-0 : goal.returns-in-0
returns-in-0 c = ap Some c.op.ensures ∙ at_funct7 c.args.w 0x3b 0 1 c.requires.opcode (omega arith) c.requires.funct7

pub returns-in-4 : goal.returns-in-4
returns-in-4 c = ap Some c.op-in-4.ensures ∙ at_funct7 c.args.w 0x3b 4 1 c.requires.opcode (omega arith) c.requires.funct7

pub returns-in-5 : goal.returns-in-5
returns-in-5 c = ap Some c.op-in-5.ensures ∙ at_funct7 c.args.w 0x3b 5 1 c.requires.opcode (omega arith) c.requires.funct7

pub returns-in-6 : goal.returns-in-6
returns-in-6 c = ap Some c.op-in-6.ensures ∙ at_funct7 c.args.w 0x3b 6 1 c.requires.opcode (omega arith) c.requires.funct7

pub returns-in-7 : goal.returns-in-7
returns-in-7 c = ap Some c.op-in-7.ensures ∙ at_funct7 c.args.w 0x3b 7 1 c.requires.opcode (omega arith) c.requires.funct7

pub returns-in_default : goal.returns-in_default
returns-in_default c =
    let w = c.args.w in
    left_by-is (is (opcode_is 0x3b) ∷ is (funct7_is 1) ∷ is_not (funct3_is 0) ∷ is_not (funct3_is 4) ∷ is_not (funct3_is 5) ∷ is_not (funct3_is 6) ∷ is_not (funct3_is 7) ∷ []) w
    (eq-eqb (opcode w) 0x3b c.requires.opcode, (eq-eqb (funct7 w) 1 c.requires.funct7, (neq-eqb (funct3 w) 0 (omega arith), (neq-eqb (funct3 w) 4 (omega arith), (neq-eqb (funct3 w) 5 (omega arith), (neq-eqb (funct3 w) 6 (omega arith), (neq-eqb (funct3 w) 7 (omega arith), tt)))))))

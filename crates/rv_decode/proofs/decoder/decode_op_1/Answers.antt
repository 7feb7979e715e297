use Rattle.std.proofs.Common.{Some, ap, ◌∙◌, arith}
use Rattle.rv_decode.proofs.RowLemmas.{at_funct7}
use Rattle.rv_decode.proofs.decoder.decode_op_1.Goals as goal

pub returns-in-0 : goal.returns-in-0
returns-in-0 c = ap Some c.op.ensures ∙ at_funct7 c.args.w 0x33 0 1 c.requires.opcode (omega arith) c.requires.funct7

pub returns-in-1 : goal.returns-in-1
returns-in-1 c = ap Some c.op-in-1.ensures ∙ at_funct7 c.args.w 0x33 1 1 c.requires.opcode (omega arith) c.requires.funct7

pub returns-in-2 : goal.returns-in-2
returns-in-2 c = ap Some c.op-in-2.ensures ∙ at_funct7 c.args.w 0x33 2 1 c.requires.opcode (omega arith) c.requires.funct7

pub returns-in-3 : goal.returns-in-3
returns-in-3 c = ap Some c.op-in-3.ensures ∙ at_funct7 c.args.w 0x33 3 1 c.requires.opcode (omega arith) c.requires.funct7

pub returns-in-4 : goal.returns-in-4
returns-in-4 c = ap Some c.op-in-4.ensures ∙ at_funct7 c.args.w 0x33 4 1 c.requires.opcode (omega arith) c.requires.funct7

pub returns-in-5 : goal.returns-in-5
returns-in-5 c = ap Some c.op-in-5.ensures ∙ at_funct7 c.args.w 0x33 5 1 c.requires.opcode (omega arith) c.requires.funct7

pub returns-in-6 : goal.returns-in-6
returns-in-6 c = ap Some c.op-in-6.ensures ∙ at_funct7 c.args.w 0x33 6 1 c.requires.opcode (omega arith) c.requires.funct7

pub returns-in_default : goal.returns-in_default
returns-in_default c = ap Some c.op-in_default.ensures ∙ at_funct7 c.args.w 0x33 7 1 c.requires.opcode (omega arith) c.requires.funct7

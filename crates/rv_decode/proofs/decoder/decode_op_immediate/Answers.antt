use Rattle.std.proofs.Common.{Some, ap, ◌∙◌, arith}
use Rattle.rv_decode.proofs.RowLemmas.{at_funct3}
use Rattle.rv_decode.proofs.decoder.decode_op_immediate.Goals as goal

pub returns-in-0 : goal.returns-in-0
returns-in-0 c = ap Some c.op_immediate.ensures ∙ at_funct3 c.args.w 0x13 0 c.requires (omega arith)

pub returns-in-2 : goal.returns-in-2
returns-in-2 c = ap Some c.op_immediate-in-2.ensures ∙ at_funct3 c.args.w 0x13 2 c.requires (omega arith)

pub returns-in-3 : goal.returns-in-3
returns-in-3 c = ap Some c.op_immediate-in-3.ensures ∙ at_funct3 c.args.w 0x13 3 c.requires (omega arith)

pub returns-in-4 : goal.returns-in-4
returns-in-4 c = ap Some c.op_immediate-in-4.ensures ∙ at_funct3 c.args.w 0x13 4 c.requires (omega arith)

pub returns-in-6 : goal.returns-in-6
returns-in-6 c = ap Some c.op_immediate-in-6.ensures ∙ at_funct3 c.args.w 0x13 6 c.requires (omega arith)

pub returns-in_default : goal.returns-in_default
returns-in_default c = ap Some c.op_immediate-in_default.ensures ∙ at_funct3 c.args.w 0x13 7 c.requires (omega arith)

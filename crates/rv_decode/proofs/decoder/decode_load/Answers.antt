use Rattle.std.proofs.Common.{Some, ap, ◌∙◌, arith}
use Rattle.rv_decode.proofs.RowLemmas.{at_funct3}
use Rattle.rv_decode.proofs.decoder.decode_load.Goals as goal

pub returns-in-0 : goal.returns-in-0
returns-in-0 c = ap Some c.load.ensures ∙ at_funct3 c.args.w 0x03 0 c.requires (omega arith)

pub returns-in-1 : goal.returns-in-1
returns-in-1 c = ap Some c.load-in-1.ensures ∙ at_funct3 c.args.w 0x03 1 c.requires (omega arith)

pub returns-in-2 : goal.returns-in-2
returns-in-2 c = ap Some c.load-in-2.ensures ∙ at_funct3 c.args.w 0x03 2 c.requires (omega arith)

pub returns-in-3 : goal.returns-in-3
returns-in-3 c = ap Some c.load-in-3.ensures ∙ at_funct3 c.args.w 0x03 3 c.requires (omega arith)

pub returns-in-4 : goal.returns-in-4
returns-in-4 c = ap Some c.load-in-4.ensures ∙ at_funct3 c.args.w 0x03 4 c.requires (omega arith)

pub returns-in-5 : goal.returns-in-5
returns-in-5 c = ap Some c.load-in-5.ensures ∙ at_funct3 c.args.w 0x03 5 c.requires (omega arith)

pub returns-in-6 : goal.returns-in-6
returns-in-6 c = ap Some c.load-in-6.ensures ∙ at_funct3 c.args.w 0x03 6 c.requires (omega arith)

pub returns-in_default : goal.returns-in_default
returns-in_default c = at_funct3 c.args.w 0x03 7 c.requires (omega arith)

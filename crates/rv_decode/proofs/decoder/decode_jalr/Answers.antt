use Rattle.std.proofs.Common.{Some, [], ◌∷◌, ap, ◌∙◌, arith, eq-eqb}
use Rattle.rv_decode.specs.Fields.{opcode, funct3}
use Rattle.rv_decode.proofs.RowLemmas.{opcode_is, funct3_is, is, is_not, neq-eqb, left_by-is, at_funct3}
use Rattle.rv_decode.proofs.decoder.decode_jalr.Goals as goal

pub returns-in-0 : goal.returns-in-0
returns-in-0 c = ap Some c.jalr.ensures ∙ at_funct3 c.args.w 0x67 0 c.requires (omega arith)

pub returns-in_default : goal.returns-in_default
returns-in_default c =
    let w = c.args.w in
    left_by-is (is (opcode_is 0x67) ∷ is_not (funct3_is 0) ∷ []) w
    (eq-eqb (opcode w) 0x67 c.requires, (neq-eqb (funct3 w) 0 (omega arith), tt))

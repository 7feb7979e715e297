use Rattle.std.proofs.Common.{[], ◌∷◌, arith, eq-eqb}
use Rattle.rv_decode.specs.Fields.{opcode, funct7}
use Rattle.rv_decode.proofs.RowLemmas.{opcode_is, funct7_is, is, is_not, neq-eqb, left_by-is}
use Rattle.rv_decode.proofs.decoder.decode_op.Goals as goal

pub returns-in_default : goal.returns-in_default
returns-in_default c =
    let w = c.args.w in
    left_by-is (is (opcode_is 0x33) ∷ is_not (funct7_is 0) ∷ is_not (funct7_is 1) ∷ is_not (funct7_is 0x20) ∷ []) w
    (eq-eqb (opcode w) 0x33 c.requires, (neq-eqb (funct7 w) 0 (omega arith), (neq-eqb (funct7 w) 1 (omega arith), (neq-eqb (funct7 w) 0x20 (omega arith), tt))))

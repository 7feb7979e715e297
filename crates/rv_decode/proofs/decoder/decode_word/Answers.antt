use Rattle.std.proofs.Common.{Some, [], ◌∷◌, ap, ◌∙◌, arith}
use Rattle.rv_decode.specs.Fields.{opcode}
use Rattle.rv_decode.proofs.RowLemmas.{opcode_is, is_not, neq-eqb, left_by-is, at_opcode}
use Rattle.rv_decode.proofs.decoder.decode_word.Goals as goal

pub returns-in-23 : goal.returns-in-23
returns-in-23 c = ap Some c.auipc.ensures ∙ at_opcode c.args.w 0x17 (omega arith)

pub returns-in-55 : goal.returns-in-55
returns-in-55 c = ap Some c.lui.ensures ∙ at_opcode c.args.w 0x37 (omega arith)

pub returns-in-111 : goal.returns-in-111
returns-in-111 c = ap Some c.jal.ensures ∙ at_opcode c.args.w 0x6f (omega arith)

pub returns-in_default : goal.returns-in_default
returns-in_default c =
    let w = c.args.w in
    left_by-is (is_not (opcode_is 0x03) ∷ is_not (opcode_is 0x0f) ∷ is_not (opcode_is 0x13) ∷ is_not (opcode_is 0x17) ∷ is_not (opcode_is 0x1b) ∷ is_not (opcode_is 0x23) ∷ is_not (opcode_is 0x33) ∷ is_not (opcode_is 0x37) ∷ is_not (opcode_is 0x3b) ∷ is_not (opcode_is 0x63) ∷ is_not (opcode_is 0x67) ∷ is_not (opcode_is 0x6f) ∷ is_not (opcode_is 0x73) ∷ []) w
    (neq-eqb (opcode w) 0x03 (omega arith), (neq-eqb (opcode w) 0x0f (omega arith), (neq-eqb (opcode w) 0x13 (omega arith), (neq-eqb (opcode w) 0x17 (omega arith), (neq-eqb (opcode w) 0x1b (omega arith), (neq-eqb (opcode w) 0x23 (omega arith), (neq-eqb (opcode w) 0x33 (omega arith), (neq-eqb (opcode w) 0x37 (omega arith), (neq-eqb (opcode w) 0x3b (omega arith), (neq-eqb (opcode w) 0x63 (omega arith), (neq-eqb (opcode w) 0x67 (omega arith), (neq-eqb (opcode w) 0x6f (omega arith), (neq-eqb (opcode w) 0x73 (omega arith), tt)))))))))))))

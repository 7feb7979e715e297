use Rattle.std.proofs.Common.{Some, [], ◌∷◌, ap, ◌∙◌, arith, eq-eqb}
use Rattle.rv_decode.specs.Fields.{opcode, funct3}
use Rattle.rv_decode.proofs.RowLemmas.{opcode_is, funct3_is, is, is_not, neq-eqb, left_by-is, at_funct3}
use Rattle.rv_decode.proofs.decoder.decode_store.Goals as goal

pub returns-in-0 : goal.returns-in-0
returns-in-0 c = ap Some c.store.ensures ∙ at_funct3 c.args.w 0x23 0 c.requires (omega arith)

pub returns-in-1 : goal.returns-in-1
returns-in-1 c = ap Some c.store-in-1.ensures ∙ at_funct3 c.args.w 0x23 1 c.requires (omega arith)

pub returns-in-2 : goal.returns-in-2
returns-in-2 c = ap Some c.store-in-2.ensures ∙ at_funct3 c.args.w 0x23 2 c.requires (omega arith)

pub returns-in-3 : goal.returns-in-3
returns-in-3 c = ap Some c.store-in-3.ensures ∙ at_funct3 c.args.w 0x23 3 c.requires (omega arith)

pub returns-in_default : goal.returns-in_default
returns-in_default c =
    let w = c.args.w in
    left_by-is (is (opcode_is 0x23) ∷ is_not (funct3_is 0) ∷ is_not (funct3_is 1) ∷ is_not (funct3_is 2) ∷ is_not (funct3_is 3) ∷ []) w
    (eq-eqb (opcode w) 0x23 c.requires, (neq-eqb (funct3 w) 0 (omega arith), (neq-eqb (funct3 w) 1 (omega arith), (neq-eqb (funct3 w) 2 (omega arith), (neq-eqb (funct3 w) 3 (omega arith), tt)))))

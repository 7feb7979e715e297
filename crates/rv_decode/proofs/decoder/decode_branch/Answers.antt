use Rattle.std.proofs.Common.{Some, [], ◌∷◌, ap, ◌∙◌, arith, eq-eqb}
use Rattle.rv_decode.specs.Fields.{opcode, funct3}
use Rattle.rv_decode.proofs.RowLemmas.{opcode_is, funct3_is, is, is_not, neq-eqb, left_by-is, at_funct3}
use Rattle.rv_decode.proofs.decoder.decode_branch.Goals as goal

pub returns-in-0 : goal.returns-in-0
returns-in-0 c = ap Some c.branch-w.ensures ∙ at_funct3 c.args.w 0x63 0 c.requires (omega arith)

pub returns-in-1 : goal.returns-in-1
returns-in-1 c = ap Some c.branch-w-in-1.ensures ∙ at_funct3 c.args.w 0x63 1 c.requires (omega arith)

pub returns-in-4 : goal.returns-in-4
returns-in-4 c = ap Some c.branch-w-in-4.ensures ∙ at_funct3 c.args.w 0x63 4 c.requires (omega arith)

pub returns-in-5 : goal.returns-in-5
returns-in-5 c = ap Some c.branch-w-in-5.ensures ∙ at_funct3 c.args.w 0x63 5 c.requires (omega arith)

pub returns-in-6 : goal.returns-in-6
returns-in-6 c = ap Some c.branch-w-in-6.ensures ∙ at_funct3 c.args.w 0x63 6 c.requires (omega arith)

pub returns-in-7 : goal.returns-in-7
returns-in-7 c = ap Some c.branch-w-in-7.ensures ∙ at_funct3 c.args.w 0x63 7 c.requires (omega arith)

pub returns-in_default : goal.returns-in_default
returns-in_default c =
    let w = c.args.w in
    left_by-is (is (opcode_is 0x63) ∷ is_not (funct3_is 0) ∷ is_not (funct3_is 1) ∷ is_not (funct3_is 4) ∷ is_not (funct3_is 5) ∷ is_not (funct3_is 6) ∷ is_not (funct3_is 7) ∷ []) w
    (eq-eqb (opcode w) 0x63 c.requires, (neq-eqb (funct3 w) 0 (omega arith), (neq-eqb (funct3 w) 1 (omega arith), (neq-eqb (funct3 w) 4 (omega arith), (neq-eqb (funct3 w) 5 (omega arith), (neq-eqb (funct3 w) 6 (omega arith), (neq-eqb (funct3 w) 7 (omega arith), tt)))))))

-- Which actions return.
use Rattle.std.proofs.Common.{◌≡◌, ℕ, true, List, Option, Some, None, refl}
use Rattle.rv_decode.specs.declared.instruction.Instr.{Instr}
use Rattle.rv_decode.specs.declared.instruction.Instr.TheVariants as instr
use Rattle.word_terms.specs.Tree.{WordTree}
use Rattle.tailrec_lang.specs.Tree.{StepTree}
use Rattle.triple_kernel.specs.declared.form.Form.{Form}
use Rattle.code_parts.specs.Bodies.{VariableMap, Return, action_of, action_calling}
use Rattle.code_parts.specs.declared.callee.Callee.{Callee}
use Rattle.code_parts.specs.Graph.{is_jump_through}

-- a jump through a register alone returns
pub return-row : (i : Instr) (a k q : ℕ) (to : Form → ℕ) (v : VariableMap) (ss : List StepTree) (t : WordTree) → action_of i a k q to v ≡ Return ss t → is_jump_through i ≡ true
return-row (instr.Op o rd rs1 rs2) a k q to v ss t e = absurd (cc)
return-row (instr.OpImm o rd rs1 imm) a k q to v ss t e = absurd (cc)
return-row (instr.Lui rd imm) a k q to v ss t e = absurd (cc)
return-row (instr.Auipc rd imm) a k q to v ss t e = absurd (cc)
return-row (instr.Jal rd offset) a k q to v ss t e = absurd (cc)
return-row (instr.Jalr rd rs1 imm) a k q to v ss t e = refl
return-row (instr.Branch c rs1 rs2 offset) a k q to v ss t e = absurd (cc)
return-row (instr.Load w signed rd rs1 imm) a k q to v ss t e = absurd (cc)
return-row (instr.Store w rs1 rs2 imm) a k q to v ss t e = absurd (cc)
return-row (instr.Fence imm rs1 rd) a k q to v ss t e = absurd (cc)
return-row instr.Ecall a k q to v ss t e = absurd (cc)
return-row instr.Ebreak a k q to v ss t e = absurd (cc)

pub return-calling : (o : Option Callee) (i : Instr) (a k q : ℕ) (to : Form → ℕ) (v : VariableMap) (ss : List StepTree) (t : WordTree) → action_calling o i a k q to v ≡ Return ss t → is_jump_through i ≡ true
return-calling None i a k q to v ss t e = return-row i a k q to v ss t e
return-calling (Some c) i a k q to v ss t e = absurd (cc)

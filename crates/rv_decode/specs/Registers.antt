-- The registers whose words an instruction takes, and the one that it writes.
-- RISC-V Unprivileged ISA 20191213, sections 2.2 and 2.4 to 2.7. The fields of FENCE are no registers (section 2.7).
use Rattle.std.specs.Prelude.{ℕ, ◌==◌, Bool, List, [], ◌∷◌, filter}
use Rattle.std.specs.List.{list_any, range_with_len}
use Rattle.rv_decode.specs.declared.instruction.Instr.{Instr}
use Rattle.rv_decode.specs.declared.instruction.Instr.TheVariants.{Op, OpImm, Lui, Auipc, Jal, Jalr, Branch, Load, Store}

-- the registers whose words it takes, as they stand in it
abbrev pub sources : Instr → List ℕ
sources (Op o rd rs1 rs2) = rs1 ∷ rs2 ∷ []
sources (OpImm o rd rs1 imm) = rs1 ∷ []
sources (Jalr rd rs1 imm) = rs1 ∷ []
sources (Branch c rs1 rs2 offset) = rs1 ∷ rs2 ∷ []
sources (Load w signed rd rs1 imm) = rs1 ∷ []
sources (Store w rs1 rs2 imm) = rs1 ∷ rs2 ∷ []
sources i = []

-- the register that it writes; x0, which is never written, where there is none
abbrev pub destination : Instr → ℕ
destination (Op o rd rs1 rs2) = rd
destination (OpImm o rd rs1 imm) = rd
destination (Lui rd imm) = rd
destination (Auipc rd imm) = rd
destination (Jal rd offset) = rd
destination (Jalr rd rs1 imm) = rd
destination (Load w signed rd rs1 imm) = rd
destination i = 0

abbrev pub is_read : Instr → ℕ → Bool
is_read i r = list_any (λ q. q == r) (sources i)

abbrev pub is_written : Instr → ℕ → Bool
is_written i r = destination i == r

-- those of x1 to x31 of which the test is true, rising
unfoldable pub registers_where : (ℕ → Bool) → List ℕ
registers_where test = filter test (range_with_len 1 31)

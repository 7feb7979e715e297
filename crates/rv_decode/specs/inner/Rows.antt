-- The instructions that only one row of the table gives.
use Rattle.std.specs.Prelude.{ℕ}
use Rattle.rv_decode.specs.declared.instruction.Instr.{Instr}
use Rattle.rv_decode.specs.declared.instruction.Instr.TheVariants.{Lui, Auipc, Jal, Jalr, Fence}
use Rattle.rv_decode.specs.Fields.{bits, rd, rs1, immediate_i, immediate_u, immediate_j}

abbrev pub lui : ℕ → Instr
lui w = Lui (rd w) (immediate_u w)

abbrev pub auipc : ℕ → Instr
auipc w = Auipc (rd w) (immediate_u w)

abbrev pub jal : ℕ → Instr
jal w = Jal (rd w) (immediate_j w)

abbrev pub jalr : ℕ → Instr
jalr w = Jalr (rd w) (rs1 w) (immediate_i w)

abbrev pub fence : ℕ → Instr
fence w = Fence (bits 20 12 w) (rs1 w) (rd w)

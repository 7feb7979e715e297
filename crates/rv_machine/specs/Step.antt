-- One step of the machine: RISC-V Unprivileged ISA 20191213, sections 2.4 to 2.8, 5.2, 5.3 and chapters 7 and 16.
-- Sums are modulo 2 ^ 64. Loads and stores go byte by byte, the low byte first, wherever they begin.
use Rattle.std.specs.Prelude.{ℕ, zero, suc, ◌+◌, ◌-◌, ◌*◌, ◌%◌, ◌^◌, ◌==◌, Bool, if◌then◌else◌, Option, Some, None, is_some, unwrap_or, option_map, option_and_then, ℤ, bit_and}
use Rattle.rv_words.specs.Bytes.{Bytes, after, bytes_of, load, inside, store}
use Rattle.rv_words.specs.Operation.{operation_value, comparison_holds, word_of, extended}
use Rattle.rv_words.specs.declared.width.Width.{Width}
use Rattle.rv_words.specs.declared.width.Width.TheVariants.{B8}
use Rattle.rv_decode.specs.declared.instruction.Instr.{Instr}
use Rattle.rv_decode.specs.declared.instruction.Instr.TheVariants.{Op, OpImm, Lui, Auipc, Jal, Jalr, Branch, Load, Store, Fence, Ecall, Ebreak}
use Rattle.rvc.specs.Number.{instruction_of, length_of, number_at}
use Rattle.rv_machine.specs.declared.state.Stuck.{Stuck}
use Rattle.rv_machine.specs.declared.state.Stuck.TheVariants.{Misaligned, NoFetch, NotDecoded, Environment, NoByte}
use Rattle.rv_machine.specs.State.{State, with_register}

-- ---- parts of a step

-- the word in a register; x0 reads as 0
abbrev pub reads : ℕ → State → ℕ
reads r s = if r == 0 then 0 else s.reg r

-- a word written to a register; x0 is never written
abbrev pub writes : ℕ → ℕ → State → State
writes d x s = record s { reg = with_register d x s.reg }

-- the address after an instruction of n bytes
abbrev pub next : ℕ → State → ℕ
next n s = (s.pc + n) % 2 ^ 64

abbrev pub goes_to : ℕ → State → State
goes_to a s = record s { pc = a }

-- on to the instruction after this one, which has n bytes
abbrev pub goes_on : ℕ → State → State
goes_on n s = goes_to (next n s) s

-- the sum of a word and an immediate
abbrev pub plus : ℕ → ℤ → ℕ
plus x imm = (x + word_of imm) % 2 ^ 64

-- the sum with bit 0 cleared
abbrev pub jump_target : ℕ → ℤ → ℕ
jump_target x imm = bit_and (plus x imm) (2 ^ 64 - 2)

-- 20 upper bits above 12 zeros, sign-extended
abbrev pub upper : ℕ → ℕ
upper imm = extended 32 (imm * 2 ^ 12)

-- an address at which an instruction may stand
abbrev pub is_even : ℕ → Bool
is_even a = a % 2 == 0

abbrev pub only_if : Bool → State → Option State
only_if test s = if test then Some s else None

-- a jump by an offset where the branch is taken, else on
abbrev pub branches : Bool → ℤ → ℕ → State → State
branches taken offset n s = if taken then goes_to (plus s.pc offset) s else goes_on n s

-- the number of a width's bytes as a word, its sign extended; that of eight bytes is one
abbrev pub sign_extended : Width → ℕ → ℕ
sign_extended B8 x = x
sign_extended w x = extended (8 * bytes_of w) x

-- the word that a load from a gives
abbrev pub loaded : Width → Bool → Bytes → ℕ → ℕ
loaded w signed m a = let x = load (bytes_of w) m a in if signed then sign_extended w x else x

-- all bytes of the width from a on are present
abbrev pub has : Width → Bytes → ℕ → Bool
has w m a = inside (bytes_of w) m a

-- a load from a to a register
abbrev pub loads_to : ℕ → Width → Bool → ℕ → ℕ → State → Option State
loads_to d w signed a n s = only_if (has w s.mem a) (goes_on n (writes d (loaded w signed s.mem a) s))

-- the low bytes of x stored from a on
abbrev pub stores_at : Width → ℕ → ℕ → ℕ → State → Option State
stores_at w a x n s = only_if (has w s.mem a) (goes_on n (record s { mem = store (bytes_of w) s.mem a x }))

-- ---- instructions

-- the state after an instruction of n bytes, if it can be carried out
abbrev pub act : Instr → ℕ → State → Option State
act (Op o rd rs1 rs2) n s = Some (goes_on n (writes rd (operation_value o (reads rs1 s) (reads rs2 s)) s))
act (OpImm o rd rs1 imm) n s = Some (goes_on n (writes rd (operation_value o (reads rs1 s) (word_of imm)) s))
act (Lui rd imm) n s = Some (goes_on n (writes rd (upper imm) s))
act (Auipc rd imm) n s = Some (goes_on n (writes rd ((s.pc + upper imm) % 2 ^ 64) s))
act (Jal rd offset) n s = Some (goes_to (plus s.pc offset) (writes rd (next n s) s))
act (Jalr rd rs1 imm) n s = Some (goes_to (jump_target (reads rs1 s) imm) (writes rd (next n s) s))
act (Branch c rs1 rs2 offset) n s = Some (branches (comparison_holds c (reads rs1 s) (reads rs2 s)) offset n s)
act (Load w signed rd rs1 imm) n s = loads_to rd w signed (plus (reads rs1 s) imm) n s
act (Store w rs1 rs2 imm) n s = stores_at w (plus (reads rs1 s) imm) (reads rs2 s) n s
act (Fence imm rs1 rd) n s = Some (goes_on n s)
act Ecall n s = None
act Ebreak n s = None

-- the parcel or the word at pc, if its bytes are present
abbrev pub fetched : State → Option ℕ
fetched s = number_at s.mem s.pc

-- the instruction at pc, if pc is even and the parcel or word there is one
abbrev pub instruction_at : State → Option Instr
instruction_at s = if is_even s.pc then option_and_then instruction_of (fetched s) else None

-- how many bytes the instruction at pc has, where there is one
abbrev pub length_at : State → ℕ
length_at s = length_of (unwrap_or (fetched s) 0)

-- the next state, if there is one
unfoldable pub step : State → Option State
step s = option_and_then (λ i. act i (length_at s) s) (instruction_at s)

-- ---- why there is no next state

-- the first absent one of n addresses from a on, or the address behind them
abbrev pub first_absent : ℕ → Bytes → ℕ → ℕ
first_absent zero m a = a
first_absent (suc n) m a = if is_some (m a) then first_absent n m (after a) else a

-- why an instruction can't be carried out, where it can't
abbrev pub hindrance : Instr → State → Stuck
hindrance (Load w signed rd rs1 imm) s = NoByte (first_absent (bytes_of w) s.mem (plus (reads rs1 s) imm))
hindrance (Store w rs1 rs2 imm) s = NoByte (first_absent (bytes_of w) s.mem (plus (reads rs1 s) imm))
hindrance i s = Environment

-- why the parcel or word at pc can't be carried out: it is no instruction, or one that is hindered
abbrev pub cause_of : ℕ → State → Stuck
cause_of w s = unwrap_or (option_map (λ i. hindrance i s) (instruction_of w)) (NotDecoded w)

-- why there is no next state, where there is none: pc first, then the fetch, then the decoding, then the instruction
abbrev pub cause : State → Stuck
cause s = if is_even s.pc then unwrap_or (option_map (λ w. cause_of w s) (fetched s)) NoFetch else Misaligned s.pc

-- the cause, exactly where there is no next state
unfoldable pub stuck : State → Option Stuck
stuck s = if is_some (step s) then None else Some (cause s)

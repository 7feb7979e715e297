-- What stands at an address, and where it leads. Sums are modulo 2 ^ 64.
use Rattle.std.specs.Prelude.{◌≡◌, ℕ, ◌+◌, ◌%◌, ◌^◌, ◌==◌, Bool, true, false, ◌&&◌, ◌||◌, if◌then◌else◌, ℤ, pos, Option, Some, None, unwrap_or, Result, Ok, Err, List, [], ◌∷◌}
use Rattle.std.specs.List.{Contains}
use Rattle.rv_words.specs.Bytes.{Bytes, away}
use Rattle.rv_words.specs.Operation.{word_of}
use Rattle.rv_decode.specs.declared.instruction.Instr.{Instr}
use Rattle.rv_decode.specs.declared.instruction.Instr.TheVariants.{Jal, Jalr, Branch, Ecall, Ebreak}
use Rattle.rvc.specs.Number.{instruction_of, length_of, number_in}
use Rattle.flow_graph.specs.declared.outside.Outside.{Outside}
use Rattle.flow_graph.specs.declared.outside.Outside.TheVariants.{OutsideCode, NotDecoded, Environment, Call, JumpThrough, Misaligned}

-- the target of a jump by an offset
abbrev pub target : ℕ → ℤ → ℕ
target a offset = (a + word_of offset) % 2 ^ 64

abbrev pub is_zero : ℤ → Bool
is_zero (pos n) = n == 0
is_zero _ = false

-- the jump by which a function returns: jalr x0, 0(x1)
abbrev pub is_return : Instr → Bool
is_return (Jalr rd rs1 imm) = rd == 0 && rs1 == 1 && is_zero imm
is_return i = false

-- ---- faults, each before those below it

-- an instruction at a, if it may stand in a function: no call of the environment, no jump with a link but, where functions are
-- linked, a call by x1, and no jump through a register but a return
abbrev pub admitted : Bool → ℕ → Instr → Result Instr Outside
admitted linked a Ecall = Err (Environment a)
admitted linked a Ebreak = Err (Environment a)
admitted linked a (Jal rd offset) = if rd == 0 || (linked && rd == 1) then Ok (Jal rd offset) else Err (Call a)
admitted linked a (Jalr rd rs1 imm) = if rd == 0 then (if is_return (Jalr rd rs1 imm) then Ok (Jalr rd rs1 imm) else Err (JumpThrough a)) else Err (Call a)
admitted linked a i = Ok i

-- .. where the parcel or word at a is that instruction or none
abbrev pub look_decoded : Bool → ℕ → ℕ → Option Instr → Result Instr Outside
look_decoded linked a w None = Err (NotDecoded a w)
look_decoded linked a w (Some i) = admitted linked a i

-- .. where that parcel or word is at a or none
abbrev pub look_fetched : Bool → ℕ → Option ℕ → Result Instr Outside
look_fetched linked a None = Err (OutsideCode a)
look_fetched linked a (Some w) = look_decoded linked a w (instruction_of w)

-- the instruction at an address that has no fault, or the address's one fault
unfoldable pub look : Bool → Bytes → ℕ → Result Instr Outside
look linked code a = if a % 2 == 0 then look_fetched linked a (number_in code a) else Err (Misaligned a a)

-- i stands at a, and may: a is even, the bytes of a parcel or a word from a on are code, the last of them not past 2 ^ 64, it is i,
-- and i has no fault there
pub record StandsIn (linked : Bool) (code : Bytes) (a : ℕ) (i : Instr) : Type 0 where
  pub even : a % 2 == 0 ≡ true
  pub number : ℕ
  pub there : number_in code a ≡ Some number
  pub is : instruction_of number ≡ Some i
  pub fine : admitted linked a i ≡ Ok i

-- ---- successors

-- where an instruction of k bytes without a fault leads from a: a branch on and to its target, in that order, also where these are equal.
-- A call comes back.
abbrev pub targets : ℕ → ℕ → Instr → List ℕ
targets a k (Branch c rs1 rs2 offset) = away a k ∷ target a offset ∷ []
targets a k (Jal rd offset) = (if rd == 0 then target a offset else away a k) ∷ []
targets a k (Jalr rd rs1 imm) = []
targets a k i = away a k ∷ []

-- the function that an instruction at a calls
abbrev pub called_by : ℕ → Instr → Option ℕ
called_by a (Jal rd offset) = if rd == 1 then Some (target a offset) else None
called_by a i = None

-- where what was found at a leads; a fault leads nowhere
abbrev pub leads : ℕ → ℕ → Result Instr Outside → List ℕ
leads a k (Err why) = []
leads a k (Ok i) = targets a k i

-- how many bytes the instruction at a has, where there is one
abbrev pub length_in : Bytes → ℕ → ℕ
length_in code a = length_of (unwrap_or (number_in code a) 0)

-- the successors of an address
abbrev pub next : Bool → Bytes → ℕ → List ℕ
next linked code a = leads a (length_in code a) (look linked code a)

-- b is a successor of a
abbrev pub Next : Bool → Bytes → ℕ → ℕ → Type 0
Next linked code a b = Contains (next linked code a) b

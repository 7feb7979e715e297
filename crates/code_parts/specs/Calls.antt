-- Which functions of linked code call which. A function goes by the address of its entry.
use Rattle.std.specs.Prelude.{◌≡◌, ℕ, Option, None, Some, Result, Ok, Err, true}
use Rattle.rv_words.specs.Bytes.{Bytes}
use Rattle.rv_decode.specs.declared.instruction.Instr.{Instr}
use Rattle.flow_graph.specs.Flow.{called_by, look, Next}
use Rattle.flow_graph.specs.Walks.{Reaches}
use Rattle.flow_graph.specs.declared.outside.Outside.{Outside}

-- the function that is called by what was found at an address
abbrev pub call_by : ℕ → Result Instr Outside → Option ℕ
call_by a (Err why) = None
call_by a (Ok i) = called_by a i

-- the function that is called at an address
abbrev pub call_at : Bytes → ℕ → Option ℕ
call_at code a = call_by a (look true code a)

-- the function at t is called at an address that is reached from f
pub record CallsTo (code : Bytes) (f t : ℕ) : Type 0 where
  pub at : ℕ
  pub reached : Reaches (Next true code) f at
  pub calls : call_at code at ≡ Some t

-- f is one of the functions of e: no, one or more calls, one after the other, lead from e to f
abbrev pub IsFunction : Bytes → ℕ → ℕ → Type 0
IsFunction code e f = Reaches (CallsTo code) e f

-- one or more calls, one after the other, lead from f back to f
pub record CallsBack (code : Bytes) (f : ℕ) : Type 0 where
  pub callee : ℕ
  pub calls : CallsTo code f callee
  pub back : Reaches (CallsTo code) callee f

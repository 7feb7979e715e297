-- Offsets at the nodes of a graph, and what the search for them keeps.
use Rattle.std.specs.Prelude.{◌≡◌, ℕ, ◌<◌, ◌⊎◌, List, Option, Some, length, slice_get}
use Rattle.rv_decode.specs.declared.instruction.Instr.{Instr}
use Rattle.rv_decode.specs.Decodes.{NamesRegisters}
use Rattle.flow_graph.specs.Graph.{GraphOf, HasEdge}
use Rattle.stack_offsets.specs.declared.row.Row.{Row}
use Rattle.stack_offsets.specs.Offsets.{Offsets, HasOffset, offsets_after, entry_offsets, base_of}
use Rattle.stack_offsets.specs.inner.Rows.{offsets_of, row_of}

-- the instruction i of node u leads to node v
abbrev pub LeadsTo : GraphOf → ℕ → Instr → ℕ → Type 0
LeadsTo g u i v = (slice_get g.instrs u ≡ Some i) × HasEdge g u v

-- each instruction's registers are among the 32
abbrev pub NamesAll : GraphOf → Type 0
NamesAll g = (n : ℕ) (i : Instr) → slice_get g.instrs n ≡ Some i → NamesRegisters i

-- what the first has, the second has too
abbrev pub IsUnder : Offsets → Offsets → Type 0
IsUnder o p = (r c : ℕ) → o r ≡ Some c → p r ≡ Some c

-- these have all offsets that registers have at a node
abbrev pub AreComplete : GraphOf → ℕ → Offsets → Type 0
AreComplete g n o = (r c : ℕ) → r < 32 → HasOffset (LeadsTo g) g.entry n r c → o r ≡ Some c

-- the row of node v is under these offsets
pub record HasUnder (rows : List (Option Row)) (v : ℕ) (o : Offsets) : Type 0 where
  pub row : Row
  pub is : row_of rows v ≡ Some row
  pub under : IsUnder (offsets_of row) o

-- the rows of the nodes to which edges lead from u are under what u's instruction makes of these offsets
abbrev pub IsClosed : GraphOf → List (Option Row) → ℕ → Offsets → Type 0
IsClosed g rows u o = (v : ℕ) (i : Instr) → LeadsTo g u i v → HasUnder rows v (offsets_after i o)

-- what the search keeps: the rows have all offsets, and those of which the node isn't open are under what edges bring
pub record Settling (g : GraphOf) (rows : List (Option Row)) (open_at : ℕ → Type 0) : Type 0 where
  pub as_long : length rows ≡ length g.addrs
  pub entry : HasUnder rows g.entry entry_offsets
  pub complete : NamesAll g → (n : ℕ) (row : Row) → row_of rows n ≡ Some row → AreComplete g n (offsets_of row)
  pub closed : (u : ℕ) (row : Row) → row_of rows u ≡ Some row → open_at u ⊎ IsClosed g rows u (offsets_of row)

-- the rows at the end
pub record AreSettled (g : GraphOf) (rows : List (Option Row)) : Type 0 where
  pub as_long : length rows ≡ length g.addrs
  pub row_at : (n : ℕ) → n < length g.addrs → (row : Row) × (row_of rows n ≡ Some row)
  pub sound : (n : ℕ) (row : Row) (r c : ℕ) → row_of rows n ≡ Some row → offsets_of row r ≡ Some c → HasOffset (LeadsTo g) g.entry n r c
  pub complete : NamesAll g → (n : ℕ) (row : Row) → row_of rows n ≡ Some row → AreComplete g n (offsets_of row)

-- the instruction of node n loads from a register that has an offset there, or stores to one
pub record IsStackNode (g : GraphOf) (n : ℕ) : Type 0 where
  pub instruction : Instr
  pub is : slice_get g.instrs n ≡ Some instruction
  pub base : ℕ
  pub has_base : base_of instruction ≡ Some base
  pub offset : ℕ
  pub has_offset : HasOffset (LeadsTo g) g.entry n base offset

-- The axioms: a triple for a parcel or word at an address, in a form. Each is valid (`law_of_axioms`).
use Rattle.std.specs.Prelude.{ℕ, ◌+◌, ◌^◌, ◌==◌, nat_le, Bool, ◌||◌, ◌&&◌, if◌then◌else◌, Option, Some, None, option_and_then, List, [], ◌∷◌, map}
use Rattle.std.specs.List.{position_or_len}
use Rattle.rv_decode.specs.declared.instruction.Instr.{Instr}
use Rattle.rvc.specs.Number.{bytes_of, instruction_of, length_of}
use Rattle.rv_decode.specs.Registers.{is_read, is_written, registers_where}
use Rattle.rv_machine.specs.Step.{is_even}
use Rattle.word_terms.specs.Tree.{WordTree, MemTree, Const, Var, MemVar}
use Rattle.rv_words.specs.declared.range.Range.{Range}
use Rattle.sep_assert.specs.Tree.{AssertionTree}
use Rattle.triple_kernel.specs.Tree.{TripleTree, So}
use Rattle.triple_kernel.specs.declared.form.Form.{Form}
use Rattle.instr_axioms.specs.Terms.{Names, has_memory, conditions, word_after, memory_after, pc_after, has_form}

-- ---- the triple of an instruction over any registers and names

-- a register with the term of its word
abbrev pub register_with : (ℕ → WordTree) → ℕ → ℕ × WordTree
register_with word r = (r, word r)

-- one memory, where there is one
abbrev pub memory_if : Bool → MemTree → List MemTree
memory_if has m = if has then m ∷ [] else []

-- what holds before an instruction at a, over these registers, and over a memory where there is one
abbrev pub before : ℕ → List ℕ → Bool → Names → AssertionTree
before a regs mem n = record { pc = Const a; regs = map (register_with n.word) regs; mems = memory_if mem n.memory }

-- what holds after it, in that form; it has k bytes
abbrev pub after : Instr → Form → ℕ → ℕ → List ℕ → Bool → Names → AssertionTree
after i form a k regs mem n =
    record { pc = pc_after i form a k n; regs = map (register_with (word_after i a k n)) regs; mems = memory_if mem (memory_after i n) }

-- the instruction of k bytes at a in code, in that form
abbrev pub triple_over : Instr → Form → ℕ → ℕ → List Range → List ℕ → Bool → Names → TripleTree
triple_over i form a k code regs mem n = record {
  facts = map So (conditions i form n);
  pre = before a regs mem n;
  code = code;
  post = after i form a k regs mem n;
}

-- ---- the axiom of an instruction: over its own registers

-- the register stands in the instruction
abbrev pub is_own : Instr → ℕ → Bool
is_own i r = is_written i r || is_read i r

-- its registers but x0, rising
abbrev pub own : Instr → List ℕ
own i = registers_where (is_own i)

-- the variables v0, v1 and so on for registers in their order, and m0 for the memory
abbrev pub variables_for : List ℕ → Names
variables_for regs = record { word = λ r. Var (position_or_len (λ q. q == r) regs); memory = MemVar 0 }

-- the bytes of the parcel or word at a, the low one first
abbrev pub word_code : ℕ → ℕ → List Range
word_code a w = record { at = a; bytes = bytes_of w } ∷ []

-- the axiom of the instruction, whose parcel or word is w, at a
abbrev pub own_triple : Instr → Form → ℕ → ℕ → TripleTree
own_triple i form a w = triple_over i form a (length_of w) (word_code a w) (own i) (has_memory i) (variables_for (own i))

-- .. if it has that form there
abbrev pub triple_if : ℕ → ℕ → Form → Instr → Option TripleTree
triple_if a w form i = if has_form i form then Some (own_triple i form a w) else None

-- an instruction of that parcel or word may stand at a: a is even, and the last byte isn't past 2 ^ 64 - 1
abbrev pub has_room : ℕ → ℕ → Bool
has_room a w = is_even a && nat_le (a + length_of w) (2 ^ 64)

-- the axiom of the address, the parcel or word and the form, if there is one
unfoldable pub axiom_of : ℕ → ℕ → Form → Option TripleTree
axiom_of a w form = if has_room a w then option_and_then (triple_if a w form) (instruction_of w) else None

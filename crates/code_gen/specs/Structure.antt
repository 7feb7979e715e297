-- The structure of drawn code: loops within loops, each with a counter of its own, entered and left at one place.
use Rattle.std.specs.Prelude.{◌≡◌, ℕ, ◌+◌, ◌*◌, ◌<◌, ◌≤◌, ℤ, pos, ◌+ℤ◌, Option, Some, None, IfSome, List, [], ◌∷◌, length}
use Rattle.rv_words.specs.Bytes.{Bytes, word_at}
use Rattle.rv_decode.specs.declared.instruction.Instr.{Instr}
use Rattle.rv_decode.specs.declared.instruction.Instr.TheVariants.{Jal, Branch}
use Rattle.rv_decode.specs.Encodes.{word_of}
use Rattle.code_gen.specs.Pieces.{Pieces, Done, Add, Mix, Choose, Repeat}
use Rattle.code_gen.specs.Program.{code}

-- a loop at depth d with n turns: it stands in at most three others, and its body has at least one instruction and at
-- most 106
pub record IsLoop (d n : ℕ) (body : Pieces) : Type 0 where
  pub depth : d < 4
  pub some_turns : 1 ≤ n
  pub few_turns : n ≤ 4
  pub some_code : 1 ≤ length (code (d + 1) body)
  pub little_code : length (code (d + 1) body) ≤ 106

-- pieces at depth d with numbers up to 600 and such loops
abbrev pub AreShaped : ℕ → Pieces → Type 0
AreShaped d Done = Unit {0}
AreShaped d (Add u rest) = (u ≤ 600) × AreShaped d rest
AreShaped d (Mix rest) = AreShaped d rest
AreShaped d (Choose u rest) = (u ≤ 600) × AreShaped d rest
AreShaped d (Repeat n body rest) = IsLoop d n body × AreShaped (d + 1) body × AreShaped d rest

-- P holds of each instruction with its place, where the first has place k
abbrev pub EachAt : (ℕ → Instr → Type 0) → ℕ → List Instr → Type 0
EachAt P k [] = Unit {0}
EachAt P k (i ∷ is) = P k i × EachAt P (k + 1) is

-- the word of an instruction stands at place k of code from a on; each has four bytes
abbrev pub IsWordAt : Bytes → ℕ → ℕ → Instr → Type 0
IsWordAt m a k i = word_at m (a + 4 * k) ≡ Some (word_of i)

-- where a jump or a branch goes to, if it is one: how many bytes away
abbrev pub offset_of : Instr → Option ℤ
offset_of (Jal d offset) = Some offset
offset_of (Branch c a b offset) = Some offset
offset_of i = None

-- from place k it goes to one of the first n instructions or to the one after them; each has four bytes
abbrev pub LandsWithin : ℕ → ℕ → Instr → Type 0
LandsWithin n k i = IfSome (offset_of i) (λ z. (t : ℕ) × (t ≤ n) × (pos (4 * k) +ℤ z ≡ pos (4 * t)))

-- the most steps that pieces take: a choice takes at most four, and a loop one, and at each turn those of its body and two
abbrev pub most_steps : Pieces → ℕ
most_steps Done = 0
most_steps (Add u rest) = 1 + most_steps rest
most_steps (Mix rest) = 1 + most_steps rest
most_steps (Choose u rest) = 4 + most_steps rest
most_steps (Repeat n body rest) = 1 + n * (most_steps body + 2) + most_steps rest

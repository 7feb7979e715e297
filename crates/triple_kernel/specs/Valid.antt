-- When a Hoare triple is valid (Myreen, Formal Verification of Machine-Code Programs, 2009). This speaks of steps of the
-- machine and of nothing else: no rule occurs in it.
use Rattle.std.specs.Prelude.{◌≡◌, ◌⊎◌, ℕ, Bool, nat_le, nat_lt, ◌&&◌, if◌then◌else◌, List, Some}
use Rattle.std.specs.List.{Contains}
use Rattle.word_terms.specs.Environment.{Environment, IsInRange}
use Rattle.tailrec_lang.specs.Tree.{GroupTree}
use Rattle.rv_machine.specs.State.{State}
use Rattle.rv_machine.specs.Run.{run}
use Rattle.sep_assert.specs.Part.{Key, Pc, Register, Byte, Free, Has, Part, ◌⊕◌, MakeUp, slot_of, code_part, part_of}
use Rattle.triple_kernel.specs.Tree.{TripleTree}
use Rattle.triple_kernel.specs.Fact.{AllHold}

-- x0 always holds 0 and belongs to no part
abbrev pub is_register : ℕ → Bool
is_register r = nat_le 1 r && nat_lt r 32

-- a whole state as a part: its program counter, its registers but x0, and its bytes
abbrev pub state_part : State → Part
state_part s Pc = Has s.pc
state_part s (Register r) = if is_register r then Has (s.reg r) else Free
state_part s (Byte a) = slot_of (s.mem a)

-- the machine comes from s to t in some number of steps, each of which exists
pub record Reaches (s t : State) : Type 0 where
  pub steps : ℕ
  pub ran : run s steps ≡ Some t

-- Whatever the variables stand for, if only the facts are true, and whatever else there is: a state that consists of what
-- `pre` describes, of the code and of this rest reaches one that consists of what `post` describes, of the same code and
-- of the same rest. A union that is a state exists, so its parts are disjoint (`law_of_unions`, `law_of_states`).
pub record Valid (g : GroupTree) (t : TripleTree) : Type 0 where
  pub runs : (e : Environment) → AllHold g e t.facts → (rest : Part) (s : State)
      → state_part s ≡ part_of t.pre e ⊕ (code_part t.code ⊕ rest)
      → (u : State) × Reaches s u × (state_part u ≡ part_of t.post e ⊕ (code_part t.code ⊕ rest))

-- ---- the same for finite parts, said at length

-- nothing stands at any key but those of a list
pub record IsFinite (p : Part) : Type 0 where
  pub keys : List Key
  pub free : (k : Key) → (p k ≡ Free) ⊎ Contains keys k

-- Where what `pre` describes, the code and a finite rest exist, are disjoint and make up a state, it reaches a state that
-- is made up of what `post` describes, of the same code and of the same rest, and these exist and are disjoint.
-- A valid triple claims this (`law_of_validity`).
pub record IsValidForFinite (g : GroupTree) (t : TripleTree) : Type 0 where
  pub runs : (e : Environment) → IsInRange e → AllHold g e t.facts → (rest : Part) → IsFinite rest → (s : State)
      → MakeUp (state_part s) (part_of t.pre e) (code_part t.code) rest
      → (u : State) × Reaches s u × MakeUp (state_part u) (part_of t.post e) (code_part t.code) rest

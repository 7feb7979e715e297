-- Nothing is lost, of functions that call each other and have several memories.
use Rattle.std.specs.Prelude.{◌≡◌, ◌⊎◌, ℕ, zero, suc, ◌-◌, ◌*◌, ◌<◌, true, List, [], ◌∷◌, slice_get, Some, ℤ, IsSomeAnd}
use Rattle.rv_decode.specs.declared.instruction.Instr.TheVariants.{Jal}
use Rattle.rv_machine.specs.State.{State}
use Rattle.rv_machine.specs.Step.{instruction_at, length_at, next, step}
use Rattle.rv_machine.specs.Touches.{touches, IsTouched}
use Rattle.rv_machine.specs.Run.{run, IsAtReturn}
use Rattle.tailrec_lang.specs.Tree.{GroupTree}
use Rattle.claims.specs.Headline.{Region, Starts}
use Rattle.claims.specs.Exact.{Gives}

-- ---- several memories

-- Where a group has several memories, a relation tells which of them the instruction at an address loads from and stores to. It need not
-- be decided. The next step loads and stores in the region of that memory alone.
abbrev pub StaysIn : (ℕ → ℕ → Type 0) → List Region → State → Type 0
StaysIn Uses regions s = (q a : ℕ) → Uses s.pc q → IsTouched (touches s) a → IsSomeAnd (slice_get regions q) (λ region. region a ≡ true)

-- From s the machine comes in k steps to t, each of which stays in its region. The last of them is a return, and none before it is.
pub record FirstReturnsIn (Uses : ℕ → ℕ → Type 0) (regions : List Region) (s : State) (k : ℕ) (t : State) : Type 0 where
  pub some : 0 < k
  pub ran : run s k ≡ Some t
  pub within : (j : ℕ) (u : State) → j < k → run s j ≡ Some u → StaysIn Uses regions u
  pub last : (u : State) → run s (k - 1) ≡ Some u → IsAtReturn u
  pub first : (j : ℕ) (u : State) → j < k - 1 → run s j ≡ Some u → IsAtReturn u → ⊥

-- nothing is lost, as in `Exact`, where each access stays in the region of its memory
abbrev pub ExactIn : (ℕ → ℕ → Type 0) → List ℕ → GroupTree → Type 0
ExactIn Uses file g =
    (s : State) (regions : List Region) → Starts file g s regions
    → (k : ℕ) (t : State) → FirstReturnsIn Uses regions s k t → Gives g regions s (2 * k) t

-- ---- calls

-- the machine stands at a call, `jal x1`
abbrev pub IsAtCall : State → Type 0
IsAtCall s = (offset : ℤ) × (instruction_at s ≡ Some (Jal 1 offset))

-- the address behind the instruction at which the machine stands
abbrev pub after_instruction : State → ℕ
after_instruction s = next (length_at s) s

-- what a return does: with no address to return to it ends the run, else it goes to the last such address
abbrev pub returns_into : (List ℕ → Type 0) → Type 0 → List ℕ → State → Type 0
returns_into on ended [] u = ended
returns_into on ended (r ∷ rest) u = (u.pc ≡ r) × on rest

-- From s the machine comes in k steps to t, each of which stays in its region, where calls that it is in are to return to these
-- addresses, the last call first. A call puts the address behind it on this list. A return goes to the first address of the list, which
-- is taken off; that with an empty list is the last step.
abbrev pub ReturnsBack : (ℕ → ℕ → Type 0) → List Region → State → List ℕ → ℕ → State → Type 0
ReturnsBack Uses regions t stack zero s = ⊥
ReturnsBack Uses regions t stack (suc k) s =
    (u : State) × (step s ≡ Some u) × StaysIn Uses regions s
    × ((IsAtReturn s × returns_into (λ rest. ReturnsBack Uses regions t rest k u) ((k ≡ 0) × (u ≡ t)) stack u)
    ⊎ ((IsAtCall s × ReturnsBack Uses regions t (after_instruction s ∷ stack) k u)
    ⊎ ((IsAtReturn s → ⊥) × (IsAtCall s → ⊥) × ReturnsBack Uses regions t stack k u)))

-- nothing is lost where the run makes calls, each of which comes back to where it was made
abbrev pub LinkExact : (ℕ → ℕ → Type 0) → List ℕ → GroupTree → Type 0
LinkExact Uses file g =
    (s : State) (regions : List Region) → Starts file g s regions
    → (k : ℕ) (t : State) → ReturnsBack Uses regions t [] k s → Gives g regions s (2 * k) t

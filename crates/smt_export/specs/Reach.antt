-- Which definitions a definition reaches by calls, and which enter themselves again.
use Rattle.std.specs.Prelude.{◌≡◌, ℕ, ◌<◌, ◌==◌, Bool, true, false, ◌||◌, List, [], ◌∷◌, slice_get, Some}
use Rattle.tailrec_lang.specs.Tree.{BodyTree, Do, Branch, Call, Again, Leave, ArmTrees, NoArm, Arm, DefTree, GroupTree}

abbrev mutual
  -- the body calls definition c
  pub calls : BodyTree → ℕ → Bool
  calls (Do step rest) c = calls rest c
  calls (Branch t a b) c = calls a c || calls b c
  calls (Call def v arms) c = def == c || arms_call arms c
  calls (Again v) c = false
  calls (Leave exit v) c = false

  pub arms_call : ArmTrees → ℕ → Bool
  arms_call NoArm c = false
  arms_call (Arm b bs) c = calls b c || arms_call bs c

abbrev mutual
  -- the body enters its definition again
  pub enters : BodyTree → Bool
  enters (Do step rest) = enters rest
  enters (Branch t a b) = enters a || enters b
  enters (Call def v arms) = arms_enter arms
  enters (Again v) = true
  enters (Leave exit v) = false

  pub arms_enter : ArmTrees → Bool
  arms_enter NoArm = false
  arms_enter (Arm b bs) = enters b || arms_enter bs

abbrev pub Calls : GroupTree → ℕ → ℕ → Type 0
Calls g d c = (def : DefTree) × (slice_get g.defs d ≡ Some def) × (calls def.body c ≡ true)

abbrev pub EntersAgain : GroupTree → ℕ → Type 0
EntersAgain g d = (def : DefTree) × (slice_get g.defs d ≡ Some def) × (enters def.body ≡ true)

-- by calls of the definitions on the way, the last of which stands first
abbrev pub ReachesBy : GroupTree → ℕ → List ℕ → ℕ → Type 0
ReachesBy g d [] e = d ≡ e
ReachesBy g d (c ∷ way) e = ReachesBy g d way c × Calls g c e

-- definition d reaches e by calls, or is e
abbrev pub ReachesByCalls : GroupTree → ℕ → ℕ → Type 0
ReachesByCalls g d e = (way : List ℕ) × ReachesBy g d way e

-- no definition that this one reaches by calls enters itself again
abbrev pub IsLoopFree : GroupTree → ℕ → Type 0
IsLoopFree g def = (d : ℕ) → ReachesByCalls g def d → EntersAgain g d → ⊥

-- the least of the definitions that d reaches and that enter themselves again
pub record IsLeastLoop (g : GroupTree) (d l : ℕ) : Type 0 where
  pub reached : ReachesByCalls g d l
  pub enters : EntersAgain g l
  pub least : (e : ℕ) → e < l → ReachesByCalls g d e → EntersAgain g e → ⊥

-- The definitions that a body calls stay closed.
use Rattle.std.proofs.Common.{◌≡◌, ℕ, suc, List, [], ◌∷◌, Bool, true, false, eqb, refl, ap, ◌∙◌, eqb-true, ◌<◌, arith}
use Rattle.tailrec_lang.specs.Tree.{StepTree, BodyTree, Do, Branch, Call, Again, Leave, ArmTrees, NoArm, Arm, with_steps}
use Rattle.verdicts.specs.Instance.{History}
use Rattle.path_walk.specs.Closed.{AreClosed, ArmsClosed}
use Rattle.path_walk.specs.inner.Histories.{Keeps}
use Rattle.std.proofs.lemmas.Bool.{eqb-false}
use Rattle.code_parts.specs.Graph.{CallsBelow, ArmsBelow}

mutual
  pub closed_more : (h k : History) (b : BodyTree) → Keeps h k → AreClosed h b → AreClosed k b
  closed_more h k (Do s rest) keeps c = closed_more h k rest keeps c
  closed_more h k (Branch e a b) keeps c = (closed_more h k a keeps c.0, closed_more h k b keeps c.1)
  closed_more h k (Call d v arms) keeps c = (keeps.closed d c.0, arms_closed_more h k arms keeps c.1)
  closed_more h k (Again v) keeps c = tt
  closed_more h k (Leave e v) keeps c = tt

  pub arms_closed_more : (h k : History) (bs : ArmTrees) → Keeps h k → ArmsClosed h bs → ArmsClosed k bs
  arms_closed_more h k NoArm keeps c = tt
  arms_closed_more h k (Arm b bs) keeps c = (closed_more h k b keeps c.0, arms_closed_more h k bs keeps c.1)

pub closed_steps : (h : History) (ss : List StepTree) (b : BodyTree) → AreClosed h (with_steps ss b) → AreClosed h b
closed_steps h [] b c = c
closed_steps h (s ∷ ss) b c = closed_steps h ss b c

pub below_steps : (d : ℕ) (ss : List StepTree) (b : BodyTree) → CallsBelow d (with_steps ss b) → CallsBelow d b
below_steps d [] b c = c
below_steps d (s ∷ ss) b c = below_steps d ss b c

mutual
  pub below_closed : (h : History) (d : ℕ) (b : BodyTree) → ((k : ℕ) → k < d → h.closed k ≡ true) → CallsBelow d b → AreClosed h b
  below_closed h d (Do s rest) all c = below_closed h d rest all c
  below_closed h d (Branch e a b) all c = (below_closed h d a all c.0, below_closed h d b all c.1)
  below_closed h d (Call k v arms) all c = (all k c.0, arms_below_closed h d arms all c.1)
  below_closed h d (Again v) all c = tt
  below_closed h d (Leave k v) all c = tt

  arms_below_closed : (h : History) (d : ℕ) (bs : ArmTrees) → ((k : ℕ) → k < d → h.closed k ≡ true) → ArmsBelow d bs → ArmsClosed h bs
  arms_below_closed h d NoArm all c = tt
  arms_below_closed h d (Arm b bs) all c = (below_closed h d b all c.0, arms_below_closed h d bs all c.1)

-- the definitions up to n are closed, where n is, and those below
pub closed_to : (d n : ℕ) → d < suc n → (k : History) → k.closed n ≡ true → (d < n → k.closed d ≡ true) → k.closed d ≡ true
closed_to d n lt k last low = go (eqb d n) refl
  where
    lower : (d ≡ n → ⊥) → d < n
    lower ne = omega (arith, ne, lt)

    go : (b : Bool) → eqb d n ≡ b → k.closed d ≡ true
    go true is = ap k.closed (eqb-true d n is) ∙ last
    go false is = low (lower (eqb-false d n is))

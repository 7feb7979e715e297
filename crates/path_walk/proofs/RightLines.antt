-- Lines that are right one after the other.
use Rattle.std.proofs.Common.{◌≡◌, ℕ, ◌+◌, ◌<◌, List, [], ◌∷◌, ◌++◌, Bool, true, false, cond, eqb, fold, refl, arith, Some, None, eqb-true}
use Rattle.tailrec_lang.specs.Tree.{GroupTree}
use Rattle.triple_kernel.specs.Tree.{TripleTree}
use Rattle.proof_text.specs.Line.{LineTree, States, Loop, Forget, Further}
use Rattle.path_walk.specs.inner.Histories.{IsCounted, Keeps}
use Rattle.verdicts.specs.Instance.{History, no_lines, without, with_closed, with_theorem, after_line, FurtherRule, InstanceBy, AreInstancesBy}

-- lines that are right after those that left h behind them leave k behind them
pub record Made (F : FurtherRule) (g : GroupTree) (h k : History) : Type 0 where
  pub lines : List LineTree
  pub right : AreInstancesBy F g h lines
  pub after : fold after_line h lines ≡ k
  pub keeps : Keeps h k
  pub counted : IsCounted k

pub joined : (F : FurtherRule) (g : GroupTree) (h : History) (ls ms : List LineTree) → AreInstancesBy F g h ls → AreInstancesBy F g (fold after_line h ls) ms → AreInstancesBy F g h (ls ++ ms)
joined F g h [] ms r s = s
joined F g h (l ∷ ls) ms r s = (r.0, joined F g (after_line h l) ls ms r.1 s)

pub fold-join : (h : History) (ls ms : List LineTree) → fold after_line h (ls ++ ms) ≡ fold after_line (fold after_line h ls) ms
fold-join h [] ms = refl
fold-join h (l ∷ ls) ms = fold-join (after_line h l) ls ms

old-there : (h : History) (j : ℕ) (t s : TripleTree) → IsCounted h → h.theorem j ≡ Some t → cond (eqb j h.next) (Some s) (h.theorem j) ≡ Some t
old-there h j t s c e = go (eqb j h.next) refl
  where
    go : (b : Bool) → eqb j h.next ≡ b → cond b (Some s) (h.theorem j) ≡ Some t
    go true is = let same = eqb-true j h.next is in let low = c j t e in absurd (omega (arith, same, low))
    go false is = e

below-next : (h : History) (j : ℕ) (t s : TripleTree) → IsCounted h → cond (eqb j h.next) (Some s) (h.theorem j) ≡ Some t → j < h.next + 1
below-next h j t s c e = go (eqb j h.next) refl e
  where
    go : (b : Bool) → eqb j h.next ≡ b → cond b (Some s) (h.theorem j) ≡ Some t → j < h.next + 1
    go true is e = let same = eqb-true j h.next is in omega (arith, same)
    go false is e = let low = c j t e in omega (arith, low)

-- one line that states a triple
pub made_one : (F : FurtherRule) (g : GroupTree) (h : History) (line : LineTree) (t : TripleTree) → after_line h line ≡ with_theorem t h → IsCounted h → InstanceBy F g h line → Made F g h (with_theorem t h)
made_one F g h line t after c right = record {
  lines = line ∷ [];
  right = (right, tt);
  after = after;
  keeps = record { theorem = λ j s e. old-there h j s t c e; closed = λ d e. e };
  counted = λ j s e. below-next h j s t c e;
}

test-same : (n : ℕ) → eqb n n ≡ true
test-same n = grind (arith)

-- the theorem that was stated last
pub held_last : (t : TripleTree) (h : History) → (with_theorem t h).theorem h.next ≡ Some t
held_last t h = λ i. cond (test-same h.next i) (Some t) (h.theorem h.next)

-- this is so after any lines
pub lines-counted : (h : History) (ls : List LineTree) → IsCounted h → IsCounted (fold after_line h ls)
lines-counted h [] c = c
lines-counted h (States rule t ∷ ls) c = lines-counted (with_theorem t h) ls (λ j s e. below-next h j s t c e)
lines-counted h (Further p t ∷ ls) c = lines-counted (with_theorem t h) ls (λ j s e. below-next h j s t c e)
lines-counted h (Loop d cited ∷ ls) c = lines-counted (with_closed d h) ls c
lines-counted h (Forget i ∷ ls) c = lines-counted (without i h) ls (λ j s e. kept j s e)
  where
    kept : (j : ℕ) (s : TripleTree) → cond (eqb j i) None (h.theorem j) ≡ Some s → j < h.next
    kept j s e = go (eqb j i) e
      where
        go : (b : Bool) → cond b None (h.theorem j) ≡ Some s → j < h.next
        go true e = absurd (cc)
        go false e = c j s e

pub none-counted : IsCounted no_lines
none-counted = λ j t e. absurd (cc)

-- Leaves to which theorems lead of which something holds, one after the other.
use Rattle.std.specs.Prelude.{List, ◌++◌, ◌↔◌, Option}
use Rattle.std.specs.List.{AllZip, Contains}
use Rattle.tailrec_lang.specs.Tree.{DefTree, GroupTree}
use Rattle.triple_kernel.specs.Tree.{TripleTree}
use Rattle.loop_rule.specs.Tree.{LeafTree}
use Rattle.loop_rule.specs.Rule.{IsLedTo, LeadsTo}

-- a triple of which that holds leads to the leaf
pub record IsLed (K : TripleTree → Type 0) (g : GroupTree) (def : DefTree) (leaf : LeafTree) : Type 0 where
  pub triple : TripleTree
  pub leads : LeadsTo g def leaf triple
  pub holds : K triple

-- the first of the cited theorems lead to these leaves, one to each, and that holds of them; the rest is left for the leaves after them
pub record AreLed (K : TripleTree → Type 0) (g : GroupTree) (def : DefTree) (leaves : List LeafTree) (cited rest : List (Option TripleTree)) : Type 0 where
  pub row : (more : List LeafTree) → AllZip (IsLedTo g def) (leaves ++ more) cited ↔ AllZip (IsLedTo g def) more rest
  pub led : (leaf : LeafTree) → Contains leaves leaf → IsLed K g def leaf

-- the first of the cited theorems don't, whatever leaves come after these
pub record AreNotLed (g : GroupTree) (def : DefTree) (leaves : List LeafTree) (cited : List (Option TripleTree)) : Type 0 where
  pub row : (more : List LeafTree) → AllZip (IsLedTo g def) (leaves ++ more) cited → ⊥

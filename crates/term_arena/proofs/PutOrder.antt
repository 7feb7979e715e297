-- Terms put into an arena one after the other.
use Rattle.std.proofs.Common.{◌≡◌, ℕ, ◌<◌, List, [], ◌∷◌, ◌++◌, Some, length, inl, inr, subst, refl, arith}
use Rattle.std.specs.Prelude.{slice_get}
use Rattle.std.specs.List.{Contains}
use Rattle.std.proofs.lemmas.Option.{slice_get_within}
use Rattle.term_arena.specs.declared.node.Node.{Node}
use Rattle.term_arena.specs.Arena.{Tree, ArePutIn, AreChildren, IsArena, tree_over, trees_of}
use Rattle.term_arena.proofs.Places.{at_contains, contains_at}
use Rattle.term_arena.proofs.TreeLemmas.{arena-push, length-trees, one_number, tree_of-kept, tree_of-node, tree_of-push, trees-push}

-- some terms, and then others
pub put-then : (before xs between ys after : List Tree) → ArePutIn before xs between → ArePutIn between ys after → ArePutIn before (xs ++ ys) after
put-then before [] between ys after h k = subst (λ (ts : List Tree). ArePutIn ts ys after) h k
put-then before (x ∷ xs) between ys after (inl h) k = inl (h.0, put-then before xs between ys after h.1 k)
put-then before (x ∷ xs) between ys after (inr h) k = inr (h.0, put-then (before ++ x ∷ []) xs between ys after h.1 k)

-- some terms, and then one
pub put-last : (before xs between after : List Tree) (y z : Tree) → y ≡ z → ArePutIn before xs between → ArePutIn between (y ∷ []) after → ArePutIn before (xs ++ z ∷ []) after
put-last before xs between after y z same h k = put-then before xs between (z ∷ []) after h (subst (λ (t : Tree). ArePutIn between (t ∷ []) after) same k)

-- a term that was there
pub put-old : (ns : List Node) (n : Node) (k : ℕ) → IsArena ns → slice_get ns k ≡ Some n → ArePutIn (trees_of ns) (tree_over (trees_of ns) n ∷ []) (trees_of ns)
put-old ns n k a at = inl (contains_at (trees_of ns) k _ (tree_of-node ns k n a at), refl)

-- a term that wasn't
pub put-new : (ns : List Node) (n : Node) → IsArena ns → AreChildren ns n → (Contains ns n → ⊥) → ArePutIn (trees_of ns) (tree_over (trees_of ns) n ∷ []) (trees_of (ns ++ n ∷ []))
put-new ns n a children none = inr (
  (λ there.
      let at = at_contains (trees_of ns) (tree_over (trees_of ns) n) there in
      let same : at.0 ≡ length ns = one_number (ns ++ n ∷ []) at.0 (length ns) (tree_over (trees_of ns) n) (arena-push ns n a children none)
      (tree_of-kept ns (n ∷ []) at.0 _ at.1) (tree_of-push ns n) in
      let low : at.0 < length (trees_of ns) = slice_get_within (trees_of ns) at.0 _ at.1 in
      absurd (omega (arith, same, low, length-trees ns))),
  trees-push ns n,
)

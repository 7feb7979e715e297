-- The rules that lines of later versions have, over an arena that grows.
use Rattle.std.proofs.Common.{◌≡◌, ℕ, List, Some, map, ap, subst}
use Rattle.std.specs.Prelude.{◌↔◌}
use Rattle.std.specs.List.{Contains}
use Rattle.rv_words.specs.declared.comparison.Cmp.TheVariants.{Eq}
use Rattle.word_terms.specs.Tree.{Compare}
use Rattle.triple_kernel.specs.Tree.{So}
use Rattle.term_arena.specs.declared.node.Node.{Node}
use Rattle.term_arena.specs.declared.node.Node.TheVariants as node
use Rattle.term_arena.specs.Arena.{as_cond, cond_of, tree_of, tree_over, trees_of, word_of, IsCondAt, Extends}
use Rattle.term_arena.proofs.TreeLemmas.{cond_there}
use Rattle.held_terms.specs.declared.held.HeldFact.{HeldFact}
use Rattle.held_terms.specs.Held.{fact_of, AreFactsAt}
use Rattle.held_terms.proofs.GrowthLemmas.{same_fact, same_map}

-- the number of an equation stands for it
pub equation_there : (ns ms : List Node) (k a b : ℕ) → tree_of ms k ≡ Some (tree_over (trees_of ns) (node.Compare Eq a b)) → IsCondAt ms k
equation_there ns ms k a b at = cond_there ms k (Compare Eq (word_of ns a) (word_of ns b)) at

-- facts have the number exactly where their trees had the equation
pub has_equation : (ns ms : List Node) (fs : List HeldFact) (k a b : ℕ) (r : Type 0) → Extends ns ms → AreFactsAt ns fs → tree_of ms k ≡ Some (tree_over (trees_of ns) (node.Compare Eq a b))
    → (r ↔ Contains (map (fact_of ms) fs) (So (cond_of ms k))) → r ↔ Contains (map (fact_of ns) fs) (So (Compare Eq (word_of ns a) (word_of ns b)))
has_equation ns ms fs k a b r e h at is =
    let facts : map (fact_of ms) fs ≡ map (fact_of ns) fs = same_map ns ms e (fact_of ms) (fact_of ns) fs (λ i d low. same_fact ns ms e _ (h i d low)) in
    let equation : So (cond_of ms k) ≡ So (Compare Eq (word_of ns a) (word_of ns b)) = ap (λ o. So (as_cond o)) at in
    let same : Contains (map (fact_of ms) fs) (So (cond_of ms k)) ≡ Contains (map (fact_of ns) fs) (So (Compare Eq (word_of ns a) (word_of ns b))) = (λ i. Contains (facts i) (equation i)) in
    subst (λ (t : Type 0). r ↔ t) same is

-- Names in lists of trees.
use Rattle.std.proofs.Common.{◌≡◌, ℕ, ◌+◌, ◌<◌, ◌≤◌, Bool, true, false, List, length, get_or, map, drop, sym, ◌∙◌}
use Rattle.std.specs.Prelude.{◌||◌}
use Rattle.std.proofs.lemmas.List.{drop_more, drop_all}
use Rattle.smt_terms.specs.Expression.{exprs, occurs, occurs_in}
use Rattle.smt_terms.specs.Views.{expr}
use Rattle.smt_terms.specs.declared.tree.Tree.{Tree}

-- those from a place on: the one there, or one behind it
occurs-at : (name : List ℕ) (xs : List Tree) (i : ℕ) (x : Tree) (b : Bool) → i < length xs → x ≡ get_or xs i x → occurs name (expr x) ≡ b
    → occurs_in name (exprs (map expr (drop i xs))) ≡ (b || occurs_in name (exprs (map expr (drop (i + 1) xs))))
occurs-at name xs i x b lt is here =
    (λ j. occurs_in name (exprs (map expr (drop_more xs i x lt j))))
    ∙ (λ j. occurs name (expr (sym is j)) || occurs_in name (exprs (map expr (drop (i + 1) xs))))
    ∙ (λ j. here j || occurs_in name (exprs (map expr (drop (i + 1) xs))))

pub occurs_next : (name : List ℕ) (xs : List Tree) (i : ℕ) (x : Tree) (w : Bool) → i < length xs → x ≡ get_or xs i x → occurs name (expr x) ≡ false
    → occurs_in name (exprs (map expr (drop i xs))) ≡ w → occurs_in name (exprs (map expr (drop (i + 1) xs))) ≡ w
occurs_next name xs i x w lt is here before = sym (occurs-at name xs i x false lt is here) ∙ before

pub occurs_found : (name : List ℕ) (xs : List Tree) (i : ℕ) (x : Tree) (w : Bool) → i < length xs → x ≡ get_or xs i x → occurs name (expr x) ≡ true
    → occurs_in name (exprs (map expr (drop i xs))) ≡ w → true ≡ w
occurs_found name xs i x w lt is here before = sym (occurs-at name xs i x true lt is here) ∙ before

pub occurs_nowhere : (name : List ℕ) (xs : List Tree) (i : ℕ) (w : Bool) → length xs ≤ i → occurs_in name (exprs (map expr (drop i xs))) ≡ w → false ≡ w
occurs_nowhere name xs i w le before = sym (λ j. occurs_in name (exprs (map expr (drop_all i xs le j)))) ∙ before

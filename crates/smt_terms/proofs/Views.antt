-- What trees are as expressions.
use Rattle.std.proofs.Common.{◌≡◌, ℕ, List, map, rules}
use Rattle.smt_terms.specs.declared.tree.Tree.{Tree, the_lemmas}
use Rattle.smt_terms.specs.declared.tree.Tree.TheVariants as tree
use Rattle.smt_terms.specs.Expression.{Atom, Node, exprs}
use Rattle.smt_terms.specs.Views.{expr}

pub view_atom : (name : List ℕ) → expr (tree.Atom name) ≡ Atom name
view_atom name = search (rules, the_lemmas)

pub view_node : (items : List Tree) → expr (tree.Node items) ≡ Node (exprs (map expr items))
view_node items = search (rules, the_lemmas)

-- Trees as expressions, and functions: what contracts see of them, whatever their places in memory.
use Rattle.smt_terms.specs.Expression.{Expr, Atom, Node, exprs}
use Rattle.smt_terms.specs.Meaning.{FunTree}
use Rattle.smt_terms.specs.declared.script.Fun.{Fun}
use Rattle.smt_terms.specs.declared.tree.Tree.{Tree}
use Rattle.smt_terms.specs.declared.tree.Tree.TheFolds.{fold-Tree}
use Rattle.smt_terms.specs.declared.tree.Tree.TheOpen.{Tree-F}

abbrev pub expr_step : Tree-F Expr → Expr
expr_step (Tree-F.Atom name) = Atom name
expr_step (Tree-F.Node items) = Node (exprs items)

-- the expression of a tree
abbrev pub expr : Tree → Expr
expr = fold-Tree Expr expr_step

-- the function of a function's parts
abbrev pub fun_tree : Fun → FunTree
fun_tree f = record { name = f.name; params = f.params; sort = f.sort; body = expr f.body }

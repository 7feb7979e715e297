-- Terms as SMT-LIB terms. A word variable is `w` and its number; a memory variable is two arrays, `mem` and `dom` with its
-- number. Operations and accesses are applications of functions of their own.
use Rattle.std.specs.Prelude.{[], ◌∷◌, codes}
use Rattle.rv_words.specs.declared.comparison.Cmp.{Cmp}
use Rattle.rv_words.specs.declared.comparison.Cmp.TheVariants.{Eq, Ne, Lt, Ge, Ltu, Geu}
use Rattle.word_terms.specs.Tree.{WordTree, Const, Var, Bin, Extend, Load, MemTree, MemVar, Store, CondTree, Compare, Neg, Inside}
use Rattle.smt_terms.specs.Expression.{Expr, Atom, apply, word}
use Rattle.smt_terms.specs.Functions.{op_name, ext_name, load_name, store_name, inside_name}
use Rattle.smt_export.specs.Told.{word_name, mem_name, dom_name}

-- where a memory's bytes are present: a store doesn't change that
abbrev pub dom_expr : MemTree → Expr
dom_expr (MemVar i) = Atom (dom_name i)
dom_expr (Store width m a v) = dom_expr m

abbrev mutual
  pub word_expr : WordTree → Expr
  word_expr (Const n) = word n
  word_expr (Var i) = Atom (word_name i)
  word_expr (Bin op a b) = apply (op_name op) (word_expr a ∷ word_expr b ∷ [])
  word_expr (Extend ext a) = apply (ext_name ext) (word_expr a ∷ [])
  word_expr (Load width m a) = apply (load_name width) (mem_expr m ∷ dom_expr m ∷ word_expr a ∷ [])

  pub mem_expr : MemTree → Expr
  mem_expr (MemVar i) = Atom (mem_name i)
  mem_expr (Store width m a v) = apply (store_name width) (mem_expr m ∷ word_expr a ∷ word_expr v ∷ [])

abbrev pub not_expr : Expr → Expr
not_expr c = apply (codes "not") (c ∷ [])

abbrev pub falsity : Expr
falsity = not_expr (Atom (codes "true"))

abbrev pub compare_expr : Cmp → Expr → Expr → Expr
compare_expr Eq a b = apply (codes "=") (a ∷ b ∷ [])
compare_expr Ne a b = not_expr (apply (codes "=") (a ∷ b ∷ []))
compare_expr Lt a b = apply (codes "bvslt") (a ∷ b ∷ [])
compare_expr Ge a b = not_expr (apply (codes "bvslt") (a ∷ b ∷ []))
compare_expr Ltu a b = apply (codes "bvult") (a ∷ b ∷ [])
compare_expr Geu a b = not_expr (apply (codes "bvult") (a ∷ b ∷ []))

abbrev pub cond_expr : CondTree → Expr
cond_expr (Compare cmp a b) = compare_expr cmp (word_expr a) (word_expr b)
cond_expr (Neg c) = not_expr (cond_expr c)
cond_expr (Inside width m a) = apply (inside_name width) (dom_expr m ∷ word_expr a ∷ [])

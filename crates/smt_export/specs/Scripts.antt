-- The script of a definition: the functions of operations and accesses, and those of each definition that is reached.
use Rattle.std.specs.Prelude.{ℕ, suc, Bool, if◌then◌else◌, List, [], ◌∷◌, ◌++◌, map, length, take}
use Rattle.tailrec_lang.specs.Tree.{DefTree, GroupTree}
use Rattle.smt_terms.specs.Meaning.{FunTree}
use Rattle.smt_export.specs.declared.told.Told.{Told}
use Rattle.smt_export.specs.Told.{fun_name, params, told_sort, all_told}
use Rattle.smt_terms.specs.Functions.{helpers}
use Rattle.smt_export.specs.Bodies.{body_expr}

-- ---- definitions

abbrev pub def_fun : GroupTree → ℕ → DefTree → Told → FunTree
def_fun g d def t = record { name = fun_name d t; params = params g; sort = told_sort t; body = body_expr g d def.body (length g.regs) g.mems t }

abbrev pub def_funs : GroupTree → ℕ → DefTree → List FunTree
def_funs g d def = map (def_fun g d def) (all_told g)

-- those of the definitions from d on that pass the test
abbrev pub funs_from : GroupTree → (ℕ → Bool) → ℕ → List DefTree → List FunTree
funs_from g test d [] = []
funs_from g test d (def ∷ defs) = (if test d then def_funs g d def else []) ++ funs_from g test (suc d) defs

abbrev pub script : GroupTree → (ℕ → Bool) → ℕ → List FunTree
script g test d = helpers ++ funs_from g test 0 (take (suc d) g.defs)

-- A function of two registers that leaves a word in the first, and a script that tells one.
use Rattle.std.specs.Prelude.{List, [], ◌∷◌, codes}
use Rattle.rv_words.specs.declared.operation.Op.TheVariants.{Add, Div, Divu}
use Rattle.word_terms.specs.Tree.{WordTree, Const, Var, Bin}
use Rattle.tailrec_lang.specs.declared.group.Exit.TheVariants.{At}
use Rattle.tailrec_lang.specs.Tree.{Leave, DefTree, GroupTree}
use Rattle.smt_terms.specs.Expression.{Expr, Atom, apply, literal, word}
use Rattle.smt_terms.specs.Meaning.{FunTree}
use Rattle.smt_export.specs.declared.told.Told.{Told}
use Rattle.smt_export.specs.declared.told.Told.TheVariants.{Ok, ExitNumber, Pc, WordAt}
use Rattle.smt_export.specs.Told.{fun_name, told_sort, word_name, word_params}

-- its definition, and its group, which has no memory
abbrev pub leaves_word : WordTree → DefTree
leaves_word x10 = record { entry = 0x10000; exits = At 0x10004 ∷ []; body = Leave 0 (record { words = x10 ∷ Var 1 ∷ []; mems = [] }) }

abbrev pub word_group : WordTree → GroupTree
word_group x10 = record { name = codes "f"; regs = 10 ∷ 11 ∷ []; mems = 0; code = []; defs = leaves_word x10 ∷ [] }

-- the sum of x10 and 1, and that of x10 and 2
abbrev pub and_one : WordTree
and_one = Bin Add (Var 0) (Const 1)

abbrev pub and_two : WordTree
and_two = Bin Add (Var 0) (Const 2)

-- the sum of x10 and x11, and the other way round
abbrev pub forwards : WordTree
forwards = Bin Add (Var 0) (Var 1)

abbrev pub backwards : WordTree
backwards = Bin Add (Var 1) (Var 0)

-- x10 divided by x11, as numbers without a sign, and as numbers with one
abbrev pub unsigned_division : WordTree
unsigned_division = Bin Divu (Var 0) (Var 1)

abbrev pub signed_division : WordTree
signed_division = Bin Div (Var 0) (Var 1)

-- a function of the script, which tells this by that expression
abbrev pub telling : Told → Expr → FunTree
telling t body = record { name = fun_name 0 t; params = word_params 0 2; sort = told_sort t; body = body }

-- a script that divides by `bvudiv`, and is otherwise right of both
abbrev pub dividing_script : List FunTree
dividing_script =
    telling Ok (Atom (codes "true"))
    ∷ telling ExitNumber (literal (codes "32") (codes "0"))
    ∷ telling Pc (word 0x10004)
    ∷ telling (WordAt 0) (apply (codes "bvudiv") (Atom (word_name 0) ∷ Atom (word_name 1) ∷ []))
    ∷ telling (WordAt 1) (Atom (word_name 1))
    ∷ []

-- The function of an operation, an extension or an access.
use Rattle.smt_terms.specs.Meaning.{FunTree}
use Rattle.smt_terms.specs.declared.functions.Helper.{Helper}
use Rattle.smt_terms.specs.declared.functions.Helper.TheVariants.{Operation, Extension, Load, Store, Inside}
use Rattle.smt_terms.specs.Functions.{op_fun, ext_fun, load_fun, store_fun, inside_fun}

abbrev pub helper_fun : Helper → FunTree
helper_fun (Operation op) = op_fun op
helper_fun (Extension ext) = ext_fun ext
helper_fun (Load width) = load_fun width
helper_fun (Store width) = store_fun width
helper_fun (Inside width) = inside_fun width

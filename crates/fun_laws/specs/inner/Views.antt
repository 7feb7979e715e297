-- What the code reads of a certificate, as its reading has it.
use Rattle.std.specs.Prelude.{ℕ, List, map}
use Rattle.tailrec_lang.specs.declared.group.Def.{Def}
use Rattle.tailrec_lang.specs.Tree.{DefTree, def_tree}
use Rattle.fun_laws.specs.declared.step.Rw.{Rw}
use Rattle.fun_laws.specs.inner.Reading.{Mark, NameRow, Rest}

abbrev pub name_view : List ℕ → NameRow
name_view name = (tt, (name, tt))

abbrev pub defs_view : List Def → List DefTree × Mark
defs_view defs = (map def_tree defs, (tt, tt))

abbrev pub rest_view : List Rw × List Def → Rest
rest_view x = (x.0, map def_tree x.1)

abbrev pub behind_view : List Def × (List Rw × List Def) → List DefTree × Rest
behind_view x = (map def_tree x.0, rest_view x.1)

-- Terms of definitions, and definitions taken apart, as the code has them.
use Rattle.std.specs.Prelude.{map}
use Rattle.word_terms.specs.Tree.{word_tree, mem_tree, cond_tree}
use Rattle.tailrec_lang.specs.Tree.{def_tree}
use Rattle.fun_laws.specs.declared.apart.BodyTerm.{BodyTerm}
use Rattle.fun_laws.specs.declared.apart.BodyTerm.TheVariants as term
use Rattle.fun_laws.specs.declared.apart.ApartDef.{ApartDef}
use Rattle.fun_laws.specs.Laws.{Term, OfWord, OfMem, OfCond}
use Rattle.fun_laws.specs.inner.Apart.{ApartTree}

abbrev pub term_of : BodyTerm → Term
term_of (term.Word t) = OfWord (word_tree t)
term_of (term.Mem m) = OfMem (mem_tree m)
term_of (term.Cond c) = OfCond (cond_tree c)

abbrev pub apart_tree : ApartDef → ApartTree
apart_tree p = record { skeleton = def_tree p.skeleton; terms = map term_of p.terms }

-- The terms that a substitution puts in, as they are read.
use Rattle.std.specs.Prelude.{ℕ, Bool, true, false, List}
use Rattle.word_terms.specs.Tree.{word_tree, mem_tree}
use Rattle.proof_text.specs.declared.line_subs.Put.{Put}
use Rattle.proof_text.specs.declared.line_subs.Put.TheVariants as put
use Rattle.proof_text.specs.inner.LineReading.{SubTree, ForWord, ForMem, mems_rise, subs_rise}

abbrev pub put_tree : Put → SubTree
put_tree (put.Word i t) = ForWord i (word_tree t)
put_tree (put.Mem i m) = ForMem i (mem_tree m)

-- the terms rise, behind one for a memory or not
abbrev pub rise_behind : Bool → ℕ → List SubTree → Bool
rise_behind true least ss = mems_rise least ss
rise_behind false least ss = subs_rise least ss

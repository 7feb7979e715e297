-- A proof of version 1 becomes one of version 2 with as many lines.
use Rattle.std.proofs.Common.{◌≡◌, suc, List, [], ◌∷◌, length, ap, refl}
use Rattle.tailrec_lang.specs.Tree.{GroupTree}
use Rattle.term_arena.specs.declared.node.Node.{Node}
use Rattle.proof_text.specs.Line.{LineTree}
use Rattle.verdicts.specs.Instance.{History, after_line}
use Rattle.short_text.specs.declared.short.Short.{Short}
use Rattle.proof_v2.specs.Migration.{AreRightFor}

pub as-many : (g : GroupTree) (h : History) (ns : List Node) (ss : List Short) (ls : List LineTree) → AreRightFor g h ns ss ls → length ss ≡ length ls
as-many g h ns [] [] r = refl
as-many g h ns [] (l ∷ ls) r = absurd r
as-many g h ns (s ∷ ss) [] r = absurd r
as-many g h ns (s ∷ ss) (l ∷ ls) r = ap suc (as-many g (after_line h l) ns ss ls r.1)

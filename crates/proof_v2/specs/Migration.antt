-- What a group's proof of version 1 becomes in version 2.
use Rattle.std.specs.Prelude.{List, [], ◌∷◌}
use Rattle.tailrec_lang.specs.Tree.{GroupTree}
use Rattle.term_arena.specs.declared.node.Node.{Node}
use Rattle.proof_text.specs.Line.{LineTree, ProofTree}
use Rattle.verdicts.specs.Instance.{History, after_line, no_lines}
use Rattle.short_text.specs.declared.short.Short.{Short}
use Rattle.checker.specs.Short.{IsRightFor}
use Rattle.held_terms.specs.Terms.{AreTermsPutIn}
use Rattle.proof_v2.specs.ShortTerms.{lines_terms}

-- each short line stands for the line in its place, which is right after those before it
abbrev pub AreRightFor : GroupTree → History → List Node → List Short → List LineTree → Type 0
AreRightFor g h ns [] [] = Unit {0}
AreRightFor g h ns (s ∷ ss) (l ∷ ls) = IsRightFor g h ns s l × AreRightFor g (after_line h l) ns ss ls
AreRightFor g h ns ss ls = ⊥

-- a short line for each line of the proof, and a table of the terms of these in the order in which they are first used, and no others
pub record IsMigrated (p : ProofTree) (ns : List Node) (ss : List Short) : Type 0 where
  pub lines : AreRightFor p.group no_lines ns ss p.lines
  pub table : AreTermsPutIn [] (lines_terms no_lines p.lines) ns

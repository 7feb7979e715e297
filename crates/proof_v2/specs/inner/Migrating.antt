-- How far the lines of a group's proof were migrated.
use Rattle.std.specs.Prelude.{List, []}
use Rattle.std.specs.List.{AllByRecursion}
use Rattle.tailrec_lang.specs.Tree.{GroupTree}
use Rattle.term_arena.specs.declared.node.Node.{Node}
use Rattle.proof_text.specs.Line.{LineTree}
use Rattle.proof_text.specs.LineLimits.{IsLine}
use Rattle.verdicts.specs.Instance.{no_lines}
use Rattle.short_text.specs.declared.short.Short.{Short}
use Rattle.checker.specs.Short.{IsFineShort}
use Rattle.held_terms.specs.Terms.{AreTermsPutIn}
use Rattle.proof_v2.specs.Migration.{AreRightFor}
use Rattle.proof_v2.specs.ShortTerms.{lines_terms}

-- these short lines over this table are what these lines have become
pub record AreMigrated (g : GroupTree) (ns : List Node) (ss : List Short) (ls : List LineTree) : Type 0 where
  pub fit : AllByRecursion IsLine ls
  pub right : AreRightFor g no_lines ns ss ls
  pub fine : AllByRecursion (IsFineShort ns) ss
  pub table : AreTermsPutIn [] (lines_terms no_lines ls) ns

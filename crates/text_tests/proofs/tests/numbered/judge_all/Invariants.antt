use Rattle.tailrec_lang.specs.Tree.{group_tree}
use Rattle.group_text.specs.Limits.{IsGroupIn}
use Rattle.group_text.specs.Version.{version_of}
use Rattle.text_tests.proofs.tests.numbered.judge_all.Given as goal

abbrev pub invariant-loop-count : goal.invariant-loop-count
invariant-loop-count l = IsGroupIn (version_of l.reader.version) (group_tree l.group)

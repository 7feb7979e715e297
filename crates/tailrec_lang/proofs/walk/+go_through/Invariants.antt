use Rattle.tailrec_lang.specs.Tree.{body_tree}
use Rattle.tailrec_lang.proofs.Bodies.{branches}
use Rattle.tailrec_lang.proofs.walk.+go_through.Given as goal

abbrev pub decreases-go_through : goal.decreases-go_through
decreases-go_through l = branches (body_tree l.body.now)

use Rattle.std.proofs.Common.{◌≡◌, take, map}
use Rattle.triple_kernel.specs.Tree.{fact_tree}
use Rattle.word_terms.specs.Substitution.{substitution_of}
use Rattle.triple_kernel.specs.Rules.{put_in_fact}
use Rattle.triple_kernel.proofs.image.are_fact_images.Given as goal

abbrev pub invariant-loop-i : goal.invariant-loop-i
invariant-loop-i l = map (put_in_fact (substitution_of l.s)) (map fact_tree (take l.i l.a)) ≡ map fact_tree (take l.i l.b)

use Rattle.std.proofs.Common.{◌≡◌, take, map}
use Rattle.word_terms.specs.Tree.{mem_tree}
use Rattle.word_terms.specs.Substitution.{put_in_mem, substitution_of}
use Rattle.triple_kernel.proofs.image.are_mem_images.Given as goal

abbrev pub invariant-loop-i : goal.invariant-loop-i
invariant-loop-i l = map (put_in_mem (substitution_of l.s)) (map mem_tree (take l.i l.a)) ≡ map mem_tree (take l.i l.b)
